-- Proof of `source_count`, which returns how many different sources the conditional edges have, which is how many
-- conditions there are.
use Rattle.std.proofs.Common.{◌∙◌, sym}
use Rattle.cpg_reader.proofs.Texts.{more_sources, same_sources}
use Rattle.cpg_reader.proofs.ranges.source_count.Goals as goal
use Rattle.cpg_reader.proofs.ranges.source_count.Goals.{then-is_some+in_ok-insert, else-is_some}

-- the source of a conditional edge is noted, and any other edge is passed over
pub loop-edge-preserved : goal.loop-edge-preserved
loop-edge-preserved c = elim c.if-is_some.branch [
  | then-is_some+in_ok-insert w ↦ rw w.sources-is
      (more_sources c.args.edges.now c.loop-edge.edge-index c.edge-item.result _ c.loop-edge.sources.keys
      c.loop-edge-test.true c.edge-item.is w.insert.new.self.keys w.as_str.result
      (sym c.is_some.ensures ∙ w.if-is_some.true) w.as_str.ensures.text w.in_ok-insert.ensures.keys
      c.loop-edge.invariant)
  | else-is_some w ↦ rw w.sources-is (same_sources c.args.edges.now c.loop-edge.edge-index c.edge-item.result _
      c.loop-edge.sources.keys c.loop-edge-test.true c.edge-item.is
      (sym c.is_some.ensures ∙ w.if-is_some.false) c.loop-edge.invariant)
]
