-- Proof of `InputRows::others`: those of these inputs of a process that aren't known to come from the same node by a
-- source that is always over before the process begins, as `is_from_before` finds out.
use Rattle.std.proofs.Common.{◌<◌, Contains, get_or, subst, sym}
use Rattle.std.proofs.lemmas.Bool.{OnTrue_at}
use Rattle.std.proofs.lemmas.List.{take_all}
use Rattle.std.proofs.lemmas.List.Elements.{All-push}
use Rattle.cpg_base.specs.Graph.{edge_count}
use Rattle.cpg_check_quick.specs.Inputs.{IsFromBefore}
use Rattle.cpg_check_quick.proofs.InputLaws.{others_push, others_skip}
use Rattle.cpg_check_quick.proofs.input_rows.InputRows.others.Goals as goal

-- the next input is from before, so it needn't be kept
pub loop-edge-preserved-then-is_from_before : goal.loop-edge-preserved-then-is_from_before
loop-edge-preserved-then-is_from_before c = record {
  edges = c.loop-edge.invariant.edges;
  known = λ tables e w there. others_skip (λ d. IsFromBefore c.args.self.now.admitted.now.graph tables d c.args.process)
      c.args.edges.now c.loop-edge.others.items c.loop-edge.edge-index 0
      c.loop-edge-test.true
      (OnTrue_at c.if-is_from_before.true c.is_from_before.ensures tables w)
      (λ d j. c.loop-edge.invariant.known tables d w j) e there;
}

-- the next input is kept
pub loop-edge-preserved : goal.loop-edge-preserved
loop-edge-preserved c = rw c.in_ok-push.ensures.items (record {
  edges = All-push (λ e. e < edge_count c.args.self.now.admitted.now.graph) c.loop-edge.others.items
      (get_or c.args.edges.now c.loop-edge.edge-index 0) c.loop-edge.invariant.edges
      (c.requires.edges c.loop-edge.edge-index 0 c.loop-edge-test.true);
  known = λ tables e w there. others_push (λ d. IsFromBefore c.args.self.now.admitted.now.graph tables d c.args.process)
      c.args.edges.now c.loop-edge.others.items c.loop-edge.edge-index 0
      c.loop-edge-test.true
      (λ d j. c.loop-edge.invariant.known tables d w j) e there;
})

-- the loop has gone over all inputs, so what its invariant says of those so far holds of each
pub returns-clause-known : goal.returns-clause-known
returns-clause-known c = λ tables e w k. c.loop-edge.invariant.known tables e w
    (subst (λ xs. Contains xs e) (sym (take_all c.loop-edge.edge-index c.args.edges.now c.loop-edge-test.false)) k)
