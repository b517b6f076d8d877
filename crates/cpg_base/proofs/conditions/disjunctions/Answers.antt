-- Proof of `disjunctions`: returns for each process number below 128 whether a process of this number has a
-- conditional output.
use Rattle.std.proofs.Common.{◌∙◌, rules, sym, ap, false, true, None, length, arith}
use Rattle.std.proofs.Math.ListN.{length-set}
use Rattle.cpg_base.specs.Graph.{Edge}
use Rattle.cpg_base.proofs.Marks.{no_marks, marks_set, marks_keep}
use Rattle.cpg_base.proofs.conditions.disjunctions.Goals as goal
use Rattle.cpg_base.proofs.conditions.disjunctions.Goals.{then-is_some, else-is_some}

-- a stand-in for the edge at a place where there is none
abbrev none : Edge
none = record { from = 0; to = 0; size = 0; when = None; frozen = false }

-- without an edge nothing is marked
pub loop-edge-init : goal.loop-edge-init
loop-edge-init c = record { marks = no_marks; long = search rules }

-- a conditional edge marks its source, and a simple edge marks nothing
pub loop-edge-preserved : goal.loop-edge-preserved
loop-edge-preserved c = elim c.if-is_some.branch [
  -- a conditional edge
  | then-is_some w ↦
      let source = c.requires c.loop-edge.edge-index none c.loop-edge-test.true in record {
        marks = rw w.found-is (marks_set c.args.edges.now c.loop-edge.edge-index none c.loop-edge-test.true
            c.loop-edge.found c.loop-edge.invariant.marks
            (sym c.is_some.ensures ∙ w.if-is_some.true) (omega arith));
        long = ap length w.found-is ∙ length-set c.loop-edge.found _ true ∙ c.loop-edge.invariant.long;
      }
  -- a simple edge
  | else-is_some w ↦ record {
    marks = rw w.found-is (marks_keep c.args.edges.now c.loop-edge.edge-index none c.loop-edge-test.true
        c.loop-edge.found c.loop-edge.invariant.marks
        (sym c.is_some.ensures ∙ w.if-is_some.false));
    long = ap length w.found-is ∙ c.loop-edge.invariant.long;
  }
]
