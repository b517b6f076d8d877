-- Proof of `first_violation`: the first violation of the judge's rule, by item and column, with the least scenario in
-- the urgency order in which it occurs.
use Rattle.std.proofs.Common.{ℕ, ◌≡◌, ◌<◌, Some, false, ap, arith, sym}
use Rattle.cpg_base.specs.Graph.{item_count}
use Rattle.cpg_base.specs.Scenario.{Scenario, IsScenario}
use Rattle.cpg_table.specs.Valid.{breaks}
use Rattle.cpg_violation.proofs.Marked.{marked_more}
use Rattle.cpg_violation.proofs.Violations.{none_more}
use Rattle.cpg_check_time.proofs.Judging.{never_missing}
use Rattle.cpg_check_time.proofs.judge.first_violation.Goals as goal

-- no column of the next item breaks the rule, so none of one item more does
pub loop-item-preserved : goal.loop-item-preserved
loop-item-preserved g c =
    let none : (i : ℕ) (s : Scenario) → IsScenario c.args.admitted.now.graph s → breaks g.J.TimeJudge.rule
    c.args.admitted.now.graph c.args.tables.now.nodes s c.loop-item.item (Some i) ≡ false =
    rw c.in_default.is at c.in_ok-found.ensures.none in
    none_more g.J.TimeJudge.rule c.args.admitted.now.graph c.args.tables.now.nodes c.loop-item.item
    (λ y s.
    never_missing g.J.TimeJudge.rule g.met.J.TimeJudge.alone c.args.admitted.now.graph c.args.tables.now.nodes y s)
    c.loop-item.invariant none

-- the next item is marked as sure, so none of one item more breaks the rule
pub loop-item-preserved-then-is_marked : goal.loop-item-preserved-then-is_marked
loop-item-preserved-then-is_marked g c =
    let problem = c.args.admitted.now.graph in
    let below : c.loop-item.item < item_count problem =
    omega (arith, c.loop-item-test.true, c.item_count-item-end.ensures, ap item_count c.problem.ensures.problem) in
    marked_more problem c.args.tables.now.nodes g.J.TimeJudge.rule c.args.marks.now c.requires.marks c.loop-item.item
    below (sym c.if-is_marked.ensures) c.loop-item.invariant
