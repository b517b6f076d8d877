-- Proof of `tested_on`, which returns a tree that is true where a guard tests the condition `wanted` on the scenario's
-- way, and false elsewhere.
use Rattle.std.proofs.Common.{true, subst, sym}
use Rattle.cpg_tree.specs.Tree.{IsConstant}
use Rattle.cpg_order.specs.Guard.{Guard}
use Rattle.cpg_expand.specs.Guarded.{IsTestedOn}
use Rattle.cpg_expand.proofs.TestedTrees.{tested_first, tested_further}
use Rattle.cpg_expand.proofs.guarded.+tested_on.Goals as goal

-- the first test is of the condition that is asked for, so the guard tests it everywhere
pub returns-then-condition-wanted-clause-tested : goal.returns-then-condition-wanted-clause-tested
returns-then-condition-wanted-clause-tested t c =
    let k = c.args.problem.now.faults in
    subst (λ (guard : Guard). IsTestedOn k guard c.args.wanted c.in_ok-always-in-Test.always) (sym c.in-Test.ensures)
    (tested_first k c.in-Test.condition c.in-Test.no.now c.in-Test.yes.now c.args.wanted c.in_ok-always-in-Test.always
    c.if-condition-wanted.true
    (subst (λ n. IsConstant true n c.in_ok-always-in-Test.always) c.faults-then-condition-wanted.ensures.faults
    c.in_ok-always-in-Test.ensures.is))

-- the first test is of another condition, so the guard tests it where the side that is picked does
pub returns-in_ok-picked-in-Test-clause-tested : goal.returns-in_ok-picked-in-Test-clause-tested
returns-in_ok-picked-in-Test-clause-tested t c =
    let k = c.args.problem.now.faults in
    subst (λ (guard : Guard). IsTestedOn k guard c.args.wanted c.in_ok-picked-in-Test.picked) (sym c.in-Test.ensures)
    (tested_further k c.in-Test.condition c.in-Test.no.now c.in-Test.yes.now c.args.wanted c.in_ok-no-in-Test.no
    c.in_ok-yes-in-Test.yes c.in_ok-picked-in-Test.picked c.if-condition-wanted.false
    c.in_ok-no-in-Test.ensures.tested c.in_ok-yes-in-Test.ensures.tested c.in_ok-picked-in-Test.ensures.picks)
