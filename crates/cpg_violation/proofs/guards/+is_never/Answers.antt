-- Proof of `is_never`: whether a guard's process is active in no scenario of a space, if `wanted` is true, or inactive
-- in none, if it is false.
use Rattle.std.proofs.lemmas.Bool.{OnTrue_at}
use Rattle.cpg_violation.proofs.GuardLaws.{step_on, step_off, step_both}
use Rattle.cpg_violation.proofs.guards.+is_never.Goals as goal

-- the condition is true in the whole space, so the answer is that of the side for true
pub returns-then-implies : goal.returns-then-implies
returns-then-implies t c =
    step_on c.args.wanted c.args.tree.now c.in-Test.condition c.in-Test.no.now c.in-Test.yes.now c.in-Test.ensures
    c.args.space.now c.is_never.result c.is_never.ensures
    (rw c.value_literal-on.ensures at (OnTrue_at c.if-implies.true c.implies.ensures))

-- the condition is false in the whole space, and the side for false never comes to what is wanted
pub returns-then-implies-2 : goal.returns-then-implies-2
returns-then-implies-2 t c =
    step_off c.args.wanted c.args.tree.now c.in-Test.condition c.in-Test.no.now c.in-Test.yes.now c.in-Test.ensures
    c.args.space.now
    (OnTrue_at c.if-not-is_never.false c.is_never-in-Test.ensures)
    (rw c.value_literal-off.ensures at (OnTrue_at c.if-implies-2.true c.implies-in-Test.ensures))

-- the side for false never comes to what is wanted, so the answer is that of the side for true
pub returns-else-implies-2 : goal.returns-else-implies-2
returns-else-implies-2 t c =
    step_both c.args.wanted c.args.tree.now c.in-Test.condition c.in-Test.no.now c.in-Test.yes.now c.in-Test.ensures
    c.args.space.now c.is_never-in-Test-2.result
    (OnTrue_at c.if-not-is_never.false c.is_never-in-Test.ensures) c.is_never-in-Test-2.ensures
