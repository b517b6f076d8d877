-- Proof of `are_active`: whether the processes of these literals are all active in each scenario of a space.
use Rattle.std.proofs.Common.{◌≡◌, ◌||◌, ◌∙◌, true, not, get_or, ap₂}
use Rattle.std.proofs.lemmas.Bool.{OnTrue_at}
use Rattle.std.proofs.lemmas.List.{take_all}
use Rattle.std.proofs.lemmas.List.Folds.{list_any_more}
use Rattle.cpg_base.specs.Activity.{active}
use Rattle.cpg_base.specs.Graph.{process_of_variable}
use Rattle.cpg_cube.specs.declared.literal.Literal.{Literal}
use Rattle.cpg_check_rows.proofs.quick_activity.are_active.Goals as goal

-- the process of the next literal is active, too
pub loop-literal-preserved : goal.loop-literal-preserved
loop-literal-preserved c s law lies =
    let graph = c.args.admitted.now.graph in
    let literals = c.args.literals.now in
    let literal : Literal = get_or literals c.loop-literal.literal-index (record { variable = 0; low = 0; high = 0 }) in
    let here : active graph s.values (process_of_variable graph literal.variable) ≡ true =
    rw (c.process_of_variable-process.ensures.process, c.problem.ensures.problem) at
    (OnTrue_at c.if-not-is_active.false c.is_active.ensures s law lies) in
    list_any_more (λ (l : Literal). not (active graph s.values (process_of_variable graph l.variable))) literals
    c.loop-literal.literal-index
    (record { variable = 0; low = 0; high = 0 }) c.loop-literal-test.true
    ∙ ap₂ (λ a b. a || not b) (c.loop-literal.invariant s law lies) here

-- the loop has gone over all literals, so the process of each is active
pub returns : goal.returns
returns c s law lies = rw (take_all c.loop-literal.literal-index c.args.literals.now c.loop-literal-test.false) at
    (c.loop-literal.invariant s law lies)
