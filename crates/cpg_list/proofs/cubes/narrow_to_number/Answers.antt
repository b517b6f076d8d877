-- Proof of `narrow_to_number`: narrows a cube to the number that a variable has in a scenario.
use Rattle.std.proofs.Common.{◌≡◌, ◌∙◌, ◌≤◌, ◌∷◌, [], sym, ap, subst}
use Rattle.cpg_base.specs.Variable.{top}
use Rattle.cpg_cube.specs.declared.literal.Literal.{Literal}
use Rattle.cpg_run.specs.Carried.{number_known}
use Rattle.cpg_list.specs.Narrowing.{met, IsNarrowed}
use Rattle.cpg_list.proofs.CodeCubes.{met_narrowed}
use Rattle.cpg_run.proofs.CubesOf.{number_at_most}
use Rattle.cpg_run.proofs.SameInRows.{only_one}
use Rattle.cpg_list.proofs.cubes.narrow_to_number.Goals as goal

-- the cube is met with the one literal of the number, whose high isn't past the greatest number of the variable, and so it
-- is narrowed by that literal
pub returns : goal.returns
returns c =
    let graph = c.args.problem.now in
    let literal : Literal = number_known c.args.scenario.now c.args.variable in
    let made : c.as_slice.result.now ≡ literal ∷ [] = c.as_slice.ensures
    ∙ ap (λ n. let one : Literal = record { variable = c.args.variable; low = n; high = n } in one ∷ [])
    c.number-number.ensures in
    let high = number_at_most graph c.processes-processes.ensures.within.few_processes c.args.scenario.now c.requires
    c.args.variable in
    subst (IsNarrowed graph.faults (literal ∷ []) c.args.cube.now)
    (sym (c.in_ok-narrow.ensures ∙ ap (met c.args.cube.now) made))
    (met_narrowed graph.faults (literal ∷ []) c.args.cube.now
    (λ m j. subst (λ (x : Literal). x.high ≤ top graph.faults x.variable) (only_one literal m j) high))
