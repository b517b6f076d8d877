-- Proof of `first_by_least_scenario`, which returns the place of the column with the least scenario: no cube's lows
-- come before those of its cube, along the order.
use Rattle.std.proofs.Common.{ℕ, ◌<◌, ◌≤◌, ◌≡◌, ◌≢◌, ◌∙◌, List, All, length, arith, sym, ap, subst}
use Rattle.std.specs.List.{AllPairs}
use Rattle.std.proofs.lemmas.Option.{IfSome_then}
use Rattle.cpg_base.specs.Graph.{process_count}
use Rattle.cpg_base.proofs.Places.{length_order}
use Rattle.cpg_cube.specs.Keys.{IsFirstByKeys, IsFirstByLows, variables_along}
use Rattle.cpg_cube.proofs.KeyOrder.{few_variables, first_by_lows, within_order}
use Rattle.cpg_cube.proofs.KeyPlaces.{variables_apart}
use Rattle.cpg_cube.proofs.sorting.first_by_least_scenario.Goals as goal

-- the processes of the order are those of the graph
pub variables_along-requires : goal.variables_along-requires
variables_along-requires g c = let count = process_count c.args.problem.now in record {
  order = subst (All (λ p. p < count)) (sym c.processes.ensures.processes)
      (within_order count c.args.order.now c.requires);
}

-- the variables along the order are at most 256, and no two of them are the same
pub first_by_key-requires : goal.first_by_key-requires
first_by_key-requires g c =
    let problem = c.args.problem.now in
    let order = c.args.order.now in
    -- an order of few processes, and the variables along it
    let few : length order ≤ 128 = omega (
      arith,
      length_order (process_count problem) order c.requires,
      c.processes-processes.ensures.within.few_processes,
    ) in
    let along : c.as_slice.result.now ≡ variables_along problem order = c.as_slice.ensures.value
    ∙ c.in_ok-variables.ensures ∙ ap (variables_along problem) c.processes.ensures.processes in
    record {
      few = subst (λ (vs : List ℕ). length vs ≤ 256) (sym along) (few_variables problem order few);
      apart = subst (AllPairs (λ u v. u ≢ v)) (sym along)
          (variables_apart problem c.processes-processes.ensures.within.few_processes order c.requires);
    }

-- the first column by keys is the first by lows along the order
pub returns-clause-first : goal.returns-clause-first
returns-clause-first g c =
    let problem = c.args.problem.now in
    let order = c.args.order.now in
    let columns = c.args.columns.now in
    let variables = c.as_slice.result.now in
    -- an order of few processes, and the variables along it
    let few : length order ≤ 128 = omega (
      arith,
      length_order (process_count problem) order c.requires,
      c.processes-processes.ensures.within.few_processes,
    ) in
    let along : variables ≡ variables_along problem order = c.as_slice.ensures.value ∙ c.in_ok-variables.ensures
    ∙ ap (variables_along problem) c.processes.ensures.processes in
    IfSome_then c.in_ok-place.place {P = IsFirstByKeys g.T.Cubed.cubed variables (length columns) columns}
    {Q = IsFirstByLows g.T.Cubed.cubed problem order columns} c.in_ok-place.ensures.first
    (first_by_lows g.T.Cubed.cubed columns problem order variables few along)
