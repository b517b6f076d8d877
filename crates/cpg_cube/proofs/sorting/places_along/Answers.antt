-- Proof of `places_along`, which returns by variable how many places are left at it along an order: 256 at the first,
-- one less at each that follows, and 0 at a number that is no variable of the problem.
use Rattle.std.proofs.Common.{ℕ, ◌<◌, ◌≤◌, ◌≡◌, ◌≢◌, ◌∙◌, List, All, length, arith, sym, ap, subst}
use Rattle.std.specs.List.{AllPairs}
use Rattle.cpg_base.specs.Graph.{process_count}
use Rattle.cpg_base.proofs.Places.{length_order}
use Rattle.cpg_cube.specs.Keys.{ArePlaces, variables_along}
use Rattle.cpg_cube.proofs.KeyOrder.{few_variables, within_order}
use Rattle.cpg_cube.proofs.KeyPlaces.{variables_apart}
use Rattle.cpg_cube.proofs.sorting.places_along.Goals as goal

-- the processes of the order are those of the graph
pub variables_along-requires : goal.variables_along-requires
variables_along-requires c = let count = process_count c.args.problem.now in record {
  order = subst (All (λ p. p < count)) (sym c.processes.ensures.processes)
      (within_order count c.args.order.now c.requires);
}

-- the variables along the order are at most 256, and no two of them are the same
pub places_of-requires : goal.places_of-requires
places_of-requires c =
    let problem = c.args.problem.now in
    let order = c.args.order.now in
    -- an order of few processes, and the variables along it
    let few : length order ≤ 128 = omega (
      arith,
      length_order (process_count problem) order c.requires,
      c.processes-processes.ensures.within.few_processes,
    ) in
    let along : c.as_slice.result.now ≡ variables_along problem order = c.as_slice.ensures.value
    ∙ c.in_ok-variables.ensures ∙ ap (variables_along problem) c.processes.ensures.processes in
    record {
      few = subst (λ (vs : List ℕ). length vs ≤ 256) (sym along) (few_variables problem order few);
      apart = subst (AllPairs (λ u v. u ≢ v)) (sym along)
          (variables_apart problem c.processes-processes.ensures.within.few_processes order c.requires);
    }

-- the list has the variables along the order, so the places are those of these variables
pub returns : goal.returns
returns c =
    let problem = c.args.problem.now in
    let along : c.as_slice.result.now ≡ variables_along problem c.args.order.now = c.as_slice.ensures.value
    ∙ c.in_ok-variables.ensures ∙ ap (variables_along problem) c.processes.ensures.processes in
    subst (λ vs. ArePlaces vs c.places_of.result) along c.places_of.ensures
