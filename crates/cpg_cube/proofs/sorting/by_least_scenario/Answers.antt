-- Proof of `by_least_scenario`, which returns the columns sorted by the least scenario that each matches: no cube's
-- lows come before those of an earlier column, along the order.
use Rattle.std.proofs.Common.{ℕ, ◌<◌, ◌≤◌, ◌≡◌, ◌≢◌, ◌∙◌, List, All, length, map, get_or, IsPermutation, arith, sym, ap}
use Rattle.std.proofs.Common.{subst, rules}
use Rattle.std.specs.List.{AllPairs}
use Rattle.std.specs.List.Sorted.{IsSortedBy}
use Rattle.std.proofs.lemmas.Fn.{always_returns_same}
use Rattle.std.proofs.lemmas.List.Sorted.{IsPermutation-map}
use Rattle.std.proofs.lemmas.Result.{IfOk-weaker}
use Rattle.cpg_base.specs.Graph.{process_count}
use Rattle.cpg_base.proofs.Places.{length_order}
use Rattle.cpg_cube.specs.Keys.{AreByLows, variables_along}
use Rattle.cpg_cube.specs.declared.sorting.Ranked.{Ranked}
use Rattle.cpg_cube.proofs.KeyOrder.{is_key_below, is_total, by_lows, few_variables, within_order}
use Rattle.cpg_cube.proofs.KeyPlaces.{variables_apart}
use Rattle.cpg_cube.proofs.sorting.by_least_scenario.Goals as goal

-- the processes of the order are those of the graph
pub variables_along-requires : goal.variables_along-requires
variables_along-requires g c = let count = process_count c.args.problem.now in record {
  order = subst (All (λ p. p < count)) (sym c.processes.ensures.processes)
      (within_order count c.args.order.now c.requires);
}

-- the variables along the order are at most 256, and no two of them are the same
pub with_keys-requires : goal.with_keys-requires
with_keys-requires g c =
    let problem = c.args.problem.now in
    let order = c.args.order.now in
    -- an order of few processes, and the variables along it
    let few : length order ≤ 128 = omega (
      arith,
      length_order (process_count problem) order c.requires,
      c.processes-processes.ensures.within.few_processes,
    ) in
    let along : c.as_slice.result.now ≡ variables_along problem order = c.as_slice.ensures.value
    ∙ c.in_ok-variables.ensures ∙ ap (variables_along problem) c.processes.ensures.processes in
    record {
      few = subst (λ (vs : List ℕ). length vs ≤ 256) (sym along) (few_variables problem order few);
      apart = subst (AllPairs (λ u v. u ≢ v)) (sym along)
          (variables_apart problem c.processes-processes.ensures.within.few_processes order c.requires);
    }

-- the sorted columns with their keys are a permutation, and so are the columns alone
pub returns-clause-permutation : goal.returns-clause-permutation
returns-clause-permutation g c =
    let column = λ (x : Ranked g.row.T.Denot). x.column in
    let before = c.in_ok-ranked.ranked.items in
    let after = c.sort_unstable_by.new.self.items in
    let columns = c.args.columns.items in
    IfOk-weaker _ (λ r. r.items ≡ map column after) (λ r. IsPermutation columns r.items)
    (λ r equal. subst (IsPermutation columns) (sym equal)
    (subst (λ (xs : List g.row.T.Denot). IsPermutation xs (map column after)) c.in_ok-ranked.ensures.columns
    (IsPermutation-map column before after c.sort_unstable_by.ensures.permutation)))
    (search rules)

-- the columns are sorted by their keys, and so by their lows along the order
pub returns-clause-by_lows : goal.returns-clause-by_lows
returns-clause-by_lows g c =
    let column = λ (x : Ranked g.row.T.Denot). x.column in
    let before = c.in_ok-ranked.ranked.items in
    let after = c.sort_unstable_by.new.self.items in
    let problem = c.args.problem.now in
    let order = c.args.order.now in
    -- an order of few processes, and the variables along it
    let few : length order ≤ 128 = omega (
      arith,
      length_order (process_count problem) order c.requires,
      c.processes-processes.ensures.within.few_processes,
    ) in
    let along : c.as_slice.result.now ≡ variables_along problem order = c.as_slice.ensures.value
    ∙ c.in_ok-variables.ensures ∙ ap (variables_along problem) c.processes.ensures.processes in
    -- the columns are sorted by their keys
    let up : IsSortedBy is_key_below after =
    c.sort_unstable_by.ensures.sorted is_key_below is_total (always_returns_same _ _ _ (λ a r f k. search rules)) in
    -- so the columns stand by their lows along the order
    IfOk-weaker _ (λ r. r.items ≡ map column after) (λ r. AreByLows g.T.Cubed.cubed problem order r.items)
    (λ r equal. subst (AreByLows g.T.Cubed.cubed problem order) (sym equal)
    (by_lows g.T.Cubed.cubed problem order c.as_slice.result.now few along before after
    c.in_ok-ranked.ensures.keys c.sort_unstable_by.ensures.permutation up))
    (search rules)
