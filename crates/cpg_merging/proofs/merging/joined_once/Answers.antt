-- Proof of `joined_once`, which joins columns that touch, going over all variables once.
use Rattle.std.proofs.Common.{◌+◌, ◌<◌, ◌≤◌, length, ⊎_elim, inl, inr, ap, arith, refl, rules, sym, ◌∙◌}
use Rattle.std.proofs.lemmas.Result.{IfOk-weaker}
use Rattle.cpg_base.specs.Graph.{IsVariable, process_count, condition_count, value_variable}
use Rattle.cpg_merging.specs.Merging.{IsBetween, IsPassed, IsSortedAs}
use Rattle.std.proofs.lemmas.List.Sorted.{IsPermutation-refl}
use Rattle.cpg_merging.proofs.MergingLists.{joins_itself}
use Rattle.cpg_merging.proofs.MergingTotals.{none_on}
use Rattle.cpg_merging.proofs.MergingSteps.{passed_through, sorted_through}
use Rattle.cpg_merging.proofs.merging.joined_once.Goals as goal

-- a variable of the graph is a process below the count of processes, or a value from 128 on, so both rounds go over
-- all
pub returns-clause-passed : goal.returns-clause-passed
returns-clause-passed c =
    let graph = c.args.problem.now in
    let columns = c.args.marked.listing.columns.items in
    let middle = c.in_ok-marked.marked.listing.columns.items in
    let few = c.processes.ensures.within in
    IfOk-weaker _ (λ r. IsPassed graph (IsBetween 128 (128 + c.conditions.result)) middle r.listing.columns.items)
    (λ r. IsPassed graph (IsVariable graph) columns r.listing.columns.items)
    (λ r passed. passed_through graph (IsBetween 0 (length c.processes.result.now))
    (IsBetween 128 (128 + c.conditions.result)) (IsVariable graph)
    (λ v known. ⊎_elim
    (λ (is_count : v < process_count graph). let length_is = ap length c.processes.ensures.processes in
    inl (omega arith, omega arith))
    (λ (is_value : (128 ≤ v) × (v < value_variable (condition_count graph))).
    let count_is = c.conditions.ensures.count in inr (is_value.0, omega arith))
    known) columns middle r.listing.columns.items c.in_ok-marked.ensures.passed passed)
    (search rules)

-- what is known to be sorted after both steps is what was sorted before
pub returns-clause-sorted : goal.returns-clause-sorted
returns-clause-sorted c =
    IfOk-weaker _ (λ r. IsSortedAs c.in_ok-marked.marked.listing r.listing)
    (λ r. IsSortedAs c.args.marked.listing r.listing)
    (λ r r_sorted.
    sorted_through c.args.marked.listing c.in_ok-marked.marked.listing r.listing c.in_ok-marked.ensures.sorted r_sorted)
    (search rules)

-- no variable is marked, so no two columns of one time touch, and they stay as they are
pub returns-then-not-contains-clause-passed : goal.returns-then-not-contains-clause-passed
returns-then-not-contains-clause-passed c =
    let graph = c.args.problem.now in
    let columns = c.args.marked.listing.columns.items in
    record {
      joins = joins_itself graph columns;
      good = c.requires.shorn;
      fewer = inr (
        IsPermutation-refl columns,
        λ v known. c.requires.marked v known
            (none_on _ refl c.args.marked.marks (sym c.contains.ensures.value ∙ c.if-not-contains.true) v),
      );
    }
