-- Proof of `merged`, which returns the columns of a row, merged: they have the times of the given ones in every
-- scenario of at most as many faults as the problem has, and no two have one time, equal ranges of all variables but
-- one, and ranges of that one which touch.
use Rattle.std.proofs.Common.{IsPermutation, sym, ap, ◌∙◌, subst, true≢false}
use Rattle.std.proofs.lemmas.Bool.{OnTrue_from}
use Rattle.cpg_cube.specs.declared.listing.Listing.{Listing}
use Rattle.cpg_cube.specs.Keys.{AreByLows}
use Rattle.cpg_cube.specs.declared.column.Column.{Column}
use Rattle.cpg_merging.specs.Merged.{IsMergeOf}
use Rattle.cpg_merging.specs.Merging.{IsShorn, AreSettled, all_shorn}
use Rattle.cpg_merging.proofs.MergingSteps.{shorn_columns}
use Rattle.cpg_merging.proofs.MergingEnds.{merge_of, if_ok_both}
use Rattle.cpg_merging.proofs.merging.merged.Goals as goal

-- without the whole literals the columns can be merged
pub settled-requires : goal.settled-requires
settled-requires c =
    let graph = c.args.problem.now in
    subst (IsShorn graph) (sym (ap (λ (l : Listing). l.columns.items) c.unsorted.ensures ∙ c.in_ok-shorn.ensures
    ∙ ap (λ k. all_shorn k c.args.columns.items) c.faults.ensures.faults))
    (shorn_columns graph c.faults.ensures.within.few_processes c.args.columns.items c.requires.columns)

-- the columns without their whole literals are joined until they are settled, and then sorted by their least
-- scenarios
pub returns : goal.returns
returns c =
    let graph = c.args.problem.now in
    let order = c.args.order.now in
    let given = c.args.columns.items in
    let columns = c.in_ok-listing.listing.columns.items in
    let settled : AreSettled graph (all_shorn graph.faults given) columns =
    subst (λ before. AreSettled graph before columns)
    (ap (λ (l : Listing). l.columns.items) c.unsorted.ensures ∙ c.in_ok-shorn.ensures
    ∙ ap (λ k. all_shorn k c.args.columns.items) c.faults.ensures.faults) c.in_ok-listing.ensures.settled in
    if_ok_both c.sorted.result (λ r. IsPermutation columns r.items)
    (λ r. AreByLows (λ (e : Column). e.cube) graph order r.items) (λ r. IsMergeOf graph order given r.items)
    (λ r permuted up. merge_of graph c.faults.ensures.within.few_processes order c.requires.order given columns r.items
    c.requires.columns settled permuted up)
    c.sorted.ensures.permutation c.sorted.ensures.by_lows

-- the listing isn't known to be sorted, as the listing from before wasn't
pub sorted-requires-clause-sorted : goal.sorted-requires-clause-sorted
sorted-requires-clause-sorted c = OnTrue_from c.in_ok-listing.listing.is_sorted _
    (λ is_sorted. absurd
    (true≢false (sym (c.in_ok-listing.ensures.sorted is_sorted).0
    ∙ ap (λ (l : Listing). l.is_sorted) c.unsorted.ensures)))
