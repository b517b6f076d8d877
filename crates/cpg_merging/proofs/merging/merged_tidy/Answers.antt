-- Proof of `merged_tidy`, which returns what `merged` returns, for columns of which no literal has the whole range of
-- its variable.
use Rattle.std.proofs.Common.{IsPermutation, sym, subst}
use Rattle.std.proofs.lemmas.Bool.{OnTrue_at, OnTrue_from}
use Rattle.cpg_cube.specs.Keys.{AreByLows}
use Rattle.cpg_cube.specs.declared.column.Column.{Column}
use Rattle.cpg_merging.specs.Merged.{IsMergeOf}
use Rattle.cpg_merging.specs.Merging.{AreSettled}
use Rattle.cpg_merging.proofs.MergingCubes.{tidy_kept}
use Rattle.cpg_merging.proofs.MergingEnds.{merge_of, if_ok_both}
use Rattle.cpg_merging.proofs.MergingSteps.{sorted_still}
use Rattle.cpg_merging.proofs.merging.merged_tidy.Goals as goal

-- the columns can be merged, and none has a literal of the whole range
pub settled-requires : goal.settled-requires
settled-requires c = record { good = c.requires.columns; not_whole = c.requires.tidy }

-- if the listing is known to be sorted, it has the columns from before, which were sorted
pub sorted-requires-clause-sorted : goal.sorted-requires-clause-sorted
sorted-requires-clause-sorted c = OnTrue_from c.in_ok-listing.listing.is_sorted _
    (sorted_still c.args.problem.now c.args.order.now c.args.listing c.in_ok-listing.listing
    (λ is_sorted. OnTrue_at is_sorted c.requires.sorted) c.in_ok-listing.ensures.sorted)

-- the columns have no whole literals, so they are joined until they are settled, and then sorted if need be
pub returns : goal.returns
returns c =
    let graph = c.args.problem.now in
    let order = c.args.order.now in
    let given = c.args.listing.columns.items in
    let columns = c.in_ok-listing.listing.columns.items in
    let settled = subst (λ before. AreSettled graph before columns)
    (sym (tidy_kept graph.faults given c.requires.tidy)) c.in_ok-listing.ensures.settled in
    if_ok_both c.sorted.result (λ r. IsPermutation columns r.items)
    (λ r. AreByLows (λ (e : Column). e.cube) graph order r.items) (λ r. IsMergeOf graph order given r.items)
    (λ r permuted up. merge_of graph c.processes-processes.ensures.within.few_processes order c.requires.order given
    columns r.items c.requires.columns settled permuted up)
    c.sorted.ensures.permutation c.sorted.ensures.by_lows
