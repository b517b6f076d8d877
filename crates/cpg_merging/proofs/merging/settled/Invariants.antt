-- Loops of `settled`, which joins columns until no two of one time touch at any variable.
use Rattle.std.proofs.Common.{vec_len}
use Rattle.cpg_merging.specs.Merging.{IsShorn, IsJoinOf, IsSortedAs}
use Rattle.cpg_merging.specs.Totals.{AreMarked}
use Rattle.cpg_merging.proofs.merging.settled.Given as goal

-- `good`, `joins`: the columns are shorn and a join of those given. `sorted`: columns known to be sorted are those
-- given. `marked`: no two columns of one time touch at a variable that isn't marked
abbrev pub invariant-loop-marked : goal.invariant-loop-marked
invariant-loop-marked l = record {
  good : IsShorn l.problem l.marked.listing.columns.items;
  joins : IsJoinOf l.problem l.fn.listing.columns.items l.marked.listing.columns.items;
  sorted : IsSortedAs l.fn.listing l.marked.listing;
  marked : AreMarked l.problem l.marked.marks l.marked.listing.columns.items;
}

-- each turn but the last makes the columns fewer
abbrev pub decreases-loop-marked : goal.decreases-loop-marked
decreases-loop-marked l = vec_len l.marked.listing.columns
