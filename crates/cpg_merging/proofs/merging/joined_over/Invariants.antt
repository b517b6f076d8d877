-- Loops of `joined_over`, which joins columns that touch at any of the variables from `first` on and below `end`, one
-- variable after another.
use Rattle.cpg_merging.specs.Merging.{IsPassed, IsBetween, IsSortedAs}
use Rattle.cpg_merging.specs.Totals.{AreMarked}
use Rattle.cpg_merging.proofs.merging.joined_over.Given as goal

-- `passed`: the columns got fewer, or none touch at the variables so far. `marked`: no two touch at a variable that
-- isn't marked. `sorted`: columns known to be sorted are those given
abbrev pub invariant-loop-variable : goal.invariant-loop-variable
invariant-loop-variable l = record {
  passed : IsPassed l.problem
      (IsBetween l.first l.variable) l.fn.marked.listing.columns.items l.marked.listing.columns.items;
  marked : AreMarked l.problem l.marked.marks l.marked.listing.columns.items;
  sorted : IsSortedAs l.fn.marked.listing l.marked.listing;
}
