-- Proof of `joined_over`, which joins columns that touch at any of the variables from `first` on and below `end`, one
-- variable after another.
use Rattle.std.proofs.Common.{◌≡◌, ◌+◌, ◌<◌, ◌≤◌, ⊎_elim, inl, inr, arith, refl}
use Rattle.std.proofs.lemmas.Bool.{cases_lt}
use Rattle.cpg_merging.specs.Merging.{IsBetween}
use Rattle.cpg_merging.proofs.MergingSteps.{passed_none, passed_through, passed_wider, sorted_through}
use Rattle.cpg_merging.proofs.merging.joined_over.Goals as goal

-- the columns so far have no whole literals, and their marks are right
pub joined_at-requires : goal.joined_at-requires
joined_at-requires c = record {
  shorn = c.loop-variable.invariant.passed.good;
  marked = c.loop-variable.invariant.marked;
  known = c.requires.known c.loop-variable.variable (omega arith) (omega arith);
}

-- before the first variable nothing has been gone over, and the columns are those given
pub loop-variable-init : goal.loop-variable-init
loop-variable-init c = record {
  passed = passed_none c.args.problem.now (IsBetween c.args.first c.args.first)
      (λ v between. omega arith) c.args.marked.listing.columns.items c.requires.shorn;
  marked = c.requires.marked;
  sorted = λ is_sorted. (is_sorted, refl);
}

-- the variables below the next one are those gone over so far and this one
pub loop-variable-preserved : goal.loop-variable-preserved
loop-variable-preserved c =
    let v = c.loop-variable.variable in
    record {
      passed =
          passed_through c.args.problem.now (IsBetween c.args.first v) (λ u. u ≡ v) (IsBetween c.args.first (v + 1))
          (λ u between. ⊎_elim (λ (below : u < v). inl (omega arith, below)) (λ (from_v : v ≤ u). inr (omega arith))
          (cases_lt u v))
          c.args.marked.listing.columns.items c.loop-variable.marked.listing.columns.items
          c.in_ok-marked.marked.listing.columns.items c.loop-variable.invariant.passed
          c.in_ok-marked.ensures.passed;
      marked = c.in_ok-marked.ensures.marked;
      sorted = sorted_through c.args.marked.listing c.loop-variable.marked.listing c.in_ok-marked.marked.listing
          c.loop-variable.invariant.sorted c.in_ok-marked.ensures.sorted;
    }

-- the loop has come to the end, so all variables from the first up to it have been gone over
pub returns : goal.returns
returns c = record {
  passed = passed_wider c.args.problem.now (IsBetween c.args.first c.loop-variable.variable)
      (IsBetween c.args.first c.args.end)
      (λ v between. (between.0, omega arith)) c.args.marked.listing.columns.items
      c.loop-variable.marked.listing.columns.items
      c.loop-variable.invariant.passed;
  marked = c.loop-variable.invariant.marked;
  sorted = c.loop-variable.invariant.sorted;
}
