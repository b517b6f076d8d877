-- Proof of `settled`, which joins columns until no two of one time touch at any variable.
use Rattle.std.proofs.Common.{◌≡◌, ◌<◌, ◌∙◌, length, sym, ap, arith, rules}
use Rattle.std.specs.Vec.{vec_len}
use Rattle.cpg_base.specs.Graph.{IsVariable}
use Rattle.cpg_merging.proofs.MergingLists.{joins_through}
use Rattle.cpg_cube.specs.declared.listing.Listing.{Listing}
use Rattle.cpg_merging.proofs.MergingSteps.{settled_same, fewer_else, sorted_through}
use Rattle.cpg_merging.proofs.merging.settled.Goals as goal

-- before the first round the columns are those given, with their marks
pub loop-marked-init : goal.loop-marked-init
loop-marked-init c = record {
  good = search rules;
  joins = search rules;
  marked = c.in_ok-marked.ensures.marks;
  sorted = λ is_sorted. (
    sym (ap (λ (l : Listing). l.is_sorted) c.in_ok-marked.ensures.listing) ∙ is_sorted,
    ap (λ (l : Listing). l.columns.items) c.in_ok-marked.ensures.listing,
  );
}

-- as many columns as before are left, so they are settled
pub returns-then-len-count-clause-settled : goal.returns-then-len-count-clause-settled
returns-then-len-count-clause-settled c =
    let graph = c.args.problem.now in
    let before = c.loop-marked.marked.listing.columns in
    let after = c.in_ok-marked-2.marked.listing.columns in
    let before_length : length before.items ≡ vec_len before = search rules in
    let after_length : length after.items ≡ vec_len after = search rules in
    record {
      joins = joins_through graph c.args.listing.columns.items before.items after.items c.loop-marked.invariant.joins
          c.in_ok-marked-2.ensures.passed.joins;
      good = c.in_ok-marked-2.ensures.passed.good;
      settled = settled_same graph (IsVariable graph) before.items after.items c.in_ok-marked-2.ensures.passed
          (omega arith);
    }

-- fewer columns than before are left, so the rounds come to an end
pub loop-marked-smaller : goal.loop-marked-smaller
loop-marked-smaller c =
    let graph = c.args.problem.now in
    let before = c.loop-marked.marked.listing.columns in
    let after = c.in_ok-marked-2.marked.listing.columns in
    let before_length : length before.items ≡ vec_len before = search rules in
    let after_length : length after.items ≡ vec_len after = search rules in
    let less : length after.items < length before.items = fewer_else graph
    (IsVariable graph) before.items after.items c.in_ok-marked-2.ensures.passed
    (λ equal. c.if-len-count.false (omega arith)) in
    omega arith

-- the columns of this round are a join of those before it, so also of those given, and the round left marks that still
-- hold
pub loop-marked-preserved : goal.loop-marked-preserved
loop-marked-preserved c = record {
  good = c.in_ok-marked-2.ensures.passed.good;
  joins = joins_through c.args.problem.now c.args.listing.columns.items c.loop-marked.marked.listing.columns.items
      c.in_ok-marked-2.marked.listing.columns.items c.loop-marked.invariant.joins
      c.in_ok-marked-2.ensures.passed.joins;
  marked = c.in_ok-marked-2.ensures.marked;
  sorted = sorted_through c.args.listing c.loop-marked.marked.listing c.in_ok-marked-2.marked.listing
      c.loop-marked.invariant.sorted c.in_ok-marked-2.ensures.sorted;
}

-- columns known to be sorted now were so before this turn, and then before the loop
pub returns-then-len-count-clause-sorted : goal.returns-then-len-count-clause-sorted
returns-then-len-count-clause-sorted c = sorted_through c.args.listing c.loop-marked.marked.listing
    c.in_ok-marked-2.marked.listing c.loop-marked.invariant.sorted c.in_ok-marked-2.ensures.sorted
