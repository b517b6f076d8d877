-- Proof of `joined_at`, which joins columns that touch at the variable.
use Rattle.std.proofs.Common.{ℕ, ◌≡◌, ◌∙◌, length, sym, subst, arith, rules, true≢false}
use Rattle.std.specs.Vec.{vec_len}
use Rattle.cpg_cube.specs.declared.listing.Listing.{Listing}
use Rattle.cpg_merging.specs.Totals.{AreMarked}
use Rattle.cpg_merging.proofs.MergingSteps.{passed_settled, permuted_same}
use Rattle.cpg_merging.proofs.MergingTotals.{marked_permuted}
use Rattle.cpg_merging.proofs.merging.joined_at.Goals as goal

-- the variable is not marked, so no two columns of one time touch at it
pub returns-then-not-marked-variable-clause-passed : goal.returns-then-not-marked-variable-clause-passed
returns-then-not-marked-variable-clause-passed c =
    let graph = c.args.problem.now in
    let variable = c.args.variable in
    let columns = c.args.marked.listing.columns.items in
    passed_settled graph variable columns c.requires.shorn
    (c.requires.marked variable c.requires.known (λ on. true≢false (sym on ∙ c.if-not-marked-variable.true)))

-- as many columns as before are left, so they are the same in some order, and the marks still hold
pub returns-then-len-count-clause-marked : goal.returns-then-len-count-clause-marked
returns-then-len-count-clause-marked c =
    let before = c.args.marked.listing.columns in
    let after = c.in_ok-columns.columns in
    let before_length : length before.items ≡ vec_len before = search rules in
    let after_length : length after.items ≡ vec_len after = search rules in
    subst (λ (l : Listing). AreMarked c.args.problem.now c.args.marked.marks l.columns.items) (sym c.unsorted.ensures)
    (marked_permuted c.args.problem.now before.items after.items c.args.marked.marks
    (permuted_same c.args.problem.now (λ (u : ℕ). u ≡ c.args.variable) before.items after.items c.in_ok-columns.ensures
    (omega arith)) c.requires.marked)
