-- Proof of `SpannedRows::are_apart_at`: whether each of these items and another, which begins by this column, are apart
-- wherever the column matches.
use Rattle.std.proofs.Common.{true≢false, sym, ◌∙◌}
use Rattle.cpg_tree.proofs.Forks.{from_false, from_true}
use Rattle.cpg_tree.proofs.Passes.{of_true}
use Rattle.cpg_check_quick.proofs.spanned_rows.SpannedRows.are_apart_at.Goals as goal

-- no scenario matches the column, so there is nothing to show
pub returns-then-not-narrow_to : goal.returns-then-not-narrow_to
returns-then-not-narrow_to c = λ g tables lasts x s are is law m.
    let none = rw c.literals.ensures.literals at
    (from_false c.narrow_to.result c.if-not-narrow_to.true c.narrow_to.ensures.none) in
    absurd (true≢false (sym m ∙ none s (are.everywhere.lies s law)))

-- the space has all scenarios that the column matches, and there each item is apart
pub returns : goal.returns
returns c = of_true c.are_apart_in.result c.are_apart_in.ensures (λ all g tables lasts x s are is law m.
    let fits = rw c.literals.ensures.literals at
    (from_true c.narrow_to.result c.if-not-narrow_to.false c.narrow_to.ensures.lies) in
    all g tables lasts x s are is law (fits s (are.everywhere.lies s law) m))
