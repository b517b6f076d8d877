-- Proof of `SpannedRows::are_over_at`: whether each of these items is over by the time of a column, wherever that
-- matches.
use Rattle.std.proofs.Common.{true≢false, sym, ◌∙◌}
use Rattle.std.proofs.lemmas.Bool.{OnTrue_at}
use Rattle.cpg_tree.proofs.Forks.{from_false, from_true}
use Rattle.cpg_tree.proofs.Passes.{of_true}
use Rattle.cpg_check_quick.proofs.spanned_rows.SpannedRows.are_over_at.Goals as goal

-- the items are over by the column's time in each scenario
pub returns-then-are_early : goal.returns-then-are_early
returns-then-are_early c =
    λ g tables lasts s are law m. OnTrue_at c.if-are_early.true c.are_early.ensures g tables lasts s are law

-- no scenario matches the column, so there is nothing to show
pub returns-then-not-narrow_to : goal.returns-then-not-narrow_to
returns-then-not-narrow_to c = λ g tables lasts s are law m.
    let none = rw c.literals.ensures.literals at
    (from_false c.narrow_to.result c.if-not-narrow_to.true c.narrow_to.ensures.none) in
    absurd (true≢false (sym m ∙ none s (are.everywhere.lies s law)))

-- the space has all scenarios that the column matches, and there each item is over
pub returns : goal.returns
returns c = of_true c.are_over.result c.are_over.ensures (λ all g tables lasts s are law m.
    let fits = rw c.literals.ensures.literals at
    (from_true c.narrow_to.result c.if-not-narrow_to.false c.narrow_to.ensures.lies) in
    all g tables lasts s are law (fits s (are.everywhere.lies s law) m))
