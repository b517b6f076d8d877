-- Proof of `keep_below`, which adds a place to the side below a cut, unless the cube's range of the variable is all
-- above the cut.
use Rattle.std.proofs.Common.{arith, ◌≤◌, refl, sym, subst, List}
use Rattle.cpg_base.specs.Scenario.{Scenario, number_of}
use Rattle.cpg_row_trees.specs.declared.places.PlaceHint.{PlaceHint}
use Rattle.cpg_row_trees.specs.PlaceHints.{KeepsPlace}
use Rattle.cpg_row_trees.proofs.PlaceHintLaws.{kept_out, kept_in}
use Rattle.cpg_row_trees.proofs.places.keep_below.Goals as goal

-- a range above the cut has no number up to it, so the place may be left out
pub returns-then-range-span : goal.returns-then-range-span
returns-then-range-span c =
    let variable = c.args.span.cut.variable in
    kept_out (λ s. (number_of s variable ≤ c.args.span.cut.most) ×
    (c.args.range.low ≤ number_of s variable)) c.args.hint.place
    c.args.low.now.items (λ s h. omega (arith, h.0, h.1, c.if-range-span.true))

-- the place was added to those that were there
pub returns : goal.returns
returns c =
    let variable = c.args.span.cut.variable in
    let fits : Scenario → Type 0 = λ s. (number_of s variable ≤ c.args.span.cut.most) ×
    (c.args.range.low ≤ number_of s variable) in
    subst (λ (es : List PlaceHint). KeepsPlace fits c.args.hint.place c.args.low.now.items es)
    (sym c.in_ok-push.ensures.items)
    (kept_in fits c.args.hint.place c.args.low.now.items
    (record { place = c.args.hint.place; held = c.held_with.result; spare = c.args.hint.spare }) refl)
