-- Proof of `keep_above`, which adds a place to the side above a cut, unless the variable's range ends at the cut or
-- before, or there are too few faults left.
use Rattle.std.proofs.Common.{arith, ◌≡◌, ◌<◌, true, refl, sym, subst, List}
use Rattle.std.proofs.lemmas.Bool.{both_ways}
use Rattle.cpg_base.specs.Scenario.{Scenario, number_of}
use Rattle.cpg_cube.specs.Cube.{matches}
use Rattle.cpg_tree.specs.Space.{IsInSpace}
use Rattle.cpg_tree.proofs.Forks.{from_false}
use Rattle.cpg_row_trees.specs.declared.places.PlaceHint.{PlaceHint}
use Rattle.cpg_row_trees.specs.PlaceHints.{KeepsPlace}
use Rattle.cpg_row_trees.proofs.PlaceHintLaws.{kept_out, kept_in}
use Rattle.cpg_row_trees.proofs.places.keep_above.Goals as goal

-- no number above the cut is in the range, so no scenario above the cut matches
pub returns-then-range-saturating_add-clause-kept : goal.returns-then-range-saturating_add-clause-kept
returns-then-range-saturating_add-clause-kept c =
    let variable = c.args.span.cut.variable in
    kept_out (λ s. (IsInSpace c.args.space.now s × (c.args.span.cut.most < number_of s variable)) ×
    (matches c.args.literals.now s ≡ true)) c.args.hint.place c.args.high.now.items (λ s h.
    omega (
      arith,
      h.0.1,
      c.if-range-saturating_add.true,
      c.saturating_add.ensures,
      c.requires.range.high s h.1 (omega (arith, c.if-range-saturating_add.true, c.saturating_add.ensures)),
    ))

-- above the cut too few faults are left for the literals, so no scenario there matches
pub returns-then-not-do_suffice_above-clause-kept : goal.returns-then-not-do_suffice_above-clause-kept
returns-then-not-do_suffice_above-clause-kept c =
    let variable = c.args.span.cut.variable in
    kept_out (λ s. (IsInSpace c.args.space.now s × (c.args.span.cut.most < number_of s variable)) ×
    (matches c.args.literals.now s ≡ true)) c.args.hint.place c.args.high.now.items (λ s h.
    both_ways (matches c.args.literals.now s) (from_false c.do_suffice_above.result c.if-not-do_suffice_above.true
    c.do_suffice_above.ensures.none s h.0.0 h.0.1) h.1)

-- the place was added to those that were there
pub returns-clause-kept : goal.returns-clause-kept
returns-clause-kept c =
    let variable = c.args.span.cut.variable in
    let fits : Scenario → Type 0 = λ s. (IsInSpace c.args.space.now s × (c.args.span.cut.most < number_of s variable)) ×
    (matches c.args.literals.now s ≡ true) in
    subst (λ (es : List PlaceHint). KeepsPlace fits c.args.hint.place c.args.high.now.items es)
    (sym c.in_ok-push.ensures.items)
    (kept_in fits c.args.hint.place c.args.high.now.items
    (record { place = c.args.hint.place; held = c.held_with.result; spare = c.saturating_sub.result }) refl)
