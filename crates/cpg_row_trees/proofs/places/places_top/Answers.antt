-- Proof of `places_top`, which returns the top of the tree of some places for the scenarios of a space.
use Rattle.std.proofs.Common.{ℕ, ◌≡◌, ◌∙◌, true, List, [], ◌∷◌, Contains, arith, length, subst, sym}
use Rattle.cpg_base.proofs.Lists.{Contains-nil}
use Rattle.cpg_cube.specs.Cube.{matches}
use Rattle.cpg_tree.proofs.Forks.{from_true}
use Rattle.cpg_row_trees.specs.PlaceHints.{places_of}
use Rattle.cpg_row_trees.specs.declared.places.PlaceHint.{PlaceHint}
use Rattle.cpg_row_trees.proofs.PlaceHintLaws.{cube_here, within_lent, only_first}
use Rattle.cpg_row_trees.proofs.places.places_top.Goals as goal

-- no place is among those of no hints
none_among : (hints : List PlaceHint) (j : ℕ) → length hints ≡ 0 → Contains (places_of hints) j → ⊥
none_among [] j none c = Contains-nil j c
none_among (x ∷ xs) j none c = absurd (omega (arith, none))

-- there are no hints, so a scenario matches none of their cubes
pub returns-in_default : goal.returns-in_default
returns-in_default c s lies j among matched = none_among c.args.hints.now j c.in_default.ensures.cases among

-- the first place is the only one left, and its cube's open literals hold in the whole space, so each scenario
-- matches it
pub returns : goal.returns
returns c s lies =
    -- the cube that was looked up is the one at its place in the list
    let look = c.in-Some-get.ensures.lookup in
    let at = cube_here c.args.cubes.now c.in-Some.first.now.place c.in-Some-get.cube.now look.3.0 look.1 in
    record {
      is = record {
        there = within_lent c.args.cubes.now c.in-Some.first.now.place c.in-Some-get.cube.now look.3.0 look.1;
        matched = subst (λ xs. matches xs s ≡ true) (sym at)
            (subst (λ xs. matches xs s ≡ true) c.literals-literals.ensures.literals
            (from_true c.do_hold.result c.if-not-do_hold.false c.do_hold.ensures s lies));
      };
      only = λ j h m. only_first c.args.hints.now c.in-Some.rest.now c.in-Some.first.now j c.in-Some.ensures.cases.0
          (sym c.is_empty.ensures ∙ c.if-not-is_empty.false) h;
    }
