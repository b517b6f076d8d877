-- Proof of `place_tree_by`, which returns the tree of places for all scenarios of at most `k` faults, by forks that a
-- tally chooses.
use Rattle.std.proofs.Common.{ℕ, ◌∙◌, map, Bor, List, Option, sym, subst, ap}
use Rattle.std.proofs.lemmas.Bool.{OnTrue_at}
use Rattle.cpg_cube.specs.declared.literal.Literal.{Literal}
use Rattle.cpg_tree.specs.Decision.{value_at}
use Rattle.cpg_tree.proofs.Flats.{all_added}
use Rattle.cpg_row_trees.specs.PlacesState.{PlacesState}
use Rattle.cpg_row_trees.specs.Places.{place_at, IsPlaceOfMatch}
use Rattle.cpg_row_trees.specs.PlaceHints.{places_of}
use Rattle.cpg_row_trees.proofs.PlaceHintLaws.{found_of_all}
use Rattle.cpg_row_trees.proofs.PlacesSeen.{place_is}
use Rattle.cpg_row_trees.proofs.places.place_tree_by.Goals as goal

-- the items were added to an empty list, so they are those of a tree
pub grown-requires : goal.grown-requires
grown-requires c =
    -- the tree that was added finds the matches among the places
    let found = (OnTrue_at c.if-not-has_tree.false c.in_ok-has_tree.ensures.added).found in (
      found.0,
      all_added c.in_ok-growth.growth.items.items c.build_place_tree.new.growth.items.items found.0
          c.in_ok-growth.ensures.items found.1,
    )

-- the tree gives a match among the places that were kept, which is the one cube that the scenario matches
pub returns : goal.returns
returns c s few =
    let cubes : List (List Literal) = map (λ (b : Bor (List Literal)). b.now) c.args.cubes.now in
    -- the tree that was added finds the matches among the places
    let found = (OnTrue_at c.if-not-has_tree.false c.in_ok-has_tree.ensures.added).found in
    let is = all_added c.in_ok-growth.growth.items.items c.build_place_tree.new.growth.items.items found.0
    c.in_ok-growth.ensures.items found.1 in
    let lies = c.whole-space.ensures.lies s few in
    subst (λ (x : Option ℕ). IsPlaceOfMatch cubes x s) (sym (ap (λ (p : PlacesState). place_at p s) c.grown.ensures
    ∙ place_is c.build_place_tree.new.growth.items.items found.0 s is))
    (found_of_all cubes (places_of c.in_ok-hints.hints.items) s (λ i m. c.in_ok-hints.ensures s i lies m)
    (value_at found.0 s) (found.2 s lies))
