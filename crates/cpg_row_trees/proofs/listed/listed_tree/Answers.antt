-- Proof of `listed_tree`, which returns the tree of the places of cubes that were read off it, for all scenarios of at
-- most `k` faults.
use Rattle.std.proofs.Common.{ℕ, ◌∙◌, arith, map, Bor, List, Option, subst, sym, ap, length}
use Rattle.std.proofs.lemmas.Bool.{OnTrue_at}
use Rattle.std.proofs.lemmas.List.{length-map}
use Rattle.cpg_cube.specs.declared.literal.Literal.{Literal}
use Rattle.cpg_tree.proofs.Flats.{all_added}
use Rattle.cpg_row_trees.specs.PlacesState.{PlacesState}
use Rattle.cpg_row_trees.specs.Places.{place_at, IsPlaceOfMatch}
use Rattle.cpg_row_trees.proofs.SliceLaws.{whole_own, is_place_of_match}
use Rattle.cpg_row_trees.proofs.PlacesSeen.{place_is}
use Rattle.cpg_row_trees.proofs.listed.listed_tree.Goals as goal

-- the space is the whole: all scenarios of few faults lie in it, and it takes no literal to say so
pub build_all_listed-requires : goal.build_all_listed-requires
build_all_listed-requires c = record {
  ranges = λ s few in_side. c.whole-space.ensures.lies s few;
  own = whole_own c.args.k c.whole-space.result c.whole-space.ensures.lies;
}

-- the items were added to an empty list, so they are those of a tree
pub grown-requires : goal.grown-requires
grown-requires c =
    -- the tree that was added finds the cubes of the whole list
    let finds = (OnTrue_at c.if-not-has_tree.false c.in_ok-has_tree.ensures).finds in (
      finds.0,
      all_added c.in_ok-growth.growth.items.items c.build_all_listed.new.growth.items.items finds.0
          c.in_ok-growth.ensures.items finds.1,
    )

-- the tree finds the matches of all cubes, so it gives the place of the one that the scenario matches
pub returns : goal.returns
returns c s few =
    let cubes : List (List Literal) = map (λ (b : Bor (List Literal)). b.now) c.args.cubes.now in
    -- the tree that was added finds the cubes of the whole list
    let finds = (OnTrue_at c.if-not-has_tree.false c.in_ok-has_tree.ensures).finds in
    let is = all_added c.in_ok-growth.growth.items.items c.build_all_listed.new.growth.items.items finds.0
    c.in_ok-growth.ensures.items finds.1 in
    subst (λ (x : Option ℕ). IsPlaceOfMatch cubes x s) (sym (ap (λ (p : PlacesState). place_at p s) c.grown.ensures
    ∙ place_is c.build_all_listed.new.growth.items.items finds.0 s is))
    (is_place_of_match cubes c.args.k c.whole-space.result s few (c.whole-space.ensures.lies s few)
    (length c.args.cubes.now)
    (omega (arith, length-map c.args.cubes.now (λ (b : Bor (List Literal)). b.now))) finds.0 finds.2)
