-- Proof of `build_place_tree`, which adds the tree of these places for the scenarios of a space, and leaves the space
-- as it was.
use Rattle.std.proofs.Common.{ℕ, map, Bor, List, Option, subst, sym, ap, refl, arith, ◌≡◌, ◌≤◌, ◌<◌, ◌++◌, ◌∙◌}
use Rattle.std.proofs.lemmas.Bool.{OnTrue_at}
use Rattle.cpg_base.specs.Scenario.{number_of}
use Rattle.cpg_cube.specs.declared.literal.Literal.{Literal}
use Rattle.cpg_tree.specs.TreeNode.{TreeNode, Leaf}
use Rattle.cpg_tree.specs.Flat.{flat}
use Rattle.cpg_tree.specs.declared.item.TreeItem.{TreeItem}
use Rattle.cpg_tree.specs.declared.space.Space.{Space}
use Rattle.cpg_tree.specs.Space.{IsInSpace}
use Rattle.cpg_row_trees.specs.declared.places.PlaceCut.{PlaceCut}
use Rattle.cpg_row_trees.specs.declared.places.TreeGrowth.{TreeGrowth}
use Rattle.cpg_row_trees.specs.PlaceHints.{IsOpenCut, KeepsWhere, places_of}
use Rattle.cpg_row_trees.proofs.SliceLaws.{above_again, below_again, goes_again}
use Rattle.cpg_row_trees.proofs.PlaceHintLaws.{place_tree_parted, place_tree_leaf}
use Rattle.cpg_row_trees.proofs.Longer.{open_again, places_longer}
use Rattle.cpg_row_trees.proofs.places.+build_place_tree.Goals as goal

-- the cut is one that the space has open
pub build_forked_places-parted-requires : goal.build_forked_places-parted-requires
build_forked_places-parted-requires t c =
    subst (λ (x : PlaceCut). IsOpenCut c.args.space.now x.variable x.most) (sym c.span_of-span.ensures) c.requires

-- fewer items are left for the side below the fork
pub build_forked_places-build_place_tree-requires : goal.build_forked_places-build_place_tree-requires
build_forked_places-build_place_tree-requires t c = omega (arith, c.decreases, c.left_after-growth.ensures)

-- the cut is open in the space that is opened again, which is the given one
pub build_forked_places-close_below-old_low-requires : goal.build_forked_places-close_below-old_low-requires
build_forked_places-close_below-old_low-requires t c =
    let space : Space = c.args.space.now in
    let under : Space = c.close_above-old_high.new.self in
    let again : Space = c.reopen_above.new.self in
    let variable = c.args.cut.variable in
    let same : c.build_place_tree.new.space ≡ under =
    OnTrue_at c.if-not-has_below.false c.in_ok-has_below.ensures.same in
    let back : again ≡ space = above_again space under c.build_place_tree.new.space again variable same
    c.close_above-old_high.result c.reopen_above.ensures
    (c.close_above-old_high.ensures.back ∙ c.in_ok-sides.ensures.same) in
    let is_open = open_again space again variable c.args.cut.most back c.requires in
    record { below = is_open.below; above = is_open.above }

-- each side has added its tree behind what was there
pub build_forked_places-plain_fork-requires : goal.build_forked_places-plain_fork-requires
build_forked_places-plain_fork-requires t c =
    let first = c.len-start.ensures ∙ c.args.growth.now.items.ok.0 in
    let second = c.len-middle.ensures ∙ c.build_place_tree.new.growth.items.ok.0 in
    let low = OnTrue_at c.if-not-has_below.false c.in_ok-has_below.ensures.added in
    let high = OnTrue_at c.if-not-has_above.false c.in_ok-has_above.ensures.added in
    record {
      order = omega (arith, first, second, places_longer low);
      long = omega (arith, second, places_longer high);
    }

-- no more items are left for the side above the fork, behind the side below
pub build_forked_places-build_place_tree-requires-2 : goal.build_forked_places-build_place_tree-requires-2
build_forked_places-build_place_tree-requires-2 t c =
    let below = OnTrue_at c.if-not-has_below.false c.in_ok-has_below.ensures.added in
    omega (arith, c.decreases, c.left_after-growth.ensures, below.fewer)

-- the trees of the places kept on both sides, under the fork, are the tree of all, and the space is as before
pub build_forked_places-returns : goal.build_forked_places-returns
build_forked_places-returns t c =
    let space : Space = c.args.space.now in
    let kept : c.parted.new.space ≡ space = c.in_ok-sides.ensures.same in
    let variable = c.args.cut.variable in
    let cut = c.args.cut.most in
    -- the space below the cut, the one above it, and the space as it is opened again
    let under : Space = c.close_above-old_high.new.self in
    let over : Space = c.close_below-old_low.new.self in
    let again : Space = c.reopen_above.new.self in
    -- the side below leaves its space as it was, so that what is opened again is the given space
    let same : c.build_place_tree.new.space ≡ under =
    OnTrue_at c.if-not-has_below.false c.in_ok-has_below.ensures.same in
    let back : again ≡ space = above_again space under c.build_place_tree.new.space again variable same
    c.close_above-old_high.result c.reopen_above.ensures (c.close_above-old_high.ensures.back ∙ kept) in
    let goes_over = goes_again space again over variable cut back c.close_below-old_low.ensures.lies in
    -- the places that are kept for the sides: those of all that some scenario there may match
    let cubes : List (List Literal) = map (λ (b : Bor (List Literal)). b.now) c.args.cubes.now in
    let low = places_of c.in_ok-sides.sides.low.items in
    let high = places_of c.in_ok-sides.sides.high.items in
    let all = places_of c.args.hints.items in
    let rest : TreeGrowth = record { items = c.args.growth.now.items; left = c.left_after-growth.result } in
    let new : TreeGrowth = record { items = c.plain_fork.new.out; left = c.build_place_tree-2.new.growth.left } in
    let same_over : c.build_place_tree-2.new.space ≡ over =
    OnTrue_at c.if-not-has_above.false c.in_ok-has_above.ensures.same in
    let keeps_below : KeepsWhere cubes (λ s. number_of s variable ≤ cut) all low =
    subst (λ (x : PlaceCut). KeepsWhere cubes (λ s. number_of s x.variable ≤ x.most) all low) c.span_of-span.ensures
    (rw c.as_slice.ensures.value at c.in_ok-sides.ensures.low) in
    let keeps_above : KeepsWhere cubes (λ s. IsInSpace space s × (cut < number_of s variable)) all high =
    subst (λ (x : PlaceCut). KeepsWhere cubes (λ s. IsInSpace space s × (x.most < number_of s x.variable)) all high)
    c.span_of-span.ensures
    (rw c.as_slice.ensures.value at c.in_ok-sides.ensures.high) in
    -- the tree is made of those of the sides, and the space is opened again after the second
    record {
      added = place_tree_parted cubes space under over all low high variable cut c.len-start.result c.len-middle.result
          c.args.growth.now rest c.build_place_tree.new.growth
          c.build_place_tree-2.new.growth new
          c.in_ok-plain_fork.ensures.made refl c.left_after-growth.ensures refl
          (c.len-start.ensures ∙ c.args.growth.now.items.ok.0)
          (c.len-middle.ensures ∙ c.build_place_tree.new.growth.items.ok.0) keeps_below keeps_above
          (OnTrue_at c.if-not-has_below.false c.in_ok-has_below.ensures.added)
          (OnTrue_at c.if-not-has_above.false c.in_ok-has_above.ensures.added)
          (λ s lies. c.close_above-old_high.ensures.lies s (subst (λ (r : Space). IsInSpace r s) (sym kept) lies))
          goes_over;
      same = below_again again over c.build_place_tree-2.new.space c.reopen_below.new.self variable same_over
          c.close_below-old_low.result c.reopen_below.ensures c.close_below-old_low.ensures.back ∙ back;
    }

-- the leaf says which of the places a scenario of the space matches, so it is their tree
pub build_place_tree-returns-in_ok-add_leaf-in-Leaf-clause-added :
    goal.build_place_tree-returns-in_ok-add_leaf-in-Leaf-clause-added
build_place_tree-returns-in_ok-add_leaf-in-Leaf-clause-added t c =
    let cubes : List (List Literal) = map (λ (b : Bor (List Literal)). b.now) c.args.cubes.now in
    let leaf : TreeNode (Option ℕ) = Leaf c.in-Leaf.place in
    place_tree_leaf cubes c.args.space.now (places_of c.args.hints.items) c.in-Leaf.place c.args.growth.now
    c.add_leaf.new.self (rw c.as_slice.ensures.value at c.in-Leaf.ensures)
    (c.in_ok-add_leaf-in-Leaf.ensures.items
    ∙ ap (λ (xs : List (TreeItem (Option ℕ))). xs ++ flat leaf) c.may_grow.ensures.items)
    (omega (arith, c.in_ok-add_leaf-in-Leaf.ensures.left, OnTrue_at c.if-not-may_grow.false c.may_grow.ensures.left))
