-- Proof of `build_slice_tree`, which adds the tree of a slice for the scenarios of a space, which are those that the
-- literals of a path match, and leaves the space and the path as they were.
use Rattle.std.proofs.Common.{ℕ, arith, rules, refl, map, ap, length, Bor, List, Option, ◌≡◌, ◌++◌, ◌∙◌, ◌&&◌}
use Rattle.std.proofs.lemmas.Bool.{OnTrue_at}
use Rattle.cpg_cube.specs.declared.literal.Literal.{Literal}
use Rattle.cpg_tree.specs.TreeNode.{TreeNode, Leaf}
use Rattle.cpg_tree.specs.Flat.{flat}
use Rattle.cpg_tree.specs.declared.item.TreeItem.{TreeItem}
use Rattle.cpg_tree.specs.declared.space.Space.{Space}
use Rattle.cpg_cube.specs.Cube.{holds, matches}
use Rattle.cpg_row_trees.specs.declared.places.TreeGrowth.{TreeGrowth}
use Rattle.cpg_row_trees.specs.Slices.{left_by}
use Rattle.cpg_row_trees.proofs.SliceLaws.{under_reached, over_reached, own_under, own_over, slice_tree_leaf}
use Rattle.cpg_row_trees.proofs.SliceLaws.{slice_tree_parted, above_again, below_again, over_again, goes_again}
use Rattle.cpg_row_trees.proofs.Longer.{open_again, slice_longer}
use Rattle.cpg_row_trees.proofs.slices.+build_slice_tree.Goals as goal

-- forks lead to the side below the cut, and the path with the range below says which scenarios are in it
pub build_forked_slice-build_slice_tree-requires : goal.build_forked_slice-build_slice_tree-requires
build_forked_slice-build_slice_tree-requires t c = (
  -- the measure, that forks lead to the side, and that the path is its own
  omega (arith, c.decreases),
  (
    under_reached c.args.k c.args.space.now c.close_above-old_high.new.self c.args.part.cut.variable c.args.part.cut.most
        c.args.slice.narrow c.in-Some.narrow
        (search rules) c.sides_of-sides.ensures.highs c.requires.reached c.requires.open c.in-Some.ensures
        c.close_above-old_high.ensures.is c.close_above-old_high.ensures.lies,
    own_under c.args.k c.args.space.now c.close_above-old_high.new.self c.args.part.cut.variable c.args.part.cut.most
        c.args.slice.narrow c.in-Some.narrow
        (search rules) c.requires.reached c.requires.open c.in-Some.ensures
        c.args.path.now.items c.enter.new.path.items c.requires.own c.sides_of-sides.ensures.highs
        c.close_above-old_high.ensures.is c.close_above-old_high.ensures.lies c.sides_of-sides.result.below
        c.sides_of-sides.ensures.sides.below c.in_ok-under.ensures.both,
  ),
)

-- forks lead to the side above the cut, and the path with the range above says which scenarios are in it; for this the space
-- and the path are as they were before the side below
pub build_forked_slice-build_slice_tree-requires-2 : goal.build_forked_slice-build_slice_tree-requires-2
build_forked_slice-build_slice_tree-requires-2 t c =
    let space : Space = c.args.space.now in
    let variable = c.args.part.cut.variable in
    let cut = c.args.part.cut.most in
    -- the space below the cut, the one above it, and the space as it is opened again
    let under : Space = c.close_above-old_high.new.self in
    let over : Space = c.close_below-old_low.new.self in
    let again : Space = c.reopen_above.new.self in
    -- the side below leaves its space as it was, so that what is opened again is the given space
    let same : c.build_slice_tree.new.space ≡ under =
    OnTrue_at c.if-not-has_below.false c.in_ok-has_below.ensures.same in
    let back : again ≡ space = above_again space under c.build_slice_tree.new.space again variable same
    c.close_above-old_high.result c.reopen_above.ensures c.close_above-old_high.ensures.back in
    let is_over = over_again space again over variable cut back c.close_below-old_low.ensures.is in
    let goes_over = goes_again space again over variable cut back c.close_below-old_low.ensures.lies in
    let below = OnTrue_at c.if-not-has_below.false c.in_ok-has_below.ensures.added in
    -- the path is left as it was entered
    let same_path : c.build_slice_tree.new.path.items ≡ c.enter.new.path.items =
    OnTrue_at c.if-not-has_below.false c.in_ok-has_below.ensures.path in
    let left : c.leave.new.path.items ≡ c.args.path.now.items =
    c.leave.ensures ∙ ap (left_by c.in_ok-under.under) same_path ∙ c.in_ok-under.ensures.back in (
      -- fewer items are left; the scenarios of the space above, by its literals and by its ranges
      omega (arith, c.decreases, below.fewer),
      (
        over_reached c.args.k space over variable cut c.args.slice.narrow c.in-Some.narrow (search rules)
            c.sides_of-sides.ensures.lows c.requires.reached c.requires.open c.in-Some.ensures is_over goes_over,
        own_over c.args.k space over variable cut c.args.slice.narrow c.in-Some.narrow
            (search rules) c.requires.reached c.requires.open c.in-Some.ensures
            c.args.path.now.items c.enter-2.new.path.items c.requires.own c.sides_of-sides.ensures.lows is_over
            goes_over c.sides_of-sides.result.above c.sides_of-sides.ensures.sides.above
            (λ s. c.in_ok-over.ensures.both s
            ∙ ap (λ (ls : List Literal). matches ls s && holds s c.sides_of-sides.result.above) left),
      ),
    )

-- the cut is open in the space that is opened again, which is the given one
pub build_forked_slice-close_below-old_low-requires : goal.build_forked_slice-close_below-old_low-requires
build_forked_slice-close_below-old_low-requires t c =
    let space : Space = c.args.space.now in
    let under : Space = c.close_above-old_high.new.self in
    let again : Space = c.reopen_above.new.self in
    let variable = c.args.part.cut.variable in
    let same : c.build_slice_tree.new.space ≡ under =
    OnTrue_at c.if-not-has_below.false c.in_ok-has_below.ensures.same in
    let back : again ≡ space = above_again space under c.build_slice_tree.new.space again variable same
    c.close_above-old_high.result c.reopen_above.ensures c.close_above-old_high.ensures.back in
    let is_open = open_again space again variable c.args.part.cut.most back c.requires.open in
    record { below = is_open.below; above = is_open.above }

-- each side has added its tree behind what was there
pub build_forked_slice-plain_fork-requires : goal.build_forked_slice-plain_fork-requires
build_forked_slice-plain_fork-requires t c =
    let first = c.len-start.ensures ∙ c.args.growth.now.items.ok.0 in
    let second = c.len-middle.ensures ∙ c.build_slice_tree.new.growth.items.ok.0 in
    let low = OnTrue_at c.if-not-has_below.false c.in_ok-has_below.ensures.added in
    let high = OnTrue_at c.if-not-has_above.false c.in_ok-has_above.ensures.added in
    record {
      order = omega (arith, first, second, slice_longer low);
      long = omega (arith, second, slice_longer high);
    }

-- the trees of both slices, under the fork, are the tree of the whole slice; the space and the path are as before
pub build_forked_slice-returns : goal.build_forked_slice-returns
build_forked_slice-returns t c =
    let space : Space = c.args.space.now in
    let variable = c.args.part.cut.variable in
    let cut = c.args.part.cut.most in
    -- the space below the cut, the one above it, and the space as it is opened again
    let under : Space = c.close_above-old_high.new.self in
    let over : Space = c.close_below-old_low.new.self in
    let again : Space = c.reopen_above.new.self in
    -- each side leaves its space as it was, so that what is opened again is the given space
    let same : c.build_slice_tree.new.space ≡ under =
    OnTrue_at c.if-not-has_below.false c.in_ok-has_below.ensures.same in
    let back : again ≡ space = above_again space under c.build_slice_tree.new.space again variable same
    c.close_above-old_high.result c.reopen_above.ensures c.close_above-old_high.ensures.back in
    let is_over = over_again space again over variable cut back c.close_below-old_low.ensures.is in
    let goes_over = goes_again space again over variable cut back c.close_below-old_low.ensures.lies in
    let cubes : List (List Literal) = map (λ (b : Bor (List Literal)). b.now) c.args.cubes.now in
    let new : TreeGrowth = record { items = c.plain_fork.new.out; left = c.build_slice_tree-2.new.growth.left } in
    let same_over : c.build_slice_tree-2.new.space ≡ over =
    OnTrue_at c.if-not-has_above.false c.in_ok-has_above.ensures.same in
    -- each side leaves the path as it was entered
    let same_path : c.build_slice_tree.new.path.items ≡ c.enter.new.path.items =
    OnTrue_at c.if-not-has_below.false c.in_ok-has_below.ensures.path in
    let left : c.leave.new.path.items ≡ c.args.path.now.items =
    c.leave.ensures ∙ ap (left_by c.in_ok-under.under) same_path ∙ c.in_ok-under.ensures.back in
    let same_above : c.build_slice_tree-2.new.path.items ≡ c.enter-2.new.path.items =
    OnTrue_at c.if-not-has_above.false c.in_ok-has_above.ensures.path in
    -- the tree is made of those of the sides; path and space are as before
    record {
      added = slice_tree_parted cubes c.args.k space under over c.args.slice.from c.border_of-border.result
          c.args.slice.to variable cut c.args.slice.narrow c.in-Some.narrow
          (search rules) c.sides_of-sides.ensures.lows c.sides_of-sides.ensures.highs c.requires.reached c.requires.open
          c.in-Some.ensures c.close_above-old_high.ensures.is is_over
          c.close_above-old_high.ensures.lies goes_over
          c.len-start.result c.len-middle.result c.args.growth.now c.build_slice_tree.new.growth
          c.build_slice_tree-2.new.growth new c.in_ok-plain_fork.ensures.made refl
          (c.len-start.ensures ∙ c.args.growth.now.items.ok.0)
          (c.len-middle.ensures ∙ c.build_slice_tree.new.growth.items.ok.0)
          (OnTrue_at c.if-not-has_below.false c.in_ok-has_below.ensures.added)
          (OnTrue_at c.if-not-has_above.false c.in_ok-has_above.ensures.added);
      path = c.leave-2.ensures ∙ ap (left_by c.in_ok-over.over) same_above ∙ c.in_ok-over.ensures.back ∙ left;
      same = below_again again over c.build_slice_tree-2.new.space c.reopen_below.new.self variable same_over
          c.close_below-old_low.result c.reopen_below.ensures c.close_below-old_low.ensures.back ∙ back;
    }

-- The call for the side below leaves the path as it was entered, so it isn't empty, and its last literal can be taken back.
pub build_forked_slice-leave-requires : goal.build_forked_slice-leave-requires
build_forked_slice-leave-requires t c =
    let same_path : c.build_slice_tree.new.path.items ≡ c.enter.new.path.items =
    OnTrue_at c.if-not-has_below.false c.in_ok-has_below.ensures.path in
    omega (arith, ap (λ (ls : List Literal). length ls) same_path, c.in_ok-under.ensures.some)

-- The call for the side above leaves the path as it was entered, so it isn't empty, and its last literal can be taken back.
pub build_forked_slice-leave-requires-2 : goal.build_forked_slice-leave-requires-2
build_forked_slice-leave-requires-2 t c =
    let same_above : c.build_slice_tree-2.new.path.items ≡ c.enter-2.new.path.items =
    OnTrue_at c.if-not-has_above.false c.in_ok-has_above.ensures.path in
    omega (arith, ap (λ (ls : List Literal). length ls) same_above, c.in_ok-over.ensures.some)

-- the leaf finds the matches of the slice, so it is the slice's tree
pub build_slice_tree-returns-in_ok-add_leaf-in-Leaf-clause-added :
    goal.build_slice_tree-returns-in_ok-add_leaf-in-Leaf-clause-added
build_slice_tree-returns-in_ok-add_leaf-in-Leaf-clause-added t c =
    let cubes : List (List Literal) = map (λ (b : Bor (List Literal)). b.now) c.args.cubes.now in
    let leaf : TreeNode (Option ℕ) = Leaf c.in-Leaf.place in
    slice_tree_leaf cubes c.args.k c.args.space.now c.args.slice.from c.args.slice.to c.in-Leaf.place c.args.growth.now
    c.add_leaf.new.self c.in-Leaf.ensures
    (c.in_ok-add_leaf-in-Leaf.ensures.items
    ∙ ap (λ (xs : List (TreeItem (Option ℕ))). xs ++ flat leaf) c.may_grow.ensures.items)
    (omega (arith, c.in_ok-add_leaf-in-Leaf.ensures.left, OnTrue_at c.if-not-may_grow.false c.may_grow.ensures.left))
