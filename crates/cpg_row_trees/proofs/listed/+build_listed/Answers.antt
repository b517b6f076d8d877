-- Proof of `build_listed`, which adds the tree for the scenarios of a space, whose first cube is at a place, and
-- returns the place behind its last cube; the space is as before then.
use Rattle.std.proofs.Common.{ℕ, arith, rules, refl, map, ap, take, Bor, List, Option, None, Some, ◌≡◌, ◌++◌, ◌∙◌, sym}
use Rattle.std.proofs.Common.{subst}
use Rattle.std.proofs.lemmas.Bool.{OnTrue_at}
use Rattle.cpg_cube.specs.declared.literal.Literal.{Literal}
use Rattle.cpg_tree.specs.TreeNode.{TreeNode, Leaf}
use Rattle.cpg_tree.specs.Flat.{flat}
use Rattle.cpg_tree.specs.declared.item.TreeItem.{TreeItem}
use Rattle.cpg_tree.specs.declared.space.Space.{Space}
use Rattle.cpg_tree.proofs.Forks.{from_true}
use Rattle.cpg_row_trees.specs.declared.places.TreeGrowth.{TreeGrowth}
use Rattle.cpg_row_trees.specs.Listed.{IsOwnOn}
use Rattle.cpg_row_trees.specs.Slices.{AddsSliceTree, IsOwn}
use Rattle.cpg_row_trees.proofs.PlaceHintLaws.{cube_here, within_lent}
use Rattle.cpg_row_trees.proofs.ListedLaws.{at_some, ranges_under, ranges_over, on_under, on_over, listed_parted}
use Rattle.cpg_row_trees.proofs.SliceLaws.{finds_here, finds_nowhere, slice_tree_leaf, above_again, below_again}
use Rattle.cpg_row_trees.proofs.SliceLaws.{over_again, goes_again}
use Rattle.cpg_row_trees.proofs.Longer.{open_again, slice_longer}
use Rattle.cpg_row_trees.proofs.listed.+build_listed.Goals as goal

-- the space below the cut has fewer items left, and its ranges and the first literals say which scenarios are in it
pub build_listed_fork-build_listed-requires : goal.build_listed_fork-build_listed-requires
build_listed_fork-build_listed-requires t c =
    let space : Space = c.args.space.now in
    let under : Space = c.close_above-old_high.new.self in
    let variable = c.args.part.cut.variable in
    let cut = c.args.part.cut.most in (
      omega (arith, c.decreases),
      (
        ranges_under c.args.k space under variable cut (search rules) c.requires.ranges c.requires.open
            c.see_lists-is_seen.ensures.highs c.close_above-old_high.ensures.is c.close_above-old_high.ensures.lies,
        on_under c.args.k space under variable cut
            (search rules) c.requires.ranges c.requires.open c.see_lists-is_seen.ensures.highs
            c.close_above-old_high.ensures.is c.close_above-old_high.ensures.lies _ c.requires.own,
      ),
    )

-- the cut is open in the space that is opened again, which is the given one
pub build_listed_fork-close_below-old_low-requires : goal.build_listed_fork-close_below-old_low-requires
build_listed_fork-close_below-old_low-requires t c =
    let space : Space = c.args.space.now in
    let under : Space = c.close_above-old_high.new.self in
    let again : Space = c.reopen_above.new.self in
    let variable = c.args.part.cut.variable in
    let same : c.build_listed.new.space ≡ under = at_some (λ to. c.build_listed.new.space ≡ under) c.in_ok-below.below
    c.in-Some.border c.in-Some.is c.in_ok-below.ensures.same in
    let back : again ≡ space = above_again space under c.build_listed.new.space again variable same
    c.close_above-old_high.result
    c.reopen_above.ensures c.close_above-old_high.ensures.back in
    let is_open = open_again space again variable c.args.part.cut.most back c.requires.open in
    record { below = is_open.below; above = is_open.above }

-- so they do for the space above the cut, once that below is put back
pub build_listed_fork-build_listed_above-requires : goal.build_listed_fork-build_listed_above-requires
build_listed_fork-build_listed_above-requires t c =
    let cubes : List (List Literal) = map (λ (b : Bor (List Literal)). b.now) c.args.cubes.now in
    let space : Space = c.args.space.now in
    let variable = c.args.part.cut.variable in
    let cut = c.args.part.cut.most in
    -- the space below the cut, the one above it, and the space as it is opened again
    let under : Space = c.close_above-old_high.new.self in
    let over : Space = c.close_below-old_low.new.self in
    let again : Space = c.reopen_above.new.self in
    -- the side below leaves its space as it was, so that what is opened again is the given space
    let same : c.build_listed.new.space ≡ under = at_some (λ to. c.build_listed.new.space ≡ under) c.in_ok-below.below
    c.in-Some.border c.in-Some.is c.in_ok-below.ensures.same in
    let low =
    at_some (λ to. AddsSliceTree cubes c.args.k under c.args.place to c.args.growth.now c.build_listed.new.growth)
    c.in_ok-below.below c.in-Some.border c.in-Some.is c.in_ok-below.ensures.added in
    let back : again ≡ space = above_again space under c.build_listed.new.space again variable same
    c.close_above-old_high.result
    c.reopen_above.ensures c.close_above-old_high.ensures.back in
    let is_over = over_again space again over variable cut back c.close_below-old_low.ensures.is in
    let goes_over = goes_again space again over variable cut back c.close_below-old_low.ensures.lies in (
      -- fewer items are left, and the space above is known by its ranges and by its literals
      omega (arith, c.decreases, low.fewer),
      (
        ranges_over c.args.k space over variable cut
            (search rules) c.requires.ranges c.requires.open c.see_lists-is_seen.ensures.lows is_over goes_over,
        on_over c.args.k space over variable cut (search rules) c.requires.ranges c.requires.open
            c.see_lists-is_seen.ensures.lows is_over goes_over _ c.requires.own,
      ),
    )

-- each side has added its tree behind what was there
pub build_listed_fork-plain_fork-requires : goal.build_listed_fork-plain_fork-requires
build_listed_fork-plain_fork-requires t c =
    let cubes : List (List Literal) = map (λ (b : Bor (List Literal)). b.now) c.args.cubes.now in
    let low = at_some (λ to.
    AddsSliceTree cubes c.args.k c.close_above-old_high.new.self c.args.place to c.args.growth.now
    c.build_listed.new.growth) c.in_ok-below.below c.in-Some.border c.in-Some.is c.in_ok-below.ensures.added in
    let high = at_some (λ to.
    AddsSliceTree cubes c.args.k c.close_below-old_low.new.self c.in-Some.border to c.build_listed.new.growth
    c.build_listed_above.new.growth) c.in_ok-above.above c.in-Some-above.to c.in-Some-above.is
    c.in_ok-above.ensures.added in
    let first = c.len-start.ensures ∙ c.args.growth.now.items.ok.0 in
    let second = c.len-middle.ensures ∙ c.build_listed.new.growth.items.ok.0 in
    record {
      order = omega (arith, first, second, slice_longer low);
      long = omega (arith, second, slice_longer high);
    }

-- the trees of the two slices, under the fork, are the tree of the whole slice, and the space is as before
pub build_listed_fork-returns : goal.build_listed_fork-returns
build_listed_fork-returns t c =
    let cubes : List (List Literal) = map (λ (b : Bor (List Literal)). b.now) c.args.cubes.now in
    let space : Space = c.args.space.now in
    let variable = c.args.part.cut.variable in
    let cut = c.args.part.cut.most in
    let under : Space = c.close_above-old_high.new.self in
    let over : Space = c.close_below-old_low.new.self in
    -- the space below the cut, the one above it, and the space as it is opened again
    let again : Space = c.reopen_above.new.self in
    let same : c.build_listed.new.space ≡ under = at_some (λ to. c.build_listed.new.space ≡ under) c.in_ok-below.below
    c.in-Some.border c.in-Some.is c.in_ok-below.ensures.same in
    -- the side below has added its tree, and the space is opened again
    let low =
    at_some (λ to. AddsSliceTree cubes c.args.k under c.args.place to c.args.growth.now c.build_listed.new.growth)
    c.in_ok-below.below c.in-Some.border c.in-Some.is c.in_ok-below.ensures.added in
    let back : again ≡ space = above_again space under c.build_listed.new.space again variable same
    c.close_above-old_high.result
    c.reopen_above.ensures c.close_above-old_high.ensures.back in
    let is_over = over_again space again over variable cut back c.close_below-old_low.ensures.is in
    let goes_over = goes_again space again over variable cut back c.close_below-old_low.ensures.lies in
    -- the side above has added its tree, behind that of the side below
    let new : TreeGrowth = record { items = c.plain_fork.new.out; left = c.build_listed_above.new.growth.left } in
    let same_over : c.build_listed_above.new.space ≡ over = at_some (λ to. c.build_listed_above.new.space ≡ over)
    c.in_ok-above.above c.in-Some-above.to c.in-Some-above.is c.in_ok-above.ensures.same in
    let high = at_some (λ to.
    AddsSliceTree cubes c.args.k over c.in-Some.border to c.build_listed.new.growth c.build_listed_above.new.growth)
    c.in_ok-above.above c.in-Some-above.to c.in-Some-above.is
    c.in_ok-above.ensures.added in
    -- the tree is made of those of the sides, and the space is as before
    record {
      added = listed_parted cubes c.args.k space under over c.args.place c.in-Some.border
          c.in-Some-above.to variable cut
          (search rules) c.see_lists-is_seen.ensures.lows c.see_lists-is_seen.ensures.highs
          c.requires.ranges c.requires.open c.close_above-old_high.ensures.is is_over
          c.close_above-old_high.ensures.lies goes_over
          c.len-start.result c.len-middle.result c.args.growth.now c.build_listed.new.growth
          c.build_listed_above.new.growth new c.in_ok-plain_fork.ensures.made refl
          (c.len-start.ensures ∙ c.args.growth.now.items.ok.0)
          (c.len-middle.ensures ∙ c.build_listed.new.growth.items.ok.0) low high;
      same = below_again again over c.build_listed_above.new.space c.reopen_below.new.self variable same_over
          c.close_below-old_low.result c.reopen_below.ensures c.close_below-old_low.ensures.back ∙ back;
    }

-- the next cube has the same first literals, so these and the variable's range say which scenarios are in the space
pub build_listed_above-build_listed-requires : goal.build_listed_above-build_listed-requires
build_listed_above-build_listed-requires t c =
    let next = from_true c.next_above.result c.if-next_above.true c.next_above.ensures in (
      omega (arith, c.decreases),
      (
        c.requires.ranges,
        subst (λ (ls : List Literal). IsOwnOn c.args.k c.args.space.now ls c.args.part.cut.variable)
            (sym next.same) c.requires.own,
      ),
    )

-- a leaf without a place is the tree of a slice without cubes
pub build_listed_above-returns-clause-added : goal.build_listed_above-returns-clause-added
build_listed_above-returns-clause-added t c =
    let cubes : List (List Literal) = map (λ (b : Bor (List Literal)). b.now) c.args.cubes.now in
    let leaf : TreeNode (Option ℕ) = Leaf None in
    slice_tree_leaf cubes c.args.k c.args.space.now c.args.place c.args.place None c.args.growth.now c.add_leaf.new.self
    (finds_nowhere cubes c.args.k c.args.space.now c.args.place c.args.place (omega arith))
    (c.in_ok-add_leaf.ensures.items
    ∙ ap (λ (xs : List (TreeItem (Option ℕ))). xs ++ flat leaf) c.may_grow.ensures.items)
    (omega (arith, c.in_ok-add_leaf.ensures.left, OnTrue_at c.if-not-may_grow.false c.may_grow.ensures.left))

-- the cube's first literals and the variable's range say which scenarios are in the space
pub build_listed-top_on-requires : goal.build_listed-top_on-requires
build_listed-top_on-requires t c =
    -- the cube that was looked up is the one at its place in the list
    let look = c.in-Some.ensures.lookup in
    let at = cube_here c.args.cubes.now c.args.place c.in-Some.cube.now look.3.0 look.1 in
    subst
    (λ (ls : List Literal). IsOwnOn c.args.k c.args.space.now (take c.args.part.depth ls) c.args.part.cut.variable)
    (at ∙ sym c.literals-literals.ensures.literals) c.requires.own

-- there are fewer items left, and the cut that the cube gives is open on both sides
pub build_listed-build_listed_fork-requires : goal.build_listed-build_listed_fork-requires
build_listed-build_listed_fork-requires t c =
    -- the cube that was looked up is the one at its place in the list
    let look = c.in-Some.ensures.lookup in
    let at = cube_here c.args.cubes.now c.args.place c.in-Some.cube.now look.3.0 look.1 in (
      omega (arith, c.decreases, OnTrue_at c.if-not-may_grow.false c.may_grow.ensures.left),
      (
        c.in-Fork.ensures.0,
        (
          c.requires.ranges,
          subst (λ (ls : List Literal).
              IsOwnOn c.args.k c.args.space.now (take c.in-Fork.next.depth ls) c.in-Fork.next.cut.variable)
              (c.literals-literals.ensures.literals ∙ sym at) c.in-Fork.ensures.1,
        ),
      ),
    )

-- the cube's scenarios are those of the space, so a leaf with its place is the tree of its slice
pub build_listed-returns-in_ok-add_leaf-in-Own-clause-added :
    goal.build_listed-returns-in_ok-add_leaf-in-Own-clause-added
build_listed-returns-in_ok-add_leaf-in-Own-clause-added t c =
    -- the cube that was looked up is the one at its place in the list
    let look = c.in-Some.ensures.lookup in
    let cubes : List (List Literal) = map (λ (b : Bor (List Literal)). b.now) c.args.cubes.now in
    let at = cube_here c.args.cubes.now c.args.place c.in-Some.cube.now look.3.0 look.1 in
    let leaf : TreeNode (Option ℕ) = Leaf (Some c.args.place) in
    slice_tree_leaf cubes c.args.k c.args.space.now c.args.place c.saturating_add.result
    (Some c.args.place) c.args.growth.now c.add_leaf.new.self
    (finds_here cubes c.args.k c.args.space.now c.args.place c.saturating_add.result
    (within_lent c.args.cubes.now c.args.place c.in-Some.cube.now look.3.0 look.1)
    (omega (arith, c.saturating_add.ensures))
    (subst (IsOwn c.args.k c.args.space.now) (c.literals-literals.ensures.literals ∙ sym at) c.in-Own.ensures))
    (c.in_ok-add_leaf-in-Own.ensures.items
    ∙ ap (λ (xs : List (TreeItem (Option ℕ))). xs ++ flat leaf) c.may_grow.ensures.items)
    (omega (arith, c.in_ok-add_leaf-in-Own.ensures.left, OnTrue_at c.if-not-may_grow.false c.may_grow.ensures.left))
