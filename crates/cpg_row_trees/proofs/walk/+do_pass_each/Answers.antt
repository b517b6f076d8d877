-- Proof of `do_pass_each`: whether a test passes at each place that scenarios of a space come to.
use Rattle.std.proofs.Common.{ℕ, ◌≡◌, ◌∙◌, Option, sym}
use Rattle.cpg_base.specs.Scenario.{Scenario}
use Rattle.cpg_tree.specs.TreeNode.{Leaf, Fork}
use Rattle.cpg_tree.specs.declared.space.Space.{Space}
use Rattle.cpg_tree.proofs.Flats.{flat-same}
use Rattle.cpg_tree.proofs.Forks.{from_false, from_true}
use Rattle.cpg_tree.proofs.Passes.{of_true}
use Rattle.cpg_row_trees.proofs.Passes.{holds_leaf, holds_above, holds_below, holds_fork}
use Rattle.cpg_row_trees.proofs.SliceLaws.{above_again, below_again, goes_again}
use Rattle.cpg_row_trees.proofs.Longer.{open_again}
use Rattle.cpg_row_trees.proofs.walk.+do_pass_each.Goals as goal

-- a leaf: the test has passed at its place, to which each scenario of the space comes
pub do_pass_each-returns-in-Value-clause-passed : goal.do_pass_each-returns-in-Value-clause-passed
do_pass_each-returns-in-Value-clause-passed g t c =
    of_true c.passes.result c.passes.ensures
    (λ all n are. holds_leaf (λ (x : Option ℕ) (s : Scenario). g.J.Test.guarantees c.args.test.now x s) c.args.space.now
    c.in-Value.place n
    (flat-same n (Leaf c.in-Value.place) (sym are ∙ c.in-Value.ensures.shows)) all)

-- no scenario of the space is below the cut, so the side above passes for all
pub do_pass_each-returns-then-not-is_open_below-clause-passed :
    goal.do_pass_each-returns-then-not-is_open_below-clause-passed
do_pass_each-returns-then-not-is_open_below-clause-passed g t c =
    -- what the top shows: the trees of both sides (0, 1), and that the lists are theirs (2, 3) and their fork's (4)
    let shows = c.in-Cut.ensures.shows in
    of_true c.do_pass_each.result c.do_pass_each.ensures.passed
    (λ all n are. holds_above (λ (x : Option ℕ) (s : Scenario). g.J.Test.guarantees c.args.test.now x s)
    c.args.space.now c.in-Cut.variable c.in-Cut.cut shows.0 shows.1 n
    (flat-same n (Fork c.in-Cut.variable c.in-Cut.cut shows.0 shows.1) (sym are ∙ shows.4)) (all shows.1 shows.3)
    (from_false c.is_open_below.result c.if-not-is_open_below.true c.is_open_below.ensures.none))

-- no scenario of the space is above the cut, so the side below passes for all
pub do_pass_each-returns-then-not-is_open_above-clause-passed :
    goal.do_pass_each-returns-then-not-is_open_above-clause-passed
do_pass_each-returns-then-not-is_open_above-clause-passed g t c =
    -- what the top shows: the trees of both sides (0, 1), and that the lists are theirs (2, 3) and their fork's (4)
    let shows = c.in-Cut.ensures.shows in
    of_true c.do_pass_each-then-not-is_open_above.result c.do_pass_each-then-not-is_open_above.ensures.passed
    (λ all n are. holds_below (λ (x : Option ℕ) (s : Scenario). g.J.Test.guarantees c.args.test.now x s)
    c.args.space.now c.in-Cut.variable c.in-Cut.cut shows.0 shows.1 n
    (flat-same n (Fork c.in-Cut.variable c.in-Cut.cut shows.0 shows.1) (sym are ∙ shows.4)) (all shows.0 shows.2)
    (from_false c.is_open_above.result c.if-not-is_open_above.true c.is_open_above.ensures.none))

-- both sides pass, and each scenario of the space lies in one of them
pub do_pass_each-returns-else-not-do_pass_side-2-clause-passed :
    goal.do_pass_each-returns-else-not-do_pass_side-2-clause-passed
do_pass_each-returns-else-not-do_pass_side-2-clause-passed g t c n are =
    -- what the top shows: the trees of both sides (0, 1), and that the lists are theirs (2, 3) and their fork's (4)
    let shows = c.in-Cut.ensures.shows in
    let space : Space = c.args.space.now in
    let variable = c.in-Cut.variable in
    let cut = c.in-Cut.cut in
    -- the space below the cut, the one above it, and the space as it is opened again
    let under : Space = c.close_above-old_high.new.self in
    let over : Space = c.close_below-old_low.new.self in
    let again : Space = c.reopen_above.new.self in
    -- the side below leaves its space as it was, so that what is opened again is the given space
    let same : c.do_pass_side.new.space ≡ under =
    from_true c.do_pass_side.result c.if-not-do_pass_side.false c.do_pass_side.ensures.same in
    let back : again ≡ space = above_again space under c.do_pass_side.new.space again variable same
    c.close_above-old_high.result
    c.reopen_above.ensures c.close_above-old_high.ensures.back in
    let goes_over = goes_again space again over variable cut back c.close_below-old_low.ensures.lies in
    -- the test passes below the cut and above it
    let low =
    from_true c.do_pass_side.result c.if-not-do_pass_side.false c.do_pass_side.ensures.passed shows.0 shows.2 in
    let high = from_true c.do_pass_side-in-Cut.result c.if-not-do_pass_side-2.false c.do_pass_side-in-Cut.ensures.passed
    shows.1 shows.3 in
    -- so it passes at each place that a scenario of the space comes to
    holds_fork (λ (x : Option ℕ) (s : Scenario). g.J.Test.guarantees c.args.test.now x s) space
    variable cut shows.0 shows.1 n
    (flat-same n (Fork variable cut shows.0 shows.1) (sym are ∙ shows.4))
    (λ s lies h. low s (c.close_above-old_high.ensures.lies s lies h)) (λ s lies h. high s (goes_over s lies h))

-- the cut is open in the space that is opened again, which is the given one
pub do_pass_each-close_below-old_low-requires : goal.do_pass_each-close_below-old_low-requires
do_pass_each-close_below-old_low-requires g t c =
    let space : Space = c.args.space.now in
    let under : Space = c.close_above-old_high.new.self in
    let again : Space = c.reopen_above.new.self in
    let variable = c.in-Cut.variable in
    let same : c.do_pass_side.new.space ≡ under =
    from_true c.do_pass_side.result c.if-not-do_pass_side.false c.do_pass_side.ensures.same in
    let back : again ≡ space = above_again space under c.do_pass_side.new.space again variable same
    c.close_above-old_high.result c.reopen_above.ensures c.close_above-old_high.ensures.back in
    let is_open = open_again space again variable c.in-Cut.cut back (record {
      below = sym c.is_open_below.ensures.is ∙ c.if-not-is_open_below.false;
      above = sym c.is_open_above.ensures.is ∙ c.if-not-is_open_above.false;
    }) in
    record { below = is_open.below; above = is_open.above }

-- each side leaves its space as it was, so that what is opened again at the end is the given space
pub do_pass_each-returns-else-not-do_pass_side-2-clause-same :
    goal.do_pass_each-returns-else-not-do_pass_side-2-clause-same
do_pass_each-returns-else-not-do_pass_side-2-clause-same g t c =
    let space : Space = c.args.space.now in
    let variable = c.in-Cut.variable in
    let under : Space = c.close_above-old_high.new.self in
    let over : Space = c.close_below-old_low.new.self in
    let again : Space = c.reopen_above.new.self in
    let same_under : c.do_pass_side.new.space ≡ under =
    from_true c.do_pass_side.result c.if-not-do_pass_side.false c.do_pass_side.ensures.same in
    let same_over : c.do_pass_side-in-Cut.new.space ≡ over =
    from_true c.do_pass_side-in-Cut.result c.if-not-do_pass_side-2.false c.do_pass_side-in-Cut.ensures.same in
    below_again again over c.do_pass_side-in-Cut.new.space c.reopen_below.new.self variable same_over
    c.close_below-old_low.result c.reopen_below.ensures c.close_below-old_low.ensures.back
    ∙ above_again space under c.do_pass_side.new.space again variable same_under c.close_above-old_high.result
    c.reopen_above.ensures c.close_above-old_high.ensures.back

-- a leaf: the test has passed at its place, to which each scenario of the space comes
pub do_pass_side-returns-in-Value-clause-passed : goal.do_pass_side-returns-in-Value-clause-passed
do_pass_side-returns-in-Value-clause-passed g t c =
    of_true c.passes.result c.passes.ensures
    (λ all n are. holds_leaf (λ (x : Option ℕ) (s : Scenario). g.J.Test.guarantees c.args.test.now x s) c.args.space.now
    c.in-Value.place n
    (flat-same n (Leaf c.in-Value.place) (sym are ∙ c.in-Value.ensures.shows)) all)
