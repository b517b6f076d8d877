-- Proof of `do_pass`: whether a test passes at each place that scenarios of a space come to.
use Rattle.std.proofs.Common.{ℕ, ◌∙◌, Option, sym}
use Rattle.cpg_base.specs.Scenario.{Scenario}
use Rattle.cpg_tree.specs.TreeNode.{Leaf, Fork}
use Rattle.cpg_tree.proofs.Flats.{flat-same}
use Rattle.cpg_tree.proofs.Forks.{from_false}
use Rattle.cpg_tree.proofs.Passes.{of_true}
use Rattle.cpg_row_trees.proofs.Passes.{holds_leaf, holds_above, holds_below}
use Rattle.cpg_row_trees.proofs.walk.+do_pass.Goals as goal

-- a leaf: the test has passed at its place, to which each scenario of the space comes
pub returns-in-Value : goal.returns-in-Value
returns-in-Value g t c =
    of_true c.passes.result c.passes.ensures
    (λ all n are. holds_leaf (λ (x : Option ℕ) (s : Scenario). g.J.Test.guarantees c.args.test.now x s) c.args.space.now
    c.in-Value.place n
    (flat-same n (Leaf c.in-Value.place) (sym are ∙ c.in-Value.ensures.shows)) all)

-- no scenario of the space is below the cut, so the side above passes for all
pub returns-then-not-is_open_below : goal.returns-then-not-is_open_below
returns-then-not-is_open_below g t c =
    -- what the top shows: the trees of both sides (0, 1), and that the lists are theirs (2, 3) and their fork's (4)
    let shows = c.in-Cut.ensures.shows in
    of_true c.do_pass.result c.do_pass.ensures
    (λ all n are. holds_above (λ (x : Option ℕ) (s : Scenario). g.J.Test.guarantees c.args.test.now x s)
    c.args.space.now c.in-Cut.variable c.in-Cut.cut shows.0 shows.1 n
    (flat-same n (Fork c.in-Cut.variable c.in-Cut.cut shows.0 shows.1) (sym are ∙ shows.4)) (all shows.1 shows.3)
    (from_false c.is_open_below.result c.if-not-is_open_below.true c.is_open_below.ensures.none))

-- no scenario of the space is above the cut, so the side below passes for all
pub returns-then-not-is_open_above : goal.returns-then-not-is_open_above
returns-then-not-is_open_above g t c =
    -- what the top shows: the trees of both sides (0, 1), and that the lists are theirs (2, 3) and their fork's (4)
    let shows = c.in-Cut.ensures.shows in
    of_true c.do_pass-then-not-is_open_above.result c.do_pass-then-not-is_open_above.ensures
    (λ all n are. holds_below (λ (x : Option ℕ) (s : Scenario). g.J.Test.guarantees c.args.test.now x s)
    c.args.space.now c.in-Cut.variable c.in-Cut.cut shows.0 shows.1 n
    (flat-same n (Fork c.in-Cut.variable c.in-Cut.cut shows.0 shows.1) (sym are ∙ shows.4)) (all shows.0 shows.2)
    (from_false c.is_open_above.result c.if-not-is_open_above.true c.is_open_above.ensures.none))
