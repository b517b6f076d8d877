-- Proof of `gather_each`, which adds the places that scenarios of a space come to.
use Rattle.std.proofs.Common.{ℕ, ◌≡◌, ◌∙◌, Option, sym}
use Rattle.std.proofs.lemmas.Bool.{OnTrue_at}
use Rattle.cpg_base.specs.Scenario.{Scenario}
use Rattle.cpg_tree.specs.TreeNode.{Leaf, Fork}
use Rattle.cpg_tree.specs.declared.space.Space.{Space}
use Rattle.cpg_row_trees.specs.Places.{IsAmong}
use Rattle.cpg_tree.proofs.Flats.{flat-same}
use Rattle.cpg_tree.proofs.Forks.{from_false, from_true}
use Rattle.cpg_row_trees.proofs.Gathered.{among_more}
use Rattle.cpg_tree.proofs.Passes.{of_true}
use Rattle.cpg_row_trees.proofs.Passes.{holds_leaf, holds_above, holds_below, holds_fork}
use Rattle.cpg_row_trees.proofs.SliceLaws.{above_again, below_again, goes_again}
use Rattle.cpg_row_trees.proofs.Longer.{open_again}
use Rattle.cpg_row_trees.proofs.gathering.+gather_each.Goals as goal

-- the tree is one leaf, whose place passes and was added
pub returns-in_ok-there-in-Value-clause-found : goal.returns-in_ok-there-in-Value-clause-found
returns-in_ok-there-in-Value-clause-found g t c =
    of_true c.in_ok-there-in-Value.there c.in_ok-there-in-Value.ensures.found
    (λ among n are. holds_leaf (λ (x : Option ℕ) (s : Scenario). g.J.Test.guarantees c.args.test.now x s ×
    IsAmong c.add_place.new.found.items x) c.args.space.now c.in-Value.place n
    (flat-same n (Leaf c.in-Value.place) (sym are ∙ c.in-Value.ensures.shows))
    (λ s lies. (from_true c.passes.result c.if-not-passes.false c.passes.ensures s lies, among)))

-- no scenario of the space is below the cut, so the places above it are all
pub returns-then-not-is_open_below-clause-found : goal.returns-then-not-is_open_below-clause-found
returns-then-not-is_open_below-clause-found g t c =
    -- what the top shows: the trees of both sides (0, 1), and that the lists are theirs (2, 3) and their fork's (4)
    let shows = c.in-Cut.ensures.shows in
    of_true c.in_ok-all-in-Cut.all c.in_ok-all-in-Cut.ensures.found
    (λ all n are. holds_above (λ (x : Option ℕ) (s : Scenario). g.J.Test.guarantees c.args.test.now x s ×
    IsAmong c.gather_each.new.found.items x) c.args.space.now c.in-Cut.variable c.in-Cut.cut
    shows.0
    shows.1 n (flat-same n (Fork c.in-Cut.variable c.in-Cut.cut shows.0 shows.1) (sym are ∙ shows.4))
    (all shows.1 shows.3)
    (from_false c.is_open_below.result c.if-not-is_open_below.true c.is_open_below.ensures.none))

-- no scenario of the space is above the cut, so the places below it are all
pub returns-then-not-is_open_above-clause-found : goal.returns-then-not-is_open_above-clause-found
returns-then-not-is_open_above-clause-found g t c =
    -- what the top shows: the trees of both sides (0, 1), and that the lists are theirs (2, 3) and their fork's (4)
    let shows = c.in-Cut.ensures.shows in
    of_true c.in_ok-all-in-Cut-2.all c.in_ok-all-in-Cut-2.ensures.found
    (λ all n are. holds_below (λ (x : Option ℕ) (s : Scenario). g.J.Test.guarantees c.args.test.now x s ×
    IsAmong c.gather_each-then-not-is_open_above.new.found.items x) c.args.space.now
    c.in-Cut.variable
    c.in-Cut.cut shows.0 shows.1 n
    (flat-same n (Fork c.in-Cut.variable c.in-Cut.cut shows.0 shows.1) (sym are ∙ shows.4)) (all shows.0 shows.2)
    (from_false c.is_open_above.result c.if-not-is_open_above.true c.is_open_above.ensures.none))

-- the places of both sides pass and were added, and each scenario of the space lies in one of the sides
pub returns-else-not-all_above-clause-found : goal.returns-else-not-all_above-clause-found
returns-else-not-all_above-clause-found g t c n are =
    -- what the top shows: the trees of both sides (0, 1), and that the lists are theirs (2, 3) and their fork's (4)
    let shows = c.in-Cut.ensures.shows in
    let space : Space = c.args.space.now in
    let variable = c.in-Cut.variable in
    let cut = c.in-Cut.cut in
    -- the space below the cut, the one above it, and the space as it is opened again
    let under : Space = c.close_above-old_high.new.self in
    let over : Space = c.close_below-old_low.new.self in
    let again : Space = c.reopen_above.new.self in
    let some = c.gather_each-in-Cut.new.found.items in
    let all = c.gather_each-in-Cut-2.new.found.items in
    -- the side below leaves its space as it was, so that what is opened again is the given space
    let same : c.gather_each-in-Cut.new.space ≡ under = OnTrue_at c.if-not-all_below.false c.in_ok-all_below-in-Cut.ensures.same in
    let back : again ≡ space = above_again space under c.gather_each-in-Cut.new.space again variable same
    c.close_above-old_high.result c.reopen_above.ensures c.close_above-old_high.ensures.back in
    let goes_over = goes_again space again over variable cut back c.close_below-old_low.ensures.lies in
    -- the places of both sides pass, and those of the side below are still among all
    let low = OnTrue_at c.if-not-all_below.false c.in_ok-all_below-in-Cut.ensures.found shows.0 shows.2 in
    let high = OnTrue_at c.if-not-all_above.false c.in_ok-all_above-in-Cut.ensures.found shows.1 shows.3 in
    holds_fork (λ (x : Option ℕ) (s : Scenario). g.J.Test.guarantees c.args.test.now x s ×
    IsAmong all x) space variable cut
    shows.0 shows.1 n (flat-same n (Fork variable cut shows.0 shows.1) (sym are ∙ shows.4))
    (λ s lies at_most. let among = low s (c.close_above-old_high.ensures.lies s lies at_most) in
    (among.0, among_more some all c.in_ok-all_above-in-Cut.ensures.kept _ among.1))
    (λ s lies above. high s (goes_over s lies above))

-- the places of both sides are added to those found before
pub returns-else-not-all_above-clause-kept : goal.returns-else-not-all_above-clause-kept
returns-else-not-all_above-clause-kept g t c i there =
    c.in_ok-all_above-in-Cut.ensures.kept i (c.in_ok-all_below-in-Cut.ensures.kept i there)

-- the cut is open in the space that is opened again, which is the given one
pub close_below-old_low-requires : goal.close_below-old_low-requires
close_below-old_low-requires g t c =
    let space : Space = c.args.space.now in
    let under : Space = c.close_above-old_high.new.self in
    let again : Space = c.reopen_above.new.self in
    let variable = c.in-Cut.variable in
    let same : c.gather_each-in-Cut.new.space ≡ under =
    OnTrue_at c.if-not-all_below.false c.in_ok-all_below-in-Cut.ensures.same in
    let back : again ≡ space = above_again space under c.gather_each-in-Cut.new.space again variable same
    c.close_above-old_high.result c.reopen_above.ensures c.close_above-old_high.ensures.back in
    let is_open = open_again space again variable c.in-Cut.cut back (record {
      below = sym c.is_open_below.ensures.is ∙ c.if-not-is_open_below.false;
      above = sym c.is_open_above.ensures.is ∙ c.if-not-is_open_above.false;
    }) in
    record { below = is_open.below; above = is_open.above }

-- each side leaves its space as it was, so that what is opened again at the end is the given space
pub returns-else-not-all_above-clause-same : goal.returns-else-not-all_above-clause-same
returns-else-not-all_above-clause-same g t c =
    let space : Space = c.args.space.now in
    let variable = c.in-Cut.variable in
    let under : Space = c.close_above-old_high.new.self in
    let over : Space = c.close_below-old_low.new.self in
    let again : Space = c.reopen_above.new.self in
    let same_under : c.gather_each-in-Cut.new.space ≡ under =
    OnTrue_at c.if-not-all_below.false c.in_ok-all_below-in-Cut.ensures.same in
    let same_over : c.gather_each-in-Cut-2.new.space ≡ over =
    OnTrue_at c.if-not-all_above.false c.in_ok-all_above-in-Cut.ensures.same in
    below_again again over c.gather_each-in-Cut-2.new.space c.reopen_below.new.self variable same_over
    c.close_below-old_low.result c.reopen_below.ensures c.close_below-old_low.ensures.back
    ∙ above_again space under c.gather_each-in-Cut.new.space again variable same_under c.close_above-old_high.result
    c.reopen_above.ensures c.close_above-old_high.ensures.back
