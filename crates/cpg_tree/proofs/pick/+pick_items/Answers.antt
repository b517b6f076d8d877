-- Proof of `pick_items`, which adds the tree of the values of `on` if the chooser, whose list is `items`, is true, and
-- otherwise of `off`, for the scenarios of a space.
use Rattle.std.proofs.Common.{Bool, ◌∙◌, sym, ap, arith}
use Rattle.cpg_tree.specs.TreeNode.{Leaf}
use Rattle.cpg_tree.specs.Flat.{flat}
use Rattle.cpg_tree.specs.Space.{Space, below_cut, reopened_below}
use Rattle.cpg_tree.proofs.Forks.{from_false, of_answer}
use Rattle.cpg_tree.proofs.Spaces.{above_reopened, lies_reopened}
use Rattle.cpg_tree.proofs.PickLaws.{picks_above, picks_below, picks_on, picks_off, picks_fork, picks_whole}
use Rattle.cpg_tree.proofs.pick.+pick_items.Goals as goal

-- the space is closed below the cut, so what the chooser's side above picks is what the fork picks
pub returns-then-not-is_open_below-clause-made : goal.returns-then-not-is_open_below-clause-made
returns-then-not-is_open_below-clause-made g t c =
    -- what the top shows: the trees of both sides (0, 1), and that the lists are theirs (2, 3) and their fork's (4)
    let shows = c.in-Cut.ensures.shows in
    of_answer c.pick_items.result _ _ c.pick_items.ensures.made
    (λ u made n a b are ons offs.
    -- the parts of both trees that the space comes to
    let on = c.part_in-on.ensures.part a ons in
    let off = c.part_in-off.ensures.part b offs in
    picks_whole c.args.space.now n a b on.0 off.0 c.args.out.now.items c.pick_items.new.out.items on.2 off.2
    (picks_above c.args.space.now on.0 off.0 c.args.out.now.items c.pick_items.new.out.items c.in-Cut.variable
    c.in-Cut.cut shows.0 shows.1 n c.args.items.now shows.4 are
    (from_false c.is_open_below.result c.if-not-is_open_below.true c.is_open_below.ensures.none)
    (made shows.1 on.0 off.0 shows.3 on.1 off.1)))

-- the space is closed above the cut, so what the chooser's side below picks is what the fork picks
pub returns-then-not-is_open_above-clause-made : goal.returns-then-not-is_open_above-clause-made
returns-then-not-is_open_above-clause-made g t c =
    -- what the top shows: the trees of both sides (0, 1), and that the lists are theirs (2, 3) and their fork's (4)
    let shows = c.in-Cut.ensures.shows in
    of_answer c.pick_items-then-not-is_open_above.result _ _ c.pick_items-then-not-is_open_above.ensures.made
    (λ u made n a b are ons offs.
    -- the parts of both trees that the space comes to
    let on = c.part_in-on.ensures.part a ons in
    let off = c.part_in-off.ensures.part b offs in
    picks_whole c.args.space.now n a b on.0 off.0 c.args.out.now.items
    c.pick_items-then-not-is_open_above.new.out.items on.2 off.2
    (picks_below c.args.space.now on.0 off.0 c.args.out.now.items c.pick_items-then-not-is_open_above.new.out.items
    c.in-Cut.variable c.in-Cut.cut shows.0 shows.1 n c.args.items.now shows.4 are
    (from_false c.is_open_above.result c.if-not-is_open_above.true c.is_open_above.ensures.none)
    (made shows.0 on.0 off.0 shows.2 on.1 off.1)))

-- the chooser is true, so the first tree is added for the space
pub returns-then-is_on-clause-made : goal.returns-then-is_on-clause-made
returns-then-is_on-clause-made g t c =
    of_answer c.within_items.result _ _ c.within_items.ensures.made
    (λ u made n a b are ons offs.
    -- the parts of both trees that the space comes to
    let on = c.part_in-on.ensures.part a ons in
    let off = c.part_in-off.ensures.part b offs in
    picks_whole c.args.space.now n a b on.0 off.0 c.args.out.now.items c.within_items.new.out.items on.2 off.2
    (picks_on c.args.space.now on.0 off.0 c.args.out.now.items c.within_items.new.out.items n c.args.items.now are
    (c.in-Value.ensures.shows ∙ ap (λ (b : Bool). flat (Leaf b)) c.if-is_on.true) (made on.0 on.1)))

-- the chooser is false, so the second tree is added for the space
pub returns-else-is_on-clause-made : goal.returns-else-is_on-clause-made
returns-else-is_on-clause-made g t c =
    of_answer c.within_items-else-is_on.result _ _ c.within_items-else-is_on.ensures.made
    (λ u made n a b are ons offs.
    -- the parts of both trees that the space comes to
    let on = c.part_in-on.ensures.part a ons in
    let off = c.part_in-off.ensures.part b offs in
    picks_whole c.args.space.now n a b on.0 off.0 c.args.out.now.items
    c.within_items-else-is_on.new.out.items on.2 off.2
    (picks_off c.args.space.now on.0 off.0 c.args.out.now.items c.within_items-else-is_on.new.out.items n
    c.args.items.now are
    (c.in-Value.ensures.shows ∙ ap (λ (b : Bool). flat (Leaf b)) c.if-is_on.false) (made off.0 off.1)))

-- the list has grown by the fork or by a side
pub returns-in_ok-pick_items-in-Cut-2-clause-long : goal.returns-in_ok-pick_items-in-Cut-2-clause-long
returns-in_ok-pick_items-in-Cut-2-clause-long g t c =
    of_answer c.fork.result _ _ c.fork.ensures.long (λ u h. omega (arith, h, c.len-start.ensures, c.fork.new.out.ok.0))

-- the high and then the low are put back, so in the end the space is the one given
pub returns-in_ok-pick_items-in-Cut-2-clause-back : goal.returns-in_ok-pick_items-in-Cut-2-clause-back
returns-in_ok-pick_items-in-Cut-2-clause-back g t c =
    of_answer c.fork.result _ _ c.fork.ensures.long
    (λ u h. c.reopen_below.ensures
    ∙ ap (λ (r : Space). reopened_below r c.in-Cut.variable c.close_below-least.result)
    c.in_ok-pick_items-in-Cut-2.ensures.back
    ∙ c.close_below-least.ensures.back ∙ c.reopen_above.ensures
    ∙ ap (λ (r : Space). below_cut r c.in-Cut.variable c.close_above-most.result) c.in_ok-pick_items-in-Cut.ensures.back
    ∙ c.close_above-most.ensures.back)

-- Both sides are open: what either side picks is joined by a fork. In between the high is put back, so that the space
-- above the cut is that of the space given.
pub returns-in_ok-pick_items-in-Cut-2-clause-made : goal.returns-in_ok-pick_items-in-Cut-2-clause-made
returns-in_ok-pick_items-in-Cut-2-clause-made g t c =
    -- what the top shows: the trees of both sides (0, 1), and that the lists are theirs (2, 3) and their fork's (4)
    let shows = c.in-Cut.ensures.shows in
    -- the fork joins what is picked on both sides, from the parts of the two trees
    of_answer c.fork.result _ _ c.fork.ensures.made
    (λ u forks n a b are ons offs.
    -- the parts of both trees that the space comes to
    let on = c.part_in-on.ensures.part a ons in
    let off = c.part_in-off.ensures.part b offs in
    picks_whole c.args.space.now n a b on.0 off.0 c.args.out.now.items c.fork.new.out.items on.2 off.2
    (picks_fork c.args.space.now on.0 off.0 c.args.out.now.items c.fork.new.out.items c.in-Cut.variable c.in-Cut.cut
    shows.0 shows.1 n c.args.items.now shows.4 are
    c.close_above-most.new.self c.close_below-least.new.self c.len-start.result c.len-middle.result
    c.pick_items-in-Cut.new.out.items c.pick_items-in-Cut-2.new.out.items
    (sym c.is_open_below.ensures.is ∙ c.if-not-is_open_below.false)
    (sym c.is_open_above.ensures.is ∙ c.if-not-is_open_above.false) c.close_above-most.ensures.is
    -- the space that is opened again, without what is below the cut, is the one above it
    (above_reopened c.args.space.now c.close_above-most.new.self c.pick_items-in-Cut.new.space c.reopen_above.new.self
    c.close_below-least.new.self c.in-Cut.variable c.close_above-most.result
    c.in-Cut.cut
    c.close_above-most.ensures.back c.in_ok-pick_items-in-Cut.ensures.back c.reopen_above.ensures
    c.close_below-least.ensures.is)
    c.close_above-most.ensures.lies
    -- the scenarios of the side above lie in its space
    (lies_reopened c.args.space.now c.close_above-most.new.self c.pick_items-in-Cut.new.space c.reopen_above.new.self
    c.close_below-least.new.self c.in-Cut.variable c.close_above-most.result
    c.in-Cut.cut
    c.close_above-most.ensures.back c.in_ok-pick_items-in-Cut.ensures.back c.reopen_above.ensures
    c.close_below-least.ensures.lies)
    -- the lists of both sides stand behind each other, and each is what is picked on its side
    (c.len-start.ensures ∙ c.args.out.now.ok.0) (c.len-middle.ensures ∙ c.pick_items-in-Cut.new.out.ok.0) forks
    (c.in_ok-pick_items-in-Cut.ensures.made shows.0 on.0 off.0 shows.2 on.1 off.1)
    (c.in_ok-pick_items-in-Cut-2.ensures.made shows.1 on.0 off.0 shows.3 on.1 off.1)))
