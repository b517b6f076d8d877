-- Proof of `join_items` and `join_side`: the tree of the answers to the values of two trees.
use Rattle.std.proofs.Common.{◌∙◌, sym, ap, arith}
use Rattle.cpg_tree.specs.declared.space.Space.{Space}
use Rattle.cpg_tree.specs.declared.space.Lifted.{Lifted}
use Rattle.cpg_tree.specs.Space.{below_cut, reopened_below}
use Rattle.cpg_tree.proofs.Forks.{from_false, of_answer}
use Rattle.cpg_tree.proofs.Spaces.{above_reopened, lies_reopened}
use Rattle.cpg_tree.proofs.JoinLaws.{joins_above, joins_below, joins_leaf, joins_fork, joins_whole}
use Rattle.cpg_tree.proofs.join.+join.Goals as goal

-- the space is closed below the cut, so the answers for the side above and the other tree's part are those for the
-- fork
pub join_items-returns-then-not-is_open_below-clause-made : goal.join_items-returns-then-not-is_open_below-clause-made
join_items-returns-then-not-is_open_below-clause-made g t c =
    -- what the top shows: the trees of both sides (0, 1), and that the lists are theirs (2, 3) and their fork's (4)
    let shows = c.in-Cut.ensures.shows in
    of_answer c.join_items.result _ _ c.join_items.ensures.made
    (λ u made n m are others.
    -- the part of the other tree that the space comes to
    let part = c.part_in-other.ensures.part m others in
    joins_whole (λ (x : g.row.T.Denot) (y : g.row.U.Denot) (z : g.row.V.Denot). g.F.Fn.post c.args.f.now (x, (y, tt)) z)
    c.args.space.now n m part.0 c.args.out.now.items c.join_items.new.out.items
    part.2
    (joins_above c.args.space.now c.in-Cut.variable c.in-Cut.cut shows.0 shows.1 n c.args.items.now shows.4 are
    (λ (x : g.row.T.Denot) (y : g.row.U.Denot) (z : g.row.V.Denot). g.F.Fn.post c.args.f.now (x, (y, tt)) z) part.0
    c.args.out.now.items c.join_items.new.out.items
    (from_false c.is_open_below.result c.if-not-is_open_below.true c.is_open_below.ensures.none)
    (made shows.1 part.0 shows.3 part.1)))

-- the space is closed above the cut, so the answers for the side below and the other tree's part are those for the
-- fork
pub join_items-returns-then-not-is_open_above-clause-made : goal.join_items-returns-then-not-is_open_above-clause-made
join_items-returns-then-not-is_open_above-clause-made g t c =
    -- what the top shows: the trees of both sides (0, 1), and that the lists are theirs (2, 3) and their fork's (4)
    let shows = c.in-Cut.ensures.shows in
    of_answer c.join_items-then-not-is_open_above.result _ _ c.join_items-then-not-is_open_above.ensures.made
    (λ u made n m are others.
    -- the part of the other tree that the space comes to
    let part = c.part_in-other.ensures.part m others in
    joins_whole (λ (x : g.row.T.Denot) (y : g.row.U.Denot) (z : g.row.V.Denot). g.F.Fn.post c.args.f.now (x, (y, tt)) z)
    c.args.space.now n m part.0 c.args.out.now.items
    c.join_items-then-not-is_open_above.new.out.items part.2
    (joins_below c.args.space.now c.in-Cut.variable c.in-Cut.cut shows.0 shows.1 n c.args.items.now shows.4 are
    (λ (x : g.row.T.Denot) (y : g.row.U.Denot) (z : g.row.V.Denot). g.F.Fn.post c.args.f.now (x, (y, tt)) z) part.0
    c.args.out.now.items c.join_items-then-not-is_open_above.new.out.items
    (from_false c.is_open_above.result c.if-not-is_open_above.true c.is_open_above.ensures.none)
    (made shows.0 part.0 shows.2 part.1)))

-- the first tree is one value, so the answers to that value and the other tree's part are added
pub join_items-returns-in-Value-clause-made : goal.join_items-returns-in-Value-clause-made
join_items-returns-in-Value-clause-made g t c =
    of_answer c.fill_items.result _ _ c.fill_items.ensures.made
    (λ u made n m are others.
    -- the part of the other tree that the space comes to
    let part = c.part_in-other.ensures.part m others in
    joins_whole (λ (x : g.row.T.Denot) (y : g.row.U.Denot) (z : g.row.V.Denot). g.F.Fn.post c.args.f.now (x, (y, tt)) z)
    c.args.space.now n m part.0 c.args.out.now.items c.fill_items.new.out.items
    part.2
    (joins_leaf (λ (x : g.row.T.Denot) (y : g.row.U.Denot) (z : g.row.V.Denot). g.F.Fn.post c.args.f.now (x, (y, tt)) z)
    c.args.space.now c.in-Value.value n part.0 c.args.items.now
    c.args.out.now.items c.fill_items.new.out.items
    c.in-Value.ensures.shows are (made part.0 part.1)))

-- the first tree is one value, so the answers to that value and the other tree's part are added
pub join_side-returns-in-Value-clause-made : goal.join_side-returns-in-Value-clause-made
join_side-returns-in-Value-clause-made g t c =
    of_answer c.fill_items.result _ _ c.fill_items.ensures.made
    (λ u made n m are others.
    -- the part of the other tree that the space comes to
    let part = c.part_in-other.ensures.part m others in
    joins_whole (λ (x : g.row.T.Denot) (y : g.row.U.Denot) (z : g.row.V.Denot). g.F.Fn.post c.args.f.now (x, (y, tt)) z)
    c.args.space.now n m part.0 c.args.out.now.items c.fill_items.new.out.items
    part.2
    (joins_leaf (λ (x : g.row.T.Denot) (y : g.row.U.Denot) (z : g.row.V.Denot). g.F.Fn.post c.args.f.now (x, (y, tt)) z)
    c.args.space.now c.in-Value.value n part.0 c.args.items.now
    c.args.out.now.items c.fill_items.new.out.items
    c.in-Value.ensures.shows are (made part.0 part.1)))

-- `fork` leaves what stood before the start, which is at least what stood there at first
pub join_items-returns-in_ok-join_side-in-Cut-2-clause-long :
    goal.join_items-returns-in_ok-join_side-in-Cut-2-clause-long
join_items-returns-in_ok-join_side-in-Cut-2-clause-long g t c =
    of_answer c.fork.result _ _ c.fork.ensures.long (λ u h. omega (arith, h, c.len-start.ensures, c.fork.new.out.ok.0))

-- the high and then the low are put back, so in the end the space is the one given
pub join_items-returns-in_ok-join_side-in-Cut-2-clause-back :
    goal.join_items-returns-in_ok-join_side-in-Cut-2-clause-back
join_items-returns-in_ok-join_side-in-Cut-2-clause-back g t c =
    of_answer c.fork.result _ _ c.fork.ensures.long
    (λ u h. c.reopen_below.ensures
    ∙ ap (λ (r : Space). reopened_below r c.in-Cut.variable c.close_below-least.result)
    c.in_ok-join_side-in-Cut-2.ensures.back
    ∙ c.close_below-least.ensures.back ∙ c.reopen_above.ensures
    ∙ ap (λ (r : Space). below_cut r c.in-Cut.variable c.close_above-most.result) c.in_ok-join_side-in-Cut.ensures.back
    ∙ c.close_above-most.ensures.back)

-- Both sides are open: the answers for both are joined by a fork. In between the high is put back, so that the space
-- above the cut is that of the space given.
pub join_items-returns-in_ok-join_side-in-Cut-2-clause-made :
    goal.join_items-returns-in_ok-join_side-in-Cut-2-clause-made
join_items-returns-in_ok-join_side-in-Cut-2-clause-made g t c =
    -- what the top shows: the trees of both sides (0, 1), and that the lists are theirs (2, 3) and their fork's (4)
    let shows = c.in-Cut.ensures.shows in
    -- the fork joins what is made of both sides with the part of the other tree
    of_answer c.fork.result _ _ c.fork.ensures.made
    (λ u forks n m are others.
    -- the part of the other tree that the space comes to
    let part = c.part_in-other.ensures.part m others in
    joins_whole (λ (x : g.row.T.Denot) (y : g.row.U.Denot) (z : g.row.V.Denot). g.F.Fn.post c.args.f.now (x, (y, tt)) z)
    c.args.space.now n m part.0 c.args.out.now.items c.fork.new.out.items part.2
    (joins_fork c.args.space.now c.in-Cut.variable c.in-Cut.cut shows.0 shows.1 n c.args.items.now shows.4 are
    (λ (x : g.row.T.Denot) (y : g.row.U.Denot) (z : g.row.V.Denot). g.F.Fn.post c.args.f.now (x, (y, tt)) z) part.0
    c.args.out.now.items c.fork.new.out.items
    c.close_above-most.new.self c.close_below-least.new.self c.len-start.result c.len-middle.result
    c.join_side.new.out.items c.join_side-in-Cut.new.out.items
    (sym c.is_open_below.ensures.is ∙ c.if-not-is_open_below.false)
    (sym c.is_open_above.ensures.is ∙ c.if-not-is_open_above.false) c.close_above-most.ensures.is
    -- the space that is opened again, without what is below the cut, is the one above it
    (above_reopened c.args.space.now c.close_above-most.new.self c.join_side.new.space c.reopen_above.new.self
    c.close_below-least.new.self c.in-Cut.variable c.close_above-most.result
    c.in-Cut.cut
    c.close_above-most.ensures.back c.in_ok-join_side-in-Cut.ensures.back c.reopen_above.ensures
    c.close_below-least.ensures.is)
    c.close_above-most.ensures.lies
    -- the scenarios of the side above lie in its space
    (lies_reopened c.args.space.now c.close_above-most.new.self c.join_side.new.space c.reopen_above.new.self
    c.close_below-least.new.self c.in-Cut.variable c.close_above-most.result
    c.in-Cut.cut
    c.close_above-most.ensures.back c.in_ok-join_side-in-Cut.ensures.back c.reopen_above.ensures
    c.close_below-least.ensures.lies)
    -- the lists of both sides stand behind each other, and each is what is made of its side
    (c.len-start.ensures ∙ c.args.out.now.ok.0) (c.len-middle.ensures ∙ c.join_side.new.out.ok.0) forks
    (c.in_ok-join_side-in-Cut.ensures.made shows.0 part.0 shows.2 part.1)
    (c.in_ok-join_side-in-Cut-2.ensures.made shows.1 part.0 shows.3 part.1)))
