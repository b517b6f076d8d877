-- Proof of `part_of` and `part_in`: the part of a tree that the scenarios of a space come to.
use Rattle.cpg_tree.proofs.Forks.{from_false}
use Rattle.cpg_tree.proofs.JoinLaws.{part_above, part_below}
use Rattle.cpg_tree.proofs.part.+part.Goals as goal

-- the space is closed below the cut, so the part of the side above is that of the fork
pub part_in-returns-then-not-is_open_below-clause-part : goal.part_in-returns-then-not-is_open_below-clause-part
part_in-returns-then-not-is_open_below-clause-part g t c n are =
    -- what the top shows: the trees of both sides (0, 1), and that the lists are theirs (2, 3) and their fork's (4)
    let shows = c.in-Cut.ensures.shows in
    part_above c.args.space.now c.in-Cut.variable c.in-Cut.cut shows.0 shows.1 n c.args.items.now shows.4 are
    c.part_of.result.now
    (from_false c.is_open_below.result c.if-not-is_open_below.true c.is_open_below.ensures.none)
    (c.part_of.ensures.part shows.1 shows.3)

-- the space is closed above the cut, so the part of the side below is that of the fork
pub part_in-returns-then-not-is_open_above-clause-part : goal.part_in-returns-then-not-is_open_above-clause-part
part_in-returns-then-not-is_open_above-clause-part g t c n are =
    -- what the top shows: the trees of both sides (0, 1), and that the lists are theirs (2, 3) and their fork's (4)
    let shows = c.in-Cut.ensures.shows in
    part_below c.args.space.now c.in-Cut.variable c.in-Cut.cut shows.0 shows.1 n c.args.items.now shows.4 are
    c.part_of-then-not-is_open_above.result.now
    (from_false c.is_open_above.result c.if-not-is_open_above.true c.is_open_above.ensures.none)
    (c.part_of-then-not-is_open_above.ensures.part shows.0 shows.2)
