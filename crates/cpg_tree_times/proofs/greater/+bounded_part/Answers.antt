-- Proof of `bounded_part`, which returns the part of a tree that all scenarios of a space come to, with its spans.
use Rattle.std.proofs.Common.{◌∙◌}
use Rattle.cpg_tree.proofs.Forks.{from_false}
use Rattle.cpg_tree_times.proofs.GreaterLaws.{bounded_above, bounded_below}
use Rattle.cpg_tree_times.proofs.greater.+bounded_part.Goals as goal

-- the space is closed below the cut, so the part of the side above is that of the fork, with its spans
pub returns-then-not-is_open_below-clause-part : goal.returns-then-not-is_open_below-clause-part
returns-then-not-is_open_below-clause-part g t c n are =
    -- what the top shows: the trees of both sides (0, 1), and that the lists are theirs (2, 3) and their fork's (4)
    let shows = c.in-Cut.ensures.shows in
    bounded_above c.in-Cut.variable c.in-Cut.cut shows.0 shows.1 n c.args.tree.items.now shows.4 are c.args.space.now
    c.args.tree.bounds.now c.sides.result.1.bounds.now
    c.bounded_part.result.bounds.now c.bounded_part.result.items.now
    (from_false c.is_open_below.result c.if-not-is_open_below.true c.is_open_below.ensures.none)
    (λ number e. (c.sides.ensures.bounds number c.in-Cut.variable c.in-Cut.cut shows.0 shows.1 shows.2 e).1)
    (c.bounded_part.ensures.part shows.1 (c.sides.ensures.above ∙ shows.3))

-- the space is closed above the cut, so the part of the side below is that of the fork, with its spans
pub returns-then-not-is_open_above-clause-part : goal.returns-then-not-is_open_above-clause-part
returns-then-not-is_open_above-clause-part g t c n are =
    -- what the top shows: the trees of both sides (0, 1), and that the lists are theirs (2, 3) and their fork's (4)
    let shows = c.in-Cut.ensures.shows in
    bounded_below c.in-Cut.variable c.in-Cut.cut shows.0 shows.1 n c.args.tree.items.now shows.4 are c.args.space.now
    c.args.tree.bounds.now c.sides-then-not-is_open_above.result.0.bounds.now
    c.bounded_part-then-not-is_open_above.result.bounds.now c.bounded_part-then-not-is_open_above.result.items.now
    (from_false c.is_open_above.result c.if-not-is_open_above.true c.is_open_above.ensures.none)
    (λ number e. (c.sides-then-not-is_open_above.ensures.bounds number c.in-Cut.variable c.in-Cut.cut shows.0
    shows.1 shows.2 e).0)
    (c.bounded_part-then-not-is_open_above.ensures.part shows.0
    (c.sides-then-not-is_open_above.ensures.below ∙ shows.2))
