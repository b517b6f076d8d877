-- Proof of `push_bounds` and `push_fork_bounds`, which call each other.
use Rattle.cpg_tree_times.proofs.BoundLaws.{bounds_leaf, span_leaf, bounds_fork, span_fork}
use Rattle.cpg_tree_times.proofs.bounds.+bounds.Goals as goal

-- the tree is one value, so it has no forks, and no span is added
pub push_bounds-returns-in-Value-clause-bounds : goal.push_bounds-returns-in-Value-clause-bounds
push_bounds-returns-in-Value-clause-bounds g t c n are =
    bounds_leaf (g.R.Reading.number c.args.read.now) c.in-Value.value n c.args.items.now c.in-Value.ensures.shows are
    c.args.bounds.now.items

-- the span of one value has its number as both ends
pub push_bounds-returns-in-Value-clause-span : goal.push_bounds-returns-in-Value-clause-span
push_bounds-returns-in-Value-clause-span g t c n are =
    span_leaf (g.R.Reading.number c.args.read.now) c.in-Value.value n c.args.items.now c.in-Value.ensures.shows are
    c.number.result c.of.result c.number.ensures c.of.ensures

-- the tree is one value, so it has no forks, and no span is added
pub push_fork_bounds-returns-in-Value-clause-bounds : goal.push_fork_bounds-returns-in-Value-clause-bounds
push_fork_bounds-returns-in-Value-clause-bounds g t c n are =
    bounds_leaf (g.R.Reading.number c.args.read.now) c.in-Value.value n c.args.items.now c.in-Value.ensures.shows are
    c.args.bounds.now.items

-- the span of one value has its number as both ends
pub push_fork_bounds-returns-in-Value-clause-span : goal.push_fork_bounds-returns-in-Value-clause-span
push_fork_bounds-returns-in-Value-clause-span g t c n are =
    span_leaf (g.R.Reading.number c.args.read.now) c.in-Value.value n c.args.items.now c.in-Value.ensures.shows are
    c.number.result c.of.result c.number.ensures c.of.ensures

-- the spans of both sides are added one behind the other, and the fork's own span behind them
pub push_fork_bounds-returns-in_ok-put-in-Cut-clause-bounds :
    goal.push_fork_bounds-returns-in_ok-put-in-Cut-clause-bounds
push_fork_bounds-returns-in_ok-put-in-Cut-clause-bounds g t c n are =
    -- what the top shows: the trees of both sides (0, 1), and that the lists are theirs (2, 3) and their fork's (4)
    let shows = c.in-Cut.ensures.shows in
    bounds_fork (g.R.Reading.number c.args.read.now) c.in-Cut.variable c.in-Cut.cut shows.0 shows.1 n c.args.items.now
    shows.4 are c.in_ok-low-in-Cut.low c.in_ok-high-in-Cut.high
    c.with-span.result (c.in_ok-low-in-Cut.ensures.span shows.0 shows.2)
    (c.in_ok-high-in-Cut.ensures.span shows.1 shows.3) c.with-span.ensures
    c.args.bounds.now.items c.push_bounds.new.bounds.items c.push_bounds-in-Cut.new.bounds.items c.put.new.list.items
    (c.in_ok-low-in-Cut.ensures.bounds shows.0 shows.2)
    (c.in_ok-high-in-Cut.ensures.bounds shows.1 shows.3) c.in_ok-put-in-Cut.ensures

-- the span of a fork is made of those of its sides
pub push_fork_bounds-returns-in_ok-put-in-Cut-clause-span : goal.push_fork_bounds-returns-in_ok-put-in-Cut-clause-span
push_fork_bounds-returns-in_ok-put-in-Cut-clause-span g t c n are =
    -- what the top shows: the trees of both sides (0, 1), and that the lists are theirs (2, 3) and their fork's (4)
    let shows = c.in-Cut.ensures.shows in
    span_fork (g.R.Reading.number c.args.read.now) c.in-Cut.variable c.in-Cut.cut shows.0 shows.1 n c.args.items.now
    shows.4 are c.in_ok-low-in-Cut.low c.in_ok-high-in-Cut.high
    c.with-span.result (c.in_ok-low-in-Cut.ensures.span shows.0 shows.2)
    (c.in_ok-high-in-Cut.ensures.span shows.1 shows.3) c.with-span.ensures
