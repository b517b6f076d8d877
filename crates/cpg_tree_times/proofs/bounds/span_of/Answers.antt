-- Proof of `span_of`, which returns the span of a tree, without a look at its leaves if it has a fork.
use Rattle.std.proofs.Common.{arith}
use Rattle.cpg_tree_times.proofs.BoundLaws.{fork_bounded, span_last, span_leaf}
use Rattle.cpg_tree_times.proofs.bounds.span_of.Goals as goal

-- a fork has a span of its own, so the list of spans is not empty
pub unreachable-requires : goal.unreachable-requires
unreachable-requires g c =
    -- what the top shows: the trees of both sides (0, 1), and that the lists are theirs (2, 3) and their fork's (4)
    let shows = c.in-Cut.ensures.shows in
    absurd (omega (
      arith,
      c.in-None.ensures.cases,
      fork_bounded (g.R.Reading.number c.args.read.now) c.args.tree.items.now c.args.tree.bounds.now c.requires
          c.in-Cut.variable c.in-Cut.cut shows.0 shows.1 shows.4,
    ))

-- the last span is that of the topmost fork
pub returns-in-Some : goal.returns-in-Some
returns-in-Some g c n are =
    span_last (g.R.Reading.number c.args.read.now) c.args.tree.items.now c.args.tree.bounds.now c.requires
    c.in-Some.span.now _ c.in-Some.ensures.cases.0 n are

-- a tree without spans is one value, whose span is its number
pub returns-in-Value : goal.returns-in-Value
returns-in-Value g c n are =
    span_leaf (g.R.Reading.number c.args.read.now) c.in-Value.value n c.args.tree.items.now c.in-Value.ensures.shows are
    c.number.result c.of.result c.number.ensures c.of.ensures
