-- Proof of `fill_items` and `fill_fork`: the tree of the answers to one value and the values of a tree.
use Rattle.std.proofs.Common.{◌∙◌, sym, ap}
use Rattle.cpg_tree.proofs.Forks.{from_false, of_answer}
use Rattle.cpg_tree.proofs.Spaces.{above_reopened, lies_reopened}
use Rattle.cpg_tree.proofs.JoinLaws.{fills_above, fills_below, fills_leaf, fills_fork}
use Rattle.cpg_tree.proofs.join.+fill.Goals as goal

-- the space is closed below the cut, so the answers for the side above are those for the fork
pub fill_fork-returns-then-not-is_open_below-clause-made : goal.fill_fork-returns-then-not-is_open_below-clause-made
fill_fork-returns-then-not-is_open_below-clause-made g t c =
    -- what the top shows: the trees of both sides (0, 1), and that the lists are theirs (2, 3) and their fork's (4)
    let shows = c.in-Cut.ensures.shows in
    of_answer c.fill_fork.result _ _ c.fill_fork.ensures.made
    (λ u made n are.
    fills_above c.args.space.now c.in-Cut.variable c.in-Cut.cut shows.0 shows.1 n c.args.items.now shows.4 are
    (λ (x : g.row.T.Denot) (y : g.row.U.Denot) (z : g.row.V.Denot). g.F.Fn.post c.args.f.now (x, (y, tt)) z)
    c.args.value c.args.out.now.items c.fill_fork.new.out.items
    (from_false c.is_open_below.result c.if-not-is_open_below.true c.is_open_below.ensures.none) (made shows.1 shows.3))

-- the space is closed above the cut, so the answers for the side below are those for the fork
pub fill_fork-returns-then-not-is_open_above-clause-made : goal.fill_fork-returns-then-not-is_open_above-clause-made
fill_fork-returns-then-not-is_open_above-clause-made g t c =
    -- what the top shows: the trees of both sides (0, 1), and that the lists are theirs (2, 3) and their fork's (4)
    let shows = c.in-Cut.ensures.shows in
    of_answer c.fill_fork-then-not-is_open_above.result _ _ c.fill_fork-then-not-is_open_above.ensures.made
    (λ u made n are.
    fills_below c.args.space.now c.in-Cut.variable c.in-Cut.cut shows.0 shows.1 n c.args.items.now shows.4 are
    (λ (x : g.row.T.Denot) (y : g.row.U.Denot) (z : g.row.V.Denot). g.F.Fn.post c.args.f.now (x, (y, tt)) z)
    c.args.value c.args.out.now.items c.fill_fork-then-not-is_open_above.new.out.items
    (from_false c.is_open_above.result c.if-not-is_open_above.true c.is_open_above.ensures.none) (made shows.0 shows.2))

-- the tree is one value, so the answer to it is added
pub fill_items-returns-in-Value-clause-made : goal.fill_items-returns-in-Value-clause-made
fill_items-returns-in-Value-clause-made g t c =
    of_answer c.put.result _ _ c.put.ensures
    (λ u added n are. fills_leaf (λ (x : g.row.T.Denot) (y : g.row.U.Denot) (z : g.row.V.Denot).
    g.F.Fn.post c.args.f.now (x, (y, tt)) z) c.args.space.now c.args.value c.in-Value.other c.f.result n
    c.args.items.now c.args.out.now.items c.put.new.list.items c.f.ensures c.in-Value.ensures.shows are added)

-- the tree is one value, so the answer to it is added
pub fill_fork-returns-in-Value-clause-made : goal.fill_fork-returns-in-Value-clause-made
fill_fork-returns-in-Value-clause-made g t c =
    of_answer c.put.result _ _ c.put.ensures
    (λ u added n are. fills_leaf (λ (x : g.row.T.Denot) (y : g.row.U.Denot) (z : g.row.V.Denot).
    g.F.Fn.post c.args.f.now (x, (y, tt)) z) c.args.space.now c.args.value c.in-Value.other c.f.result n
    c.args.items.now c.args.out.now.items c.put.new.list.items c.f.ensures c.in-Value.ensures.shows are added)

-- Both sides are open: the answers for both are joined by a fork. In between the high is put back, so that the space
-- above the cut is that of the space given.
pub fill_fork-returns-in_ok-fill_items-in-Cut-2-clause-made :
    goal.fill_fork-returns-in_ok-fill_items-in-Cut-2-clause-made
fill_fork-returns-in_ok-fill_items-in-Cut-2-clause-made g t c =
    -- what the top shows: the trees of both sides (0, 1), and that the lists are theirs (2, 3) and their fork's (4)
    let shows = c.in-Cut.ensures.shows in
    -- the fork joins what is made of both sides
    of_answer c.fork.result _ _ c.fork.ensures.made
    (λ u forks n are.
    fills_fork c.args.space.now c.in-Cut.variable c.in-Cut.cut shows.0 shows.1 n c.args.items.now shows.4 are
    (λ (x : g.row.T.Denot) (y : g.row.U.Denot) (z : g.row.V.Denot). g.F.Fn.post c.args.f.now (x, (y, tt)) z)
    c.args.value c.args.out.now.items c.fork.new.out.items
    c.close_above-most.new.self c.close_below-least.new.self c.len-start.result c.len-middle.result
    c.fill_items.new.out.items c.fill_items-in-Cut.new.out.items
    (sym c.is_open_below.ensures.is ∙ c.if-not-is_open_below.false)
    (sym c.is_open_above.ensures.is ∙ c.if-not-is_open_above.false) c.close_above-most.ensures.is
    -- the space that is opened again, without what is below the cut, is the one above it
    (above_reopened c.args.space.now c.close_above-most.new.self c.fill_items.new.space c.reopen_above.new.self
    c.close_below-least.new.self c.in-Cut.variable c.close_above-most.result
    c.in-Cut.cut
    c.close_above-most.ensures.back c.in_ok-fill_items-in-Cut.ensures.back c.reopen_above.ensures
    c.close_below-least.ensures.is)
    c.close_above-most.ensures.lies
    -- the scenarios of the side above lie in its space
    (lies_reopened c.args.space.now c.close_above-most.new.self c.fill_items.new.space c.reopen_above.new.self
    c.close_below-least.new.self c.in-Cut.variable c.close_above-most.result
    c.in-Cut.cut
    c.close_above-most.ensures.back c.in_ok-fill_items-in-Cut.ensures.back c.reopen_above.ensures
    c.close_below-least.ensures.lies)
    -- the lists of both sides stand behind each other, and each is what is made of its side
    (c.len-start.ensures ∙ c.args.out.now.ok.0) (c.len-middle.ensures ∙ c.fill_items.new.out.ok.0) forks
    (c.in_ok-fill_items-in-Cut.ensures.made shows.0 shows.2) (c.in_ok-fill_items-in-Cut-2.ensures.made shows.1 shows.3))
