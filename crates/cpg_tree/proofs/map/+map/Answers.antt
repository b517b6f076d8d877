-- Proof of `map_items` and `map_fork`: the tree of the answers to the values of a tree.
use Rattle.std.proofs.Common.{rules}
use Rattle.cpg_tree.proofs.Forks.{of_answer}
use Rattle.cpg_tree.proofs.MapLaws.{maps_leaf, maps_fork}
use Rattle.cpg_tree.proofs.map.+map.Goals as goal

-- the tree is one value, so its answer is added
pub map_items-returns-in-Value-clause-made : goal.map_items-returns-in-Value-clause-made
map_items-returns-in-Value-clause-made g t c =
    of_answer c.put.result _ _ c.put.ensures
    (λ u added n are. maps_leaf (λ (x : g.row.T.Denot) (z : g.row.U.Denot). g.F.Fn.post c.args.f.now (x, tt) z)
    c.in-Value.value c.f.result n c.args.items.now c.args.out.now.items
    c.put.new.list.items c.f.ensures c.in-Value.ensures.shows are added)

-- the tree is one value, so its answer is added
pub map_fork-returns-in-Value-clause-made : goal.map_fork-returns-in-Value-clause-made
map_fork-returns-in-Value-clause-made g t c =
    of_answer c.put.result _ _ c.put.ensures
    (λ u added n are. maps_leaf (λ (x : g.row.T.Denot) (z : g.row.U.Denot). g.F.Fn.post c.args.f.now (x, tt) z)
    c.in-Value.value c.f.result n c.args.items.now c.args.out.now.items
    c.put.new.list.items c.f.ensures c.in-Value.ensures.shows are added)

-- the answers for both sides are added one behind the other and joined by a fork
pub map_fork-returns-in_ok-map_items-in-Cut-2-clause-made : goal.map_fork-returns-in_ok-map_items-in-Cut-2-clause-made
map_fork-returns-in_ok-map_items-in-Cut-2-clause-made g t c =
    -- what the top shows: the trees of both sides (0, 1), and that the lists are theirs (2, 3) and their fork's (4)
    let shows = c.in-Cut.ensures.shows in
    of_answer c.fork.result _ _ c.fork.ensures.made
    (λ u forks n are. maps_fork (λ (x : g.row.T.Denot) (z : g.row.U.Denot). g.F.Fn.post c.args.f.now (x, tt) z)
    c.in-Cut.variable c.in-Cut.cut c.len-start.result c.len-middle.result shows.0 shows.1 n
    c.args.items.now c.args.out.now.items c.map_items.new.out.items c.map_items-in-Cut.new.out.items
    c.fork.new.out.items shows.4 are
    (c.in_ok-map_items-in-Cut.ensures.made shows.0 shows.2) (c.in_ok-map_items-in-Cut-2.ensures.made shows.1 shows.3)
    (search rules) (search rules) forks)
