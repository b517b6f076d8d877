-- Proof of `Tree::map`, which returns the tree that has in each scenario the answer of `f` to this tree's value.
use Rattle.cpg_tree.proofs.Flats.{all_added}
use Rattle.cpg_tree.proofs.Publics.{good_mapped, map_shown, map_passes}
use Rattle.cpg_tree.proofs.tree.Tree.map.Goals as goal

-- the tree of the answers has the forks of the first, so its list is good
pub of-requires : goal.of-requires
of-requires g c =
    -- the tree whose list the function is given
    let n = c.items.ensures.flat in
    -- the tree that is made, whose list is all that was added
    let r = c.in_ok-map_items.ensures.made n.0 n.1 in
    let are = all_added c.in_ok-made.made.items c.map_items.new.out.items r.0 c.in_ok-made.ensures.items r.1 in (
      r.0,
      are,
      good_mapped (λ (x : g.row.T.Denot) (z : g.row.U.Denot). g.F.Fn.post c.args.f.now (x, tt) z) c.args.self.now n.0
          (c.items.ensures.good n.0 n.1) (c.items.ensures.paths n.0 n.1)
          c.faults.result c.faults.ensures r.0 r.2,
    )

-- the facts about the list become facts about the paths that callers see
pub returns-clause-is : goal.returns-clause-is
returns-clause-is g c =
    -- the tree whose list the function is given
    let n = c.items.ensures.flat in
    -- the tree that is made, whose list is all that was added
    let r = c.in_ok-map_items.ensures.made n.0 n.1 in
    let are = all_added c.in_ok-made.made.items c.map_items.new.out.items r.0 c.in_ok-made.ensures.items r.1 in
    map_shown (λ (x : g.row.T.Denot) (z : g.row.U.Denot). g.F.Fn.post c.args.f.now (x, tt) z) c.args.self.now n.0
    (c.items.ensures.good n.0 n.1) (c.items.ensures.paths n.0 n.1)
    c.faults.result c.faults.ensures r.0 r.2 c.of.result (c.of.ensures.is r.0 are)

-- the tree of the answers has forks on variables of the first only, so what passes for that passes for it
pub returns-clause-pass : goal.returns-clause-pass
returns-clause-pass g c =
    -- the tree whose list the function is given
    let n = c.items.ensures.flat in
    -- the tree that is made, whose list is all that was added
    let r = c.in_ok-map_items.ensures.made n.0 n.1 in
    let are = all_added c.in_ok-made.made.items c.map_items.new.out.items r.0 c.in_ok-made.ensures.items r.1 in
    map_passes (λ (x : g.row.T.Denot) (z : g.row.U.Denot). g.F.Fn.post c.args.f.now (x, tt) z) c.args.self.now n.0
    (c.items.ensures.good n.0 n.1) (c.items.ensures.paths n.0 n.1)
    c.faults.result c.faults.ensures r.0 r.2 c.of.result (c.of.ensures.is r.0 are)
