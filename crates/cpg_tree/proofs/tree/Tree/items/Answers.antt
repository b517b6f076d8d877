-- Proof of `Tree::items`, which returns the tree's list.
use Rattle.cpg_tree.proofs.Publics.{good_shown, paths_shown}
use Rattle.cpg_tree.proofs.tree.Tree.items.Goals as goal

-- the tree that the list stands for is good
pub returns-clause-good : goal.returns-clause-good
returns-clause-good g c = good_shown c.self.inside.faults c.self.inside.items.items c.as_slice.result.now
    c.as_slice.ensures.value c.self.invariant c.args.self.now c.self.view_is

-- its paths are those that callers see
pub returns-clause-paths : goal.returns-clause-paths
returns-clause-paths g c = paths_shown c.self.inside.faults c.self.inside.items.items c.as_slice.result.now
    c.as_slice.ensures.value c.self.invariant c.args.self.now c.self.view_is
