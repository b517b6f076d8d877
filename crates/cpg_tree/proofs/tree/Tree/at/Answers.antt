-- Proof of `Tree::at`, which returns the value of the path that a scenario is on.
use Rattle.std.proofs.Common.{sym, subst}
use Rattle.cpg_tree.specs.Tree.{TreeState, IsValueAt}
use Rattle.cpg_tree.proofs.Publics.{value_path, state_seen}
use Rattle.cpg_tree.proofs.tree.Tree.at.Goals as goal

-- the value that a scenario comes to in the list is that of its path
pub returns : goal.returns
returns g c =
    -- the tree whose list the function is given
    let n = c.items.ensures.flat in
    subst (λ (t : TreeState g.row.T.Denot). IsValueAt t c.args.scenario.now c.at_items.result)
    (state_seen c.args.self.now n.0 (c.items.ensures.paths n.0 n.1))
    (subst (IsValueAt _ c.args.scenario.now) (sym (c.at_items.ensures n.0 n.1))
    (value_path c.args.self.now.faults n.0 (c.items.ensures.good n.0 n.1) c.args.scenario.now))
