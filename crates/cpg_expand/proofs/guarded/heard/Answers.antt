-- Proof of `heard`, which returns the tree of when a node has heard each condition that a guard tests on the scenario's
-- way; 0 where it tests none. `TooWide` names the forest's item if a tree on the way has too many leaves.
use Rattle.cpg_expand.proofs.PartsKnown.{any_leaves}
use Rattle.cpg_expand.proofs.guarded.heard.Goals as goal

-- the descent for what is heard takes any leaf
pub tree_down-requires-clause-leaves : goal.tree_down-requires-clause-leaves
tree_down-requires-clause-leaves c = any_leaves c.args.guard.now
