-- Proof of `active`, which returns a tree that is true where a guard leads to an active leaf, so where its process is
-- active, and false elsewhere.
use Rattle.cpg_expand.proofs.PartsKnown.{any_leaves}
use Rattle.cpg_expand.proofs.guarded.active.Goals as goal

-- the descent for activity takes any leaf
pub tree_down-requires-clause-leaves : goal.tree_down-requires-clause-leaves
tree_down-requires-clause-leaves c = any_leaves c.args.guard.now
