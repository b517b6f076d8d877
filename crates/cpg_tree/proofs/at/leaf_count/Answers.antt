-- Proof of `leaf_count`, which returns how many leaves a tree has, which is how many paths it has.
use Rattle.cpg_tree.proofs.AtLaws.{leaves_are}
use Rattle.cpg_tree.proofs.at.leaf_count.Goals as goal

-- a tree has a path for each leaf
pub returns : goal.returns
returns g c n k cube are = leaves_are c.args.items.now n k cube are
