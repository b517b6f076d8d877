-- Proof of `have_tree`: whether a tree is made of the first `count` columns of a row: then no two of them match
-- together.
use Rattle.std.proofs.Common.{arith}
use Rattle.std.proofs.lemmas.List.{length-take}
use Rattle.cpg_check_rows.proofs.TreeDoubles.{none_by_tree}
use Rattle.cpg_check_rows.proofs.single.have_tree.Goals as goal

-- the first columns are no more than all, which are at most `MOST_LOAD`
pub tree_of-requires : goal.tree_of-requires
tree_of-requires c = omega (arith, c.requires.few, length-take c.args.count c.args.columns.now)

-- a tree leads each scenario to at most one of the first columns, so no two of them match together
pub returns : goal.returns
returns c = rw c.is_some.ensures
    (none_by_tree c.args.problem.now c.args.columns.now c.args.count c.in_ok-tree.tree c.in_ok-tree.ensures)
