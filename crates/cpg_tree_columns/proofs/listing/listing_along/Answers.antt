-- Proof of `listing_along`, which returns the columns of a tree from left to right, and whether they are known to
-- stand by their least scenarios along the order.
use Rattle.std.proofs.Common.{sym, subst}
use Rattle.cpg_cube.specs.declared.column.Column.{Column}
use Rattle.cpg_cube.specs.Keys.{AreByLows}
use Rattle.cpg_tree.proofs.Passes.{of_true}
use Rattle.cpg_tree_columns.proofs.listing.listing_along.Goals as goal

-- the forks stand along the order, so the columns stand by their least scenarios
pub returns-clause-sorted : goal.returns-clause-sorted
returns-clause-sorted c =
    of_true c.in_ok-is_sorted.is_sorted c.in_ok-is_sorted.ensures
    (subst (AreByLows (λ (d : Column). d.cube) c.args.problem.now c.args.order.now) (sym c.in_ok-columns.ensures.all))
