-- Proof of `listed`, which returns the columns of a tree from left to right; they are tidy.
use Rattle.std.proofs.Common.{All, sym, subst}
use Rattle.cpg_tree_columns.specs.Columns.{IsTidyColumn}
use Rattle.cpg_tree_columns.proofs.listing.listed.Goals as goal

-- the columns of the tree are tidy, and these are they
pub returns-clause-tidy : goal.returns-clause-tidy
returns-clause-tidy c =
    subst (All (IsTidyColumn c.args.problem.now)) (sym c.in_ok-columns.ensures) c.columns_are_tidy.ensures
