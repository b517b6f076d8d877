-- Proof of `columns`, which returns the columns of a tree, sorted by the least scenario that each matches along the
-- order.
use Rattle.std.proofs.Common.{All, IsPermutation, subst}
use Rattle.std.proofs.lemmas.List.Sorted.{All-permutation}
use Rattle.cpg_tree.proofs.Forks.{of_answer}
use Rattle.cpg_tree_columns.specs.Columns.{columns_of_paths, IsTidyColumn}
use Rattle.cpg_tree_columns.proofs.listing.columns.Goals as goal

-- ordering keeps the columns, so they are those listed, in another order
pub returns-clause-all : goal.returns-clause-all
returns-clause-all c =
    let listed = c.in_ok-listing.listing.columns.items in
    of_answer c.sorted.result (λ r. IsPermutation listed r.items)
    (λ r. IsPermutation (columns_of_paths c.args.tree.now.paths) r.items) c.sorted.ensures.permutation
    (λ r p. subst (λ columns. IsPermutation columns r.items) c.in_ok-listing.ensures.all p)

-- each column listed is tidy, so each ordered one is
pub returns-clause-tidy : goal.returns-clause-tidy
returns-clause-tidy c =
    let listed = c.in_ok-listing.listing.columns.items in
    of_answer c.sorted.result (λ r. IsPermutation listed r.items)
    (λ r. All (IsTidyColumn c.args.problem.now) r.items) c.sorted.ensures.permutation
    (λ r p. All-permutation (IsTidyColumn c.args.problem.now) listed r.items p c.in_ok-listing.ensures.tidy)
