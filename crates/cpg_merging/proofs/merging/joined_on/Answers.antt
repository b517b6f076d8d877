-- Proof of `joined_on`, which returns the columns with those joined that touch at the variable.
use Rattle.std.proofs.Common.{◌≡◌, sym, subst, rules}
use Rattle.std.specs.Ordering.{is_lt}
use Rattle.std.specs.List.Sorted.{IsSortedBy}
use Rattle.std.proofs.lemmas.Fn.{always_returns_same}
use Rattle.std.proofs.lemmas.List.Sorted.{ranks_by}
use Rattle.std.proofs.lemmas.Result.{IfOk-weaker}
use Rattle.cpg_cube.specs.declared.column.Column.{Column}
use Rattle.cpg_merging.specs.Merging.{column_cmp, walked_over, IsPassed}
use Rattle.cpg_merging.proofs.MergingOrder.{column_total}
use Rattle.cpg_merging.proofs.MergingSteps.{passed_on}
use Rattle.cpg_merging.proofs.merging.joined_on.Goals as goal

-- a walk over good columns that are sorted for the variable leaves fewer columns, or the same ones, of which none touch
-- there (`passed_on`)
pub returns : goal.returns
returns c =
    let graph = c.args.problem.now in
    let variable = c.args.variable in
    let columns = c.args.columns.items in
    let sorted = c.sort_by.new.self.items in
    let up : IsSortedBy (λ (x y : Column). is_lt (column_cmp variable x y)) sorted =
    c.in_ok-sort_by.ensures.sorted (λ (x y : Column). is_lt (column_cmp variable x y))
    (ranks_by (column_total variable) (λ (x : Column). x)) (always_returns_same _ _ _ (λ a r f k. search rules)) in
    IfOk-weaker _ (λ r. r.items ≡ walked_over graph.faults variable sorted)
    (λ r. IsPassed graph (λ u. u ≡ variable) columns r.items)
    (λ r same. subst (IsPassed graph (λ u. u ≡ variable) columns) (sym same)
    (passed_on graph c.faults-k.ensures.within.few_processes variable
    c.requires.known columns sorted c.requires.shorn c.sort_by.ensures.permutation up))
    (search rules)
