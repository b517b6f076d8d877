-- Proof of `joined_columns`, which returns the columns with neighbours made one where the second follows the first.
use Rattle.std.proofs.Common.{◌≡◌, false, sym, rules}
use Rattle.cpg_merging.specs.Merging.{is_any_followed}
use Rattle.cpg_merging.proofs.MergingSteps.{not_walked_over}
use Rattle.cpg_merging.proofs.joins.joined_columns.Goals as goal

-- no column follows the one before it, so walking over them leaves them as they are
pub returns-then-not-is_any_followed : goal.returns-then-not-is_any_followed
returns-then-not-is_any_followed c =
    let none : is_any_followed c.args.faults c.args.variable c.args.columns.items ≡ false = search rules in
    sym (not_walked_over c.args.faults c.args.variable c.args.columns.items none)
