-- Proof of `started_of`, which returns a tree that has a start in every scenario: the latest of the time of `tree`
-- with `delay` added, that of `other`, each 0 where its tree has none, and `release`.
use Rattle.std.proofs.Common.{◌≡◌, max, Some, rules}
use Rattle.cpg_tree.specs.Tree.{IsJoin}
use Rattle.cpg_tree.proofs.Forks.{of_answer}
use Rattle.cpg_tree.specs.Later.{time_later}
use Rattle.cpg_tree_times.proofs.values.started_of.Goals as goal

-- each start is the later of the two trees' times, or the release if that is later
pub returns-clause-is : goal.returns-clause-is
returns-clause-is c =
    of_answer c.greater_of.result _
    (IsJoin (λ x y z. z ≡ Some (max (max (time_later c.args.delay x) (time_later 0 y)) c.args.release))
    c.args.tree.now c.args.other.now) c.greater_of.ensures.is
    (λ r made. record {
      faults = made.faults;
      value = λ s x y z few on_x on_y on_z. let h = made.value s x y z few on_x on_y on_z in search rules;
      ranges = made.ranges;
    })
