-- Proof of `started_of_where`, which returns a tree with the starts of `started_of` where `active` is true, and no
-- start elsewhere.
use Rattle.std.proofs.Common.{◌≡◌, ◌∙◌, max, None, Some, rules}
use Rattle.cpg_tree.specs.Tree.{IsJoinWhere}
use Rattle.cpg_tree.proofs.Forks.{of_answer}
use Rattle.cpg_tree.specs.Later.{time_later}
use Rattle.cpg_tree_times.proofs.values.started_of_where.Goals as goal

-- where the tree is true, the starts are the later of the two trees' times or the release; elsewhere there are none
pub returns-clause-is : goal.returns-clause-is
returns-clause-is c =
    of_answer c.greater_of_where.result _
    (IsJoinWhere (λ x y z. z ≡ Some (max (max (time_later c.args.delay x) (time_later 0 y)) c.args.release)) None
    c.args.active.now c.args.tree.now
    c.args.other.now) c.greater_of_where.ensures.is
    (λ r made. record {
      faults = made.faults;
      on = λ s b x y z few on_b is_on on_x on_y on_z. let h = made.on s b x y z few on_b is_on on_x on_y on_z in
          search rules;
      on_ranges = made.on_ranges;
      off = λ s b z few on_b is_off on_z. made.off s b z few on_b is_off on_z ∙ c.of.ensures;
      off_ranges = made.off_ranges;
    })
