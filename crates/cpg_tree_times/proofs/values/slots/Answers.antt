-- Proof of `slots`, which returns a tree with the first slot at the time of `end` or later that isn't before `free`;
-- none where there is no time or it is `LATE` or later.
use Rattle.std.proofs.Common.{◌≡◌}
use Rattle.cpg_tree.specs.Tree.{IsJoin}
use Rattle.cpg_tree.proofs.Forks.{of_answer}
use Rattle.cpg_tree_times.specs.Values.{slot_if, slot_from}
use Rattle.cpg_tree_times.proofs.SlotTrees.{slots_joined}
use Rattle.cpg_tree_times.proofs.values.slots.Goals as goal

-- three steps make the first free slots: the slots asked for, the later of these and the free ones, and those only
-- where there is an end
pub returns-clause-is : goal.returns-clause-is
returns-clause-is c =
    of_answer c.asked.result (IsJoin (λ x y z. z ≡ slot_if y x) c.args.end.now c.in_ok-slots.slots)
    (IsJoin (λ x y z. z ≡ slot_from c.args.share y x) c.args.end.now c.args.free.now) c.asked.ensures.is
    (λ r third. slots_joined c.args.share c.args.end.now c.args.free.now c.in_ok-next.next c.in_ok-slots.slots
    c.in_ok-next.ensures.each c.in_ok-slots.ensures.each r c.in_ok-next.ensures.is
    c.in_ok-slots.ensures.is third)

-- the slots have forks of the ends and of the free slots only
pub returns-clause-pass : goal.returns-clause-pass
returns-clause-pass c =
    of_answer c.asked.result _ _ c.asked.ensures.pass
    (λ r pass test first second.
    pass test first (c.in_ok-slots.ensures.pass test (c.in_ok-next.ensures.pass test first) second))
