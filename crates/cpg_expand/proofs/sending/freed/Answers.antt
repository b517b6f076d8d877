-- Proof of `freed`, which returns from when on the slots are free after an item: `round` after its time in `sent` where
-- `goes` is true, and as `free` says elsewhere. That holds only if some item that isn't frozen waits for it; otherwise
-- any tree is returned, since the right one can be far wider than a frozen item's row.
use Rattle.std.proofs.Common.{◌≡◌, ◌∙◌, true, false, sym}
use Rattle.cpg_tree.proofs.Readings.{later_pass, later_each, later_map}
use Rattle.cpg_tree.specs.Read.{later_by}
use Rattle.cpg_tree.specs.Variables.{is_variable}
use Rattle.cpg_expand.proofs.GuardTrees.{each_of}
use Rattle.cpg_expand.proofs.EndTrees.{free_valued, free_always}
use Rattle.cpg_tree.proofs.GraphTrees.{same_tree}
use Rattle.cpg_expand.proofs.sending.freed.Goals as goal

-- the tree has the faults of the chooser, and forks on the graph's variables alone
pub returns-clause-tree : goal.returns-clause-tree
returns-clause-tree c = same_tree c.args.problem.now c.args.goes.now c.in_ok-freed.freed c.requires.goes.faults
    c.in_ok-freed.ensures.is.faults c.in_ok-freed.ensures.each
    (c.in_ok-freed.ensures.pass (is_variable c.args.problem.now) c.requires.goes.known c.requires.sent.known
    c.requires.free.known)

-- where the item goes, the slots are free a round after it; elsewhere they are free as before
pub returns-clause-free : goal.returns-clause-free
returns-clause-free c waited =
    let g = c.args.problem.now in
    let sent = c.args.sent.now in
    let each = each_of g sent.faults sent c.requires.sent.faults c.requires.sent in
    free_valued g c.args.round c.args.goes.now sent c.args.free.now (later_by c.args.round sent) c.in_ok-freed.freed
    c.requires.goes c.requires.sent c.requires.free (later_map c.args.round sent each)
    (later_each c.args.round sent each)
    (later_pass c.args.round sent (is_variable g) c.requires.sent.known) c.in_ok-freed.ensures.is

-- the tree has the faults of the graph, and forks on the graph's variables alone
pub returns-then-is_true-clause-tree : goal.returns-then-is_true-clause-tree
returns-then-is_true-clause-tree c = same_tree c.args.problem.now c.args.sent.now c.in_ok-after.after
    c.requires.sent.faults c.in_ok-after.ensures.is.faults c.in_ok-after.ensures.each
    (c.in_ok-after.ensures.pass (is_variable c.args.problem.now) c.requires.sent.known)

-- the item goes in each scenario, so the slots are free a round after it, whatever was sent before
pub returns-then-is_true-clause-free : goal.returns-then-is_true-clause-free
returns-then-is_true-clause-free c waited = free_always c.args.problem.now c.args.round c.args.goes.now c.args.sent.now
    c.args.free.now c.in_ok-after.after c.if-is_true.ensures c.requires.sent
    c.in_ok-after.ensures.is

-- the tree has the faults of the graph, and forks on the graph's variables alone
pub returns-then-not-is_queued_for-clause-tree : goal.returns-then-not-is_queued_for-clause-tree
returns-then-not-is_queued_for-clause-tree c = same_tree c.args.problem.now c.args.sent.now c.in_ok-after-2.after
    c.requires.sent.faults c.in_ok-after-2.ensures.is.faults c.in_ok-after-2.ensures.each
    (c.in_ok-after-2.ensures.pass (is_variable c.args.problem.now) c.requires.sent.known)

-- what is excluded: an item that waits for the slots and doesn't
apart : true ≡ false → ⊥
apart e = cc

-- nothing is queued behind the item, so this tree is never asked for
pub returns-then-not-is_queued_for-clause-free : goal.returns-then-not-is_queued_for-clause-free
returns-then-not-is_queued_for-clause-free c queued =
    absurd (apart (sym (c.is_queued_for.ensures queued) ∙ c.if-not-is_queued_for.true))
