-- Proof of `Forest::started_by_input`, which returns the starts of a process at `release` or later, once its node is
-- ready, which `ready` says, and an input from another node (`edge`) has arrived. Where its message isn't sent, it
-- isn't waited for.
use Rattle.std.proofs.Common.{subst}
use Rattle.cpg_base.specs.Bus.{slot_length}
use Rattle.cpg_base.specs.Graph.{home}
use Rattle.cpg_tree.specs.Read.{later_by}
use Rattle.cpg_expand.specs.Forest.{ready_by, times_of}
use Rattle.cpg_expand.specs.Later.{IsReleased}
use Rattle.cpg_expand.proofs.GuardTrees.{released_input}
use Rattle.cpg_expand.proofs.forest.Forest.started_by_input.Goals as goal

-- the input is a message, so it is there by the end of its frame
pub returns-clause-start : goal.returns-clause-start
returns-clause-start c =
    let g = c.args.problem.now in
    let f = c.args.self.now in
    let wait = ready_by g f c.args.ready.now in
    released_input g f c.args.edge c.args.release wait c.in_ok-start.start c.requires.message
    (subst (λ x. IsReleased g.faults wait (later_by (slot_length g (home g x)) (times_of g f x)) c.args.release
    c.in_ok-start.start) c.message_item-item.ensures.item c.in_ok-start.ensures.start)
