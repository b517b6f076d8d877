-- Proof of `Forest::ready_and_input`, which returns from when on a node is ready, which `ready` says, and an input from
-- another node (`edge`) has arrived. Where its message isn't sent, the node's being ready alone counts.
use Rattle.std.proofs.Common.{subst}
use Rattle.cpg_base.specs.Bus.{slot_length}
use Rattle.cpg_base.specs.Graph.{home}
use Rattle.cpg_tree.specs.Read.{later_by}
use Rattle.cpg_expand.specs.Forest.{ready_by, times_of}
use Rattle.cpg_expand.specs.Later.{IsLatest}
use Rattle.cpg_expand.proofs.GuardTrees.{latest_input}
use Rattle.cpg_expand.proofs.forest.Forest.ready_and_input.Goals as goal

-- the input is a message, so it is there by the end of its frame
pub returns-clause-both : goal.returns-clause-both
returns-clause-both c =
    let g = c.args.problem.now in
    let f = c.args.self.now in
    let wait = ready_by g f c.args.ready.now in
    latest_input g f c.args.edge wait c.in_ok-both.both c.requires.message
    (subst (λ x. IsLatest g.faults wait (later_by (slot_length g (home g x)) (times_of g f x)) c.in_ok-both.both)
    c.message_item.ensures.item c.in_ok-both.ensures.both)
