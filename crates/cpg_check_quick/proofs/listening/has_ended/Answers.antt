-- Proof of `has_ended`: whether a process on an item's node is known to have ended by the item's columns: it comes
-- before the item, or before its producer, in the sequence of the node, or is the producer itself.
use Rattle.std.proofs.Common.{◌≡◌, ◌≤◌, ap, length, sym, ◌∙◌, subst, arith}
use Rattle.cpg_base.specs.Graph.{process_count, producer}
use Rattle.cpg_tree.proofs.Passes.{of_true}
use Rattle.cpg_check_quick.specs.Hearing.{IsEndedBy}
use Rattle.cpg_check_quick.specs.Order.{IsBefore, execution}
use Rattle.cpg_check_quick.proofs.OwnLaws.{before_ended, earlier_ended, producer_ended}
use Rattle.cpg_check_quick.proofs.listening.has_ended.Goals as goal

-- the item is a start, and the process comes before it in the sequence of the node
pub returns-then-item-processes : goal.returns-then-item-processes
returns-then-item-processes c = of_true c.is_before.result c.is_before.ensures (λ before tables sequences rules sent.
    let graph = c.args.admitted.now.graph in
    before_ended graph tables rules c.args.item c.args.process c.requires.process
    (before graph tables (execution graph) sequences))

-- the process is the producer of the send, which keeps V5, so it has ended
pub returns-then-process-producer : goal.returns-then-process-producer
returns-then-process-producer c = λ tables sequences rules sent.
    let graph = c.args.admitted.now.graph in
    let from : c.producer-producer.result ≡ producer graph c.args.item =
    c.producer-producer.ensures.producer ∙ ap (λ h. producer h c.args.item) c.problem-problem.ensures.problem in
    let send : process_count graph ≤ c.args.item = omega (
      arith,
      c.if-item-processes.false,
      ap length c.processes.ensures.processes,
      ap process_count c.problem-problem.ensures.problem,
    ) in
    subst (λ q. IsEndedBy graph tables q c.args.item) (sym (c.if-process-producer.true ∙ from))
    (producer_ended graph tables rules c.args.item c.requires.item send (sent c.if-not-is_sent_in_time.false))

-- the process is always over before the producer of the send, which keeps V5, so it has ended by the item's columns
pub returns : goal.returns
returns c = of_true c.is_before-2.result c.is_before-2.ensures (λ before tables sequences rules sent.
    let graph = c.args.admitted.now.graph in
    let from : c.producer-producer.result ≡ producer graph c.args.item =
    c.producer-producer.ensures.producer ∙ ap (λ h. producer h c.args.item) c.problem-problem.ensures.problem in
    let send : process_count graph ≤ c.args.item = omega (
      arith,
      c.if-item-processes.false,
      ap length c.processes.ensures.processes,
      ap process_count c.problem-problem.ensures.problem,
    ) in
    earlier_ended graph tables rules c.args.item c.requires.item send c.problem-problem.ensures.admitted.well_formed
    c.args.process c.requires.process
    (subst (λ p. IsBefore graph tables c.args.process p) from (before graph tables (execution graph) sequences))
    (sent c.if-not-is_sent_in_time.false))
