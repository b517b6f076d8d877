-- Proof of `Plan::queue`: returns the items that a process sends, as its node's queue has them.
use Rattle.std.proofs.Common.{◌<◌, ◌∙◌, [], ap, length, get_or, arith}
use Rattle.std.proofs.lemmas.List.{get_or_default}
use Rattle.std.proofs.lemmas.List.FromFn.{length-map-range_with_len}
use Rattle.cpg_base.specs.Graph.{process_count}
use Rattle.cpg_base.proofs.Lists.{get_or-map-below}
use Rattle.cpg_bus.specs.Plan.{queue_of}
use Rattle.cpg_bus.proofs.plan.Plan.queue.Goals as goal

-- the plan has a queue for each process
pub index-queue-requires : goal.index-queue-requires
index-queue-requires c =
    let is = ap length (ap (λ p. p.queues) (c.self.view_is ∙ c.requires.plan)) in
    omega (
      arith,
      is,
      length-map-range_with_len (queue_of c.args.problem.now) 0 (process_count c.args.problem.now),
      c.requires.process,
    )

-- the queue at the place of the process is the one of the plan
pub returns : goal.returns
returns c =
    let is = ap (λ p. p.queues) (c.self.view_is ∙ c.requires.plan) in
    -- the process has a place among the queues
    let long : c.args.process < length c.self.inside.queues.items =
    omega (
      arith,
      ap length is,
      length-map-range_with_len (queue_of c.args.problem.now) 0 (process_count c.args.problem.now),
      c.requires.process,
    ) in
    c.as_slice.ensures ∙ c.index-queue.ensures
    ∙ get_or_default c.self.inside.queues.items c.args.process c.index-queue.result.now [] long
    ∙ ap (λ qs. get_or qs c.args.process []) is ∙ get_or-map-below (queue_of c.args.problem.now)
    (process_count c.args.problem.now) c.args.process [] c.requires.process
