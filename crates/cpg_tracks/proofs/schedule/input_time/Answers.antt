-- Proof of `input_time`: returns when an input is there, if all faults strike its source; `None` exactly if its source
-- isn't placed.
use Rattle.std.proofs.Common.{◌≡◌, ◌+◌, ◌∙◌, Some, None, get_or, sym, ap, ap₂, arith, true, false}
use Rattle.cpg_base.proofs.Bounds.{round-le, duration-le}
use Rattle.cpg_base.specs.Graph.{source}
use Rattle.cpg_base.specs.Duration.{duration}
use Rattle.cpg_tracks.proofs.GreedySteps.{duration_at, durations_long, start_early, input_there}
use Rattle.cpg_tracks.proofs.schedule.input_time.Goals as goal

-- the source is a process of the graph, and there is a duration for each
pub index-requires : goal.index-requires
index-requires c =
    omega (arith, c.source-source.ensures.within, durations_long c.args.problem.now c.args.timing.now c.requires.timing)

-- the start is at most 2^60 and the duration below 2^40, so the sum fits 64 bits
pub overflow_add-end : goal.overflow_add-end
overflow_add-end c =
    let graph = c.args.problem.now in
    let process = c.source-source.result in
    omega (
      arith,
      c.index.ensures
          ∙ duration_at graph c.args.timing.now c.requires.timing process c.index.result.now
          c.source-source.ensures.within,
      duration-le graph process graph.faults c.requires.timing.limits c.source-source.ensures.within
          c.requires.timing.limits.faults,
      start_early c.args.starts.now process c.in-Some.start _ c.requires.starts.early c.in-Some.is,
    )

-- with a round added, of at most 16 slots of at most 10^9, the sum still fits 64 bits
pub overflow_add-result : goal.overflow_add-result
overflow_add-result c =
    let graph = c.args.problem.now in
    let process = c.source-source.result in
    omega (
      arith,
      c.index.ensures
          ∙ duration_at graph c.args.timing.now c.requires.timing process c.index.result.now
          c.source-source.ensures.within,
      duration-le graph process graph.faults c.requires.timing.limits c.source-source.ensures.within
          c.requires.timing.limits.faults,
      start_early c.args.starts.now process c.in-Some.start _ c.requires.starts.early c.in-Some.is,
      c.requires.timing.round,
      round-le graph c.requires.timing.limits,
    )

-- a message is there one round after its source has ended
pub returns-then-is_message : goal.returns-then-is_message
returns-then-is_message c =
    let graph = c.args.problem.now in
    let from = c.source-source.ensures.source in
    -- what is added is the source's duration with all k faults
    let time = c.index.ensures ∙ duration_at graph c.args.timing.now c.requires.timing c.source-source.result
    c.index.result.now c.source-source.ensures.within ∙ ap (λ p. duration graph p graph.faults) from in
    ap₂ (λ d r. Some (c.in-Some.start + d + r)) time c.requires.timing.round
    ∙ input_there graph c.args.starts.now c.args.edge c.in-Some.start true (ap (λ p. get_or c.args.starts.now p None)
    (sym from) ∙ c.in-Some.is) (sym c.is_message.ensures ∙ c.if-is_message.true)

-- an edge within a node is there when its source has ended
pub returns : goal.returns
returns c =
    let graph = c.args.problem.now in
    let from = c.source-source.ensures.source in
    -- what is added is the source's duration with all k faults
    let time = c.index.ensures ∙ duration_at graph c.args.timing.now c.requires.timing c.source-source.result
    c.index.result.now c.source-source.ensures.within ∙ ap (λ p. duration graph p graph.faults) from in
    ap (λ d. Some (c.in-Some.start + d)) time
    ∙ ap Some (let sum_is : c.in-Some.start + duration graph (source graph c.args.edge) graph.faults
    ≡ c.in-Some.start + duration graph (source graph c.args.edge) graph.faults + 0 = omega arith in sum_is)
    ∙ input_there graph c.args.starts.now c.args.edge c.in-Some.start false (ap (λ p. get_or c.args.starts.now p None)
    (sym from) ∙ c.in-Some.is) (sym c.is_message.ensures ∙ c.if-is_message.false)
