-- Proof of `trace_text`: a line for each start, each message or broadcast and each end that the nodes have come to,
-- then the greatest end in time units, 0 if there is none.
use Rattle.std.proofs.Common.{All, subst, sym, ◌∙◌, ◌≡◌}
use Rattle.std.proofs.lemmas.List.Sorted.{All-permutation}
use Rattle.cpg_show.specs.TraceEvents.{TraceEvent, IsKindWithin}
use Rattle.cpg_show.proofs.TraceSteps.{all_within}
use Rattle.cpg_show.proofs.Within.{acts_at, ends_at}
use Rattle.cpg_show.proofs.trace.trace_text.Goals as goal

-- in a play all events are of items and processes of the graph; sorting doesn't change which they are
pub write_events-requires-clause-within : goal.write_events-requires-clause-within
write_events-requires-clause-within c =
    let play = c.args.cluster.now in
    let graph = c.problem-problem.result.now in
    let same : play.graph ≡ graph = c.requires ∙ sym c.problem-problem.ensures.problem in
    subst (All (λ (e : TraceEvent). IsKindWithin graph e.kind)) (sym c.as_slice.ensures.value)
    (All-permutation (λ (e : TraceEvent). IsKindWithin graph e.kind) _ c.in_ok-events.events.items
    c.in_ok-events.ensures.all
    (all_within graph play.cluster.acts play.cluster.ends (acts_at play c.lengths-lengths.ensures.playing graph same)
    (ends_at play c.lengths-lengths.ensures.playing graph same)))
