-- Proof of `place_all`: returns the start of each process of a track, by number, and `None` for each inactive one.
use Rattle.std.proofs.Common.{◌≡◌, ◌+◌, ◌<◌, ◌≤◌, ◌∙◌, All, None, Some, replicate, set, ap, sym, subst, subst₂, length}
use Rattle.std.proofs.Common.{rules, arith}
use Rattle.cpg_base.specs.Graph.{process_count}
use Rattle.cpg_base.proofs.Bounds.{duration-le}
use Rattle.cpg_tracks.specs.Timing.{IsOnTheWay, AreFed, AreFedBut, outcome_of}
use Rattle.cpg_tracks.specs.declared.schedule.FedProcess.{FedProcess}
use Rattle.cpg_tracks.proofs.GreedySteps.{HavePlaced, placed_first, placed_open, placed_early, placed_late, placed_more}
use Rattle.cpg_tracks.proofs.GreedySteps.{placed_whole, placed_greedy, frees_long, chosen_of, fed_within}
use Rattle.cpg_tracks.proofs.GreedySteps.{duration_at, durations_long}
use Rattle.cpg_tracks.proofs.Feeding.{fed_next}
use Rattle.cpg_tracks.proofs.schedule.place_all.Goals as goal

-- at the start no process is placed
pub loop-placed-init : goal.loop-placed-init
loop-placed-init c =
    let graph = c.args.problem.now in
    -- no process has a start, and each node is free from 0 on
    let starts : c.in_ok-starts.starts.items ≡ replicate (length c.processes-count.result.now) None = search rules in
    let free : c.in_ok-free.free.items ≡ replicate (length c.nodes.result.now) 0 = search rules in
    record {
      placed = subst₂ (λ s f. HavePlaced graph c.args.track.now.outcome s f 0)
          (sym (starts ∙ ap (λ n. replicate n None) (ap length c.processes-count.ensures.processes)))
          (sym (free ∙ ap (λ n. replicate n 0) (ap length c.nodes.ensures.nodes)))
          (placed_first graph c.args.track.now.outcome);
      fed = subst (λ x. AreFed graph x c.in_ok-starts.starts.items c.in_ok-fed.fed.items)
          (ap (λ t. t.outcome) c.in_ok-timing.ensures.track)
          (subst (λ xs. AreFed graph (outcome_of c.in_ok-timing.timing) xs c.in_ok-fed.fed.items)
          c.as_slice.ensures.value
          c.in_ok-fed.ensures);
    }

-- there is a free time for each node
pub next-requires-clause-free : goal.next-requires-clause-free
next-requires-clause-free c =
    let graph = c.args.problem.now in
    let admitted = c.requires.admitted in
    let outcome = c.args.track.now.outcome in
    -- the starts and the free times so far, how many processes are placed, and what holds of them
    let starts = c.loop-placed.starts.items in
    let free_times = c.loop-placed.free.items in
    let done = c.loop-placed._placed in
    let holds = c.loop-placed.invariant.placed in
    ap length c.as_slice-in-loop-placed.ensures.value
    ∙ frees_long graph admitted.limits admitted.well_formed outcome starts free_times done holds

-- what can be placed is a process of the graph
pub next-requires-clause-within : goal.next-requires-clause-within
next-requires-clause-within c =
    let graph = c.args.problem.now in
    subst (λ xs. All (λ (f : FedProcess). f.process < process_count graph) xs)
    (sym c.as_slice-in-loop-placed-2.ensures.value)
    (fed_within graph c.args.track.now.outcome c.loop-placed.starts.items c.loop-placed.fed.items
    c.loop-placed.invariant.fed)

-- nothing can be placed any more, so the schedule is greedy
pub returns-in_default-clause-greedy : goal.returns-in_default-clause-greedy
returns-in_default-clause-greedy c =
    let graph = c.args.problem.now in
    let admitted = c.requires.admitted in
    let outcome = c.args.track.now.outcome in
    -- the starts and the free times so far, how many processes are placed, and what holds of them
    let starts = c.loop-placed.starts.items in
    let free_times = c.loop-placed.free.items in
    let done = c.loop-placed._placed in
    let holds = c.loop-placed.invariant.placed in
    placed_greedy graph admitted.limits admitted.well_formed outcome starts free_times done holds c.args.order.now
    admitted.topological
    (chosen_of graph outcome starts free_times c.as_slice-in-loop-placed.result.now c.loop-placed.fed.items
    c.as_slice-in-loop-placed-2.result.now c.next.result None
    c.as_slice-in-loop-placed.ensures.value c.as_slice-in-loop-placed-2.ensures.value holds.free
    c.loop-placed.invariant.fed
    c.next.ensures c.in_default.is)

-- the chosen process is one of the graph, and there is a duration for each
pub index-requires : goal.index-requires
index-requires c =
    let graph = c.args.problem.now in
    let outcome = c.args.track.now.outcome in
    -- the starts and the free times so far, and what is known of them
    let starts = c.loop-placed.starts.items in
    let free_times = c.loop-placed.free.items in
    let holds = c.loop-placed.invariant.placed in
    let process = c.in-Some.chosen.process in
    let next = chosen_of graph outcome starts free_times c.as_slice-in-loop-placed.result.now c.loop-placed.fed.items
    c.as_slice-in-loop-placed-2.result.now c.next.result (Some c.in-Some.chosen)
    c.as_slice-in-loop-placed.ensures.value c.as_slice-in-loop-placed-2.ensures.value holds.free
    c.loop-placed.invariant.fed
    c.next.ensures c.in-Some.is in
    omega (arith, next.0.fed.within, durations_long graph c.in_ok-timing.timing c.in_ok-timing.ensures.timing)

-- the chosen process has a place among the starts
pub index_mut-requires : goal.index_mut-requires
index_mut-requires c =
    let graph = c.args.problem.now in
    let outcome = c.args.track.now.outcome in
    let starts = c.loop-placed.starts.items in
    let free_times = c.loop-placed.free.items in
    let holds = c.loop-placed.invariant.placed in
    let next = chosen_of graph outcome starts free_times c.as_slice-in-loop-placed.result.now c.loop-placed.fed.items
    c.as_slice-in-loop-placed-2.result.now c.next.result (Some c.in-Some.chosen)
    c.as_slice-in-loop-placed.ensures.value c.as_slice-in-loop-placed-2.ensures.value holds.free
    c.loop-placed.invariant.fed
    c.next.ensures c.in-Some.is in
    omega (arith, next.0.fed.within, holds.placing.count, c.loop-placed.starts.ok.0)

-- the end of the chosen process fits a number of 64 bits
pub overflow_add-end : goal.overflow_add-end
overflow_add-end c =
    let graph = c.args.problem.now in
    let admitted = c.requires.admitted in
    let outcome = c.args.track.now.outcome in
    -- the starts and the free times so far, how many processes are placed, and what holds of them
    let starts = c.loop-placed.starts.items in
    let free_times = c.loop-placed.free.items in
    let done = c.loop-placed._placed in
    let holds = c.loop-placed.invariant.placed in
    let process = c.in-Some.chosen.process in
    -- the chosen process is the next one, with its start
    let next = chosen_of graph outcome starts free_times c.as_slice-in-loop-placed.result.now c.loop-placed.fed.items
    c.as_slice-in-loop-placed-2.result.now c.next.result (Some c.in-Some.chosen)
    c.as_slice-in-loop-placed.ensures.value c.as_slice-in-loop-placed-2.ensures.value holds.free
    c.loop-placed.invariant.fed
    c.next.ensures c.in-Some.is in
    -- a start that is early enough, and a duration, fit a number of 64 bits
    omega (
      arith,
      placed_late graph admitted.limits admitted.well_formed outcome starts free_times done holds process
          (omega (arith, ap length c.processes-count.ensures.processes, c.loop-placed-test.true)) next.0,
      next.1,
      c.index.ensures
          ∙ duration_at graph c.in_ok-timing.timing c.in_ok-timing.ensures.timing process c.index.result.now
          next.0.fed.within,
      duration-le graph process graph.faults admitted.limits next.0.fed.within admitted.limits.faults,
    )

-- with the chosen process the schedule is still early enough to go on
pub feed_targets-requires-clause-starts : goal.feed_targets-requires-clause-starts
feed_targets-requires-clause-starts c =
    let graph = c.args.problem.now in
    let admitted = c.requires.admitted in
    let outcome = c.args.track.now.outcome in
    -- the starts and the free times so far, how many processes are placed, and what holds of them
    let starts = c.loop-placed.starts.items in
    let free_times = c.loop-placed.free.items in
    let done = c.loop-placed._placed in
    let holds = c.loop-placed.invariant.placed in
    let process = c.in-Some.chosen.process in
    -- the chosen process is the next one, with its start
    let next = chosen_of graph outcome starts free_times c.as_slice-in-loop-placed.result.now c.loop-placed.fed.items
    c.as_slice-in-loop-placed-2.result.now c.next.result (Some c.in-Some.chosen)
    c.as_slice-in-loop-placed.ensures.value c.as_slice-in-loop-placed-2.ensures.value holds.free
    c.loop-placed.invariant.fed
    c.next.ensures c.in-Some.is in
    let time = c.index.ensures
    ∙ duration_at graph c.in_ok-timing.timing c.in_ok-timing.ensures.timing process c.index.result.now
    next.0.fed.within in
    -- with it one more is placed, and the starts are still early
    let more = placed_more graph admitted.limits admitted.well_formed outcome starts free_times done holds process
    c.in-Some.chosen.start c.node_of.result
    c.index.result.now next.0 next.1 c.node_of.ensures.node time in
    subst (IsOnTheWay graph) (sym c.as_slice-in-loop-placed-3.ensures.value)
    (placed_open graph admitted.limits admitted.well_formed outcome _ _ (done + 1) more
    (omega (arith, ap length c.processes-count.ensures.processes, c.loop-placed-test.true)))

-- without the chosen process, only targets of its outputs may be missing from what can be placed
pub feed_targets-requires-clause-fed : goal.feed_targets-requires-clause-fed
feed_targets-requires-clause-fed c =
    let graph = c.args.problem.now in
    let admitted = c.requires.admitted in
    let outcome = c.args.track.now.outcome in
    -- the starts and the free times so far, and what is known of them
    let starts = c.loop-placed.starts.items in
    let free_times = c.loop-placed.free.items in
    let holds = c.loop-placed.invariant.placed in
    let process = c.in-Some.chosen.process in
    -- the chosen process is the next one, with its start
    let next = chosen_of graph outcome starts free_times c.as_slice-in-loop-placed.result.now c.loop-placed.fed.items
    c.as_slice-in-loop-placed-2.result.now c.next.result (Some c.in-Some.chosen)
    c.as_slice-in-loop-placed.ensures.value c.as_slice-in-loop-placed-2.ensures.value holds.free
    c.loop-placed.invariant.fed
    c.next.ensures c.in-Some.is in
    subst (λ x. AreFedBut graph x c.as_slice-in-loop-placed-3.result.now process c.drop_placed.new.fed.items)
    (sym (ap (λ t. t.outcome) c.in_ok-timing.ensures.track))
    (fed_next graph admitted.well_formed outcome starts holds.placing process next.0 c.loop-placed.fed.items
    c.in-Some.chosen.start
    c.as_slice-in-loop-placed-3.result.now c.drop_placed.new.fed.items c.loop-placed.invariant.fed
    next.1 c.as_slice-in-loop-placed-3.ensures.value c.drop_placed.ensures)

-- one more process is placed, and what can be placed is complete again
pub loop-placed-preserved : goal.loop-placed-preserved
loop-placed-preserved c =
    let graph = c.args.problem.now in
    let admitted = c.requires.admitted in
    let outcome = c.args.track.now.outcome in
    -- the starts and the free times so far, how many processes are placed, and what holds of them
    let starts = c.loop-placed.starts.items in
    let free_times = c.loop-placed.free.items in
    let done = c.loop-placed._placed in
    let holds = c.loop-placed.invariant.placed in
    let process = c.in-Some.chosen.process in
    -- the chosen process is the next one, with its start
    let next = chosen_of graph outcome starts free_times c.as_slice-in-loop-placed.result.now c.loop-placed.fed.items
    c.as_slice-in-loop-placed-2.result.now c.next.result (Some c.in-Some.chosen)
    c.as_slice-in-loop-placed.ensures.value c.as_slice-in-loop-placed-2.ensures.value holds.free
    c.loop-placed.invariant.fed
    c.next.ensures c.in-Some.is in
    let time = c.index.ensures
    ∙ duration_at graph c.in_ok-timing.timing c.in_ok-timing.ensures.timing process c.index.result.now
    next.0.fed.within in
    -- with it one more is placed
    let more = placed_more graph admitted.limits admitted.well_formed outcome starts free_times done holds process
    c.in-Some.chosen.start c.node_of.result
    c.index.result.now next.0 next.1 c.node_of.ensures.node time in
    record {
      placed = more;
      -- the targets of its outputs were looked at again, so what can be placed is complete
      fed = subst (λ x. AreFed graph x (set starts process (Some c.in-Some.chosen.start)) c.feed_targets.new.fed.items)
          (ap (λ t. t.outcome) c.in_ok-timing.ensures.track)
          (subst (λ xs. AreFed graph (outcome_of c.in_ok-timing.timing) xs c.feed_targets.new.fed.items)
          c.as_slice-in-loop-placed-3.ensures.value c.in_ok-feed_targets.ensures);
    }

-- there were as many turns as processes, so all active ones are placed, and the schedule is greedy
pub returns-clause-greedy : goal.returns-clause-greedy
returns-clause-greedy c =
    let graph = c.args.problem.now in
    let admitted = c.requires.admitted in
    let outcome = c.args.track.now.outcome in
    -- the starts and the free times so far, how many processes are placed, and what holds of them
    let starts = c.loop-placed.starts.items in
    let free_times = c.loop-placed.free.items in
    let done = c.loop-placed._placed in
    let holds = c.loop-placed.invariant.placed in
    -- there was a turn for each process, so none is left
    let count : process_count graph ≤ done =
    omega (arith, ap length c.processes-count.ensures.processes, c.loop-placed-test.false) in
    placed_greedy graph admitted.limits admitted.well_formed outcome starts free_times done holds c.args.order.now
    admitted.topological
    (placed_whole graph admitted.limits admitted.well_formed outcome starts free_times done holds count)

-- no start is later than 2^60: each of at most 128 turns adds little enough
pub returns-in_default-clause-early : goal.returns-in_default-clause-early
returns-in_default-clause-early c =
    let graph = c.args.problem.now in
    let admitted = c.requires.admitted in
    let outcome = c.args.track.now.outcome in
    -- the starts and the free times so far, how many processes are placed, and what holds of them
    let starts = c.loop-placed.starts.items in
    let free_times = c.loop-placed.free.items in
    let done = c.loop-placed._placed in
    let holds = c.loop-placed.invariant.placed in
    placed_early graph admitted.limits admitted.well_formed outcome starts free_times done holds
    (omega (arith, ap length c.processes-count.ensures.processes, c.loop-placed-test.true))

-- no start is later than 2^60 after the last turn either
pub returns-clause-early : goal.returns-clause-early
returns-clause-early c =
    let graph = c.args.problem.now in
    let admitted = c.requires.admitted in
    let outcome = c.args.track.now.outcome in
    -- the starts and the free times so far, how many processes are placed, and what holds of them
    let starts = c.loop-placed.starts.items in
    let free_times = c.loop-placed.free.items in
    let done = c.loop-placed._placed in
    let holds = c.loop-placed.invariant.placed in
    placed_early graph admitted.limits admitted.well_formed outcome starts free_times done holds
    (omega (arith, ap length c.processes-count.ensures.processes, c.loop-placed.auto._placed-end))
