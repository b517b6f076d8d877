-- Proof of `merged_order`: returns the track order of a graph: by key, and for equal keys by number.
use Rattle.std.proofs.Common.{◌∙◌, ap, sym, subst, subst₂, length, arith}
use Rattle.cpg_order.specs.Urgency.{IsTopological}
use Rattle.cpg_tracks.specs.Tracks.{HasTrackOrder}
use Rattle.cpg_tracks.proofs.TrackLaws.{order_of_tracks_topological}
use Rattle.cpg_tracks.proofs.Keyed.{keys_long, has_order}
use Rattle.cpg_tracks.proofs.order.merged_order.Goals as goal

-- there are no more keys than processes, at most 128
pub by_key-requires : goal.by_key-requires
by_key-requires c =
    let graph = c.args.admitted.now.graph in
    let by = rw (c.as_slice-2.ensures.value, c.problem-problem.ensures.problem) at c.in_ok-keys.ensures in
    omega (
      arith,
      ap length c.as_slice-3.ensures.value,
      keys_long graph c.in_ok-schedules.schedules.items c.in_ok-keys.keys.items by,
      c.problem-problem.ensures.admitted.limits.few_processes,
    )

-- the processes by key are the track order, which is topological, so `ordered` doesn't refuse it
pub unreachable-requires : goal.unreachable-requires
unreachable-requires c =
    let graph = c.args.admitted.now.graph in
    let order : HasTrackOrder graph c.in_ok-processes.processes.items = has_order graph c.in-Some.tracks.items
    c.in_ok-schedules.schedules.items c.in_ok-keys.keys.items c.in_ok-processes.processes.items
    (rw c.in-Some.is at c.in_ok-tracks.ensures.tracks)
    (rw c.as_slice.ensures.value at c.in_ok-schedules.ensures.greedy)
    (rw (c.as_slice-2.ensures.value, c.problem-problem.ensures.problem) at c.in_ok-keys.ensures)
    (rw c.as_slice-3.ensures.value at c.in_ok-processes.ensures.all)
    (rw c.as_slice-3.ensures.value at c.in_ok-processes.ensures.rising) in
    let refused = rw c.in_default-2.is at c.in_ok-order.ensures.refused in
    refused (subst₂ IsTopological (sym c.problem-problem.ensures.problem) (sym c.as_slice-4.ensures.value)
    (order_of_tracks_topological graph c.problem-problem.ensures.admitted.well_formed
    c.in_ok-processes.processes.items order))

-- the processes by key are the track order
pub returns-clause-order : goal.returns-clause-order
returns-clause-order c =
    let g = c.args.admitted.now.graph in
    let order : HasTrackOrder g c.in_ok-processes.processes.items = has_order g c.in-Some.tracks.items
    c.in_ok-schedules.schedules.items c.in_ok-keys.keys.items c.in_ok-processes.processes.items
    (rw c.in-Some.is at c.in_ok-tracks.ensures.tracks)
    (rw c.as_slice.ensures.value at c.in_ok-schedules.ensures.greedy)
    (rw (c.as_slice-2.ensures.value, c.problem-problem.ensures.problem) at c.in_ok-keys.ensures)
    (rw c.as_slice-3.ensures.value at c.in_ok-processes.ensures.all)
    (rw c.as_slice-3.ensures.value at c.in_ok-processes.ensures.rising) in
    let is = rw c.in-Some-2.is at c.in_ok-order.ensures.order in
    subst (HasTrackOrder g) (sym (is ∙ c.as_slice-4.ensures.value)) order
