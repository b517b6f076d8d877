-- Proof of `keys`: returns the key of each process, by number.
use Rattle.std.proofs.Common.{◌+◌, ◌^◌, ◌<◌, ◌≡◌, ◌∙◌, ap, sym, subst, get_or, length, set, arith}
use Rattle.cpg_base.specs.Graph.{process_count}
use Rattle.cpg_base.specs.Order.{place}
use Rattle.cpg_tracks.specs.Tracks.{key_by}
use Rattle.cpg_tracks.specs.Walks.{KeysSoFar}
use Rattle.cpg_tracks.proofs.TrackSteps.{at_index, key_set, keys_done}
use Rattle.cpg_tracks.proofs.Keyed.{key_low, low_more}
use Rattle.cpg_tracks.proofs.keys.keys.Goals as goal

-- each number in the order is that of a process of the graph
pub key_of-key-requires-clause-process : goal.key_of-key-requires-clause-process
key_of-key-requires-clause-process c =
    let graph = c.args.problem.now in
    let same = c.processes-process-items.ensures.processes in
    -- what is at this place of the order is a process of the graph
    let at = at_index graph c.args.order.now c.requires.order c.args.schedules.now c.loop-process.process-index 0
    (omega (arith, ap length same, c.loop-process-test.true)) in
    rw same at.0

-- the process of the order is one of the graph, and there is a key for each
pub index_mut-requires : goal.index_mut-requires
index_mut-requires c =
    let graph = c.args.problem.now in
    let same = c.processes-process-items.ensures.processes in
    -- what is at this place of the order is a process of the graph
    let at = at_index graph c.args.order.now c.requires.order c.args.schedules.now c.loop-process.process-index 0
    (omega (arith, ap length same, c.loop-process-test.true)) in
    rw same (omega (arith, at.0, c.loop-process.invariant.set.count))

-- the key of one more process is set, and is within the next bound
pub loop-process-preserved : goal.loop-process-preserved
loop-process-preserved c =
    let graph = c.args.problem.now in
    let order = c.args.order.now in
    let keys = c.loop-process.keys.items in
    let process = get_or c.processes-process-items.result.now c.loop-process.process-index 0 in
    let same = c.processes-process-items.ensures.processes in
    -- the process at the place is one of the graph
    let at = at_index graph order c.requires.order c.args.schedules.now c.loop-process.process-index 0
    (omega (arith, ap length same, c.loop-process-test.true)) in
    let is = ap (λ xs. get_or xs c.loop-process.process-index 0) same in
    let inside : process < process_count graph = subst (λ x. x < process_count graph) (sym is) at.0 in
    let there : place order process ≡ c.loop-process.process-index = ap (place order) is ∙ at.1 in
    let key : c.key_of-key.result ≡ key_by graph c.args.schedules.now keys process =
    c.key_of-key.ensures ∙ ap (λ ks. key_by graph c.args.schedules.now ks process) c.as_slice.ensures.value in
    -- its key is set, and all keys stay below a bound that grows by 1 with each place
    record {
      set = subst (λ k. KeysSoFar graph order c.args.schedules.now (set keys process k)
          (c.loop-process.process-index + 1))
          (sym key)
          (key_set graph order c.requires.order c.args.schedules.now keys c.loop-process.process-index process
          c.loop-process.invariant.set inside there);
      low = λ q. let bound = low_more keys (2 ^ 60 + c.loop-process.process-index) process c.key_of-key.result
          (omega (arith, c.loop-process.invariant.set.count)) c.loop-process.invariant.low
          (omega (
            arith,
            key,
            key_low graph c.args.schedules.now keys (2 ^ 60)
                (2 ^ 60 + c.loop-process.process-index) process c.requires.early
                (omega arith) c.loop-process.invariant.low,
          )) q in
          omega (arith, bound);
    }

-- all processes have been visited, so all keys are set
pub returns : goal.returns
returns c =
    let graph = c.args.problem.now in
    let order = c.args.order.now in
    -- the loop has ended at the end of the order
    let done : c.loop-process.process-index ≡ length order = omega (
      arith,
      ap length c.processes-process-items.ensures.processes,
      c.loop-process-test.false,
      c.loop-process.auto.process-index-end,
    ) in
    keys_done graph order c.requires.order c.args.schedules.now c.loop-process.keys.items
    (subst (KeysSoFar graph order c.args.schedules.now c.loop-process.keys.items) done c.loop-process.invariant.set)
