-- Proof of `active_marks`: returns for each process, by number, whether it is active in the track.
use Rattle.std.proofs.Common.{◌≡◌, ◌+◌, ◌<◌, ◌++◌, ◌∷◌, [], ◌∙◌, true, Contains, get_or, length, take, sym, ap, subst}
use Rattle.std.proofs.Common.{arith}
use Rattle.std.proofs.lemmas.List.{take_more, take_all, length-set}
use Rattle.cpg_tracks.proofs.GreedySteps.{active_at}
use Rattle.cpg_tracks.proofs.Feeding.{mark_set, mark_only, marks_done}
use Rattle.cpg_tracks.proofs.timing.active_marks.Goals as goal

-- an active process is one of the graph, and there is a mark for each
pub index_mut-requires : goal.index_mut-requires
index_mut-requires c =
    let same = c.active-process-items.ensures in
    let found = active_at c.args.problem.now c.args.track.now c.requires c.loop-process.process-index 0
    (omega (arith, ap length same, c.loop-process-test.true)) in
    rw same (omega (arith, found.0, c.loop-process.invariant.count))

-- one more active process is marked
pub loop-process-preserved : goal.loop-process-preserved
loop-process-preserved c =
    let index = c.loop-process.process-index in
    let actives = c.args.track.now.active in
    let marks = c.loop-process.marks.items in
    let same = c.active-process-items.ensures in
    -- the active process at hand, with which the processes so far are one more
    let process = get_or c.active-process-items.result.now index 0 in
    let is : process ≡ get_or actives index 0 = ap (λ xs. get_or xs index 0) same in
    let inside : index < length actives = omega (arith, ap length same, c.loop-process-test.true) in
    let more : take (index + 1) actives ≡ take index actives ++ process ∷ [] =
    take_more actives index 0 inside ∙ ap (λ x. take index actives ++ x ∷ []) (sym is) in
    let found = active_at c.args.problem.now c.args.track.now c.requires index 0 inside in
    record {
      count = length-set marks process true ∙ c.loop-process.invariant.count;
      marked = λ q listed. mark_set marks (take index actives) process
          (omega (arith, is, found.0, c.loop-process.invariant.count))
          c.loop-process.invariant.marked q (subst (λ xs. Contains xs q) more listed);
      only = λ q listed.
          subst (λ xs. Contains xs q) (sym more)
          (mark_only marks (take index actives) process c.loop-process.invariant.only q listed);
    }

-- the loop has visited all active processes, so exactly these are marked
pub returns : goal.returns
returns c =
    let actives = c.args.track.now.active in
    let done = take_all c.loop-process.process-index actives
    (omega (arith, ap length c.active-process-items.ensures, c.loop-process-test.false)) in
    marks_done c.args.problem.now c.args.track.now c.requires c.loop-process.marks.items c.loop-process.invariant.count
    (λ q listed. c.loop-process.invariant.marked q (subst (λ xs. Contains xs q) (sym done) listed))
    (λ q marked. subst (λ xs. Contains xs q) done (c.loop-process.invariant.only q marked))
