-- Proof of `excess`, which returns the greatest excess.
use Rattle.std.proofs.Common.{ℕ, ◌+◌, ◌<◌, ◌≡◌, ◌∙◌, Option, None, length, arith, sym, ap, subst}
use Rattle.std.proofs.lemmas.List.{get_or_default}
use Rattle.std.proofs.lemmas.List.Elements.{All-get_or}
use Rattle.cpg_base.specs.Graph.{process_count}
use Rattle.cpg_tree.specs.GraphTrees.{IsTree}
use Rattle.cpg_tree.specs.GraphTrees.{no_tree}
use Rattle.cpg_tree_columns.specs.Peaks.{EndsAt, EndsPast, IsPeak, tree_at}
use Rattle.cpg_tree_columns.specs.Tops.{HasFrom, HasTops, IsTop, bar_of, past_tops}
use Rattle.cpg_tree_columns.proofs.PeaksGrow.{all_processes, next_past, next_under}
use Rattle.cpg_tree_columns.proofs.PeaksTop.{ends_tops, past_count, past_tops_are, peak_of_all}
use Rattle.cpg_tree_columns.proofs.measuring.excess.Goals as goal
use Rattle.cpg_tree_columns.proofs.measuring.excess.Goals.{then-reaches+in_ok-peak-2, else-reaches}

-- the tops of the excess are one for each process, and this process is one of the graph
pub index-requires : goal.index-requires
index-requires c =
    let g = c.args.problem.now in
    let made : past_tops g c.args.tops.now ≡ c.in_ok-past.past.items = sym c.in_ok-past.ensures in
    omega (
      arith,
      c.loop-process-test.true,
      ap length c.processes.ensures.processes,
      ap length (sym made) ∙ past_count g c.args.tops.now,
    )

-- the ends of this process are past its due above the bar or not: the peak goes on to one process more either way
pub loop-process-preserved : goal.loop-process-preserved
loop-process-preserved c =
    let g = c.args.problem.now in
    let urgency = c.args.urgency.now in
    let ends = c.args.ends.now in
    let n = c.loop-process.process in
    let tops = c.in_ok-past.past.items in
    let bar = c.bar_of-bar.result in
    let top : Option ℕ = c.index.result.now in
    let below : n < process_count g =
    omega (arith, c.loop-process-test.true, ap length c.processes.ensures.processes) in
    -- the tops are the greatest ends of the processes in any scenario
    let ends_top : HasTops g (process_count g) (EndsAt g ends) c.args.tops.now =
    ends_tops g c.processes.ensures.within.few_processes ends c.requires.trees c.args.tops.now c.requires.tops
    c.requires.count in
    let made : past_tops g c.args.tops.now ≡ tops = sym c.in_ok-past.ensures in
    -- so how far they are past the dues is the greatest excess of each
    let are : HasTops g (process_count g) (EndsPast g ends) tops =
    subst (HasTops g (process_count g) (EndsPast g ends)) made (past_tops_are g ends c.args.tops.now ends_top) in
    let count : length tops ≡ process_count g = ap length (sym made) ∙ past_count g c.args.tops.now in
    let is_top : IsTop g (EndsPast g ends n) top = subst (IsTop g (EndsPast g ends n))
    (get_or_default tops n None top (omega (arith, below, count)) ∙ sym c.index.ensures) (are n below) in
    elim c.if-reaches.branch [
      -- the process reaches the bar, so its tree may have a greater time than the peak
      | then-reaches+in_ok-peak-2 w ↦
          let tree = w.index-ends-process.result in
          let same : tree ≡ tree_at g ends n = w.index-ends-process.is
          ∙ get_or_default ends n tree (no_tree g.faults) (omega (arith, below, c.requires.count)) in
          subst (IsPeak g urgency (n + 1) (HasFrom bar (EndsPast g ends))) (sym w.peak-is)
          (next_past g urgency ends n tree same c.loop-process.peak w.in_ok-peak-2.peak
          (subst (IsTree g) (sym same) (All-get_or (IsTree g) ends n (no_tree g.faults)
          (omega (arith, below, c.requires.count)) c.requires.trees)) w.in_ok-peak-2.ensures
          bar top (sym c.reaches.ensures ∙ w.if-reaches.true) is_top c.loop-process.invariant)
      -- the process is under the bar, so the peak stays
      | else-reaches w ↦ subst (IsPeak g urgency (n + 1) (HasFrom bar (EndsPast g ends))) (sym w.peak-is)
          (next_under g urgency n (EndsPast g ends) bar top is_top
          (sym c.reaches.ensures ∙ w.if-reaches.false) c.loop-process.peak c.loop-process.invariant)
    ]

-- all processes are gone over, so the peak is that of all ends past their due: those under the bar can't be the
-- greatest
peak_of : (c : goal.After-drop-past-2) →
    IsPeak c.args.problem.now c.args.urgency.now (process_count c.args.problem.now)
    (EndsPast c.args.problem.now c.args.ends.now) c.loop-process.peak
peak_of c =
    let g = c.args.problem.now in
    let urgency = c.args.urgency.now in
    let ends = c.args.ends.now in
    let tops = c.in_ok-past.past.items in
    let peak = c.loop-process.peak in
    -- the tops are the greatest ends of the processes in any scenario
    let ends_top : HasTops g (process_count g) (EndsAt g ends) c.args.tops.now =
    ends_tops g c.processes.ensures.within.few_processes ends c.requires.trees c.args.tops.now c.requires.tops
    c.requires.count in
    let made : past_tops g c.args.tops.now ≡ tops = sym c.in_ok-past.ensures in
    -- so how far they are past the dues is the greatest excess of each
    let are : HasTops g (process_count g) (EndsPast g ends) tops =
    subst (HasTops g (process_count g) (EndsPast g ends)) made (past_tops_are g ends c.args.tops.now ends_top) in
    let count : length tops ≡ process_count g = ap length (sym made) ∙ past_count g c.args.tops.now in
    let all = all_processes g urgency (HasFrom c.bar_of-bar.result (EndsPast g ends)) c.loop-process.process peak
    (omega (arith, c.loop-process-test.false, c.loop-process.auto.process-end, ap length c.processes.ensures.processes))
    c.loop-process.invariant in
    peak_of_all g urgency (process_count g) (EndsPast g ends) tops count are peak
    (subst (λ (bar : ℕ). IsPeak g urgency (process_count g) (HasFrom bar (EndsPast g ends)) peak)
    (c.bar_of-bar.ensures ∙ ap bar_of c.as_slice.ensures.value) all)

-- `peak_of` above shows it
pub returns : goal.returns
returns c = peak_of c
