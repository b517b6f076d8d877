-- Proof of `worst`, which returns the greatest finish.
use Rattle.std.proofs.Common.{ℕ, ◌+◌, ◌<◌, ◌≡◌, ◌∙◌, Option, None, get_or, rules, length, arith, sym, ap, subst}
use Rattle.std.proofs.lemmas.List.{get_or_default}
use Rattle.cpg_base.specs.Graph.{process_count}
use Rattle.cpg_tree.specs.GraphTrees.{no_tree}
use Rattle.cpg_tree_columns.specs.Peaks.{EndsAt, IsPeak, tree_at}
use Rattle.cpg_tree_columns.specs.Tops.{HasFrom, HasTops, IsTop, reaches}
use Rattle.cpg_tree_columns.proofs.PeaksGrow.{all_processes, next_end, next_under}
use Rattle.cpg_tree_columns.proofs.PeaksTop.{ends_tops, peak_of_all}
use Rattle.cpg_tree_columns.proofs.measuring.worst.Goals as goal
use Rattle.cpg_tree_columns.proofs.measuring.worst.Goals.{then-reaches+in_ok-peak-2, else-reaches}

-- the greatest end of this process reaches the bar or not: the peak goes on to one process more either way
pub loop-process-preserved : goal.loop-process-preserved
loop-process-preserved c =
    let g = c.args.problem.now in
    let urgency = c.args.urgency.now in
    let ends = c.args.ends.now in
    let n = c.loop-process.process in
    let tops = c.args.tops.now in
    let bar = c.bar_of-bar.result in
    let top : Option ℕ = get_or tops n None in
    let asked : c.reaches.result ≡ reaches bar top = search rules in
    let below : n < process_count g =
    omega (arith, c.loop-process-test.true, ap length c.processes.ensures.processes) in
    -- the tops are the greatest ends of the processes in any scenario
    let are : HasTops g (process_count g) (EndsAt g ends) tops = ends_tops g c.processes.ensures.within.few_processes
    ends c.requires.trees tops c.requires.tops c.requires.count in
    let count : length tops ≡ process_count g = c.requires.tops.count ∙ c.requires.count in
    let is_top : IsTop g (EndsAt g ends n) top = are n below in
    elim c.if-reaches.branch [
      -- the process reaches the bar, so its tree may have a greater time than the peak
      | then-reaches+in_ok-peak-2 w ↦
          let tree = w.index-ends-process.result in
          let same : tree ≡ tree_at g ends n = w.index-ends-process.is
          ∙ get_or_default ends n tree (no_tree g.faults) (omega (arith, below, c.requires.count)) in
          subst (IsPeak g urgency (n + 1) (HasFrom bar (EndsAt g ends))) (sym w.peak-is)
          (next_end g urgency ends n tree same c.loop-process.peak w.in_ok-peak-2.peak
          bar top (sym asked ∙ w.if-reaches.true) is_top c.loop-process.invariant w.in_ok-peak-2.ensures)
      -- the process is under the bar, so the peak stays
      | else-reaches w ↦ subst (IsPeak g urgency (n + 1) (HasFrom bar (EndsAt g ends))) (sym w.peak-is)
          (next_under g urgency n (EndsAt g ends) bar top is_top
          (sym asked ∙ w.if-reaches.false) c.loop-process.peak c.loop-process.invariant)
    ]

-- all processes are gone over, so the peak is that of all ends: those under the bar can't be the greatest
peak_of : (c : goal.After-loop-process) →
    IsPeak c.args.problem.now c.args.urgency.now (process_count c.args.problem.now)
    (EndsAt c.args.problem.now c.args.ends.now) c.loop-process.peak
peak_of c =
    let g = c.args.problem.now in
    let urgency = c.args.urgency.now in
    let ends = c.args.ends.now in
    let tops = c.args.tops.now in
    let peak = c.loop-process.peak in
    -- the tops are the greatest ends of the processes in any scenario
    let are : HasTops g (process_count g) (EndsAt g ends) tops = ends_tops g c.processes.ensures.within.few_processes
    ends c.requires.trees tops c.requires.tops c.requires.count in
    let count : length tops ≡ process_count g = c.requires.tops.count ∙ c.requires.count in
    let all = all_processes g urgency (HasFrom c.bar_of-bar.result (EndsAt g ends)) c.loop-process.process peak
    (omega (arith, c.loop-process-test.false, c.loop-process.auto.process-end, ap length c.processes.ensures.processes))
    c.loop-process.invariant in
    peak_of_all g urgency (process_count g) (EndsAt g ends) tops count are peak
    (subst (λ (bar : ℕ). IsPeak g urgency (process_count g) (HasFrom bar (EndsAt g ends)) peak)
    c.bar_of-bar.ensures all)

-- `peak_of` above shows it
pub returns : goal.returns
returns c = peak_of c
