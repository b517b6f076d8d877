-- The laws on tuning.
use Rattle.std.specs.Prelude.{ℕ, ◌<◌, ◌≤◌, List}
use Rattle.cpg_base.specs.Graph.{Graph, process_count}
use Rattle.cpg_base.specs.Duration.{duration}
use Rattle.cpg_base.specs.declared.process.Process.{Process}
use Rattle.cpg_tune.specs.declared.judge.Judged.{Judged}
use Rattle.cpg_tune.specs.Best.{best_of, IsBest}
use Rattle.cpg_tune.specs.Retuned.{retuned, ArePartsOf}
use Rattle.cpg_tune.specs.Asked.{row_graph}
use Rattle.cpg_tune.specs.Tuned.{tolerated, IsGreatestAccepted}

-- `best_of` is the best number of parts of each process for any fault number
abbrev pub BestPartsAreBest : Type 0
BestPartsAreBest = (p : Process) (faults : ℕ) → IsBest p faults (best_of p faults)

-- with the best parts an execution with k faults lasts at most as long as with any other parts
abbrev pub TunedLastLeast : Type 0
TunedLastLeast = (g : Graph) (parts : List ℕ) → ArePartsOf g parts → (p : ℕ) → p < process_count g →
    duration (row_graph g g.faults) p g.faults ≤ duration (retuned g parts g.faults) p g.faults

-- `tolerated` is the greatest fault number whose row is accepted, and None exactly if no row is
abbrev pub ToleratedIsGreatest : Type 0
ToleratedIsGreatest = (rows : List Judged) → IsGreatestAccepted rows (tolerated rows)
