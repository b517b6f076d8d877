-- What a judge is asked: for each fault number, about the graph with its best parts.
use Rattle.std.specs.Prelude.{ℕ, ◌≤◌, ◌↔◌}
use Rattle.cpg_base.specs.declared.limits.TheConstants.{MOST_FAULTS}
use Rattle.cpg_base.specs.Graph.{Graph}
use Rattle.cpg_rules.specs.FaultNumber.{with_fault_number}
use Rattle.cpg_tune.specs.declared.judge.Judged.{Judged}
use Rattle.cpg_tune.specs.Best.{best_parts}
use Rattle.cpg_tune.specs.Retuned.{retuned}

-- the graph of a row: a graph with `faults` as its fault number, and with the parts that are best for its own fault
-- number
abbrev pub row_graph : Graph → ℕ → Graph
row_graph g faults = retuned g (best_parts g) faults

-- The judge may be asked about the graph of each row. `may` says which graphs a judge requires.
abbrev pub MayAskRows : (Graph → Type 0) → Graph → Type 0
MayAskRows may g = (faults : ℕ) → faults ≤ MOST_FAULTS → may (row_graph g faults)

-- the judge may be asked about a graph with each fault number, its parts unchanged
abbrev pub MayAskEach : (Graph → Type 0) → Graph → Type 0
MayAskEach may g = (faults : ℕ) → faults ≤ MOST_FAULTS → may (with_fault_number g faults)

-- a judge may be asked about the same graphs before a call and after it
abbrev pub SameQuestions : (Graph → Type 0) → (Graph → Type 0) → Type 0
SameQuestions may_old may_new = (g : Graph) → may_old g ↔ may_new g

-- a judge may give the same answers on each graph before a call and after it
abbrev pub SameAnswers : (Graph → Judged → Type 0) → (Graph → Judged → Type 0) → Type 0
SameAnswers answers_old answers_new = (g : Graph) (judged : Judged) → answers_old g judged ↔ answers_new g judged
