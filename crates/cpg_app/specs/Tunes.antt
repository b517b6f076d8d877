-- A graph's tuning: what its compile answers for each fault number.
use Rattle.std.specs.Prelude.{ℕ, ◌≡◌, List}
use Rattle.cpg_base.specs.Graph.{Graph}
use Rattle.cpg_base.specs.Scenario.{Scenario}
use Rattle.cpg_words.specs.Parts.{Text}
use Rattle.cpg_order.specs.Urgency.{first_order}
use Rattle.cpg_reach.specs.Wide.{IsLeastWide, IsNarrow}
use Rattle.cpg_rules.specs.Guards.{Guards}
use Rattle.cpg_rules.specs.Admission.{IsAdmitted}
use Rattle.cpg_core.specs.declared.compiling.Compiled.{Compiled}
use Rattle.cpg_core.specs.declared.fault.CompileFault.{CompileFault}
use Rattle.cpg_core.specs.Compilation.{IsCompilation, ShowsCompileFault}
use Rattle.cpg_tune.specs.declared.judge.Judged.{Judged}
use Rattle.cpg_tune.specs.declared.judge.Judged.TheVariants.{Worst, Late, Wide}
use Rattle.cpg_tune.specs.Tuned.{Tuning, IsTuning}
use Rattle.cpg_outputs.specs.Tunes.{tuning_text}

-- This is the answer for a graph with this urgency order: the least item that is too wide by its views under the first
-- order. If there is none, the compile answers: with the greatest finish of the tables, or with the end of a process
-- that is late.
abbrev pub IsCompileAnswer : Graph → List ℕ → Judged → Type 0
IsCompileAnswer g urgency (Worst finish) =
    IsNarrow g (first_order g urgency) × (c : Compiled) × IsCompilation g urgency c × (c.built.worst ≡ finish)
IsCompileAnswer g urgency (Late finish) =
    IsNarrow g (first_order g urgency) × (s : Scenario) × (p : ℕ) ×
    ShowsCompileFault g urgency (CompileFault.Late s p finish)
IsCompileAnswer g urgency (Wide item) = IsLeastWide g (first_order g urgency) item

-- the graph is admitted, with these orders and guards, and this is its answer
pub record IsJudged (g : Graph) (judged : Judged) : Type 0 where
  -- the graph is admitted with this order and these guards
  pub order : List ℕ
  pub guards : Guards
  pub admitted : IsAdmitted g order guards
  -- `judged` is the answer of its compile
  pub answer : IsCompileAnswer g order judged

-- the text is that of the graph's tuning, by the answers of its compiles
pub record IsTuningText (g : Graph) (text : Text) : Type 0 where
  -- the tuning that the text says
  pub tuning : Tuning
  pub is_tuning : IsTuning IsJudged g tuning
  -- the text is that of this tuning
  pub spelled : text ≡ tuning_text g tuning
