-- Nothing stops a trial of the graph of a number unless memory runs out, and its worst case has the greatest finish.
use Rattle.std.proofs.Common.{ℕ, ◌≡◌, ◌∙◌, Bool, true, false, List, length, refl, ap, sym, subst, arith}
use Rattle.std.specs.Prelude.{◌↔◌, IsTrue, Result, Ok, Err, IfOk}
use Rattle.std.proofs.lemmas.Bool.{false≢true}
use Rattle.cpg_base.specs.Graph.{Graph}
use Rattle.cpg_base.specs.declared.memory.OutOfMemory.{OutOfMemory}
use Rattle.cpg_base.specs.Scenario.{Scenario}
use Rattle.cpg_base.specs.WellFormed.{WellFormed}
use Rattle.cpg_order.specs.Urgency.{IsTopological, first_order}
use Rattle.cpg_gen.specs.Generated.{generated}
use Rattle.cpg_gen_laws.proofs.Kept.{no_fault}
use Rattle.cpg_gen_laws.proofs.Narrow.{narrow}
use Rattle.cpg_gen_laws.proofs.Timely.{in_time}
use Rattle.cpg_reach.specs.Wide.{IsWide}
use Rattle.cpg_rules.specs.Admission.{Admission, IsAdmitted}
use Rattle.cpg_rules.specs.declared.admission.RuleFault.{RuleFault}
use Rattle.cpg_rules.specs.Faults.{ShowsFault}
use Rattle.cpg_core.specs.declared.fault.CompileFault.{CompileFault}
use Rattle.cpg_core.specs.declared.compiling.Compiled.{Compiled}
use Rattle.cpg_core.specs.Compilation.{IsCompilation, ShowsCompileFault}
use Rattle.cpg_core.specs.Compiled.{IsLateUnder}
use Rattle.cpg_table.specs.Lawful.{Tables, AreTablesOf}
use Rattle.cpg_table.specs.Table.{NodeTable}
use Rattle.cpg_table.specs.Valid.{IsValid}
use Rattle.cpg_violation.specs.Heads.{IsHeadFor}
use Rattle.cpg_violation.proofs.HeadLaws.{own_head}
use Rattle.cpg_check.specs.Verdict.{ShowsVerdict}
use Rattle.cpg_check.specs.declared.verdict.Verdict.{Verdict}
use Rattle.cpg_check.proofs.Verdicts.{other_head, faulty_tables}
use Rattle.cpg_cluster.specs.Driving.{IsDriven}
use Rattle.cpg_cluster.specs.Playing.{Playing, opened}
use Rattle.cpg_cluster.specs.Whole.{IsWholePlay}
use Rattle.cpg_show.specs.TraceText.{finish_of}
use Rattle.cpg_outputs.specs.declared.figures.Ending.{Ending}
use Rattle.cpg_outputs.specs.declared.figures.Trial.{Trial}
use Rattle.cpg_app.specs.Trial.{AreFiguresOf, IsEnding, IsGenerated, IsTrial, planned_world}
use Rattle.cpg_app.proofs.Finishes.{finish_is}

-- a generated graph keeps all rules, so a fault of its admission is that memory ran out
pub admission_fault : (number : ℕ) (g : Graph) (fault : RuleFault) → g ≡ generated number → ShowsFault g fault →
    fault ≡ RuleFault.OutOfMemory
admission_fault number g fault same shows = no_fault number fault (subst (λ x. ShowsFault x fault) same shows)

-- A fault of a generated graph's compile is that memory ran out. By the fault: no item of such a graph is too wide, and
-- it ends in time under its urgency order.
pub compile_fault : (g : Graph) (urgency : List ℕ) (fault : CompileFault) → IsGenerated g → IsTopological g urgency →
    ShowsCompileFault g urgency fault →
    fault ≡ CompileFault.OutOfMemory
compile_fault g urgency (CompileFault.TooWide x) made topological shows =
    absurd (narrow made.0 urgency x (subst (λ g. IsWide g (first_order g urgency) x) made.1 shows.0.wide))
compile_fault g urgency (CompileFault.Late s p time) made topological shows =
    let late : IsLateUnder (generated made.0) urgency urgency =
    subst (λ g. IsLateUnder g urgency (first_order g urgency)) made.1 shows.0.late in
    let measured = late.2 in
    let none = in_time made.0 urgency (subst (λ g. IsTopological g urgency) made.1 topological) measured.frozen
    measured.frozen_times urgency late.0 measured.excess_in measured.excess_by
    measured.is_excess in
    let some = late.3 in
    absurd (omega (arith, none, some))
compile_fault g urgency CompileFault.OutOfMemory made topological shows = refl

-- the tables of a compilation `c` have the graph's head and are valid
pub compiled_valid : (g : Graph) (urgency : List ℕ) (c : Compiled) → IsCompilation g urgency c →
    IsHeadFor g c.built.tables.head × IsValid g c.built.tables.nodes
compiled_valid g urgency c is = (subst (IsHeadFor g) (sym is.built.head) (own_head g), is.valid)

-- whether a verdict is yes
abbrev pub is_yes : Verdict → Bool
is_yes Verdict.Yes = true
is_yes (Verdict.Other part) = false
is_yes (Verdict.No fault) = false

-- a verdict `v` that is shown of tables `t` is yes exactly if they have the graph's head and are valid
pub verdict_is : (g : Graph) (urgency : List ℕ) (t : Tables) (v : Verdict) → AreTablesOf t.head t.nodes →
    ShowsVerdict g urgency t v →
    IsTrue (is_yes v) ↔ (IsHeadFor g t.head × IsValid g t.nodes)
verdict_is g urgency t Verdict.Yes lawful shows = (λ on. shows, λ both. refl)
verdict_is g urgency t (Verdict.Other part) lawful shows =
    (λ on. absurd (false≢true on), λ both. absurd (other_head g t.head part shows both.0))
verdict_is g urgency t (Verdict.No fault) lawful shows = (
  λ on. absurd (false≢true on),
  λ both. absurd
      (faulty_tables g t.nodes urgency fault (lawful.count ∙ ap (λ nodes. length nodes) both.0.nodes) shows.1 both.1),
)

-- A play of scenario `s` that a number drives from the state before the first turns to its end, with its greatest end
-- and its waits, is an ending.
pub ending_is : (g : Graph) (tables : List NodeTable) (s : Scenario) (number : ℕ) (old new : Playing)
    (waits finish : ℕ) →
    old ≡ opened g tables (planned_world g s) →
    IsDriven old.graph old.world number old.cluster new.cluster waits →
    IsWholePlay old.graph old.tables old.world new.cluster → finish ≡ finish_of g new.cluster.ends →
    IsEnding g tables s number (record { finish = finish; waits = waits })
ending_is g tables s number old new waits finish is driven whole same = record {
  cluster = new.cluster;
  driven = subst (λ (p : Playing). IsDriven p.graph p.world number p.cluster new.cluster waits) is driven;
  whole = subst (λ (p : Playing). IsWholePlay p.graph p.tables p.world new.cluster) is whole;
  finish = same;
}

-- The play in the worst scenario ends at the greatest finish: the greatest end of a whole play is the finish of the
-- scenario's run (`finish_is`), and this run has the greatest finish.
pub reaches_worst : (g : Graph) → WellFormed g → (urgency : List ℕ) (c : Compiled) → IsCompilation g urgency c →
    (number : ℕ) (e : Ending) →
    IsEnding g c.built.tables.nodes c.built.worst_in number e → e.finish ≡ c.built.worst
reaches_worst g formed urgency c is number e ending =
    let worst = is.built.worst.least in
    let run = worst.holds in
    ending.finish ∙ finish_is g formed c.built.tables.nodes c.order c.built.frozen is.built.exact.times
    (planned_world g c.built.worst_in) worst.lawful run.0 run.1 ending.cluster ending.whole ∙ run.2

-- if the figures `r` are those of the generated graph of `a` and of its compilation `c`, they are those of the trial
pub trial_is : (number : ℕ) (a : Admission) (c : Compiled) → a.graph ≡ generated number →
    IsAdmitted a.graph a.order a.guards → IsCompilation a.graph a.order c →
    (r : Result Trial OutOfMemory) →
    IfOk r (AreFiguresOf a.graph c number) → IfOk r (IsTrial number)
trial_is number a c same admitted compilation (Ok t) figures = record {
  admission = a;
  graph = same;
  admitted = admitted;
  compiled = c;
  compilation = compilation;
  figures = figures;
}
trial_is number a c same admitted compilation (Err e) p = p
