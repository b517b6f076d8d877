-- The halts that a command can stop with, once it is known what its files say.
use Rattle.std.proofs.Common.{ℕ, ◌≡◌, ◌≢◌, ◌∙◌, List, length, ap, inl, inr}
use Rattle.std.specs.Prelude.{◌⊎◌, Err}
use Rattle.cpg_rules.specs.Admission.{Admission}
use Rattle.cpg_table.specs.Lawful.{Tables}
use Rattle.cpg_table.specs.Valid.{IsValid}
use Rattle.cpg_codec.specs.Packs.{AreLawful}
use Rattle.cpg_violation.specs.Heads.{IsHeadFor}
use Rattle.cpg_check.proofs.Verdicts.{other_head, faulty_tables}
use Rattle.cpg_order.specs.Urgency.{first_order}
use Rattle.cpg_reach.specs.Wide.{IsWide}
use Rattle.cpg_core.specs.Compiled.{IsLate}
use Rattle.cpg_core.specs.declared.fault.CompileFault.{CompileFault}
use Rattle.cpg_core.specs.Compilation.{ShowsCompileFault}
use Rattle.cpg_hyper.specs.declared.part.Part.{Part}
use Rattle.cpg_hyper.specs.declared.part.HyperFault.{HyperFault}
use Rattle.cpg_hyper.specs.declared.part.HyperFault.TheVariants.{OutOfMemory}
use Rattle.cpg_hyper.specs.Refusals.{ShowsUnrolled}
use Rattle.cpg_refusal.specs.declared.halt.Halt.{Halt}
use Rattle.cpg_refusal.specs.Halts.{halt_of_parts}
use Rattle.cpg_refusal.specs.Lines.{status_of}
use Rattle.cpg_inputs.proofs.OneReading.{AreAlike, moved}
use Rattle.cpg_app.specs.Halts.{halt_of_compile}
use Rattle.cpg_app.specs.Causes.{IsNotUnrolled, IsUncompiled, StopsVerdict}
use Rattle.cpg_app.specs.Outputs.{AreJudgedSafe}

-- ---- of a graph

-- by its status, the halt says that memory ran out, that the graph is late, or that it is too wide; and it is so
abbrev pub CompileLeft : Admission → Halt → Type 0
CompileLeft a h = (status_of h ≡ 8) ⊎ (((status_of h ≡ 5) × IsLate a.graph a.order) ⊎
    ((status_of h ≡ 6) × ((x : ℕ) × IsWide a.graph (first_order a.graph a.order) x)))

-- given two admissions that are alike
module _ (a b : Admission) (same : AreAlike a b) (h : Halt) where
  -- the halt of a compile's fault for b is one of these for a; by the fault
  of_fault : (fault : CompileFault) → h ≡ halt_of_compile b fault → ShowsCompileFault b.graph b.order fault →
      CompileLeft a h
  of_fault (CompileFault.TooWide x) e shows =
      inr (inr (ap status_of e, (x, moved a b same (λ g o. IsWide g (first_order g o) x) shows.0.wide)))
  of_fault (CompileFault.Late s p time) e shows = inr (inl (ap status_of e, moved a b same IsLate shows.0))
  of_fault CompileFault.OutOfMemory same shows = inl (ap status_of same)

  -- the halt by which the compile of b fails is one of these for a
  pub compile_left : IsUncompiled b h → CompileLeft a h
  compile_left wrong = of_fault wrong.fault wrong.halt_is wrong.shows

-- ---- of a graph and tables

-- by its status, the halt says that the tables are another graph's, or that they break a rule; and it is so
abbrev pub CheckLeft : Admission → Tables → Halt → Type 0
CheckLeft a t h = ((status_of h ≡ 4) × (IsHeadFor a.graph t.head → ⊥)) ⊎
    ((status_of h ≡ 7) × IsHeadFor a.graph t.head × (IsValid a.graph t.nodes → ⊥))

-- given two admissions that are alike, and lawful tables
module _ (a b : Admission) (same : AreAlike a b) (t : Tables) (lawful : AreLawful t) where
  -- the halt by which a check for b stops is one of these for a
  pub check_left : (h : Halt) → StopsVerdict b t h → CheckLeft a t h
  check_left h (inl other) = inl (
    ap status_of other.halt_is,
    moved a b same (λ g o. IsHeadFor g t.head → ⊥) (other_head b.graph t.head other.part other.first),
  )
  check_left h (inr broken) =
      let count : length t.nodes ≡ length b.graph.nodes = lawful.nodes.count ∙ ap length broken.head.nodes in
      let here = moved a b same (λ g o. IsHeadFor g t.head × (IsValid g t.nodes → ⊥))
      (broken.head, faulty_tables b.graph t.nodes b.order broken.fault count broken.first) in
      inr (ap status_of broken.halt_is, here.0, here.1)

  -- tables that are found safe for b have the head of a's graph and are valid for it
  pub judged_is : AreJudgedSafe b t → IsHeadFor a.graph t.head × IsValid a.graph t.nodes
  judged_is judged = moved a b same (λ g o. IsHeadFor g t.head × IsValid g t.nodes) (judged.head, judged.safe.valid)

-- ---- of parts

-- by its status, the halt says that memory ran out, or that the parts are refused; and they are, for some fault
abbrev pub PartsLeft : List Part → Halt → Type 0
PartsLeft parts h = (status_of h ≡ 8) ⊎
    ((status_of h ≡ 4) × ((fault : HyperFault) × ShowsUnrolled parts (Err fault) × (fault ≢ OutOfMemory)))

-- the halt of a fault of the parts is one of these; by the fault
refused_left : (parts : List Part) (h : Halt) (fault : HyperFault) → h ≡ halt_of_parts fault →
    ShowsUnrolled parts (Err fault) →
    PartsLeft parts h
refused_left parts h (HyperFault.Range p) same shows = inr (ap status_of same, (HyperFault.Range p, shows, λ k. cc))
refused_left parts h (HyperFault.Differ p) same shows = inr (ap status_of same, (HyperFault.Differ p, shows, λ k. cc))
refused_left parts h (HyperFault.Over p) same shows = inr (ap status_of same, (HyperFault.Over p, shows, λ k. cc))
refused_left parts h HyperFault.Period same shows = inr (ap status_of same, (HyperFault.Period, shows, λ k. cc))
refused_left parts h (HyperFault.Count what) same shows = inr
    (ap status_of same, (HyperFault.Count what, shows, λ k. cc))
refused_left parts h (HyperFault.LongName p) same shows = inr
    (ap status_of same, (HyperFault.LongName p, shows, λ k. cc))
refused_left parts h (HyperFault.Order p) same shows = inr (ap status_of same, (HyperFault.Order p, shows, λ k. cc))
refused_left parts h HyperFault.OutOfMemory same shows = inl (ap status_of same)

-- the halt by which parts aren't unrolled is one of these
pub parts_left : (parts : List Part) (h : Halt) → IsNotUnrolled parts h → PartsLeft parts h
parts_left parts h wrong = refused_left parts h wrong.fault wrong.halt_is wrong.shows
