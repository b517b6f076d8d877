-- What the status of a halt says: a status from 1 to 7 but 3 is that of one kind of halt.
use Rattle.std.proofs.Common.{ℕ, ◌≡◌, ◌≤◌, true, List, [], ◌∷◌, Option, Some, None, refl, ap, arith, inl, inr}
use Rattle.std.specs.Prelude.{◌⊎◌}
use Rattle.cpg_base.specs.Graph.{Graph}
use Rattle.cpg_base.specs.Scenario.{Scenario}
use Rattle.cpg_history.specs.Fetch.{Fetch}
use Rattle.cpg_words.specs.Parts.{Text}
use Rattle.cpg_words.specs.declared.command.Command.{Command}
use Rattle.cpg_words.specs.declared.command.Command.TheVariants.{Show, Compile, Check, Play, Node, Trial, Live, Hyper}
use Rattle.cpg_words.specs.declared.command.Command.TheVariants.{Tune, Audit}
use Rattle.cpg_reader.specs.declared.place.ReadFault.{ReadFault}
use Rattle.cpg_table.specs.declared.fault.Fault.{Fault}
use Rattle.cpg_table.specs.Lawful.{Tables}
use Rattle.cpg_scenario.specs.declared.fault.ScenarioFault.{ScenarioFault}
use Rattle.cpg_rules.specs.Admission.{Admission}
use Rattle.cpg_rules.specs.declared.admission.RuleFault.{RuleFault}
use Rattle.cpg_hyper.specs.declared.part.HyperFault.{HyperFault}
use Rattle.cpg_core.specs.declared.fault.CompileFault.{CompileFault}
use Rattle.cpg_refusal.specs.declared.halt.Refusal.{Refusal}
use Rattle.cpg_refusal.specs.declared.halt.Halt.{Halt}
use Rattle.cpg_refusal.specs.declared.halt.Halt.TheVariants.{Words, Read, Refused, Late, TooWide, Unsafe, Memory}
use Rattle.cpg_refusal.specs.Halts.{halt_of_reading, halt_of_rules, halt_of_scenario, halt_of_parts}
use Rattle.cpg_refusal.specs.Lines.{status_of}
use Rattle.cpg_inputs.specs.declared.kind.FileKind.{FileKind}
use Rattle.cpg_inputs.specs.declared.kind.FileKind.TheVariants.{GraphFile, PartFile, PackFile, ScenarioFile, LogFile}
use Rattle.cpg_inputs.specs.Files.{File}
use Rattle.cpg_inputs.specs.Says.{Value, graph_after, Refuses}
use Rattle.cpg_inputs.specs.Reading.{StopsAt, StopsReading}
use Rattle.cpg_app.specs.Halts.{halt_of_compile}
use Rattle.cpg_app.specs.Causes.{IsUncompiled, StopsVerdict, StopsWork}

-- ---- a halt by its status

-- the status 1 is that of words that form no command
pub words_of : (h : Halt) → status_of h ≡ 1 → h ≡ Words
words_of Words same = refl
words_of Read same = absurd (omega arith)
words_of (Refused r) same = absurd (omega arith)
words_of (Late a s p time) same = absurd (omega arith)
words_of (TooWide a x) same = absurd (omega arith)
words_of (Unsafe a f) same = absurd (omega arith)
words_of Memory same = absurd (omega arith)

-- the status 2 is that of a read fault
pub read_of : (h : Halt) → status_of h ≡ 2 → h ≡ Read
read_of Words same = absurd (omega arith)
read_of Read same = refl
read_of (Refused r) same = absurd (omega arith)
read_of (Late a s p time) same = absurd (omega arith)
read_of (TooWide a x) same = absurd (omega arith)
read_of (Unsafe a f) same = absurd (omega arith)
read_of Memory same = absurd (omega arith)

-- a halt `h` with status 4 is that of a refusal `r`
pub refused_of : (h : Halt) → status_of h ≡ 4 → (r : Refusal) × (h ≡ Refused r)
refused_of Words four = absurd (omega arith)
refused_of Read four = absurd (omega arith)
refused_of (Refused r) four = (r, refl)
refused_of (Late a s p time) four = absurd (omega arith)
refused_of (TooWide a x) four = absurd (omega arith)
refused_of (Unsafe a f) four = absurd (omega arith)
refused_of Memory four = absurd (omega arith)

-- a halt `h` with status 5 is that of a process `p` that is late in a scenario `s`
pub late_of : (h : Halt) → status_of h ≡ 5 →
    (a : Admission) × (s : Scenario) × (p : ℕ) × (finish : ℕ) × (h ≡ Late a s p finish)
late_of Words five = absurd (omega arith)
late_of Read five = absurd (omega arith)
late_of (Refused r) five = absurd (omega arith)
late_of (Late a s p finish) five = (a, s, p, finish, refl)
late_of (TooWide a x) five = absurd (omega arith)
late_of (Unsafe a f) five = absurd (omega arith)
late_of Memory five = absurd (omega arith)

-- a halt `h` with status 6 is that of an item `x` that is too wide
pub wide_of : (h : Halt) → status_of h ≡ 6 → (a : Admission) × (x : ℕ) × (h ≡ TooWide a x)
wide_of Words six = absurd (omega arith)
wide_of Read six = absurd (omega arith)
wide_of (Refused r) six = absurd (omega arith)
wide_of (Late a s p finish) six = absurd (omega arith)
wide_of (TooWide a x) six = (a, x, refl)
wide_of (Unsafe a f) six = absurd (omega arith)
wide_of Memory six = absurd (omega arith)

-- a halt `h` with status 7 is that of tables that break a rule, with a fault `f`
pub unsafe_of : (h : Halt) → status_of h ≡ 7 → (a : Admission) × (f : Fault) × (h ≡ Unsafe a f)
unsafe_of Words seven = absurd (omega arith)
unsafe_of Read seven = absurd (omega arith)
unsafe_of (Refused r) seven = absurd (omega arith)
unsafe_of (Late a s p finish) seven = absurd (omega arith)
unsafe_of (TooWide a x) seven = absurd (omega arith)
unsafe_of (Unsafe a f) seven = (a, f, refl)
unsafe_of Memory seven = absurd (omega arith)

-- no halt has the status 3
pub not_three : (h : Halt) → status_of h ≡ 3 → ⊥
not_three Words same = omega arith
not_three Read same = omega arith
not_three (Refused r) same = omega arith
not_three (Late a s p time) same = omega arith
not_three (TooWide a x) same = omega arith
not_three (Unsafe a f) same = omega arith
not_three Memory same = omega arith

-- no halt has the status 0
pub not_zero : (h : Halt) → status_of h ≡ 0 → ⊥
not_zero Words same = omega arith
not_zero Read same = omega arith
not_zero (Refused r) same = omega arith
not_zero (Late a s p time) same = omega arith
not_zero (TooWide a x) same = omega arith
not_zero (Unsafe a f) same = omega arith
not_zero Memory same = omega arith

-- ---- what a file stops a run with

-- equal halts `h` and `k` have one status, so one of `h` is at least 4 if that of `k` is
as_halt : (h k : Halt) → h ≡ k → 4 ≤ status_of k → 4 ≤ status_of h
as_halt h k e l = let same = ap status_of e in omega (arith, same, l)

-- a fault of a graph file has a status from 4 on
of_reading : (fault : ReadFault) → 4 ≤ status_of (halt_of_reading fault)
of_reading ReadFault.NotToml = omega arith
of_reading (ReadFault.BadField place) = omega arith
of_reading (ReadFault.DoubleName place) = omega arith
of_reading (ReadFault.UnknownName place) = omega arith
of_reading (ReadFault.OverLimit what) = omega arith
of_reading ReadFault.OutOfMemory = omega arith

-- a broken rule has a status from 4 on
of_rules : (g : Graph) (fault : RuleFault) → 4 ≤ status_of (halt_of_rules g fault)
of_rules g (RuleFault.Cycle walk) = omega arith
of_rules g RuleFault.TooManyTracks = omega arith
of_rules g (RuleFault.TwoAlternatives p s) = omega arith
of_rules g (RuleFault.NoSlot node) = omega arith
of_rules g (RuleFault.TooBig e) = omega arith
of_rules g (RuleFault.BadOrder p) = omega arith
of_rules g RuleFault.OutOfMemory = omega arith

-- a fault of a scenario file has a status from 4 on
of_scenario : (fault : ScenarioFault) → 4 ≤ status_of (halt_of_scenario fault)
of_scenario (ScenarioFault.Bad cause) = omega arith
of_scenario ScenarioFault.OutOfMemory = omega arith

-- a halt `h` by which the bytes of a file of kind `k` are rejected has a status from 4 on
of_bytes : (g : Option Graph) (k : FileKind) (bytes : Text) (h : Halt) → Refuses g k bytes h → 4 ≤ status_of h
of_bytes g GraphFile bytes h (inl faulty) = as_halt h _ faulty.halt_is (of_reading faulty.fault)
of_bytes g GraphFile bytes h (inr none) = let breaks = none.breaks in
    as_halt h _ breaks.halt_is (of_rules none.graph breaks.fault)
of_bytes g PartFile bytes h faulty = as_halt h _ faulty.halt_is (of_reading faulty.fault)
of_bytes g PackFile bytes h none = as_halt h _ none.halt_is (omega arith)
of_bytes (Some g) ScenarioFile bytes h none = as_halt h _ none.halt_is (of_scenario none.fault)
of_bytes (Some g) LogFile bytes h none = as_halt h _ none.halt_is (omega arith)
of_bytes None ScenarioFile bytes h none = absurd none
of_bytes None LogFile bytes h none = absurd none

-- file `f` stops a run as its fetch failed, or by a halt `h` with a status from 4 on
of_file : (g : Option Graph) (f : File) (fetch : Fetch) (h : Halt) → StopsAt g f fetch h →
    ((h ≡ Read) × (fetch.failed ≡ true)) ⊎ (4 ≤ status_of h)
of_file g f fetch h (inl unread) = inl (unread.halt_is, unread.failed)
of_file g f fetch h (inr (inl long)) = inr (as_halt h _ long.halt_is (omega arith))
of_file g f fetch h (inr (inr (inl refused))) = inr (of_bytes g f.kind fetch.given h refused.refuses)
of_file g f fetch h (inr (inr (inr wanting))) = inr (as_halt h _ wanting.halt_is (omega arith))

-- the last fetch failed
pub record FailsLast (now : List Fetch) : Type 0 where
  -- the newest fetch, and those before it
  pub fetch : Fetch
  pub past : List Fetch
  pub last : now ≡ fetch ∷ past
  -- the newest failed
  pub failed : fetch.failed ≡ true

-- files stop a run by a fetch that failed, or by a halt `h` with a status of at least 4
pub of_files : (g : Option Graph) (files : List File) (past now : List Fetch) (h : Halt) →
    StopsReading g files past now h →
    ((h ≡ Read) × FailsLast now) ⊎ (4 ≤ status_of h)
of_files g [] past now h stops_reading = absurd stops_reading
of_files g (f ∷ fs) past now h (fetch, inl here) = elim (of_file g f fetch h here.0) [
  | inl failed ↦ inl (failed.0, record { fetch = fetch; past = past; last = here.1; failed = failed.1 })
  | inr later ↦ inr later
]
of_files g (f ∷ fs) past now h (fetch, inr (v, read, there)) = of_files (graph_after g v) fs (fetch ∷ past) now h there

-- ---- what the work stops a run with

-- a compile fault has a status from 4 on
of_compile : (a : Admission) (fault : CompileFault) → 4 ≤ status_of (halt_of_compile a fault)
of_compile a (CompileFault.TooWide x) = omega arith
of_compile a (CompileFault.Late s p time) = omega arith
of_compile a CompileFault.OutOfMemory = omega arith

-- the halt `h` by which a compile fails has a status from 4 on
of_made : (a : Admission) (h : Halt) → IsUncompiled a h → 4 ≤ status_of h
of_made a h wrong = as_halt h _ wrong.halt_is (of_compile a wrong.fault)

-- the halt `h` by which a check of tables `t` stops has a status from 4 on
of_verdict : (a : Admission) (t : Tables) (h : Halt) → StopsVerdict a t h → 4 ≤ status_of h
of_verdict a t h (inl other) = as_halt h _ other.halt_is (omega arith)
of_verdict a t h (inr broken) = as_halt h _ broken.halt_is (omega arith)

-- a fault of parts has a status from 4 on
of_parts : (fault : HyperFault) → 4 ≤ status_of (halt_of_parts fault)
of_parts (HyperFault.Range p) = omega arith
of_parts (HyperFault.Differ p) = omega arith
of_parts (HyperFault.Over p) = omega arith
of_parts HyperFault.Period = omega arith
of_parts (HyperFault.Count what) = omega arith
of_parts (HyperFault.LongName p) = omega arith
of_parts (HyperFault.Order p) = omega arith
of_parts HyperFault.OutOfMemory = omega arith

-- the work of command `c` stops a run by a halt `h` with a status of at least 4
pub of_work : (c : Command) (vs : List Value) (h : Halt) → StopsWork c vs h → 4 ≤ status_of h
of_work (Show graph) vs h (a, is, wrong) = of_made a h wrong
of_work (Compile graph) vs h (a, is, wrong) = of_made a h wrong
of_work (Check graph pack) vs h (a, t, is, wrong) = of_verdict a t h wrong
of_work (Play graph pack scenario turns) vs h (a, t, p, is, wrong) = of_verdict a t h wrong
of_work (Node pack name) vs h (t, is, wrong) = as_halt h _ wrong.halt_is (omega arith)
of_work (Trial number) vs h wrong = absurd wrong
of_work (Live pack name stream) vs h (t, is, wrong) = as_halt h _ wrong.halt_is (omega arith)
of_work (Hyper pairs) vs h (parts, is, periods, wrong) = as_halt h _ wrong.halt_is (of_parts wrong.fault)
of_work (Tune graph) vs h wrong = absurd wrong
of_work (Audit graph pack log) vs h (a, t, l, is, wrong) = of_verdict a t h wrong
