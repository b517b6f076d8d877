-- The items, processes and nodes that the line of a halt names are there. Below, `names only things that are there`
-- says that each of them is one of its graph.
use Rattle.std.proofs.Common.{◌≡◌, List, [], ◌∷◌, Option, Some, None, sym, subst, inl, inr}
use Rattle.cpg_base.specs.Graph.{Graph}
use Rattle.cpg_base.specs.Scenario.{Scenario, IsScenario, zero_scenario}
use Rattle.cpg_history.specs.Fetch.{Fetch}
use Rattle.cpg_table.specs.declared.fault.Fault.{Fault}
use Rattle.cpg_check.specs.Verdict.{IsFirstFault}
use Rattle.cpg_violation.specs.Room.{HasRoom}
use Rattle.cpg_violation.specs.Violation.{IsFirstViolation, column_rules}
use Rattle.cpg_violation.proofs.Violations.{first_broken}
use Rattle.cpg_run.proofs.ZeroScenario.{zero_lawful}
use Rattle.cpg_words.specs.Parts.{Text}
use Rattle.cpg_words.specs.declared.command.Command.{Command}
use Rattle.cpg_words.specs.declared.command.Command.TheVariants.{Show, Compile, Check, Play, Node, Trial, Live, Hyper}
use Rattle.cpg_words.specs.declared.command.Command.TheVariants.{Tune, Audit}
use Rattle.cpg_reader.specs.declared.place.ReadFault.{ReadFault}
use Rattle.cpg_table.specs.Lawful.{Tables}
use Rattle.cpg_scenario.specs.declared.fault.ScenarioFault.{ScenarioFault}
use Rattle.cpg_rules.specs.Admission.{Admission}
use Rattle.cpg_rules.specs.declared.admission.RuleFault.{RuleFault}
use Rattle.cpg_rules.specs.Faults.{ShowsFault}
use Rattle.cpg_hyper.specs.declared.part.HyperFault.{HyperFault}
use Rattle.cpg_core.specs.declared.fault.CompileFault.{CompileFault}
use Rattle.cpg_core.specs.Compilation.{ShowsCompileFault}
use Rattle.cpg_refusal.specs.declared.halt.Halt.{Halt}
use Rattle.cpg_refusal.specs.declared.halt.Halt.TheVariants.{Read, Refused, Unsafe, Memory}
use Rattle.cpg_refusal.specs.Halts.{halt_of_reading, halt_of_rules, halt_of_scenario, halt_of_parts}
use Rattle.cpg_refusal.specs.Lines.{IsNamed}
use Rattle.cpg_inputs.specs.declared.kind.FileKind.{FileKind}
use Rattle.cpg_inputs.specs.declared.kind.FileKind.TheVariants.{GraphFile, PartFile, PackFile, ScenarioFile, LogFile}
use Rattle.cpg_inputs.specs.Files.{File, long_of}
use Rattle.cpg_inputs.specs.Says.{Value, graph_after, Refuses}
use Rattle.cpg_inputs.specs.Reading.{StopsAt, StopsReading}
use Rattle.cpg_app.specs.Halts.{halt_of_compile}
use Rattle.cpg_app.specs.Causes.{IsUncompiled, StopsVerdict, StopsWork}

-- a scenario `s` of a graph has as many values and counts as the graph
room_of : (g : Graph) (s : Scenario) → IsScenario g s → HasRoom g s
room_of g s is = record { values = is.values; faults = is.faults }

-- a fault of a graph file names nothing of a graph
of_reading : (fault : ReadFault) → IsNamed (halt_of_reading fault)
of_reading ReadFault.NotToml = tt
of_reading (ReadFault.BadField place) = tt
of_reading (ReadFault.DoubleName place) = tt
of_reading (ReadFault.UnknownName place) = tt
of_reading (ReadFault.OverLimit what) = tt
of_reading ReadFault.OutOfMemory = tt

-- what a broken rule names is there
of_rules : (g : Graph) (fault : RuleFault) → ShowsFault g fault → IsNamed (halt_of_rules g fault)
of_rules g (RuleFault.Cycle walk) shows = tt
of_rules g RuleFault.TooManyTracks shows = tt
of_rules g (RuleFault.TwoAlternatives p s) shows = room_of g s shows.2.least.lawful
of_rules g (RuleFault.NoSlot node) shows = tt
of_rules g (RuleFault.TooBig e) shows = tt
of_rules g (RuleFault.BadOrder p) shows = tt
of_rules g RuleFault.OutOfMemory shows = tt

-- what a compile fault names is there
of_compile : (a : Admission) (fault : CompileFault) → ShowsCompileFault a.graph a.order fault →
    IsNamed (halt_of_compile a fault)
of_compile a (CompileFault.TooWide x) shows = shows.0.wide.within
of_compile a (CompileFault.Late s p time) shows = room_of a.graph s shows.1.is_excess.least.lawful
of_compile a CompileFault.OutOfMemory shows = tt

-- equal halts `h` and `k` name the same
named_as : (h k : Halt) → h ≡ k → IsNamed k → IsNamed h
named_as h k same is_named = subst IsNamed (sym same) is_named

-- a file that is too long names nothing of a graph
long_named : (k : FileKind) → IsNamed (Refused (long_of k))
long_named GraphFile = tt
long_named PartFile = tt
long_named PackFile = tt
long_named ScenarioFile = tt
long_named LogFile = tt

-- a fault of a scenario file names nothing of a graph
of_scenario : (fault : ScenarioFault) → IsNamed (halt_of_scenario fault)
of_scenario (ScenarioFault.Bad cause) = tt
of_scenario ScenarioFault.OutOfMemory = tt

-- a halt `h` by which the bytes of a file of kind `k` are rejected names only things that are there
bytes_named : (g : Option Graph) (k : FileKind) (bytes : Text) (h : Halt) → Refuses g k bytes h → IsNamed h
bytes_named g GraphFile bytes h (inl faulty) = named_as h _ faulty.halt_is (of_reading faulty.fault)
bytes_named g GraphFile bytes h (inr none) = let breaks = none.breaks in
    named_as h _ breaks.halt_is (of_rules none.graph breaks.fault breaks.shows)
bytes_named g PartFile bytes h faulty = named_as h _ faulty.halt_is (of_reading faulty.fault)
bytes_named g PackFile bytes h none = named_as h _ none.halt_is tt
bytes_named (Some g) ScenarioFile bytes h none = named_as h _ none.halt_is (of_scenario none.fault)
bytes_named (Some g) LogFile bytes h none = named_as h _ none.halt_is tt
bytes_named None ScenarioFile bytes h none = absurd none
bytes_named None LogFile bytes h none = absurd none

-- whatever halt `h` stops the reading of file `f` names only things that are there
file_named : (g : Option Graph) (f : File) (fetch : Fetch) (h : Halt) → StopsAt g f fetch h → IsNamed h
file_named g f fetch h (inl unread) = named_as h Read unread.halt_is tt
file_named g f fetch h (inr (inl long)) = named_as h _ long.halt_is (long_named f.kind)
file_named g f fetch h (inr (inr (inl refused))) = bytes_named g f.kind fetch.given h refused.refuses
file_named g f fetch h (inr (inr (inr wanting))) = named_as h Memory wanting.halt_is tt

-- a halt `h` while files are read names only things that are there
pub files_named : (g : Option Graph) (files : List File) (past now : List Fetch) (h : Halt) →
    StopsReading g files past now h → IsNamed h
files_named g [] past now h stops_reading = absurd stops_reading
files_named g (f ∷ fs) past now h (fetch, inl here) = file_named g f fetch h here.0
files_named g (f ∷ fs) past now h (fetch, inr (v, read, there)) =
    files_named (graph_after g v) fs (fetch ∷ past) now h there

-- a halt `h` that leaves a graph without tables names only things that are there
compile_named : (a : Admission) (h : Halt) → IsUncompiled a h → IsNamed h
compile_named a h wrong = named_as h _ wrong.halt_is (of_compile a wrong.fault wrong.shows)

-- The first violation `f` of tables `t` names only things that are there. By whether it breaks a rule of columns, V1 to
-- V9, or V10.
fault_named : (a : Admission) (t : Tables) (f : Fault) → IsFirstFault a.graph a.order t.nodes f → IsNamed (Unsafe a f)
fault_named a t f (inl broken) =
    let shown = first_broken a.graph a.order t.nodes f column_rules broken in
    let first : IsFirstViolation a.graph a.order t.nodes shown.0 f = shown.1 in
    (first.item, room_of a.graph f.scenario first.least.lawful)
fault_named a t f (inr heard) = (
  heard.1.item,
  subst (HasRoom a.graph) (sym heard.1.scenario) (room_of a.graph (zero_scenario a.graph) (zero_lawful a.graph)),
)

-- a halt `h` that stops the verdict on tables `t` names only things that are there
verdict_named : (a : Admission) (t : Tables) (h : Halt) → StopsVerdict a t h → IsNamed h
verdict_named a t h (inl other) = named_as h _ other.halt_is tt
verdict_named a t h (inr broken) = named_as h _ broken.halt_is (fault_named a t broken.fault broken.first)

-- a fault of parts names nothing of a graph
of_parts : (fault : HyperFault) → IsNamed (halt_of_parts fault)
of_parts (HyperFault.Range p) = tt
of_parts (HyperFault.Differ p) = tt
of_parts (HyperFault.Over p) = tt
of_parts HyperFault.Period = tt
of_parts (HyperFault.Count what) = tt
of_parts (HyperFault.LongName p) = tt
of_parts (HyperFault.Order p) = tt
of_parts HyperFault.OutOfMemory = tt

-- a halt `h` of the work of command `c` names only things that are there
pub work_named : (c : Command) (vs : List Value) (h : Halt) → StopsWork c vs h → IsNamed h
work_named (Show graph) vs h (a, is, wrong) = compile_named a h wrong
work_named (Compile graph) vs h (a, is, wrong) = compile_named a h wrong
work_named (Check graph pack) vs h (a, t, is, wrong) = verdict_named a t h wrong
work_named (Play graph pack scenario turns) vs h (a, t, p, is, wrong) = verdict_named a t h wrong
work_named (Node pack name) vs h (t, is, wrong) = named_as h _ wrong.halt_is tt
work_named (Trial number) vs h wrong = absurd wrong
work_named (Live pack name stream) vs h (t, is, wrong) = named_as h _ wrong.halt_is tt
work_named (Hyper pairs) vs h (parts, is, periods, wrong) = named_as h _ wrong.halt_is (of_parts wrong.fault)
work_named (Tune graph) vs h wrong = absurd wrong
work_named (Audit graph pack log) vs h (a, t, l, is, wrong) = verdict_named a t h wrong
