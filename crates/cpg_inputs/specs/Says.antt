-- What the bytes of a file of each kind say, and why they are rejected.
use Rattle.std.specs.Prelude.{ℕ, ◌≡◌, ◌⊎◌, Option, Some, None, Ok, Err}
use Rattle.cpg_base.specs.Graph.{Graph}
use Rattle.cpg_words.specs.Parts.{Text}
use Rattle.cpg_reader.specs.declared.place.ReadFault.{ReadFault}
use Rattle.cpg_reader.specs.Document.{problem_of}
use Rattle.cpg_rules.specs.Admission.{Admission, IsAdmitted}
use Rattle.cpg_rules.specs.declared.admission.RuleFault.{RuleFault}
use Rattle.cpg_rules.specs.Faults.{ShowsFault}
use Rattle.cpg_table.specs.Lawful.{Tables}
use Rattle.cpg_codec.specs.Packs.{AreLawful, IsBadPack}
use Rattle.cpg_codec.specs.Spelling.{spelling}
use Rattle.cpg_log.specs.Lines.{lines}
use Rattle.cpg_log.specs.Log.{Log, IsLog}
use Rattle.cpg_log.specs.Reading.{IsBadLine, IsLogOf}
use Rattle.cpg_scenario.specs.File.{IsPlayed, file_of}
use Rattle.cpg_scenario.specs.declared.fault.ScenarioFault.{ScenarioFault}
use Rattle.cpg_scenario.specs.declared.reading.Played.{Played}
use Rattle.cpg_refusal.specs.declared.halt.Refusal.TheVariants.{BadPack, BadLog}
use Rattle.cpg_refusal.specs.declared.halt.Halt.{Halt}
use Rattle.cpg_refusal.specs.declared.halt.Halt.TheVariants.{Refused}
use Rattle.cpg_refusal.specs.Halts.{halt_of_reading, halt_of_rules, halt_of_scenario}
use Rattle.cpg_inputs.specs.declared.kind.FileKind.{FileKind}
use Rattle.cpg_inputs.specs.declared.kind.FileKind.TheVariants.{GraphFile, PartFile, PackFile, ScenarioFile, LogFile}

-- what a file says: an admitted graph, a part's graph, the tables of a pack, a scenario with lengths, or a log
pub data Value : Type 0 where
  graph_value : Admission → Value
  part_value : Graph → Value
  tables_value : Tables → Value
  played_value : Played → Value
  log_value : Log → Value

-- the graph that later files are read for: an admitted one once it is read; nothing else changes it
abbrev pub graph_after : Option Graph → Value → Option Graph
graph_after g (graph_value a) = Some a.graph
graph_after g (part_value h) = g
graph_after g (tables_value t) = g
graph_after g (played_value p) = g
graph_after g (log_value l) = g

-- the bytes say a graph that keeps all rules, with its urgency order and its guards
pub record AreAdmitted (bytes : Text) (a : Admission) : Type 0 where
  -- the bytes say its graph
  pub says : problem_of bytes ≡ Ok a.graph
  -- which keeps all rules, with this order and these guards
  pub admitted : IsAdmitted a.graph a.order a.guards

-- the bytes spell tables
pub record AreSpelled (bytes : Text) (t : Tables) : Type 0 where
  -- they are the spelling of the tables
  pub spelled : bytes ≡ spelling t
  -- their head allows each row
  pub lawful : AreLawful t

-- the bytes say a scenario of the graph, with lengths of its executions
pub record ArePlayed (bytes : Text) (g : Graph) (p : Played) : Type 0 where
  -- read as a scenario file of the graph, they give this
  pub says : file_of g bytes ≡ Ok p
  -- the scenario is one of the graph, and the lengths are possible in it
  pub lawful : IsPlayed g p

-- the bytes are a log of the graph
pub record AreLogged (bytes : Text) (g : Graph) (log : Log) : Type 0 where
  -- its lines spell this log
  pub says : IsLogOf g bytes log
  -- and the graph allows the log
  pub lawful : IsLog g log

-- The bytes of a file of this kind say a value; `g` is the graph that was read before, if any. Without it a scenario
-- file or a log says nothing.
abbrev pub Says : Option Graph → FileKind → Text → Value → Type 0
Says g GraphFile bytes value = (a : Admission) × (value ≡ graph_value a) × AreAdmitted bytes a
Says g PartFile bytes value = (h : Graph) × (value ≡ part_value h) × (problem_of bytes ≡ Ok h)
Says g PackFile bytes value = (t : Tables) × (value ≡ tables_value t) × AreSpelled bytes t
Says (Some g) ScenarioFile bytes value = (p : Played) × (value ≡ played_value p) × ArePlayed bytes g p
Says (Some g) LogFile bytes value = (l : Log) × (value ≡ log_value l) × AreLogged bytes g l
Says None ScenarioFile bytes value = ⊥
Says None LogFile bytes value = ⊥

-- the bytes say no graph, and this is the first fault
pub record AreFaulty (bytes : Text) (halt : Halt) : Type 0 where
  -- the first fault of the bytes
  pub fault : ReadFault
  -- reading them as a graph gives it
  pub first : problem_of bytes ≡ Err fault
  pub halt_is : halt ≡ halt_of_reading fault

-- the graph breaks a rule of graphs, and the halt says the first; or memory ran out
pub record BreaksRule (g : Graph) (halt : Halt) : Type 0 where
  -- the fault, or that memory ran out
  pub fault : RuleFault
  -- the graph has this fault and keeps the rules before it, or memory ran out
  pub shows : ShowsFault g fault
  pub halt_is : halt ≡ halt_of_rules g fault

-- the bytes say a graph that isn't admitted, for a broken rule or since memory ran out
pub record AreOfNone (bytes : Text) (halt : Halt) : Type 0 where
  -- the graph that the bytes say
  pub graph : Graph
  pub says : problem_of bytes ≡ Ok graph
  -- why it isn't admitted
  pub breaks : BreaksRule graph halt

-- the bytes are no pack from this place on
pub record AreNoPack (bytes : Text) (halt : Halt) : Type 0 where
  -- how many of the bytes, at most, some pack begins with
  pub length : ℕ
  -- no pack begins with more of them
  pub bad : IsBadPack bytes length
  pub halt_is : halt ≡ Refused (BadPack length)

-- the bytes say no scenario of the graph, and this is the first cause
pub record AreNoScenario (bytes : Text) (g : Graph) (halt : Halt) : Type 0 where
  -- the first cause
  pub fault : ScenarioFault
  -- reading the bytes as a scenario file of the graph gives it
  pub first : file_of g bytes ≡ Err fault
  pub halt_is : halt ≡ halt_of_scenario fault

-- the bytes are no log of the graph, and this is the first line to blame
pub record AreNoLog (bytes : Text) (g : Graph) (halt : Halt) : Type 0 where
  -- the first line to blame
  pub line : ℕ
  -- it is the first line that makes the bytes no log
  pub bad : IsBadLine g (lines bytes) line
  pub halt_is : halt ≡ Refused (BadLog line)

-- A file of this kind is rejected for its bytes, with this halt, or memory ran out as a graph was admitted; `g` is the
-- graph that was read before, if any. Without it a scenario file or a log isn't read.
abbrev pub Refuses : Option Graph → FileKind → Text → Halt → Type 0
Refuses g GraphFile bytes halt = AreFaulty bytes halt ⊎ AreOfNone bytes halt
Refuses g PartFile bytes halt = AreFaulty bytes halt
Refuses g PackFile bytes halt = AreNoPack bytes halt
Refuses (Some g) ScenarioFile bytes halt = AreNoScenario bytes g halt
Refuses (Some g) LogFile bytes halt = AreNoLog bytes g halt
Refuses None ScenarioFile bytes halt = ⊥
Refuses None LogFile bytes halt = ⊥
