-- What each exit status of a run says, as the earlier contract said it.
use Rattle.std.specs.Prelude.{ℕ, ◌≡◌, ◌≢◌, ◌<◌, ◌≤◌, ◌⊎◌, List, [], ◌∷◌, Option, Some, None, Result, Ok, Err, length, ⊤}
use Rattle.cpg_io.specs.Causes.{Rose}
use Rattle.cpg_base.specs.Graph.{Graph}
use Rattle.cpg_words.specs.Parts.{Text}
use Rattle.cpg_words.specs.Forms.{command_of}
use Rattle.cpg_words.specs.declared.command.Pair.{Pair}
use Rattle.cpg_words.specs.declared.command.Command.{Command}
use Rattle.cpg_words.specs.declared.command.Command.TheVariants.{Show, Compile, Check, Play, Node, Trial, Hyper, Tune}
use Rattle.cpg_words.specs.declared.command.Command.TheVariants.{Audit, Live}
use Rattle.cpg_reader.specs.Document.{problem_of}
use Rattle.cpg_rules.specs.Admission.{Admission, IsAdmitted}
use Rattle.cpg_base.specs.Scenario.{Scenario}
use Rattle.cpg_reach.specs.Wide.{IsWide}
use Rattle.cpg_order.specs.Urgency.{first_order}
use Rattle.cpg_core.specs.Compiled.{IsTimely, IsLate}
use Rattle.cpg_refusal.specs.declared.halt.Refusal.{Refusal}
use Rattle.cpg_live.specs.declared.following.StreamFault.{StreamFault}
use Rattle.cpg_live.specs.declared.following.StreamFault.TheVariants.{Long}
use Rattle.cpg_live.specs.declared.following.TheConstants.{STREAM_LIMIT}
use Rattle.cpg_refusal.specs.declared.halt.Halt.TheVariants.{Read, Refused, Late, TooWide, Unsafe}
use Rattle.cpg_table.specs.declared.fault.Fault.{Fault}
use Rattle.cpg_table.specs.Lawful.{Tables}
use Rattle.cpg_table.specs.Table.{table_at}
use Rattle.cpg_table.specs.Valid.{IsValid}
use Rattle.cpg_codec.specs.Packs.{AreLawful}
use Rattle.cpg_codec.specs.Spelling.{spelling}
use Rattle.cpg_violation.specs.Heads.{IsHeadFor}
use Rattle.cpg_hyper.specs.declared.part.Part.{Part}
use Rattle.cpg_hyper.specs.declared.part.HyperFault.{HyperFault}
use Rattle.cpg_hyper.specs.declared.part.HyperFault.TheVariants.{OutOfMemory}
use Rattle.cpg_hyper.specs.Refusals.{ShowsUnrolled}
use Rattle.cpg_log.specs.Log.{Log}
use Rattle.cpg_log.specs.Reading.{IsLogOf}
use Rattle.cpg_scenario.specs.File.{file_of}
use Rattle.cpg_scenario.specs.declared.reading.Played.{Played}
use Rattle.cpg_app.specs.Causes.{first_named}
use Rattle.cpg_shelf_laws.specs.Causes.{Stops, GRAPH_LIMIT, SCENARIO_LIMIT, LOG_LIMIT}
use Rattle.cpg_shelf_laws.specs.Endings.{Ran, Ends, Follows, IsPrinted, IsTold, table_of}
use Rattle.cpg_refusal.specs.Lines.{line_of}
use Rattle.cpg_shelf_laws.specs.Outputs.{Prints}
use Rattle.cpg_live.specs.Streams.{fault_line, stream_end}
use Rattle.cpg_shelf_laws.specs.Streams.{IsLawfulSoFar, IsRefused}
use Rattle.cpg_shelf_laws.specs.Sinks.{Untouched, Whole}

-- neither the shelf nor one of the two sinks met a fault
pub record IsFaultless (r : Ran) : Type 0 where
  -- no count of faults rose: not the shelf's, nor that of `out` or of `err`
  pub shelf : Rose r.shelf.before r.shelf.now → ⊥
  pub out : Rose r.out.before r.out.now → ⊥
  pub err : Rose r.err.before r.err.now → ⊥

-- the bytes, at most 16 MiB, say a graph, which is admitted with its order and its guards
pub record AreAdmitted (bytes : Text) (a : Admission) : Type 0 where
  -- the bytes are within the limit of a graph file
  pub short : length bytes ≤ GRAPH_LIMIT
  -- they say the graph
  pub says : problem_of bytes ≡ Ok a.graph
  -- the graph keeps the rules, with this order and these guards
  pub admitted : IsAdmitted a.graph a.order a.guards

-- the words ask for the tables of a graph file, as a text or as a pack
abbrev pub AsksFor : Text → Option Command → Type 0
AsksFor graph asked = (asked ≡ Some (Show graph)) ⊎ (asked ≡ Some (Compile graph))

-- the words ask for the tables of a graph file, the shelf reports the bytes of an admitted graph, and nothing failed
pub record Asks (r : Ran) (a : Admission) : Type 0 where
  -- the graph file, and its bytes
  pub graph : Text
  pub bytes : Text
  -- the command is `show` or `compile` on this file
  pub words : AsksFor graph (command_of r.words)
  pub told : r.shelf.stands graph ≡ Some bytes
  -- these bytes are a graph file, and `a` is the admitted graph with its order and guards
  pub file : AreAdmitted bytes a
  -- nothing failed
  pub faultless : IsFaultless r

-- the shelf reports the bytes of a file, at most 16 MiB, and they say a scenario of the graph with lengths of
-- executions
pub record SaysScenario (r : Ran) (g : Graph) (name : Text) : Type 0 where
  -- the bytes that the shelf reports, within the limit of a scenario file
  pub bytes : Text
  pub told : r.shelf.stands name ≡ Some bytes
  pub short : length bytes ≤ SCENARIO_LIMIT
  -- the scenario that they say, with lengths of executions
  pub played : Played
  pub says : file_of g bytes ≡ Ok played

-- the shelf reports the bytes of a file, at most 16 MiB, and they are a log of the graph
pub record SaysActs (r : Ran) (g : Graph) (name : Text) : Type 0 where
  -- the bytes that the shelf reports, within the limit of a log
  pub bytes : Text
  pub told : r.shelf.stands name ≡ Some bytes
  pub short : length bytes ≤ LOG_LIMIT
  -- the log that they are
  pub log : Log
  pub says : IsLogOf g bytes log

-- the words ask to check a pack, to play it as such a scenario file says, or to audit such a log by it
abbrev pub AsksToJudge : Ran → Graph → Text → Text → Type 0
AsksToJudge r g graph pack = (command_of r.words ≡ Some (Check graph pack))
    ⊎ (((scenario : Text) × (turns : ℕ) × (command_of r.words ≡ Some (Play graph pack scenario turns)) ×
    SaysScenario r g scenario)
    ⊎ ((log : Text) × (command_of r.words ≡ Some (Audit graph pack log)) × SaysActs r g log))

-- the words ask to judge a pack for a graph, the shelf reports the bytes of an admitted graph and of tables, and
-- nothing failed
pub record AsksVerdict (r : Ran) (a : Admission) (t : Tables) : Type 0 where
  -- the files of the graph and of the pack
  pub graph : Text
  pub pack : Text
  -- the command is `check`, `play` or `audit` on these files
  pub words : AsksToJudge r a.graph graph pack
  -- the bytes of the graph file
  pub bytes : Text
  pub told : r.shelf.stands graph ≡ Some bytes
  -- they say the graph of `a`, which is admitted
  pub file : AreAdmitted bytes a
  -- the pack file has exactly the bytes that the tables are spelled with
  pub spelled : r.shelf.stands pack ≡ Some (spelling t)
  -- the tables are lawful, and nothing failed
  pub lawful : AreLawful t
  pub faultless : IsFaultless r

-- the words ask for the table of a node with this name, the shelf reports the bytes of tables, and nothing failed
pub record AsksNode (r : Ran) (t : Tables) (name : Text) : Type 0 where
  -- the file of the pack, which has exactly the bytes that the tables are spelled with
  pub pack : Text
  -- the command is `node` on this pack and this name
  pub words : command_of r.words ≡ Some (Node pack name)
  pub spelled : r.shelf.stands pack ≡ Some (spelling t)
  -- the tables are lawful, and nothing failed
  pub lawful : AreLawful t
  pub faultless : IsFaultless r

-- the words ask to tune a graph file, the shelf reports the bytes of an admitted graph, and nothing failed
pub record AsksTuning (r : Ran) (a : Admission) : Type 0 where
  -- the graph file, and its bytes
  pub graph : Text
  pub bytes : Text
  -- the command is `tune` on this file
  pub words : command_of r.words ≡ Some (Tune graph)
  pub told : r.shelf.stands graph ≡ Some bytes
  -- the bytes say the graph of `a`, which is admitted
  pub file : AreAdmitted bytes a
  -- nothing failed
  pub faultless : IsFaultless r

-- the shelf reports bytes, at most 16 MiB, and they say a graph
pub record TellsGraph (told : Option Text) (g : Graph) : Type 0 where
  -- the bytes that the shelf reports, within the limit of a graph file
  pub bytes : Text
  pub is : told ≡ Some bytes
  pub short : length bytes ≤ GRAPH_LIMIT
  -- they say the graph
  pub says : problem_of bytes ≡ Ok g

-- there are as many parts as pairs of words, with the pairs' periods, and the shelf reports the bytes of their graphs
abbrev pub AreTold : (Text → Option Text) → List Pair → List Part → Type 0
AreTold stands [] [] = ⊤
AreTold stands [] (part ∷ parts) = ⊥
AreTold stands (pair ∷ pairs) [] = ⊥
AreTold stands (pair ∷ pairs) (part ∷ parts) =
    (part.period ≡ pair.period) × TellsGraph (stands pair.graph) part.problem × AreTold stands pairs parts

-- the words ask for the graph of all instances of these parts, the shelf reports their bytes, and nothing failed
pub record AsksUnrolling (r : Ran) (parts : List Part) : Type 0 where
  -- the words give a period and a graph file for each part
  pub pairs : List Pair
  -- the command is `hyper` on these pairs
  pub words : command_of r.words ≡ Some (Hyper pairs)
  -- the shelf reports the graphs of the parts under the names of the files
  pub told : AreTold r.shelf.stands pairs parts
  -- nothing failed
  pub faultless : IsFaultless r

-- the words ask a node with this name to follow a stream, the shelf reports the bytes of tables and of the stream, and
-- nothing failed
pub record AsksStream (r : Ran) (t : Tables) (name bytes : Text) : Type 0 where
  -- the files of the pack and of the stream
  pub pack : Text
  pub stream : Text
  -- the command is `live` on these files and this name
  pub words : command_of r.words ≡ Some (Live pack name stream)
  -- the pack has exactly the bytes that the tables are spelled with
  pub spelled : r.shelf.stands pack ≡ Some (spelling t)
  pub lawful : AreLawful t
  -- the stream has these bytes
  pub told : r.shelf.stands stream ≡ Some bytes
  -- nothing failed
  pub faultless : IsFaultless r

-- the status by a stream's end: 0 if it is its close, and 4 if the stream is rejected
abbrev pub status_of_end : Result ℕ StreamFault → ℕ
status_of_end (Ok time) = 0
status_of_end (Err fault) = 4

-- the shelf met a fault in a stream, and the lines of the records before it were written
pub record IsUnreadStream (r : Ran) : Type 0 where
  pub follows : Follows r
  -- the lines of the records before the fault, all of them lawful
  pub lines : Text
  pub lawful : IsLawfulSoFar follows.tables.head (table_of follows) (r.shelf.stands follows.stream) r.shelf.given lines
  pub out : Whole r.out lines
  -- `err` took the line that says that a file couldn't be read
  pub err : Whole r.err (line_of Read)

-- a stream was rejected, and the lines of the lawful records before the place of the fault were written
pub record IsRefusedStream (r : Ran) : Type 0 where
  pub follows : Follows r
  -- why it is rejected
  pub fault : StreamFault
  -- the lines of the records before the fault
  pub lines : Text
  pub refused : IsRefused follows.tables.head (table_of follows) (r.shelf.stands follows.stream) fault lines
  -- it is refused as too long only if the shelf gave more bytes than the limit
  pub over : fault ≡ Long → STREAM_LIMIT < r.shelf.given
  pub out : Whole r.out lines
  -- `err` took the line that says the fault
  pub err : Whole r.err (fault_line fault)

-- the status is 6, and some item is too wide by its views under the first order
pub record IsRefusedAsWide (r : Ran) (a : Admission) : Type 0 where
  pub status : r.status ≡ 6
  -- the item, which is too wide under the order that is tried first
  pub item : ℕ
  pub wide : IsWide a.graph (first_order a.graph a.order) item

-- what each exit status says
pub record IsLawful (r : Ran) : Type 0 where
  -- the run has an output or a reason to stop, and all of it was written unless a sink met a fault
  pub ends : Ends r
  -- 0: the output was written whole
  pub done : r.status ≡ 0 → (text : Text) × Prints r.shelf r.words text × IsPrinted r text
  -- 1: the words form no command. Conversely, words that form none end with 1, unless `err` meets a fault or memory
  -- runs out.
  pub words : r.status ≡ 1 → command_of r.words ≡ None
  pub formless : command_of r.words ≡ None → r.status ≢ 3 → (r.status ≡ 1) ⊎ (r.status ≡ 8)
  -- 2: the shelf met a fault
  pub read : r.status ≡ 2 → Rose r.shelf.before r.shelf.now
  -- 3: a sink met a fault
  pub write : r.status ≡ 3 → Rose r.out.before r.out.now ⊎ Rose r.err.before r.err.now
  -- 4: a refusal whose cause holds and whose line was written whole, or a rejected stream
  pub refused : r.status ≡ 4 →
      ((refusal : Refusal) × Stops r.shelf r.words (Refused refusal) × IsTold r (Refused refusal)) ⊎ IsRefusedStream r
  -- 5: a process is late, as the line says
  pub is_late : r.status ≡ 5 →
      (a : Admission) × (s : Scenario) × (p : ℕ) × (finish : ℕ) × Stops r.shelf r.words (Late a s p finish) ×
      IsTold r (Late a s p finish)
  -- 6: an item is too wide, as the line says
  pub is_wide : r.status ≡ 6 → (a : Admission) × (x : ℕ) × Stops r.shelf r.words (TooWide a x) × IsTold r (TooWide a x)
  -- 7: the tables of a pack break a rule, as the line says
  pub is_unsafe : r.status ≡ 7 →
      (a : Admission) × (fault : Fault) × Stops r.shelf r.words (Unsafe a fault) × IsTold r (Unsafe a fault)
  -- Under a status other than 0 and 3, nothing was written to `out`, with one exception. If a stream that a node
  -- follows meets a fault of the shelf or is rejected, the lines of the records before were written.
  pub silent : r.status ≢ 0 → r.status ≢ 3 →
      Untouched r.out ⊎ (((r.status ≡ 2) × IsUnreadStream r) ⊎ ((r.status ≡ 4) × IsRefusedStream r))
  -- If a graph gives no order and some item is too wide by its views under its urgency order, the graph is rejected as
  -- too wide. Otherwise the graph is shown or packed if every process ends by its due in every scenario, under the
  -- order that the graph gives, or under its urgency order or its track order. If some process doesn't, the graph is
  -- rejected as late. If the graph gives an order under which some item is too wide by its views, it may be rejected as
  -- too wide instead. In each case memory may run out.
  pub wide : (a : Admission) (x : ℕ) → Asks r a → a.graph.order ≡ None →
      IsWide a.graph (first_order a.graph a.order) x →
      (r.status ≡ 6) ⊎ (r.status ≡ 8)
  pub made : (a : Admission) → Asks r a → IsTimely a.graph a.order →
      ((r.status ≡ 0) ⊎ (r.status ≡ 8)) ⊎ IsRefusedAsWide r a
  pub late : (a : Admission) → Asks r a → IsLate a.graph a.order →
      ((r.status ≡ 5) ⊎ (r.status ≡ 8)) ⊎ IsRefusedAsWide r a
  -- A pack is rejected as another graph's if its head is. Otherwise, a pack whose tables keep the ten rules is found
  -- safe, is played, or serves to audit a log, and a pack whose tables don't is found unsafe. In each case memory may
  -- run out.
  pub other : (a : Admission) (t : Tables) → AsksVerdict r a t → (IsHeadFor a.graph t.head → ⊥) →
      (r.status ≡ 4) ⊎ (r.status ≡ 8)
  pub safe : (a : Admission) (t : Tables) → AsksVerdict r a t → IsHeadFor a.graph t.head → IsValid a.graph t.nodes →
      (r.status ≡ 0) ⊎ (r.status ≡ 8)
  pub broken : (a : Admission) (t : Tables) → AsksVerdict r a t → IsHeadFor a.graph t.head →
      (IsValid a.graph t.nodes → ⊥) →
      (r.status ≡ 7) ⊎ (r.status ≡ 8)
  -- The table of the first node of that name is printed. A name that no node has is rejected. In both cases memory may
  -- run out.
  pub named : (t : Tables) (name : Text) (node : ℕ) → AsksNode r t name → first_named t.head name ≡ Some node →
      (r.status ≡ 0) ⊎ (r.status ≡ 8)
  pub nameless : (t : Tables) (name : Text) → AsksNode r t name → first_named t.head name ≡ None →
      (r.status ≡ 4) ⊎ (r.status ≡ 8)
  -- a trial of a number writes its figures, unless a sink meets a fault or memory runs out
  pub tried : (number : ℕ) → command_of r.words ≡ Some (Trial number) →
      (r.status ≡ 0) ⊎ ((r.status ≡ 3) ⊎ (r.status ≡ 8))
  -- an admitted graph is tuned, however late or wide it is, unless memory runs out
  pub tuned : (a : Admission) → AsksTuning r a → (r.status ≡ 0) ⊎ (r.status ≡ 8)
  -- If parts have a graph of all their instances, it is written. If not, the parts are rejected. In both cases memory
  -- may run out.
  pub unrolled : (parts : List Part) (g : Graph) → AsksUnrolling r parts → ShowsUnrolled parts (Ok g) →
      (r.status ≡ 0) ⊎ (r.status ≡ 8)
  pub apart : (parts : List Part) (fault : HyperFault) → AsksUnrolling r parts → ShowsUnrolled parts (Err fault) →
      fault ≢ OutOfMemory →
      (r.status ≡ 4) ⊎ (r.status ≡ 8)
  -- The first node that has the name follows the stream to its close, or the stream is rejected. A name that no node
  -- has is rejected. In each case memory may run out.
  pub followed : (t : Tables) (name bytes : Text) (node : ℕ) → AsksStream r t name bytes →
      first_named t.head name ≡ Some node →
      (r.status ≡ status_of_end (stream_end (table_at t.nodes node) bytes)) ⊎ (r.status ≡ 8)
  pub unfollowed : (t : Tables) (name bytes : Text) → AsksStream r t name bytes → first_named t.head name ≡ None →
      (r.status ≡ 4) ⊎ (r.status ≡ 8)
