-- What each exit status of a run says.
use Rattle.std.specs.Prelude.{ℕ, ◌≡◌, ◌≢◌, ◌⊎◌, [], ◌∷◌, true, false, List, Some, None, Result, Ok, Err}
use Rattle.cpg_io.specs.Causes.{Rose}
use Rattle.cpg_history.specs.Fetch.{Fetch}
use Rattle.cpg_base.specs.Graph.{Graph}
use Rattle.cpg_base.specs.Scenario.{Scenario}
use Rattle.cpg_words.specs.Parts.{Text}
use Rattle.cpg_words.specs.Forms.{command_of}
use Rattle.cpg_words.specs.declared.command.Pair.{Pair}
use Rattle.cpg_words.specs.declared.command.Command.{Command}
use Rattle.cpg_words.specs.declared.command.Command.TheVariants.{Show, Compile, Check, Play, Node, Trial, Live, Hyper}
use Rattle.cpg_words.specs.declared.command.Command.TheVariants.{Tune, Audit}
use Rattle.cpg_rules.specs.Admission.{Admission}
use Rattle.cpg_reach.specs.Wide.{IsWide}
use Rattle.cpg_order.specs.Urgency.{first_order}
use Rattle.cpg_core.specs.Compiled.{IsTimely, IsLate}
use Rattle.cpg_table.specs.declared.fault.Fault.{Fault}
use Rattle.cpg_table.specs.Lawful.{Tables}
use Rattle.cpg_table.specs.Valid.{IsValid}
use Rattle.cpg_violation.specs.Heads.{IsHeadFor}
use Rattle.cpg_hyper.specs.declared.part.Part.{Part}
use Rattle.cpg_hyper.specs.declared.part.HyperFault.{HyperFault}
use Rattle.cpg_hyper.specs.declared.part.HyperFault.TheVariants.{OutOfMemory}
use Rattle.cpg_hyper.specs.Refusals.{ShowsUnrolled}
use Rattle.cpg_log.specs.Log.{Log}
use Rattle.cpg_scenario.specs.declared.reading.Played.{Played}
use Rattle.cpg_refusal.specs.declared.halt.Refusal.{Refusal}
use Rattle.cpg_refusal.specs.declared.halt.Halt.TheVariants.{Read, Refused, Late, TooWide, Unsafe}
use Rattle.cpg_refusal.specs.Lines.{line_of}
use Rattle.cpg_inputs.specs.Shapes.{HavePeriods, part_values}
use Rattle.cpg_inputs.specs.Says.{Value, graph_value, log_value, played_value, tables_value}
use Rattle.cpg_inputs.specs.Reading.{AreSound}
use Rattle.cpg_live.specs.declared.following.StreamFault.{StreamFault}
use Rattle.cpg_live.specs.Streams.{IsClosed, IsLawfulSoFar, IsRefused, fault_line, stream_end}
use Rattle.cpg_app.specs.Causes.{first_named}
use Rattle.cpg_app.specs.Endings.{Ran, Ends, Follows, Has, IsPrinted, IsTold, Prints, Stops, table_of}
use Rattle.cpg_outputs.specs.Told.{Part as TookPart, Untouched, Whole}

-- no sink met a fault
pub record IsFaultless (r : Ran) : Type 0 where
  pub out : Rose r.out.before r.out.now → ⊥
  pub err : Rose r.err.before r.err.now → ⊥

-- the run's words are this command, its files say these values, and no sink met a fault
pub record Asks (r : Ran) (command : Command) (values : List Value) : Type 0 where
  pub has : Has r command values
  pub faultless : IsFaultless r

-- the run asks for the tables of this graph, as a text or as a pack
abbrev pub AsksForTables : Ran → Admission → Type 0
AsksForTables r a =
    (graph : Text) × (Asks r (Show graph) (graph_value a ∷ []) ⊎ Asks r (Compile graph) (graph_value a ∷ []))

-- the words ask to play the tables for the graph, and no sink met a fault
pub record AsksPlay (r : Ran) (graph pack : Text) (a : Admission) (t : Tables) : Type 0 where
  -- the scenario file
  pub scenario : Text
  -- the number that drives the play
  pub turns : ℕ
  -- what the scenario file says
  pub played : Played
  pub asks : Asks r (Play graph pack scenario turns) (graph_value a ∷ tables_value t ∷ played_value played ∷ [])

-- the words ask to audit a log of the graph by the tables, and no sink met a fault
pub record AsksAudit (r : Ran) (graph pack : Text) (a : Admission) (t : Tables) : Type 0 where
  -- the file of the log
  pub path : Text
  -- the log that the file says
  pub log : Log
  pub asks : Asks r (Audit graph pack path) (graph_value a ∷ tables_value t ∷ log_value log ∷ [])

-- the words ask to judge the tables for the graph: to check them, to play them, or to audit a log by them
abbrev pub AsksVerdict : Ran → Admission → Tables → Type 0
AsksVerdict r a t = (graph : Text) × (pack : Text) × (Asks r (Check graph pack) (graph_value a ∷ tables_value t ∷ []) ⊎
    (AsksPlay r graph pack a t ⊎ AsksAudit r graph pack a t))

-- the run's last fetch failed
pub record IsFailed (r : Ran) : Type 0 where
  -- the last fetch, and the history before it
  pub fetch : Fetch
  pub past : List Fetch
  -- it is the newest, and it failed
  pub last : r.shelf.new.history ≡ fetch ∷ past
  pub failed : fetch.failed ≡ true

-- the status by a stream's end: 0 if it is its close, and 4 if the stream is rejected
abbrev pub status_of_end : Result ℕ StreamFault → ℕ
status_of_end (Ok time) = 0
status_of_end (Err fault) = 4

-- a stream was followed to its close, and the lines of all its records were written
pub record IsClosedStream (r : Ran) : Type 0 where
  -- the run follows a stream
  pub follows : Follows r
  -- the lines of all its records, that of the close among them
  pub lines : Text
  pub closed : IsClosed follows.tables.head (table_of follows) follows.fetch lines
  -- `out` took these lines whole, and `err` nothing
  pub out : Whole r.out lines
  pub err : Untouched r.err

-- the shelf met a fault in a stream, and the lines of the records before it were written
pub record IsUnreadStream (r : Ran) : Type 0 where
  -- the run follows a stream
  pub follows : Follows r
  -- the lines of the records before the fault, all of them lawful
  pub lines : Text
  pub lawful : IsLawfulSoFar follows.tables.head (table_of follows) follows.fetch lines
  -- `out` took these lines whole
  pub out : Whole r.out lines
  -- `err` took the line that says that a file couldn't be read
  pub err : Whole r.err (line_of Read)

-- a stream was rejected, and the lines of the lawful records before the place of the fault were written
pub record IsRefusedStream (r : Ran) : Type 0 where
  -- the run follows a stream
  pub follows : Follows r
  -- why it is rejected
  pub fault : StreamFault
  -- the lines of the records before the fault
  pub lines : Text
  pub refused : IsRefused follows.tables.head (table_of follows) follows.fetch fault lines
  -- `out` took these lines whole
  pub out : Whole r.out lines
  -- `err` took the line that says the fault
  pub err : Whole r.err (fault_line fault)

-- the status is 6, and some item is too wide by its views under the first order
pub record IsRefusedAsWide (r : Ran) (a : Admission) : Type 0 where
  pub status : r.status ≡ 6
  -- the item, which is too wide under the order that is tried first
  pub item : ℕ
  pub wide : IsWide a.graph (first_order a.graph a.order) item

-- what each exit status says
pub record IsLawful (r : Ran) : Type 0 where
  -- the run has an output or a reason to stop, and all of it was written unless a sink met a fault
  pub ends : Ends r
  -- 0: the output was written whole, or a stream was followed to its close
  pub done : r.status ≡ 0 → ((text : Text) × Prints r text × IsPrinted r text) ⊎ IsClosedStream r
  -- 1: the words form no command. Conversely, words that form none end with 1, unless `err` meets a fault or memory
  -- runs out.
  pub words : r.status ≡ 1 → command_of r.words ≡ None
  pub formless : command_of r.words ≡ None → r.status ≢ 3 → (r.status ≡ 1) ⊎ (r.status ≡ 8)
  -- 2: the shelf met a fault at the last file; every earlier file was read, and none was rejected
  pub read : r.status ≡ 2 → IsFailed r × ((Stops r Read × IsTold r Read) ⊎ IsUnreadStream r)
  -- a fetch that failed ends the run with 2, or with 3 if `err` met a fault in the line that says so
  pub unread : AreSound r.shelf.old.history r.shelf.new.history ⊎
      ((r.status ≡ 2) ⊎ ((r.status ≡ 3) × TookPart r.err (line_of Read)))
  -- 3: a sink met a fault. Under any other status none did.
  pub write : r.status ≡ 3 → Rose r.out.before r.out.now ⊎ Rose r.err.before r.err.now
  pub unmet : r.status ≢ 3 → (r.out.now ≡ r.out.before) × (r.err.now ≡ r.err.before)
  -- 4: a refusal whose cause holds and whose line was written whole, or a rejected stream
  pub refused : r.status ≡ 4 →
      ((refusal : Refusal) × Stops r (Refused refusal) × IsTold r (Refused refusal)) ⊎ IsRefusedStream r
  -- 5: a process is late, as the line says
  pub is_late : r.status ≡ 5 →
      (a : Admission) × (s : Scenario) × (p : ℕ) × (finish : ℕ) × Stops r (Late a s p finish) ×
      IsTold r (Late a s p finish)
  -- 6: an item is too wide, as the line says
  pub is_wide : r.status ≡ 6 → (a : Admission) × (x : ℕ) × Stops r (TooWide a x) × IsTold r (TooWide a x)
  -- 7: the tables of a pack break a rule, as the line says
  pub is_unsafe : r.status ≡ 7 →
      (a : Admission) × (fault : Fault) × Stops r (Unsafe a fault) × IsTold r (Unsafe a fault)
  -- Under a status other than 0 and 3, nothing was written to `out`, with one exception. If a stream that a node
  -- follows meets a fault of the shelf or is rejected, the lines of the records before were written.
  pub silent : r.status ≢ 0 → r.status ≢ 3 →
      Untouched r.out ⊎ (((r.status ≡ 2) × IsUnreadStream r) ⊎ ((r.status ≡ 4) × IsRefusedStream r))
  -- If a graph gives no order and some item is too wide by its views under its urgency order, the graph is rejected as
  -- too wide. Otherwise the graph is shown or packed if every process ends by its due in every scenario, under the
  -- order that the graph gives, or under its urgency order or its track order. If some process doesn't, the graph is
  -- rejected as late. If the graph gives an order under which some item is too wide by its views, it may be rejected as
  -- too wide instead. In each case memory may run out.
  pub wide : (a : Admission) (x : ℕ) → AsksForTables r a → a.graph.order ≡ None →
      IsWide a.graph (first_order a.graph a.order) x →
      (r.status ≡ 6) ⊎ (r.status ≡ 8)
  pub made : (a : Admission) → AsksForTables r a → IsTimely a.graph a.order →
      ((r.status ≡ 0) ⊎ (r.status ≡ 8)) ⊎ IsRefusedAsWide r a
  pub late : (a : Admission) → AsksForTables r a → IsLate a.graph a.order →
      ((r.status ≡ 5) ⊎ (r.status ≡ 8)) ⊎ IsRefusedAsWide r a
  -- Tables are rejected as another graph's if their head is. Otherwise, tables that keep the ten rules are found safe,
  -- are played, or serve to audit a log, and tables that don't are found unsafe. In each case memory may run out.
  pub other : (a : Admission) (t : Tables) → AsksVerdict r a t → (IsHeadFor a.graph t.head → ⊥) →
      (r.status ≡ 4) ⊎ (r.status ≡ 8)
  pub safe : (a : Admission) (t : Tables) → AsksVerdict r a t → IsHeadFor a.graph t.head → IsValid a.graph t.nodes →
      (r.status ≡ 0) ⊎ (r.status ≡ 8)
  pub broken : (a : Admission) (t : Tables) → AsksVerdict r a t → IsHeadFor a.graph t.head →
      (IsValid a.graph t.nodes → ⊥) →
      (r.status ≡ 7) ⊎ (r.status ≡ 8)
  -- The table of the first node of that name is printed. A name that no node has is rejected. In both cases memory may
  -- run out.
  pub named : (pack name : Text) (t : Tables) (node : ℕ) → Asks r (Node pack name) (tables_value t ∷ []) →
      first_named t.head name ≡ Some node → (r.status ≡ 0) ⊎ (r.status ≡ 8)
  pub nameless : (pack name : Text) (t : Tables) → Asks r (Node pack name) (tables_value t ∷ []) →
      first_named t.head name ≡ None →
      (r.status ≡ 4) ⊎ (r.status ≡ 8)
  -- a trial of a number writes its figures, unless a sink meets a fault or memory runs out
  pub tried : (number : ℕ) → command_of r.words ≡ Some (Trial number) →
      (r.status ≡ 0) ⊎ ((r.status ≡ 3) ⊎ (r.status ≡ 8))
  -- an admitted graph is tuned, however late or wide it is, unless memory runs out
  pub tuned : (graph : Text) (a : Admission) → Asks r (Tune graph) (graph_value a ∷ []) →
      (r.status ≡ 0) ⊎ (r.status ≡ 8)
  -- If parts have a graph of all their instances, it is written. If not, the parts are rejected. In both cases memory
  -- may run out.
  pub unrolled : (pairs : List Pair) (parts : List Part) (g : Graph) → Asks r (Hyper pairs) (part_values parts) →
      HavePeriods pairs parts →
      ShowsUnrolled parts (Ok g) → (r.status ≡ 0) ⊎ (r.status ≡ 8)
  pub apart : (pairs : List Pair) (parts : List Part) (fault : HyperFault) → Asks r (Hyper pairs) (part_values parts) →
      HavePeriods pairs parts → ShowsUnrolled parts (Err fault) → fault ≢ OutOfMemory → (r.status ≡ 4) ⊎ (r.status ≡ 8)
  -- if nothing fails, a node follows its stream to the close, or the stream is rejected
  pub followed : (f : Follows r) → IsFaultless r → f.fetch.failed ≡ false →
      r.status ≡ status_of_end (stream_end (table_of f) f.fetch.given)
  -- a name that no node has is rejected, unless memory runs out
  pub unfollowed : (pack name stream : Text) (t : Tables) → Asks r (Live pack name stream) (tables_value t ∷ []) →
      first_named t.head name ≡ None → (r.status ≡ 4) ⊎ (r.status ≡ 8)
