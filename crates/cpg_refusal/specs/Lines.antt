-- The exit status of a run that stops without an output, and the line that it writes.
use Rattle.std.specs.Prelude.{ℕ, ◌<◌, List, ◌++◌, Option, Some, None, codes, ⊤}
use Rattle.std.specs.List.{flat_map}
use Rattle.std.specs.Fmt.{decimal}
use Rattle.cpg_base.specs.Called.{name_of, node_name}
use Rattle.cpg_base.specs.Graph.{Graph, item_at, item_count}
use Rattle.cpg_base.specs.Scenario.{Scenario}
use Rattle.cpg_scenario.specs.Text.{scenario_text}
use Rattle.cpg_reader.specs.declared.place.Table.{Table}
use Rattle.cpg_reader.specs.declared.place.Table.TheVariants.{Top, Node, Slot, Process, Edge}
use Rattle.cpg_reader.specs.declared.place.Key.{Key}
use Rattle.cpg_reader.specs.declared.place.Key.TheVariants.{Unknown}
use Rattle.cpg_reader.specs.declared.place.Place.{Place}
use Rattle.cpg_reader.specs.declared.place.What.{What}
use Rattle.cpg_reader.specs.declared.place.What.TheVariants.{Nodes, Slots, Processes, Edges, Number, Conditions}
use Rattle.cpg_reader.specs.Rows.{text_of}
use Rattle.cpg_scenario.specs.declared.fault.Cause.{Cause}
use Rattle.cpg_violation.specs.Room.{HasRoom}
use Rattle.cpg_violation.specs.declared.heads.HeadPart.{HeadPart}
use Rattle.cpg_violation.specs.declared.heads.HeadPart.TheVariants.{Faults}
use Rattle.cpg_hyper.specs.declared.part.HyperFault.{HyperFault}
use Rattle.cpg_label.specs.Labels.{labels_of}
use Rattle.cpg_label.specs.ItemText.{done_text}
use Rattle.cpg_table.specs.declared.fault.Fault.{Fault}
use Rattle.cpg_refusal.specs.declared.halt.Refusal.{Refusal}
use Rattle.cpg_refusal.specs.declared.halt.Refusal.TheVariants.{NotToml, BadField, DoubleName, UnknownName, OverLimit}
use Rattle.cpg_refusal.specs.declared.halt.Refusal.TheVariants.{Cycle, TwoAlternatives, NoSlot, TooBig, BadOrder}
use Rattle.cpg_refusal.specs.declared.halt.Refusal.TheVariants.{BadPack, BadScenario, BadLog, LongGraph, LongPack}
use Rattle.cpg_refusal.specs.declared.halt.Refusal.TheVariants.{LongScenario, LongLog, OtherGraph, TooManyTracks}
use Rattle.cpg_refusal.specs.declared.halt.Refusal.TheVariants.{UnknownNode, NoHypergraph}
use Rattle.cpg_refusal.specs.declared.halt.Halt.{Halt}
use Rattle.cpg_refusal.specs.declared.halt.Halt.TheVariants.{Words, Read, Refused, Late, TooWide, Unsafe, Memory}

-- the exit status of a run that halts; 0 is success, and 3 a fault of a sink
abbrev pub status_of : Halt → ℕ
status_of Words = 1
status_of Read = 2
status_of (Refused refusal) = 4
status_of (Late a s p time) = 5
status_of (TooWide a x) = 6
status_of (Unsafe a f) = 7
status_of Memory = 8

-- a key as it is written in the file, or `unknown` if it isn't one of the format
abbrev pub key_text : Key → List ℕ
key_text Unknown = codes "unknown"
key_text key = text_of key

-- a table of the file by its kind and its number; there is one top table, so it needs no number
abbrev pub table_text : Table → ℕ → List ℕ
table_text Top index = codes "top"
table_text Node index = codes "node " ++ decimal index
table_text Slot index = codes "slot " ++ decimal index
table_text Process index = codes "process " ++ decimal index
table_text Edge index = codes "edge " ++ decimal index

-- a place in a graph file: its table and its key
abbrev pub place_text : Place → List ℕ
place_text place = table_text place.table place.index ++ codes " " ++ key_text place.key

-- what is over a limit: the number of such tables or of conditions, or the number at a place
abbrev pub what_text : What → List ℕ
what_text Nodes = codes "nodes"
what_text Slots = codes "slots"
what_text Processes = codes "processes"
what_text Edges = codes "edges"
what_text (Number place) = place_text place
what_text Conditions = codes "conditions"

-- a process, and a scenario in which something is true of it
abbrev pub case_text : Graph → ℕ → Scenario → List ℕ
case_text g p s = name_of g p ++ codes " in " ++ scenario_text g s

-- edges that lead around in a cycle, by the processes on it
abbrev pub cycle_text : Graph → List ℕ → List ℕ
cycle_text g walk = codes "6 cycle" ++ flat_map (λ p. codes " " ++ name_of g p) walk

-- a join, and a scenario in which it has two live inputs
abbrev pub alternatives_text : Graph → ℕ → Scenario → List ℕ
alternatives_text g p s = codes "7 alternatives " ++ case_text g p s

-- what is wrong with a scenario file
abbrev pub cause_text : Cause → List ℕ
cause_text Cause.Toml = codes "toml"
cause_text Cause.Field = codes "field"
cause_text Cause.Unknown = codes "unknown"
cause_text Cause.Condition = codes "condition"
cause_text Cause.Budget = codes "budget"
cause_text Cause.Length = codes "length"

-- the part of a pack's head that differs from the graph's
abbrev pub part_text : HeadPart → List ℕ
part_text Faults = codes "faults"
part_text HeadPart.Nodes = codes "nodes"
part_text HeadPart.Processes = codes "processes"
part_text HeadPart.Edges = codes "edges"

-- why the parts of a graph of several periods have no graph together, with the number `p` of the part if the cause is
-- one. No refusal has the fault out of memory, which is a halt of its own.
abbrev pub parts_text : HyperFault → List ℕ
parts_text (HyperFault.Range p) = codes "range " ++ decimal p
parts_text (HyperFault.Differ p) = codes "differ " ++ decimal p
parts_text (HyperFault.Over p) = codes "over " ++ decimal p
parts_text HyperFault.Period = codes "period"
parts_text (HyperFault.Count what) = what_text what
parts_text (HyperFault.LongName p) = codes "name " ++ decimal p
parts_text (HyperFault.Order p) = codes "order " ++ decimal p
parts_text HyperFault.OutOfMemory = codes "memory"

-- A refusal: its number among all refusals, its kind, and where it is. `21 stream` and `16 long stream` aren't here, since a
-- stream is refused while it is followed.
abbrev pub refusal_text : Refusal → List ℕ
refusal_text NotToml = codes "1 not toml"
refusal_text (BadField place) = codes "2 field " ++ place_text place
refusal_text (DoubleName place) = codes "3 double " ++ place_text place
refusal_text (UnknownName place) = codes "4 unknown " ++ place_text place
refusal_text (OverLimit what) = codes "5 limit " ++ what_text what
refusal_text (Cycle g walk) = cycle_text g walk
refusal_text (TwoAlternatives g p s) = alternatives_text g p s
refusal_text (NoSlot g node) = codes "8 slot " ++ node_name g node
refusal_text (TooBig e) = codes "9 big e" ++ decimal e
refusal_text (BadPack length) = codes "10 pack " ++ decimal length
refusal_text (BadScenario cause) = codes "12 scenario " ++ cause_text cause
refusal_text LongGraph = codes "16 long graph"
refusal_text LongPack = codes "16 long pack"
refusal_text LongScenario = codes "16 long scenario"
refusal_text LongLog = codes "16 long log"
refusal_text (OtherGraph part) = codes "17 other graph " ++ part_text part
refusal_text TooManyTracks = codes "18 tracks"
refusal_text UnknownNode = codes "19 node"
refusal_text (NoHypergraph fault) = codes "22 hyper " ++ parts_text fault
refusal_text (BadLog line) = codes "23 log " ++ decimal line
refusal_text (BadOrder g p) = codes "24 order " ++ name_of g p

-- a refusal, with the word that says that it is one
abbrev pub refused_text : Refusal → List ℕ
refused_text refusal = codes "refused " ++ refusal_text refusal

-- that process `p` ends past its due in scenario `s`, at this time
abbrev pub late_text : Graph → Scenario → ℕ → ℕ → List ℕ
late_text g s p time = codes "late " ++ decimal time ++ codes " by " ++ case_text g p s

-- an item by its number, in the words of a trace: what is started, sent or broadcast
abbrev pub item_text : Graph → ℕ → List ℕ
item_text g x = done_text (labels_of g) (item_at g x)

-- the number of a column, or a dash if the violation is that an item has none
abbrev pub column_text : Option ℕ → List ℕ
column_text None = codes "-"
column_text (Some column) = decimal column

-- a violation: the number of the rule, the item, its column, and the scenario
abbrev pub unsafe_text : Graph → Fault → List ℕ
unsafe_text g f =
    codes "unsafe V" ++ decimal f.rule ++ codes " " ++ item_text g f.item ++ codes " column " ++ column_text f.column
    ++ codes " in " ++ scenario_text g f.scenario

-- why a run halts, in words, without the start and the end of the line
abbrev pub reason_text : Halt → List ℕ
reason_text Words = codes "words"
reason_text Read = codes "read fault"
reason_text (Refused refusal) = refused_text refusal
reason_text (Late a s p time) = late_text a.graph s p time
reason_text (TooWide a x) = codes "too wide " ++ item_text a.graph x
reason_text (Unsafe a f) = unsafe_text a.graph f
reason_text Memory = codes "memory"

-- the line that a run which halts writes to `err`
abbrev pub line_of : Halt → List ℕ
line_of halt = codes "cpgc: " ++ reason_text halt ++ codes "\n"

-- the line that a run writes to `err` if `out` met a fault
abbrev pub write_fault_line : List ℕ
write_fault_line = codes "cpgc: write fault\n"

-- What a line names exists, so that it can be written.

-- the scenario that a refusal names has a value for each condition and a fault count for each process of the graph
abbrev pub IsNamedRefusal : Refusal → Type 0
IsNamedRefusal (TwoAlternatives g p s) = HasRoom g s
IsNamedRefusal refusal = ⊤

-- a scenario that a halt names has a value for each condition and a fault count for each process of the graph, and an item
-- that it names is one of the graph
abbrev pub IsNamed : Halt → Type 0
IsNamed (Refused refusal) = IsNamedRefusal refusal
IsNamed (Late a s p time) = HasRoom a.graph s
IsNamed (TooWide a x) = x < item_count a.graph
IsNamed (Unsafe a f) = (f.item < item_count a.graph) × HasRoom a.graph f.scenario
IsNamed halt = ⊤
