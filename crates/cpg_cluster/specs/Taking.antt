-- The parts of a node's turn, as code takes them.
use Rattle.std.specs.Prelude.{ℕ, ◌≡◌, ◌<◌, ◌+◌, ◌&&◌, ◌==◌, Bool, false, List, [], ◌∷◌, Option, fold, map, filter}
use Rattle.std.specs.Prelude.{get_or}
use Rattle.std.specs.List.{flat_map}
use Rattle.cpg_base.specs.Graph.{Graph, process_count, condition_of}
use Rattle.cpg_base.specs.declared.item.Item.{Item}
use Rattle.cpg_base.specs.declared.item.Item.TheVariants.{Start, Message, Broadcast}
use Rattle.cpg_base.specs.Scenario.{Scenario}
use Rattle.cpg_node.specs.Dispatcher.{Dispatcher, Own, Ended, Frame, Act, Running, zip_with, finished, due_reports_of}
use Rattle.cpg_node.specs.State.{MayFinish}
use Rattle.cpg_cluster.specs.Cluster.{World, report_of}

-- the value that a frame of an item carries: that of its condition for a broadcast, false for a message (and for a
-- start, which has no frame)
abbrev pub value_of_item : List Bool → Item → Bool
value_of_item values (Start p) = false
value_of_item values (Message e) = false
value_of_item values (Broadcast d) = get_or values d false

-- the frames, with this value, of those acts that are of item x and arrive at the time, one slot length later
abbrev pub frames_from : Bool → ℕ → ℕ → ℕ → List Act → List Frame
frames_from value x slot time acts = map (λ (act : Act). record { item = act.item; column = act.column; value = value })
    (filter (λ (act : Act). (act.item == x) && (act.time + slot == time)) acts)

-- what a node's table says of a process: it is one of the graph, and has the condition that the graph says
pub record IsOwnOf (g : Graph) (o : Own) : Type 0 where
  -- the process is one of the graph
  pub known : o.process < process_count g
  -- the process's condition, or `None` if it has none
  pub condition : o.condition ≡ condition_of g o.process

-- the reports of executions that are over by the time and haven't been taken, each with its actual end, by process
abbrev pub reports_by : Graph → World → ℕ → List Own → List (Option Running) → List (ℕ × Ended)
reports_by g w time own runs = flat_map (λ rs. rs) (zip_with (report_of g w time) own runs)

-- the reports whose planned end is this time, each with it, by process
abbrev pub ends_by : ℕ → List Own → List (Option Running) → List (ℕ × Ended)
ends_by time own runs =
    map {A = Ended} {B = ℕ × Ended} (λ e. (time, e)) (flat_map (λ es. es) (zip_with (due_reports_of time) own runs))

-- a dispatcher may take these reports at their times, one after another
abbrev pub AllFinish : Dispatcher → List (ℕ × Ended) → Type 0
AllFinish d [] = Unit {0}
AllFinish d (e ∷ es) = MayFinish d e.0 e.1 × AllFinish (finished d e.1) es

-- the dispatcher after it has taken these reports, whatever their times
abbrev pub all_finished : Dispatcher → List (ℕ × Ended) → Dispatcher
all_finished d es = fold finished d (map {A = ℕ × Ended} {B = Ended} (λ e. e.1) es)

-- the reports that a node takes before its turn at the time
abbrev pub reports_of : Graph → Scenario → List ℕ → ℕ → Dispatcher → List (ℕ × Ended)
reports_of g s lengths time d = reports_by g (record { scenario = s; lengths = lengths }) time d.table.own d.running

-- the dispatcher's reports whose planned end is this time
abbrev pub ends_of : ℕ → Dispatcher → List (ℕ × Ended)
ends_of time d = ends_by time d.table.own d.running

-- the dispatcher after it has taken the reports that come before its turn at the time
abbrev pub ready : Graph → Scenario → List ℕ → ℕ → Dispatcher → Dispatcher
ready g s lengths time d = all_finished d (reports_of g s lengths time d)
