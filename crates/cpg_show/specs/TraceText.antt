-- The text of a trace: a line for each event in order, and the line of the greatest end.
use Rattle.std.specs.Prelude.{ℕ, ◌≡◌, Bool, nat_lt, if◌then◌else◌, List, [], ◌++◌, codes, is_some, map, get_or, length}
use Rattle.std.specs.List.{flat_map}
use Rattle.std.specs.Fmt.{decimal}
use Rattle.cpg_base.specs.Numbers.{numbers_below, greatest}
use Rattle.cpg_base.specs.Graph.{Graph, item_at, condition_of}
use Rattle.cpg_base.specs.declared.item.Item.TheVariants.{Start as StartItem}
use Rattle.cpg_base.specs.Duration.{duration}
use Rattle.cpg_base.specs.Scenario.{number_of_value}
use Rattle.cpg_node.specs.Dispatcher.{Act, Ended}
use Rattle.cpg_show.specs.declared.event.EventKind.TheVariants.{End, Send, Start}
use Rattle.cpg_label.specs.CubeText.{value_text}
use Rattle.cpg_label.specs.Labels.{labels_of, process_name}
use Rattle.cpg_show.specs.TraceEvents.{EventKind, TraceEvent, AreToldInOrder}
use Rattle.cpg_label.specs.ItemText.{done_text}

-- the text of the value of a process's condition; nothing if the process has none
abbrev pub outcome_text : Graph → ℕ → Bool → List ℕ
outcome_text g process value = if is_some (condition_of g process)
    then codes " value " ++ value_text (number_of_value value) else []

-- the text of how long an execution ran, `length`, if that is less than its full duration, `full`; otherwise nothing
abbrev pub ran_text : ℕ → ℕ → List ℕ
ran_text length full = if nat_lt length full then codes " ran " ++ decimal length else []

-- the text of the end of an execution: its process, its faults, its value if it has a condition, and how long it ran if it
-- ended early; `lengths` has how long the execution of each process ran
abbrev pub end_text : Graph → List ℕ → ℕ → ℕ → Bool → List ℕ
end_text g lengths process faults value =
    codes "end " ++ process_name (labels_of g) process ++ codes " faults " ++ decimal faults
    ++ outcome_text g process value ++ ran_text (get_or lengths process 0) (duration g process faults)

-- the text of what a node did, without the time and the node; `lengths` has how long the execution of each process ran
abbrev pub kind_text : Graph → List ℕ → EventKind → List ℕ
kind_text g lengths (End process faults value) = end_text g lengths process faults value
kind_text g lengths (Send item) = done_text (labels_of g) (item_at g item)
kind_text g lengths (Start process) = done_text (labels_of g) (StartItem process)

-- the line of an event: its time, its node, and what it was; `lengths` has how long the execution of each process ran
abbrev pub event_line : Graph → List ℕ → TraceEvent → List ℕ
event_line g lengths e =
    decimal e.time ++ codes " " ++ get_or g.nodes e.node [] ++ codes " " ++ kind_text g lengths e.kind ++ codes "\n"

-- the times of the ends of a node
abbrev pub end_times : List (List (ℕ × Ended)) → ℕ → List ℕ
end_times ends node = map {A = ℕ × Ended} {B = ℕ} (λ e. e.0) (get_or ends node [])

-- the greatest end on any node; 0 if there is none
abbrev pub finish_of : Graph → List (List (ℕ × Ended)) → ℕ
finish_of g ends = greatest (flat_map (end_times ends) (numbers_below (length g.nodes)))

-- the line of the greatest end
abbrev pub finish_line : Graph → List (List (ℕ × Ended)) → List ℕ
finish_line g ends = codes "finish " ++ decimal (finish_of g ends) ++ codes "\n"

-- the text tells what the nodes did: it has lines for all their events in order, and the greatest end. `lengths` has how
-- long the execution of each process ran
abbrev pub IsTraceText : Graph → List ℕ → List (List Act) → List (List (ℕ × Ended)) → List ℕ → Type 0
IsTraceText g lengths acts ends text = (events : List TraceEvent) × AreToldInOrder g acts ends events ×
    (text ≡ flat_map (event_line g lengths) events ++ finish_line g ends)
