-- All scenarios of a graph with their runs, and the rows and cubes that are made of them along the order: the definitions of
-- `Made` and `Learning`, with what `Listed` has.
use Rattle.std.specs.Prelude.{ℕ, ◌+◌, ◌≡◌, ◌++◌, ◌∷◌, [], List}
use Rattle.cpg_base.specs.Graph.{Graph, node_of}
use Rattle.cpg_base.specs.Order.{before_on_node, place}
use Rattle.cpg_base.specs.Scenario.{Scenario, IsScenario}
use Rattle.cpg_bus.specs.Plan.{plan_of}
use Rattle.cpg_cube.specs.declared.column.Column.{Column}
use Rattle.cpg_cube.specs.declared.literal.Literal.{Literal}
use Rattle.cpg_order.specs.Queue.{queued_before}
use Rattle.cpg_order.specs.Urgency.{IsTopological}
use Rattle.cpg_table.specs.Table.{Row}
use Rattle.cpg_run.specs.Found.{columns_of_rows}
use Rattle.cpg_run.specs.Frozen.{AreFrozenTimes}
use Rattle.cpg_run.specs.RowLaws.{SameRowsBefore}
use Rattle.cpg_run.specs.Run.{Times, IsRun}
use Rattle.cpg_run.specs.Rows.{AreEntriesOf}
use Rattle.cpg_list.specs.Learning.{EarlierTell}
use Rattle.cpg_all_runs.specs.Listing.{AreScenarios}
use Rattle.cpg_list.specs.Made.{AreCarried, AreCubesOf, AreEndsOf, AreMade, IsBefore, IsStarted, passed_by, queued_by}
use Rattle.cpg_list.specs.Made.{sent_before}
use Rattle.cpg_all_runs.specs.Runs.{AreRuns}
use Rattle.cpg_list.specs.declared.scenario_runs.Listed.{Listed}

-- the graph of listed scenarios
abbrev pub graph_of : Listed → Graph
graph_of listed = listed.admitted.now.graph

-- what `Listed` has belongs together: the scenarios, runs, plan and frozen times are those of its graph and its order
pub record IsListed (listed : Listed) : Type 0 where
  -- each edge goes onward in the order
  pub topological : IsTopological (graph_of listed) listed.order.now
  -- the plan is that of the graph
  pub plan : listed.plan.now ≡ plan_of (graph_of listed)
  -- the frozen times are those of the graph under the order
  pub frozen : AreFrozenTimes (graph_of listed) listed.order.now listed.frozen.now
  -- the scenarios are all of the graph, each once
  pub scenarios : AreScenarios (graph_of listed) listed.scenarios.now
  -- the runs are those of the scenarios, in their order
  pub runs : AreRuns (graph_of listed) listed.order.now listed.frozen.now listed.scenarios.now listed.runs.now

-- in `rows` the items of the kind `made` have their rows, and all others have no column yet
abbrev pub HasMade : Listed → (ℕ → Type 0) → List Row → Type 0
HasMade listed made rows =
    AreMade (graph_of listed) listed.admitted.now.order listed.order.now listed.frozen.now made rows

-- in `rows` just the items from processes before the place i have their rows
abbrev pub HasMadeBefore : Listed → ℕ → List Row → Type 0
HasMadeBefore listed i rows = HasMade listed (IsBefore (graph_of listed) listed.order.now i) rows

-- in `rows` just the items from processes before p and the start of p have their rows
abbrev pub HasMadeStart : Listed → ℕ → List Row → Type 0
HasMadeStart listed p rows = HasMade listed (IsStarted (graph_of listed) listed.order.now p) rows

-- from `rows_old` to `rows_new` the rows of the items from processes before p stay
abbrev pub KeepsEarlier : Listed → ℕ → List Row → List Row → Type 0
KeepsEarlier listed p rows_old rows_new =
    SameRowsBefore (graph_of listed) listed.order.now (place listed.order.now p) (columns_of_rows rows_old)
    (columns_of_rows rows_new)

-- before the place i `known` has by node and scenario the cube of what the node carries on, and `sent` that of what the
-- items in its queue leave
abbrev pub Carries : Listed → List Row → ℕ → List (List (List Literal)) → List (List (List Literal)) → Type 0
Carries listed rows i known sent =
    AreCarried (graph_of listed) listed.order.now (columns_of_rows rows) listed.scenarios.now i known sent

-- `cubes` has for each scenario the cube of what the node of p carries on from the processes before p
abbrev pub HasPassed : Listed → List Row → ℕ → List (List Literal) → Type 0
HasPassed listed rows p cubes =
    AreCubesOf (graph_of listed).faults listed.scenarios.now
    (passed_by (graph_of listed) (columns_of_rows rows) (before_on_node (graph_of listed) listed.order.now p)) cubes

-- `cubes` has for each scenario the cube of what the node of p carries on from the processes before p and from p itself
abbrev pub HasPassedBy : Listed → List Row → ℕ → List (List Literal) → Type 0
HasPassedBy listed rows p cubes =
    AreCubesOf (graph_of listed).faults listed.scenarios.now
    (passed_by (graph_of listed) (columns_of_rows rows) (before_on_node (graph_of listed) listed.order.now p ++ p ∷ []))
    cubes

-- `cubes` has for each scenario the cube of what the items leave that the node of p sends for the processes before the
-- place i
abbrev pub HasQueued : Listed → List Row → ℕ → ℕ → List (List Literal) → Type 0
HasQueued listed rows p i cubes =
    AreCubesOf (graph_of listed).faults listed.scenarios.now
    (queued_by (graph_of listed) listed.order.now (columns_of_rows rows)
    (sent_before (graph_of listed) listed.order.now (node_of (graph_of listed) p) i)) cubes

-- `cubes` has for each scenario the cube of what the items before x in its node's queue leave
abbrev pub HasQueuedBefore : Listed → List Row → ℕ → List (List Literal) → Type 0
HasQueuedBefore listed rows x cubes =
    AreCubesOf (graph_of listed).faults listed.scenarios.now
    (queued_by (graph_of listed) listed.order.now (columns_of_rows rows)
    (queued_before (graph_of listed) listed.order.now x)) cubes

-- `cubes` has for each scenario the cube of what x and the items before it in its node's queue leave
abbrev pub HasQueuedBy : Listed → List Row → ℕ → List (List Literal) → Type 0
HasQueuedBy listed rows x cubes =
    AreCubesOf (graph_of listed).faults listed.scenarios.now
    (queued_by (graph_of listed) listed.order.now (columns_of_rows rows)
    (queued_before (graph_of listed) listed.order.now x ++ x ∷ [])) cubes

-- `cubes` has for each scenario in which p is active the cube of what is carried at its end
abbrev pub HasEnds : Listed → List Row → ℕ → List (List Literal) → Type 0
HasEnds listed rows p cubes =
    AreEndsOf (graph_of listed) listed.order.now (columns_of_rows rows) listed.scenarios.now p cubes

-- the rows of the items from processes before p have the times of the runs, in every scenario
abbrev pub RowsTell : Listed → List Row → ℕ → Type 0
RowsTell listed rows p =
    (s : Scenario) (t : Times) → IsScenario (graph_of listed) s →
    IsRun (graph_of listed) listed.order.now listed.frozen.now s t
    → EarlierTell (graph_of listed) listed.order.now (columns_of_rows rows) s t p

-- `entries` are the columns of the item x before they are merged, with what is carried by these rows
abbrev pub HasEntries : Listed → List Row → ℕ → List Column → Type 0
HasEntries listed rows x entries =
    AreEntriesOf (graph_of listed) listed.order.now listed.frozen.now (columns_of_rows rows) x entries
