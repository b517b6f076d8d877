-- What the runs of all scenarios rest on: an admitted graph, a topological order of its processes and the graph's plan.
use Rattle.std.specs.Prelude.{ℕ, ◌≡◌, max, List, Option}
use Rattle.cpg_base.specs.Graph.{Graph, process_at}
use Rattle.cpg_base.specs.Numbers.{greatest}
use Rattle.cpg_base.specs.Scenario.{Scenario}
use Rattle.cpg_bus.specs.Plan.{plan_of}
use Rattle.cpg_order.specs.Urgency.{IsTopological}
use Rattle.cpg_rules.specs.Admitted.{AreAdmitted}
use Rattle.cpg_run.specs.Progress.{CanSend, HasPlaces, HasSent, IsAt}
use Rattle.cpg_run.specs.Known.{frozen_in}
use Rattle.cpg_run.specs.Run.{Times, IsRun, input_bounds}
use Rattle.cpg_run.specs.declared.setting.Setting.{Setting}
use Rattle.cpg_run.specs.declared.stepping.Nodes.{Nodes}

-- the graph is admitted, the order is topological, and the plan is that of the graph
pub record IsSetting (setting : Setting) : Type 0 where
  -- the graph is admitted, with these guards
  pub admitted : AreAdmitted setting.problem.now setting.guards.now
  -- the order is topological
  pub topological : IsTopological setting.problem.now setting.order.now
  -- the plan is that of the graph
  pub plan : setting.plan.now ≡ plan_of setting.problem.now

-- `t` is the run of the scenario under the setting's order
abbrev pub IsRunOf : Setting → List (Option ℕ) → Scenario → Times → Type 0
IsRunOf setting frozen s t = IsRun setting.problem.now setting.order.now frozen s t

-- there is a place for the time of each item, for the end of each process, and for what is kept of each node
abbrev pub HavePlaces : Setting → Times → Nodes → Type 0
HavePlaces setting known nodes = HasPlaces setting.problem.now known nodes.ready.items nodes.free.items

-- what is found is that of the scenario's run before the place i
abbrev pub AreAt : Setting → List (Option ℕ) → Scenario → ℕ → Times → Nodes → Type 0
AreAt setting frozen s i known nodes =
    (t : Times) → IsRunOf setting frozen s t →
    IsAt setting.problem.now setting.order.now s t i known nodes.ready.items nodes.free.items

-- what is known is that of the scenario's run, before the process p sends anything
abbrev pub CanSendIn : Setting → List (Option ℕ) → Scenario → ℕ → Times → ℕ → Type 0
CanSendIn setting frozen s p known free =
    (t : Times) → IsRunOf setting frozen s t → CanSend setting.problem.now setting.order.now s t p known free

-- the first n items that the process p sends have their times of the scenario's run
abbrev pub HasSentIn : Setting → List (Option ℕ) → Scenario → ℕ → ℕ → Times → Times → ℕ → Type 0
HasSentIn setting frozen s p n known_old known_new free =
    (t : Times) → IsRunOf setting frozen s t → HasSent setting.problem.now setting.order.now s t p n known_old known_new free

-- when a process starts whose node is ready for it at the time `ready`: not before its release, its live inputs and, if it
-- has one, its frozen time
abbrev pub start_at : Graph → Scenario → Times → List (Option ℕ) → ℕ → ℕ → ℕ
start_at g s known frozen p ready =
    max (max (max ready (process_at g p).release) (greatest (input_bounds g s known p))) (frozen_in frozen p)
