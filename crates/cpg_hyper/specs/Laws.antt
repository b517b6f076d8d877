-- What holds of each instance in the graph of all instances. In all laws i is an instance of part p, and q a process (e an edge)
-- of that part.
use Rattle.std.specs.Prelude.{ℕ, ◌+◌, ◌*◌, ◌≡◌, ◌≤◌, ◌<◌, true, List, length, Contains}
use Rattle.cpg_base.specs.Graph.{process_at, edge_at, is_disjunction}
use Rattle.cpg_base.specs.Activity.{activation, active, live}
use Rattle.cpg_base.specs.Duration.{duration, due}
use Rattle.cpg_base.specs.Limits.{IsWithinLimits}
use Rattle.cpg_base.specs.Scenario.{Scenario, IsScenario, fault_of}
use Rattle.cpg_order.specs.Urgency.{IsTopological}
use Rattle.cpg_table.specs.Table.{NodeTable, at}
use Rattle.cpg_table.specs.Valid.{IsValid}
use Rattle.cpg_hyper.specs.declared.part.Part.{Part}
use Rattle.cpg_hyper.specs.Unrolled.{size_of, copied_process, copied_edge, unrolled}
use Rattle.cpg_hyper.specs.Refusals.{HoldsOfEach, AreOver}
use Rattle.cpg_hyper.specs.Instances.{part_at, IsInstance, first_process_of, first_edge_of, scenario_of, copied_activation}

-- the processes of an instance are the copies of its part's processes
abbrev pub InstancesAreCopies : Type 0
InstancesAreCopies =
    (whole : ℕ) (parts : List Part) (p i q : ℕ) → IsInstance whole parts p i → q < size_of (part_at parts p)
    → process_at (unrolled whole parts) (first_process_of whole parts p i + q)
    ≡ copied_process p i (part_at parts p) (process_at (part_at parts p).problem q)

-- a scenario of the whole graph, seen on an instance, is a scenario of its part
abbrev pub InstancesHaveScenarios : Type 0
InstancesHaveScenarios =
    (whole : ℕ) (parts : List Part) (p i : ℕ) (s : Scenario) → AreOver parts whole → IsInstance whole parts p i →
    IsScenario (unrolled whole parts) s
    → IsScenario (part_at parts p).problem (scenario_of whole parts p i s)

-- a process of an instance lasts as long in a scenario as the part's process does in what the scenario is for the instance
abbrev pub InstancesLastAsLong : Type 0
InstancesLastAsLong = (whole : ℕ) (parts : List Part) (p i q : ℕ) (s : Scenario) → IsInstance whole parts p i →
    q < size_of (part_at parts p) → IsScenario (unrolled whole parts) s
    → duration (unrolled whole parts) (first_process_of whole parts p i + q) (fault_of s (first_process_of whole parts p i + q))
    ≡ duration (part_at parts p).problem q (fault_of (scenario_of whole parts p i s) q)

-- the edges of an instance are the copies of its part's edges, with the ends counted from the instance's first process
abbrev pub InstancesHaveEdges : Type 0
InstancesHaveEdges = (whole : ℕ) (parts : List Part) (p i e : ℕ) → IsInstance whole parts p i →
    e < length (part_at parts p).problem.edges
    → edge_at (unrolled whole parts) (first_edge_of whole parts p i + e)
    ≡ copied_edge (first_process_of whole parts p i) (edge_at (part_at parts p).problem e)

-- each part is within the limits of graph files; so its edges lead between its own processes
abbrev pub AreWithinLimits : List Part → Type 0
AreWithinLimits parts = HoldsOfEach (λ p part. IsWithinLimits part.problem) parts

-- a process of an instance has a condition exactly if the part's process has one
abbrev pub InstancesHaveConditions : Type 0
InstancesHaveConditions = (whole : ℕ) (parts : List Part) (p i q : ℕ) → AreWithinLimits parts →
    IsInstance whole parts p i → q < size_of (part_at parts p)
    → is_disjunction (unrolled whole parts) (first_process_of whole parts p i + q) ≡ is_disjunction (part_at parts p).problem q

-- If the parts are within the limits and the graph of all instances has a topological order, a process of an instance is
-- activated as it is in its part, in what the scenario is for the instance.
abbrev pub InstancesAreActivatedAlike : Type 0
InstancesAreActivatedAlike =
    (whole : ℕ) (parts : List Part) (p i q : ℕ) (s : Scenario) (order : List ℕ) → AreWithinLimits parts →
    IsInstance whole parts p i → q < size_of (part_at parts p) → IsTopological (unrolled whole parts) order
    → activation (unrolled whole parts) s.values (first_process_of whole parts p i + q)
    ≡ copied_activation (first_edge_of whole parts p i)
    (activation (part_at parts p).problem (scenario_of whole parts p i s).values q)

-- If the parts are within the limits and the graph of all instances has a topological order, a process of an instance is
-- active exactly if it is in its part, in what the scenario is for the instance.
abbrev pub InstancesAreActiveAlike : Type 0
InstancesAreActiveAlike =
    (whole : ℕ) (parts : List Part) (p i q : ℕ) (s : Scenario) (order : List ℕ) → AreWithinLimits parts →
    IsInstance whole parts p i → q < size_of (part_at parts p) → IsTopological (unrolled whole parts) order
    → active (unrolled whole parts) s.values (first_process_of whole parts p i + q)
    ≡ active (part_at parts p).problem (scenario_of whole parts p i s).values q

-- If the parts are within the limits and the graph of all instances has a topological order, an edge of an instance is live
-- exactly if it is in its part, in what the scenario is for the instance.
abbrev pub InstancesAreLiveAlike : Type 0
InstancesAreLiveAlike =
    (whole : ℕ) (parts : List Part) (p i e : ℕ) (s : Scenario) (order : List ℕ) → AreWithinLimits parts →
    IsInstance whole parts p i → e < length (part_at parts p).problem.edges → IsTopological (unrolled whole parts) order
    → live (unrolled whole parts) s.values (first_edge_of whole parts p i + e)
    ≡ live (part_at parts p).problem (scenario_of whole parts p i s).values e

-- An execution of process q in instance i of a part keeps to its period: it starts at the release or later, and ends by the
-- due, both counted from the beginning of the instance.
pub record KeepsPeriod (part : Part) (i q start end : ℕ) : Type 0 where
  -- the start is no earlier than the release
  pub released : i * part.period + (process_at part.problem q).release ≤ start
  -- the end is no later than the due
  pub ended : end ≤ i * part.period + due part.problem q

-- valid tables have a start for each process of an instance that is active
abbrev pub ValidTablesStartInstances : Type 0
ValidTablesStartInstances = (whole : ℕ) (parts : List Part) (p i q : ℕ) (s : Scenario) (tables : List NodeTable) →
    IsInstance whole parts p i → q < size_of (part_at parts p) → IsScenario (unrolled whole parts) s →
    IsValid (unrolled whole parts) tables
    → active (unrolled whole parts) s.values (first_process_of whole parts p i + q) ≡ true →
    (start : ℕ) × Contains (at tables (first_process_of whole parts p i + q) s) start

-- in valid tables each execution in an instance keeps to its period
abbrev pub ValidTablesKeepPeriods : Type 0
ValidTablesKeepPeriods =
    (whole : ℕ) (parts : List Part) (p i q : ℕ) (s : Scenario) (tables : List NodeTable) (start : ℕ) →
    IsInstance whole parts p i → q < size_of (part_at parts p) → IsScenario (unrolled whole parts) s →
    IsValid (unrolled whole parts) tables
    → Contains (at tables (first_process_of whole parts p i + q) s) start
    → KeepsPeriod (part_at parts p) i q start
    (start + duration (unrolled whole parts) (first_process_of whole parts p i + q) (fault_of s (first_process_of whole parts p i + q)))
