-- What is answered for a list of parts: the graph of all instances, or a refusal with the exact reason for it.
use Rattle.std.specs.Prelude.{ℕ, ◌≡◌, ◌<◌, ◌≤◌, ◌/◌, Bool, true, false, List, ◌++◌, None, length, get_or, All, Result}
use Rattle.std.specs.Prelude.{Ok, Err, Vec, ⊤}
use Rattle.std.specs.declared.alloc.Global.{Global}
use Rattle.cpg_base.specs.declared.limits.TheConstants.{LONGEST, MOST_PROCESSES, MOST_EDGES, MOST_CONDITIONS}
use Rattle.cpg_base.specs.declared.process.Process.{Process}
use Rattle.cpg_base.specs.Graph.{Graph, process_count, edge_count, condition_count}
use Rattle.cpg_reader.specs.declared.place.What.{What}
use Rattle.cpg_reader.specs.declared.place.What.TheVariants.{Processes, Edges, Conditions}
use Rattle.cpg_hyper.specs.declared.part.Part.{Part}
use Rattle.cpg_hyper.specs.declared.part.HyperFault.{HyperFault}
use Rattle.cpg_hyper.specs.declared.part.HyperFault.TheVariants.{Range, Differ, Over, Period, Count, LongName, Order}
use Rattle.cpg_hyper.specs.declared.part.HyperFault.TheVariants.{OutOfMemory}
use Rattle.cpg_hyper.specs.Hyperperiod.{IsHyperperiod}
use Rattle.cpg_hyper.specs.Unrolled.{unrolled, first_graph, name_in, processes_from}

-- the period of a part is from 1 to the longest time
pub record IsInRange (part : Part) : Type 0 where
  -- the period is not 0
  pub some : 1 ≤ part.period
  -- the period is at most the longest time
  pub short : part.period ≤ LONGEST

-- a part has the same faults, nodes and slots as the graph g
pub record IsAlike (g : Graph) (part : Part) : Type 0 where
  pub faults : part.problem.faults ≡ g.faults
  pub nodes : part.problem.nodes ≡ g.nodes
  pub slots : part.problem.slots ≡ g.slots

-- the deadline and all releases of a part are within its period
pub record FitsPeriod (part : Part) : Type 0 where
  -- the deadline of its graph
  pub deadline : part.problem.deadline ≤ part.period
  -- the release of each of its processes
  pub releases : All (λ q. q.release ≤ part.period) part.problem.processes

-- the name that each process of part p gets in each instance has at most 32 bytes, as names in a graph file do
abbrev pub HasShortNames : ℕ → ℕ → Part → Type 0
HasShortNames whole p part =
    (i : ℕ) → i < whole / part.period → All (λ q. length (name_in p i q.name) ≤ 32) part.problem.processes

-- the part's graph gives no order of its processes
abbrev pub GivesNoOrder : Part → Type 0
GivesNoOrder part = part.problem.order ≡ None

-- the fact P holds of each part and its number; d, what `get_or` answers behind the last part, plays no role
abbrev pub HoldsOfEach : (ℕ → Part → Type 0) → List Part → Type 0
HoldsOfEach P parts = (p : ℕ) (d : Part) → p < length parts → P p (get_or parts p d)

-- the fact P holds of each of the first n parts and its number
abbrev pub HoldsBefore : (ℕ → Part → Type 0) → List Part → ℕ → Type 0
HoldsBefore P parts n = (p : ℕ) (d : Part) → p < n → P p (get_or parts p d)

-- p is the first part for which the fact P fails
pub record FailsFirst (P : ℕ → Part → Type 0) (parts : List Part) (p : ℕ) : Type 0 where
  -- p is the number of a part, and the fact fails for that part
  pub within : p < length parts
  pub fails : (d : Part) → P p (get_or parts p d) → ⊥
  -- it holds of each part before
  pub before : (q : ℕ) (d : Part) → q < p → P q (get_or parts q d)

-- There are more of one thing than a graph file may have, and not too many of what is counted before it: first processes, then
-- edges, then conditions. Nothing else can be too many.
abbrev pub Exceeds : What → Graph → Type 0
Exceeds Processes g = MOST_PROCESSES < process_count g
Exceeds Edges g = (process_count g ≤ MOST_PROCESSES) × (MOST_EDGES < edge_count g)
Exceeds Conditions g =
    (process_count g ≤ MOST_PROCESSES) × (edge_count g ≤ MOST_EDGES) × (MOST_CONDITIONS < condition_count g)
Exceeds _ g = ⊥

-- a graph has no more processes, edges and conditions than a graph file may have
pub record HasFewEnough (g : Graph) : Type 0 where
  pub processes : process_count g ≤ MOST_PROCESSES
  pub edges : edge_count g ≤ MOST_EDGES
  pub conditions : condition_count g ≤ MOST_CONDITIONS

-- all periods are in range, and all parts have the faults, nodes and slots of the first one
pub record AreAlike (parts : List Part) : Type 0 where
  pub ranges : HoldsOfEach (λ p part. IsInRange part) parts
  pub alike : HoldsOfEach (λ p part. IsAlike (first_graph parts) part) parts

-- all periods are in range, all parts have the faults, nodes and slots of the first one, and each part fits its period
pub record AreFitting (parts : List Part) : Type 0 where
  pub ranges : HoldsOfEach (λ p part. IsInRange part) parts
  pub alike : HoldsOfEach (λ p part. IsAlike (first_graph parts) part) parts
  pub fitting : HoldsOfEach (λ p part. FitsPeriod part) parts

-- the parts pass the checks of `AreFitting`, and `whole` is their hyperperiod, which is at most the longest time
pub record AreOver (parts : List Part) (whole : ℕ) : Type 0 where
  -- each period is in range, and each part is like the first one and fits its period
  pub fitting : AreFitting parts
  -- the whole is the hyperperiod of the parts, and short enough
  pub hyperperiod : IsHyperperiod parts whole
  pub short : whole ≤ LONGEST

-- What each answer says. The checks are made in the order of the clauses, so each refusal says that all checks before it are
-- passed. One with a number names the first part that fails its check. Nothing is said if memory runs out.
abbrev pub ShowsUnrolled : List Part → Result Graph HyperFault → Type 0
ShowsUnrolled parts (Err (Range p)) = FailsFirst (λ p part. IsInRange part) parts p
ShowsUnrolled parts (Err (Differ p)) =
    HoldsOfEach (λ p part. IsInRange part) parts × FailsFirst (λ p part. IsAlike (first_graph parts) part) parts p
ShowsUnrolled parts (Err (Over p)) = AreAlike parts × FailsFirst (λ p part. FitsPeriod part) parts p
ShowsUnrolled parts (Err Period) = AreFitting parts × ((whole : ℕ) → IsHyperperiod parts whole → LONGEST < whole)
ShowsUnrolled parts (Err (Count what)) = (whole : ℕ) × AreOver parts whole × Exceeds what (unrolled whole parts)
ShowsUnrolled parts (Err (LongName p)) =
    (whole : ℕ) × AreOver parts whole × HasFewEnough (unrolled whole parts) × FailsFirst (HasShortNames whole) parts p
ShowsUnrolled parts (Err (Order p)) = (whole : ℕ) × AreOver parts whole × HasFewEnough (unrolled whole parts) ×
    HoldsOfEach (HasShortNames whole) parts × FailsFirst (λ q part. GivesNoOrder part) parts p
ShowsUnrolled parts (Err OutOfMemory) = ⊤
ShowsUnrolled parts (Ok g) = (whole : ℕ) × AreOver parts whole × HasFewEnough (unrolled whole parts) ×
    HoldsOfEach (HasShortNames whole) parts × HoldsOfEach (λ p part. GivesNoOrder part) parts ×
    (g ≡ unrolled whole parts)

-- the names that the processes of part p get in instance i have at most 32 bytes each
abbrev pub AreShort : ℕ → Part → ℕ → Type 0
AreShort p part i = All (λ q. length (name_in p i q.name) ≤ 32) part.problem.processes

-- True: the processes `more` are added, and the fact `short` about their names holds. False: it fails, and nothing is said
-- of what was added.
abbrev pub AddsShort : Bool → List Process → List Process → List Process → Type 0 → Type 0
AddsShort true old new more short = (new ≡ old ++ more) × short
AddsShort false old new more short = short → ⊥

-- what the list of all processes answers: these processes, or the first part that has too long a name
abbrev pub ShowsProcesses : ℕ → List Part → Result (Vec Process Global) HyperFault → Type 0
ShowsProcesses whole parts (Ok processes) =
    (processes.items ≡ processes_from whole 0 parts) × HoldsOfEach (HasShortNames whole) parts
ShowsProcesses whole parts (Err (LongName p)) = FailsFirst (HasShortNames whole) parts p
ShowsProcesses whole parts (Err OutOfMemory) = ⊤
ShowsProcesses whole parts (Err _) = ⊥
