-- One instance of a part in the graph of all instances, which lasts for a whole: a common multiple of the periods.
use Rattle.std.specs.Prelude.{ℕ, zero, suc, ◌+◌, ◌*◌, ◌/◌, ◌<◌, List, [], ◌∷◌, take, drop, map, length, get_or}
use Rattle.cpg_base.specs.Graph.{disjunctions}
use Rattle.cpg_base.specs.Activity.{value_of}
use Rattle.cpg_base.specs.Scenario.{Scenario}
use Rattle.cpg_base.specs.declared.activation.Activation.{Activation}
use Rattle.cpg_base.specs.declared.activation.Activation.TheVariants.{Inactive, Plain, By}
use Rattle.cpg_hyper.specs.declared.part.Part.{Part}
use Rattle.cpg_hyper.specs.Unrolled.{size_of, first_graph, unrolled}

-- part p; behind the last one, an empty part of period 0
abbrev pub part_at : List Part → ℕ → Part
part_at parts p = get_or parts p (record { period = 0; problem = first_graph [] })

-- there is a part p, and it has an instance i within the whole
pub record IsInstance (whole : ℕ) (parts : List Part) (p i : ℕ) : Type 0 where
  -- p is the number of a part
  pub part : p < length parts
  -- i is the number of one of its instances
  pub instance : i < whole / (part_at parts p).period

-- how many processes of the whole graph come before those of part p: those of all instances of the parts before it
abbrev pub processes_before : ℕ → List Part → ℕ → ℕ
-- behind the last part nothing more is counted
processes_before whole [] p = 0
-- part p itself
processes_before whole (part ∷ parts) zero = 0
-- a part before it: each of its instances has all its processes
processes_before whole (part ∷ parts) (suc p) = whole / part.period * size_of part + processes_before whole parts p

-- the number in the whole graph of the first process of instance i of part p
abbrev pub first_process_of : ℕ → List Part → ℕ → ℕ → ℕ
first_process_of whole parts p i = processes_before whole parts p + i * size_of (part_at parts p)

-- how many edges of the whole graph come before those of part p
abbrev pub edges_before : ℕ → List Part → ℕ → ℕ
-- behind the last part nothing more is counted
edges_before whole [] p = 0
-- part p itself
edges_before whole (part ∷ parts) zero = 0
-- a part before it: each of its instances has all its edges
edges_before whole (part ∷ parts) (suc p) = whole / part.period * length part.problem.edges + edges_before whole parts p

-- the number in the whole graph of the first edge of instance i of part p
abbrev pub first_edge_of : ℕ → List Part → ℕ → ℕ → ℕ
first_edge_of whole parts p i = edges_before whole parts p + i * length (part_at parts p).problem.edges

-- What a scenario of the whole graph is for instance i of part p, as a scenario of the part: the values of the conditions of
-- the instance's processes, and the fault counts of its processes.
abbrev pub scenario_of : ℕ → List Part → ℕ → ℕ → Scenario → Scenario
scenario_of whole parts p i s =
    record {
      values = map (λ q.
          value_of (unrolled whole parts) s.values (first_process_of whole parts p i + q))
          (disjunctions (part_at parts p).problem);
      faults = take (size_of (part_at parts p)) (drop (first_process_of whole parts p i) s.faults);
    }

-- how a copy of a process is activated, given how the process is in its part; `first` is the number of the instance's first
-- edge, to which the number of a deciding edge is added
abbrev pub copied_activation : ℕ → Activation → Activation
copied_activation first Inactive = Inactive
copied_activation first Plain = Plain
copied_activation first (By e) = By (first + e)
