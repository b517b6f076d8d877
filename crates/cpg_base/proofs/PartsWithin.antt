-- A graph that gives no order is within the limits exactly if its parts are, and it has few enough conditions.
use Rattle.std.proofs.Common.{ℕ, ◌≡◌, ◌≤◌, ◌∙◌, ◌↔◌, Bool, IsTrue, None, List, ap₂, subst}
use Rattle.cpg_base.specs.Graph.{Graph, Process, Edge, Slot, condition_count}
use Rattle.cpg_base.specs.Limits.{IsWithinLimits}
use Rattle.cpg_base.specs.Parts.{HasPartsWithin}
use Rattle.cpg_base.specs.declared.limits.TheConstants.{MOST_CONDITIONS}

-- the graph of these parts, which gives no order
abbrev pub graph_of : ℕ → ℕ → List (List ℕ) → List Slot → List Process → List Edge → Graph
graph_of faults deadline nodes slots processes edges = record {
  faults = faults;
  deadline = deadline;
  nodes = nodes;
  slots = slots;
  processes = processes;
  edges = edges;
  order = None;
}

-- If `is` says whether the graph of some parts has its parts within the limits, it says so of the graph of equal
-- parts. Each list comes twice: as it was tested (ns, ss, ps, es), and in full words.
pub tested_of : (is : Bool) (faults deadline : ℕ) (ns nodes : List (List ℕ)) (ss slots : List Slot)
    (ps processes : List Process) (es edges : List Edge) → ns ≡ nodes → ss ≡ slots → ps ≡ processes → es ≡ edges →
    (IsTrue is ↔ HasPartsWithin (graph_of faults deadline ns ss ps es)) →
    IsTrue is ↔ HasPartsWithin (graph_of faults deadline nodes slots processes edges)
tested_of is faults deadline ns nodes ss slots ps processes es edges n s p e tested =
    subst (λ g. IsTrue is ↔ HasPartsWithin g) (ap₂ (λ x y. graph_of faults deadline x y ps es) n s
    ∙ ap₂ (λ x y. graph_of faults deadline nodes slots x y) p e) tested

-- a graph that gives no order is within the limits if its parts are and it has few enough conditions
pub within_by_parts : (faults deadline : ℕ) (nodes : List (List ℕ)) (slots : List Slot) (processes : List Process)
    (edges : List Edge) → HasPartsWithin (graph_of faults deadline nodes slots processes edges) →
    condition_count (graph_of faults deadline nodes slots processes edges) ≤ MOST_CONDITIONS →
    IsWithinLimits (graph_of faults deadline nodes slots processes edges)
within_by_parts faults deadline nodes slots processes edges parts few = record {
  faults = parts.faults;
  deadline = parts.deadline;
  few_nodes = parts.few_nodes;
  few_slots = parts.few_slots;
  few_processes = parts.few_processes;
  few_edges = parts.few_edges;
  few_conditions = few;
  slots = parts.slots;
  processes = parts.processes;
  edges = parts.edges;
  node_names = parts.node_names;
  process_names = parts.process_names;
  own_slots = parts.own_slots;
  order = tt;
}

-- the parts of a graph within the limits are within them
pub parts_of : (g : Graph) → IsWithinLimits g → HasPartsWithin g
parts_of g within = record {
  faults = within.faults;
  deadline = within.deadline;
  few_nodes = within.few_nodes;
  few_slots = within.few_slots;
  few_processes = within.few_processes;
  few_edges = within.few_edges;
  slots = within.slots;
  processes = within.processes;
  edges = within.edges;
  node_names = within.node_names;
  process_names = within.process_names;
  own_slots = within.own_slots;
}
