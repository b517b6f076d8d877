-- The names of a graph's processes and conditions, by the labels of the graph.
use Rattle.std.proofs.Common.{ℕ, ◌≡◌, ◌<◌, []}
use Rattle.std.proofs.Math.ListN.{get_or-map as get_or-mapped}
use Rattle.std.proofs.lemmas.List.{get_or-map}
use Rattle.cpg_base.specs.declared.process.Process.{Process}
use Rattle.cpg_base.specs.Graph.{Graph, condition_count, disjunctions, process_at, process_of}
use Rattle.cpg_label.specs.Labels.{condition_name, labels_of, process_name}

-- the labels of a graph call a process by its name
pub process_called : (g : Graph) (p : ℕ) → process_name (labels_of g) p ≡ (process_at g p).name
process_called g p = get_or-mapped (λ (p : Process). p.name) g.processes p _

-- the labels of a graph call a condition by the name of its process
pub condition_called : (g : Graph) (c : ℕ) → c < condition_count g →
    condition_name (labels_of g) c ≡ (process_at g (process_of g c)).name
condition_called g c below = get_or-map (λ p. (process_at g p).name) (disjunctions g) c 0 [] below
