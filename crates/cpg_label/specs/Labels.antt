-- The names of processes, conditions and edges in texts.
use Rattle.std.specs.Prelude.{ℕ, List, [], map, get_or}
use Rattle.cpg_base.specs.Graph.{Graph, process_at, disjunctions}
use Rattle.cpg_base.specs.declared.process.Process.{Process}
use Rattle.cpg_base.specs.declared.process.Edge.{Edge}
use Rattle.cpg_head.specs.Head.{Head}
use Rattle.cpg_head.specs.declared.head_parts.HeadProcess.{HeadProcess}
use Rattle.cpg_table.specs.Items.{conditioned}

-- the names of the processes, the names of the processes that compute the conditions, and the ends of the edges; all by
-- number
pub record Labels : Type 0 where
  -- names are lists of bytes
  pub processes : List (List ℕ)
  pub conditions : List (List ℕ)
  -- the processes that each edge leads from and to
  pub edges : List (ℕ × ℕ)

-- the name of process p; empty if there is none
abbrev pub process_name : Labels → ℕ → List ℕ
process_name labels p = get_or labels.processes p []

-- the name of the process of condition c; empty if there is none
abbrev pub condition_name : Labels → ℕ → List ℕ
condition_name labels c = get_or labels.conditions c []

-- the processes that edge e leads from and to; process 0 twice if there is no such edge
abbrev pub edge_ends : Labels → ℕ → ℕ × ℕ
edge_ends labels e = get_or labels.edges e (0, 0)

-- the labels of a graph
abbrev pub labels_of : Graph → Labels
labels_of g = record {
  processes = map (λ (p : Process). p.name) g.processes;
  conditions = map (λ p. (process_at g p).name) (disjunctions g);
  edges = map (λ (e : Edge). (e.from, e.to)) g.edges;
}

-- the labels of a head
abbrev pub head_labels : Head → Labels
head_labels h = record {
  processes = map (λ (p : HeadProcess). p.name) h.processes;
  conditions = map (λ (p : HeadProcess). p.name) (conditioned h);
  edges = h.edges;
}
