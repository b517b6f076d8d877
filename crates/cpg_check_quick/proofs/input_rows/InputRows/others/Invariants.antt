-- Loops of `InputRows::others`: those of these inputs of a process that aren't known to come from the same node by a
-- source that is always over before the process begins, as `is_from_before` finds out.
use Rattle.std.proofs.Common.{ℕ, ◌<◌, ◌⊎◌, List, All, Contains, take}
use Rattle.cpg_base.specs.Graph.{edge_count}
use Rattle.cpg_table.specs.Table.{NodeTable}
use Rattle.cpg_check_quick.specs.Inputs.{IsFromBefore, AreInputRows}
use Rattle.cpg_check_quick.proofs.input_rows.InputRows.others.Given as goal

-- `edges`: the others are edges of the graph. `known`: each input so far is among them, or comes from the same node,
-- and its source is always over before the process begins.
abbrev pub invariant-loop-edge : goal.invariant-loop-edge
invariant-loop-edge l = record {
  edges : All (λ e. e < edge_count l.self.admitted.now.graph) l.others.items;
  known : (tables : List NodeTable) (e : ℕ) → AreInputRows l.self.admitted.now.graph tables l.self →
      Contains (take l.edge-index l.edges) e →
      Contains l.others.items e ⊎
      IsFromBefore l.self.admitted.now.graph tables e l.process;
}
