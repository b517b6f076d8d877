-- What a builder of tables answers: exact tables, and the greatest finish and excess of their runs, or why there are
-- none.
use Rattle.std.specs.Prelude.{ℕ, ◌≡◌, ◌≢◌, ◌≤◌, ◌<◌, ⊤, List, Some, length, slice_get}
use Rattle.cpg_base.specs.Graph.{Graph, item_count}
use Rattle.cpg_order.specs.Reach.{Reach, IsReach, reach_of, views}
use Rattle.cpg_table.specs.Table.{NodeTable, columns_of}
use Rattle.cpg_table.specs.Shape.{HasShape}
use Rattle.cpg_table.specs.Valid.{hear_rows}
use Rattle.cpg_head.specs.GraphHead.{head_of}
use Rattle.cpg_table.specs.declared.rule.Rule.{Rule}
use Rattle.cpg_run.specs.declared.built.Built.{Built}
use Rattle.cpg_run.specs.declared.built.BuildFault.{BuildFault}
use Rattle.cpg_run.specs.declared.built.BuildFault.TheVariants.{TooWide, OutOfMemory}
use Rattle.cpg_run.specs.Frozen.{AreFrozenTimes}
use Rattle.cpg_run.specs.Finish.{IsWorst, IsExcess}
use Rattle.cpg_run.specs.Exact.{IsExact}
use Rattle.cpg_run.specs.Laws.{Keeps}

-- What a builder promises of its answer `b`: its tables keep every rule, but the one on dues only if no end is past its
-- due. Scenarios are compared along the urgency order, and runs are those under the topological order `order`.
pub record IsBuiltFor (g : Graph) (urgency order : List ℕ) (b : Built) : Type 0 where
  -- the head of the tables is that of the graph
  pub head : b.tables.head ≡ head_of g
  -- each node has the rows that it should have, of what it starts, sends and hears
  pub shape : HasShape g b.tables.nodes
  -- the frozen times are those of the graph under the order
  pub frozen : AreFrozenTimes g order b.frozen
  -- for each item the variables on which its time may depend
  pub reach : Reach
  pub reached : IsReach g order reach
  -- the rows have the times of the runs, and the cubes of an item's row have literals on its reach alone
  pub exact : IsExact g urgency order b.frozen reach b.tables.nodes
  -- no row has more columns than its item has views, the combinations of values that its reach can have
  pub views : (x : ℕ) → x < item_count g → length (columns_of b.tables.nodes x) ≤ views g (reach_of reach x)
  -- the greatest finish, with the least scenario that has it and the least process that ends then
  pub worst : IsWorst g urgency order b.frozen b.worst b.worst_in b.worst_by
  -- how far an end is past its due at most, 0 if none is, with the least scenario and the least process that have it
  pub excess : IsExcess g urgency order b.frozen b.excess b.excess_in b.excess_by
  -- all rules but that on dues are kept in any case
  pub rules : (rule : Rule) → rule ≢ Rule.Due → Keeps rule g b.tables.nodes
  -- the rule on dues is kept if no end is past its due
  pub due : b.excess ≡ 0 → Keeps Rule.Due g b.tables.nodes
  -- the rows of what a node hears have the sender's columns, each later by the length of the sender's slot
  pub hears : (node : ℕ) (t : NodeTable) → slice_get b.tables.nodes node ≡ Some t →
      t.hears ≡ hear_rows g b.tables.nodes node

-- What a builder promises if it answers with a fault: the item that it names as too wide has the property `is_shown`.
-- Memory may run out at any point, so that fault promises nothing.
abbrev pub ShowsBuildFault : (ℕ → Type 0) → BuildFault → Type 0
ShowsBuildFault is_shown (TooWide x) = is_shown x
ShowsBuildFault is_shown OutOfMemory = ⊤
