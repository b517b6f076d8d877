-- Loops of `plan_columns`: adds the columns of a row.
use Rattle.std.proofs.Common.{◌≡◌, ◌++◌, drop}
use Rattle.cpg_node.specs.Plan.{plan_of_columns}
use Rattle.cpg_node.proofs.plan.plan_columns.Given as goal

-- the plan so far and the entries of the columns left are together the plan before and the entries of all columns;
-- `column` counts the columns so far
abbrev pub invariant-loop-entry : goal.invariant-loop-entry
invariant-loop-entry l = record {
  plan : l.plan.items ++ plan_of_columns l.row l.item l.column (drop l.entry-index l.columns) ≡ l.fn.plan.items
      ++ plan_of_columns l.row l.item 0 l.columns;
  column : l.column ≡ l.entry-index;
}
