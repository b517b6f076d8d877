-- Loops of `plan_rows`: adds the entries of rows, the first of which has the place `first`.
use Rattle.std.proofs.Common.{◌≡◌, ◌+◌, ◌++◌, drop}
use Rattle.cpg_node.specs.Plan.{plan_from}
use Rattle.cpg_node.proofs.plan.plan_rows.Given as goal

-- the plan so far and the entries of the rows left are together the plan before and the entries of all rows; `place` is
-- that of the next row
abbrev pub invariant-loop-row : goal.invariant-loop-row
invariant-loop-row l = record {
  plan : l.plan.items ++ plan_from l.place (drop l.row-index l.rows) ≡ l.fn.plan.items ++ plan_from l.first l.rows;
  place : l.place ≡ l.first + l.row-index;
}
