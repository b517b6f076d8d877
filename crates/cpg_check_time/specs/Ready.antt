-- What V5 is judged by.
use Rattle.std.specs.Prelude.{◌≡◌, List}
use Rattle.cpg_base.specs.Graph.{Graph, item_count}
use Rattle.cpg_order.specs.Links.{links_of}
use Rattle.cpg_table.specs.Table.{NodeTable}
use Rattle.cpg_violation.specs.Violation.{AllHold, row_rules}
use Rattle.cpg_violation.specs.SievedRows.{AreSievedRows}
use Rattle.cpg_check_time.specs.declared.inputs.WaitedInputs.{WaitedInputs}

-- the judge has the inputs of each process and the row of each item, and the tables keep V1 to V3
pub record IsReady (g : Graph) (tables : List NodeTable) (judge : WaitedInputs) : Type 0 where
  -- the inputs of each process
  pub links : judge.links ≡ links_of g
  -- the row of each item
  pub rows : AreSievedRows tables (item_count g) judge.rows.now
  -- the tables keep V1 to V3, so each active item has exactly one column that matches
  pub rules : AllHold g tables row_rules
