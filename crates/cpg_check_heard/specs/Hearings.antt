-- The rows of a graph's tables, ready to be asked what they tell.
use Rattle.cpg_base.specs.Graph.{item_count}
use Rattle.cpg_rules.specs.Admission.{IsAdmitted}
use Rattle.cpg_head.specs.GraphHead.{head_of}
use Rattle.cpg_table.specs.Lawful.{AreTablesOf}
use Rattle.cpg_violation.specs.Heads.{IsHeadFor}
use Rattle.cpg_violation.specs.Violation.{AllHold, row_rules}
use Rattle.cpg_check_heard.specs.declared.hearing.Hearing.{Hearing}
use Rattle.cpg_check_heard.specs.TellingRows.{AreTellingRows}

-- a hearing is for tables of its graph that keep V1 to V3
pub record IsHearing (h : Hearing) : Type 0 where
  -- the graph is admitted, and the head and the tables are made for it
  pub admitted : IsAdmitted h.admitted.now.graph h.admitted.now.order h.admitted.now.guards
  pub head : IsHeadFor h.admitted.now.graph h.tables.now.head
  pub tables : AreTablesOf (head_of h.admitted.now.graph) h.tables.now.nodes
  -- the tables keep V1 to V3
  pub rules : AllHold h.admitted.now.graph h.tables.now.nodes row_rules
  pub telling_rows :
      -- for each item its row, and by what means it tells: by an end or by frames
      AreTellingRows h.admitted.now.graph h.tables.now.nodes (item_count h.admitted.now.graph) h.telling_rows.items
