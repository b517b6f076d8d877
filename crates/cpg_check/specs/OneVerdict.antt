-- A check has no choice: what it answers is determined by the graph, the order and the tables.
use Rattle.std.specs.Prelude.{ℕ, ◌≡◌, List, length}
use Rattle.cpg_base.specs.Graph.{Graph}
use Rattle.cpg_order.specs.Urgency.{IsTopological}
use Rattle.cpg_head.specs.Head.{Head}
use Rattle.cpg_table.specs.Lawful.{Tables}
use Rattle.cpg_table.specs.Table.{NodeTable}
use Rattle.cpg_table.specs.declared.fault.Fault.{Fault}
use Rattle.cpg_violation.specs.Heads.{IsFirstDifference}
use Rattle.cpg_check.specs.Verdict.{IsFirstFault, ShowsVerdict}
use Rattle.cpg_violation.specs.declared.heads.HeadPart.{HeadPart}
use Rattle.cpg_check.specs.declared.verdict.Verdict.{Verdict}

-- any two answers that the contract of a check allows are the same
pub record HaveOneVerdict : Type 0 where
  -- a head first differs from a graph's in one part
  pub parts : (g : Graph) (h : Head) (p q : HeadPart) → IsFirstDifference g h p → IsFirstDifference g h q → p ≡ q
  -- tables have one first violation, by each order of all processes
  pub faults : (g : Graph) (order : List ℕ) (tables : List NodeTable) (e f : Fault) → IsTopological g order →
      IsFirstFault g order tables e → IsFirstFault g order tables f → e ≡ f
  -- tables with one table for each node have one verdict
  pub verdicts : (g : Graph) (order : List ℕ) (t : Tables) (v w : Verdict) → IsTopological g order →
      length t.nodes ≡ length g.nodes →
      ShowsVerdict g order t v → ShowsVerdict g order t w → v ≡ w
