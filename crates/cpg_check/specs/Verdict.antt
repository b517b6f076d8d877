-- What a check answers.
use Rattle.std.specs.Prelude.{ℕ, ◌⊎◌, List, Option, Some, None}
use Rattle.cpg_base.specs.Graph.{Graph}
use Rattle.cpg_table.specs.Lawful.{Tables}
use Rattle.cpg_table.specs.Table.{NodeTable}
use Rattle.cpg_table.specs.Valid.{IsValid}
use Rattle.cpg_table.specs.declared.fault.Fault.{Fault}
use Rattle.cpg_violation.specs.Heads.{IsFirstDifference, IsHeadFor}
use Rattle.cpg_violation.specs.Violation.{AllHold, IsFirstOf, column_rules}
use Rattle.cpg_check_rows.specs.Hears.{IsFirstHearFault}
use Rattle.cpg_check.specs.declared.verdict.Verdict.{Verdict}
use Rattle.cpg_check.specs.declared.verdict.Verdict.TheVariants.{Yes, Other, No}

-- the fault is the first violation of the first of V1 to V9 that is broken; or, if all these hold, of V10
abbrev pub IsFirstFault : Graph → List ℕ → List NodeTable → Fault → Type 0
IsFirstFault g order tables f =
    IsFirstOf g order tables column_rules f ⊎ (AllHold g tables column_rules × IsFirstHearFault g tables f)

-- what a check of tables with the graph's head finds: `None` if they are valid, and otherwise the first violation
abbrev pub ShowsFault : Graph → List ℕ → List NodeTable → Option Fault → Type 0
ShowsFault g order tables None = IsValid g tables
ShowsFault g order tables (Some f) = IsFirstFault g order tables f

-- what a check answers: the part in which the head differs first from the graph's; or, if the head is the graph's,
-- whether the tables are valid, and if not, the first violation
abbrev pub ShowsVerdict : Graph → List ℕ → Tables → Verdict → Type 0
ShowsVerdict g order t Yes = IsHeadFor g t.head × IsValid g t.nodes
ShowsVerdict g order t (Other part) = IsFirstDifference g t.head part
ShowsVerdict g order t (No f) = IsHeadFor g t.head × IsFirstFault g order t.nodes f
