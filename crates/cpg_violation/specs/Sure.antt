-- Items at which a rule is known to hold in every scenario.
use Rattle.std.specs.Prelude.{ℕ, ◌≡◌, ◌<◌, true, false, List, Option, get_or, Bool}
use Rattle.cpg_base.specs.Graph.{Graph, item_count}
use Rattle.cpg_base.specs.Scenario.{Scenario, IsScenario}
use Rattle.cpg_table.specs.Table.{NodeTable}
use Rattle.cpg_table.specs.Valid.{breaks}
use Rattle.cpg_table.specs.declared.rule.Rule.{Rule}
use Rattle.cpg_violation.specs.declared.marks.RowMarks.{RowMarks}
use Rattle.cpg_violation.specs.declared.marks.TimeMarks.{TimeMarks}

-- the rule is broken at item `x` in no scenario, at none of its columns and not for lack of one (`None`)
abbrev pub IsSure : Graph → List NodeTable → Rule → ℕ → Type 0
IsSure g tables rule x = (column : Option ℕ) (s : Scenario) → IsScenario g s → breaks rule g tables s x column ≡ false

-- the rule is sure at each item that is marked; none is marked past the end of `marks`
abbrev pub AreSure : Graph → List NodeTable → Rule → List Bool → Type 0
AreSure g tables rule marks = (x : ℕ) → x < item_count g → get_or marks x false ≡ true → IsSure g tables rule x

-- for each of V1 to V3: the rule is sure at each item that is marked for it; it may be sure at unmarked ones, too
pub record AreRowMarks (g : Graph) (tables : List NodeTable) (marks : RowMarks) : Type 0 where
  -- V1, V2 and V3, in this order, each by its marks of the items
  pub activity : AreSure g tables Rule.Activity marks.activity.items
  pub single : AreSure g tables Rule.Single marks.single.items
  pub present : AreSure g tables Rule.Present marks.present.items

-- for each of V4 to V9: the rule is sure at each item that is marked for it; it may be sure at unmarked ones, too
pub record AreTimeMarks (g : Graph) (tables : List NodeTable) (marks : TimeMarks) : Type 0 where
  -- V4 to V9, in this order, each by its marks of the items
  pub heard : AreSure g tables Rule.Heard marks.heard.items
  pub inputs : AreSure g tables Rule.Inputs marks.inputs.items
  pub processor : AreSure g tables Rule.Processor marks.processor.items
  pub slot : AreSure g tables Rule.Slot marks.slot.items
  pub frozen : AreSure g tables Rule.Frozen marks.frozen.items
  pub due : AreSure g tables Rule.Due marks.due.items
