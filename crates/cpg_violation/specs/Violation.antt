-- When a rule of valid tables holds, and which violation of it is the first.
use Rattle.std.specs.Prelude.{ℕ, ◌≡◌, ◌<◌, ◌⊎◌, Bool, false, IsTrue, IfSome, List, [], ◌∷◌, ◌++◌, Option, Some, ⊤}
use Rattle.cpg_base.specs.Graph.{Graph, item_count}
use Rattle.cpg_base.specs.Scenario.{Scenario, IsScenario, IsLeast}
use Rattle.cpg_table.specs.Table.{NodeTable}
use Rattle.cpg_table.specs.Valid.{breaks}
use Rattle.cpg_table.specs.declared.fault.Fault.{Fault}
use Rattle.cpg_table.specs.declared.rule.Rule.{Rule}
use Rattle.cpg_table.specs.declared.rule.Rule.TheVariants.{Activity, Single, Present, Heard, Inputs, Processor, Slot}
use Rattle.cpg_table.specs.declared.rule.Rule.TheVariants.{Frozen, Due}
use Rattle.cpg_table.specs.Rules.{number_of_rule}

-- a rule from V1 to V9 holds: it is broken in no scenario, at no item, at no column and not for lack of one (`None`)
abbrev pub Holds : Graph → List NodeTable → Rule → Type 0
Holds g tables rule = (x : ℕ) (column : Option ℕ) (s : Scenario) → IsScenario g s → x < item_count g →
    breaks rule g tables s x column ≡ false

-- `found.0` is the place of the first column that passes a test in some scenario, and `found.1` the least such scenario
pub record IsFirstColumn (g : Graph) (order : List ℕ) (test : ℕ → Scenario → Bool) (found : ℕ × Scenario) : Type 0 where
  -- the column there passes the test in this scenario, and in none before it
  pub least : IsLeast g order (λ s. IsTrue (test found.0 s)) found.1
  -- no column before it passes the test in any scenario
  pub columns : (i : ℕ) (s : Scenario) → i < found.0 → IsScenario g s → test i s ≡ false

-- the fault is the first violation of the rule, by item and column, in the least scenario
pub record IsFirstViolation (g : Graph) (order : List ℕ) (tables : List NodeTable) (rule : Rule)
    (f : Fault) : Type 0 where
  -- the fault is one of the rule
  pub number : f.rule ≡ number_of_rule rule
  -- the item is one of the graph
  pub item : f.item < item_count g
  -- the rule is broken at its item and column, and in no scenario before its own
  pub least : IsLeast g order (λ s. IsTrue (breaks rule g tables s f.item f.column)) f.scenario
  -- the rule is broken at no item before it
  pub items : (x : ℕ) (column : Option ℕ) (s : Scenario) → x < f.item → IsScenario g s →
      breaks rule g tables s x column ≡ false
  -- nor at a column of its item before its own, if it names one; for V3 it names none
  pub columns : IfSome f.column
      (λ j. (i : ℕ) (s : Scenario) → i < j → IsScenario g s → breaks rule g tables s f.item (Some i) ≡ false)

-- V1 to V3, each of which is about one row
abbrev pub row_rules : List Rule
row_rules = Activity ∷ Single ∷ Present ∷ []

-- V5 to V9, which are about times
abbrev pub time_rules : List Rule
time_rules = Inputs ∷ Processor ∷ Slot ∷ Frozen ∷ Due ∷ []

-- V1 to V9: all rules that `breaks` defines
abbrev pub column_rules : List Rule
column_rules = row_rules ++ (Heard ∷ time_rules)

-- all of these rules hold
abbrev pub AllHold : Graph → List NodeTable → List Rule → Type 0
AllHold g tables [] = ⊤
AllHold g tables (rule ∷ rules) = Holds g tables rule × AllHold g tables rules

-- the fault is the first violation of the first of these rules that is broken: the first rule is broken and it is that
-- rule's, or the first rule holds and it is that of the others
abbrev pub IsFirstOf : Graph → List ℕ → List NodeTable → List Rule → Fault → Type 0
IsFirstOf g order tables [] f = ⊥
IsFirstOf g order tables (rule ∷ rules) f =
    IsFirstViolation g order tables rule f ⊎ (Holds g tables rule × IsFirstOf g order tables rules f)
