-- What marks say of a rule: it isn't broken at an item that is marked, and holds if all are.
use Rattle.std.proofs.Common.{ℕ, ◌+◌, ◌<◌, ◌≡◌, true, false, Bool, List, Option, get_or, arith, subst, inl, inr}
use Rattle.std.proofs.lemmas.Bool.{cases_lt}
use Rattle.cpg_base.specs.Graph.{Graph, item_count}
use Rattle.cpg_base.specs.Scenario.{Scenario, IsScenario}
use Rattle.cpg_table.specs.Table.{NodeTable}
use Rattle.cpg_table.specs.Valid.{breaks}
use Rattle.cpg_table.specs.declared.rule.Rule.{Rule}
use Rattle.cpg_violation.specs.Sure.{AreSure}
use Rattle.cpg_violation.specs.Violation.{Holds}

-- given: marks of items at which a rule is sure
module _ (g : Graph) (tables : List NodeTable) (rule : Rule) (marks : List Bool)
    (sure : AreSure g tables rule marks) where
  -- the rule holds if all items are marked
  pub holds_all : ((x : ℕ) → x < item_count g → get_or marks x false ≡ true) → Holds g tables rule
  holds_all all x column s lawful is_item = sure x is_item (all x is_item) column s lawful

  -- if the rule is broken at no item before `x`, and `x` is marked, it is broken at none before the item after `x`
  pub marked_more : (x : ℕ) → x < item_count g → get_or marks x false ≡ true
      → ((y : ℕ) (column : Option ℕ) (s : Scenario) → y < x → IsScenario g s → breaks rule g tables s y column ≡ false)
      → (y : ℕ) (column : Option ℕ) (s : Scenario) → y < x + 1 → IsScenario g s →
      breaks rule g tables s y column ≡ false
  marked_more x is_item marked before y column s below lawful = elim (cases_lt y x) [
    | inl lt ↦ before y column s lt lawful
    | inr ge ↦ let same : x ≡ y = omega arith in
        subst (λ z. breaks rule g tables s z column ≡ false) same (sure x is_item marked column s lawful)
  ]
