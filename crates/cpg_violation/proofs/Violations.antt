-- Going over the items one by one: what is known of their columns, and where the first violation is.
use Rattle.std.proofs.Common.{ℕ, ◌+◌, ◌<◌, ◌≡◌, false, List, [], ◌∷◌, Option, Some, None, Contains, All, length, arith}
use Rattle.std.proofs.Common.{subst, inl, inr}
use Rattle.std.proofs.lemmas.Bool.{cases_lt}
use Rattle.std.proofs.lemmas.List.Elements.{All-weaker, All-contains_itself}
use Rattle.cpg_base.specs.Graph.{Graph, process_count, item_count, IsVariable}
use Rattle.cpg_base.proofs.Places.{length_order}
use Rattle.cpg_base.specs.Scenario.{Scenario, IsScenario}
use Rattle.cpg_cube.specs.declared.literal.Literal.{Literal}
use Rattle.cpg_cube.specs.Fit.{IsKnown}
use Rattle.cpg_rules.specs.Admission.{IsAdmitted}
use Rattle.cpg_rules.specs.Guards.{Guards}
use Rattle.cpg_table.specs.Table.{NodeTable, columns_of}
use Rattle.cpg_cube.specs.declared.column.Column.{Column}
use Rattle.cpg_head.specs.GraphHead.{head_of}
use Rattle.cpg_table.specs.Lawful.{AreTablesOf}
use Rattle.cpg_table.specs.Valid.{breaks}
use Rattle.cpg_table.specs.Rules.{number_of_rule}
use Rattle.cpg_table.specs.declared.fault.Fault.{Fault}
use Rattle.cpg_table.specs.declared.rule.Rule.{Rule}
use Rattle.cpg_table.proofs.GraphTables.{has_shape}
use Rattle.cpg_table.proofs.Rows.{variables_exist}
use Rattle.cpg_violation.specs.Violation.{IsFirstColumn, IsFirstViolation, IsFirstOf}

-- given: an admitted graph
module _ {g : Graph} {order : List ℕ} {guards : Guards} (admitted : IsAdmitted g order guards) where
  -- its order has as many places as the graph has processes
  pub long_order : length order ≡ process_count g
  long_order = length_order (process_count g) order admitted.urgency.all

  -- in tables of the graph, the columns of each item `x` are on variables of the graph
  pub columns_known : (tables : List NodeTable) → AreTablesOf (head_of g) tables → (x : ℕ) →
      All (λ (c : Column). IsKnown g c.cube) (columns_of tables x)
  columns_known tables are x = All-weaker (Contains (columns_of tables x)) (λ (c : Column). IsKnown g c.cube)
      (λ c c_in. All-weaker (Contains c.cube) (λ (l : Literal). IsVariable g l.variable)
      (λ l l_in. variables_exist admitted.well_formed (has_shape g admitted.limits tables are) x c l c_in l_in) c.cube
      (All-contains_itself c.cube))
      (columns_of tables x) (All-contains_itself (columns_of tables x))

-- given: a rule that is never broken for lack of a column, and an item
module _ (rule : Rule) (g : Graph) (tables : List NodeTable) (x : ℕ)
    (never : (y : ℕ) (s : Scenario) → breaks rule g tables s y None ≡ false) where
  -- if the rule is broken at no item before `x`, and at no column of `x`, it is broken at none before the item after
  -- `x`
  pub none_more :
      ((y : ℕ) (column : Option ℕ) (s : Scenario) → y < x → IsScenario g s → breaks rule g tables s y column ≡ false)
      → ((i : ℕ) (s : Scenario) → IsScenario g s → breaks rule g tables s x (Some i) ≡ false)
      → (y : ℕ) (column : Option ℕ) (s : Scenario) → y < x + 1 → IsScenario g s →
      breaks rule g tables s y column ≡ false
  none_more before here y None s below lawful = never y s
  none_more before here y (Some c) s below lawful = elim (cases_lt y x) [
    | inl lt ↦ before y (Some c) s lt lawful
    | inr ge ↦ let same : x ≡ y = omega arith in
        subst (λ z. breaks rule g tables s z (Some c) ≡ false) same (here c s lawful)
  ]

  -- if the rule is broken at no item before `x`, the first column of `x` that breaks it is the first violation
  pub first_violation : (number : ℕ) → number ≡ number_of_rule rule → (order : List ℕ) (j : ℕ) (s : Scenario) →
      x < item_count g
      → ((y : ℕ) (column : Option ℕ) (s : Scenario) → y < x → IsScenario g s → breaks rule g tables s y column ≡ false)
      → IsFirstColumn g order (λ i t. breaks rule g tables t x (Some i)) (j, s)
      → IsFirstViolation g order tables rule (record { rule = number; item = x; column = Some j; scenario = s })
  first_violation number is order j s is_item before first = record {
    number = is;
    item = is_item;
    least = first.least;
    items = before;
    columns = λ i t less t_lawful. first.columns i t less t_lawful;
  }

-- the first violation of several rules is the first of one of them; by induction on the rules
pub first_broken : (g : Graph) (order : List ℕ) (tables : List NodeTable) (f : Fault) (rules : List Rule) →
    IsFirstOf g order tables rules f →
    (rule : Rule) × IsFirstViolation g order tables rule f
first_broken g order tables f [] is_first = absurd is_first
first_broken g order tables f (rule ∷ rules) (inl is_first) = (rule, is_first)
first_broken g order tables f (rule ∷ rules) (inr is_first) = first_broken g order tables f rules is_first.1
