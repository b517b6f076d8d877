-- What a guard comes to in a scenario, and the literal of a condition's value.
use Rattle.std.specs.Prelude.{ℕ, Bool}
use Rattle.cpg_base.specs.Numbers.{same_bool}
use Rattle.cpg_base.specs.Graph.{value_variable}
use Rattle.cpg_base.specs.Activity.{is_active}
use Rattle.cpg_order.specs.Guard.{Guard, outcome_at}
use Rattle.cpg_base.specs.Scenario.{Scenario, number_of_value}
use Rattle.cpg_cube.specs.declared.literal.Literal.{Literal}

-- whether the process of a guard is active in a scenario, if `wanted` is true, or inactive, if it is false
abbrev pub comes_to : Guard → Bool → Scenario → Bool
comes_to tree wanted s = same_bool wanted (is_active (outcome_at tree s.values))

-- the literal that says that condition `c` has this value, as a number: 0 for false, 1 for true
abbrev pub value_literal : ℕ → Bool → Literal
value_literal c value =
    record { variable = value_variable c; low = number_of_value value; high = number_of_value value }
