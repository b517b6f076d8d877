-- The variables along an order of processes are variables of the graph.
use Rattle.std.proofs.Common.{ℕ, ◌<◌, ◌≡◌, List, [], Option, Some, None, get_or, All, Contains, arith, refl, subst}
use Rattle.std.proofs.Common.{⊎_elim, inl, inr}
use Rattle.std.proofs.lemmas.List.Elements.{All-contains, Contains-get_or}
use Rattle.cpg_base.specs.Graph.{Graph, process_count, condition_of, value_variable, IsVariable}
use Rattle.cpg_base.proofs.ConditionProcesses.{condition_of_below}
use Rattle.cpg_base.proofs.Lists.{Contains-cases, Contains-nil, Contains-flat_map_parts}
use Rattle.cpg_cube.specs.Keys.{variable_of_value, variables_of, variables_along}

-- given: a graph
module _ (g : Graph) where
  -- the variable of a condition's value is one of the graph
  value_known : (p : ℕ) (o : Option ℕ) → condition_of g p ≡ o → (v : ℕ) → Contains (variable_of_value o) v →
      IsVariable g v
  value_known p None condition_is v member = absurd (Contains-nil v member)
  value_known p (Some n) condition_is v member = ⊎_elim
      (λ (is_value : value_variable n ≡ v). let below = condition_of_below g p n condition_is in
      inr (omega arith, omega arith))
      (λ (in_none : Contains [] v). absurd (Contains-nil v in_none))
      (Contains-cases (value_variable n) [] v member)

  -- the variables of a process are variables of the graph
  own_known : (p : ℕ) → p < process_count g → (v : ℕ) → Contains (variables_of g p) v → IsVariable g v
  own_known p is_process v member = ⊎_elim
      (λ (is_count : p ≡ v). subst (IsVariable g) is_count (inl is_process))
      (λ (in_value : Contains (variable_of_value (condition_of g p)) v). value_known p
      (condition_of g p) refl v in_value)
      (Contains-cases p (variable_of_value (condition_of g p)) v member)

  -- all variables along an order are variables of the graph
  pub variables_known : (order : List ℕ) → All (λ p. p < process_count g) order →
      All (IsVariable g) (variables_along g order)
  variables_known order within k d inside =
      let v = get_or (variables_along g order) k d in
      let found = Contains-flat_map_parts (variables_of g) order v
      (Contains-get_or (variables_along g order) k d inside) in
      own_known found.0 (All-contains (λ p. p < process_count g) order found.0 within found.1) v found.2
