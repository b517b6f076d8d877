-- The process of a variable, by whether the variable is a count or a value.
use Rattle.std.proofs.Common.{ℕ, ◌-◌, ◌<◌, ◌≤◌, ◌≡◌, arith, inl, inr, sym, lt-ltb, le-ltb}
use Rattle.std.proofs.lemmas.Bool.{cond-true, cond-false}
use Rattle.cpg_base.specs.Graph.{Graph, process_count, condition_count, process_of, process_of_variable, IsVariable}

-- given: a variable v of a graph
module _ (g : Graph) (v : ℕ) where
  -- a variable of a count belongs to the process of its number
  pub of_count : process_count g ≤ 128 → v < process_count g → v ≡ process_of_variable g v
  of_count few below = sym (cond-true _ _ _ (lt-ltb v 128 (omega arith)))

  -- a variable past the counts is that of a condition
  pub value_parts : IsVariable g v → process_count g ≤ v → (128 ≤ v) × (v - 128 < condition_count g)
  value_parts (inl below) past = absurd (omega arith)
  value_parts (inr is_value) past = (is_value.0, omega (arith, is_value.0, is_value.1))

  -- a variable of a value belongs to the process of its condition
  pub of_value : 128 ≤ v → process_of g (v - 128) ≡ process_of_variable g v
  of_value past = sym (cond-false _ _ _ (le-ltb v 128 past))
