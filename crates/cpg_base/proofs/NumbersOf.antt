-- The variables of a graph: which they are, and what values are as numbers; what is no variable is 0.
use Rattle.std.proofs.Common.{ℕ, ◌-◌, ◌<◌, ◌≤◌, ◌≡◌, ◌⊎◌, Bool, true, false, not, ◌==◌, get_or, arith, refl, ap, ◌∙◌}
use Rattle.std.proofs.Common.{⊎_elim, inl, inr, le-ltb, lt-ltb}
use Rattle.std.specs.Prelude.{nat_lt}
use Rattle.std.proofs.lemmas.Bool.{cases_lt, cond-false, cond-true}
use Rattle.std.proofs.lemmas.List.{get_or_past}
use Rattle.cpg_base.specs.Graph.{Graph, process_count, condition_count, value_variable, IsVariable}
use Rattle.cpg_base.specs.Scenario.{Scenario, IsScenario, fault_of, number_of, number_of_value}

-- ---- the variables

-- values with the same number are the same
pub one_value : (a b : Bool) → number_of_value a ≡ number_of_value b → a ≡ b
one_value true true same = refl
one_value true false same = absurd (omega arith)
one_value false true same = absurd (omega arith)
one_value false false same = refl

-- the number of a condition's variable is that of its value
pub number_of-value : (s : Scenario) (c : ℕ) →
    number_of s (value_variable c) ≡ number_of_value (get_or s.values c false)
number_of-value s c = cond-false _ _ _ (le-ltb (value_variable c) 128 (omega arith))
    ∙ ap (λ k. number_of_value (get_or s.values k false)) (let same : value_variable c - 128 ≡ c = omega arith in same)

-- the number of a process's variable is its fault count
pub number_of-fault : (s : Scenario) (p : ℕ) → p < 128 → number_of s p ≡ fault_of s p
number_of-fault s p is_count = cond-true _ _ _ (lt-ltb p 128 is_count)

-- the number of a value is 0 if and only if the value is false
pub number_of_value-zero : (b : Bool) → (number_of_value b == 0) ≡ not b
number_of_value-zero true = refl
number_of_value-zero false = refl

-- the number of a value is at most 1
pub number_of_value-le : (b : Bool) → number_of_value b ≤ 1
number_of_value-le true = omega arith
number_of_value-le false = omega arith

-- each variable is that of a count or that of a value
pub variable_cases : (g : Graph) (v : ℕ) → IsVariable g v →
    (v < process_count g) ⊎ ((c : ℕ) × (c < condition_count g) × (v ≡ value_variable c))
variable_cases g v (inl is_count) = inl is_count
variable_cases g v (inr is_value) = inr (v - 128, omega arith, omega arith)

-- A number is a variable of the graph or is not.
-- By the ranges: fault counts are below the number of processes, values from 128 on.
pub variable_or_not : (g : Graph) (v : ℕ) → IsVariable g v ⊎ (IsVariable g v → ⊥)
variable_or_not g v = ⊎_elim
    (λ (a : v < process_count g). inl (inl a))
    (λ (a : process_count g ≤ v). ⊎_elim
    (λ (b : v < 128). inr (λ h. ⊎_elim (λ (c : v < process_count g). omega arith)
    (λ (c : (128 ≤ v) × (v < value_variable (condition_count g))). omega arith) h))
    (λ (b : 128 ≤ v). ⊎_elim
    (λ (c : v < value_variable (condition_count g)). inl (inr (b, c)))
    (λ (c : value_variable (condition_count g) ≤ v). inr (λ h. ⊎_elim (λ (d : v < process_count g). omega arith)
    (λ (d : (128 ≤ v) × (v < value_variable (condition_count g))). omega arith) h))
    (cases_lt v (value_variable (condition_count g))))
    (cases_lt v 128))
    (cases_lt v (process_count g))

-- What is no variable of the graph has the number 0 in its scenarios.
-- Below 128 it is past the end of the fault counts, and from 128 on past the end of the values.
pub unknown-zero : (g : Graph) (s : Scenario) → IsScenario g s → (v : ℕ) → (IsVariable g v → ⊥) → number_of s v ≡ 0
unknown-zero g s lawful v unknown = ⊎_elim
    (λ (low : v < 128). let counts = lawful.faults in
    number_of-fault s v low ∙ ⊎_elim (λ (inside : v < process_count g). absurd (unknown (inl inside)))
    (λ (past : process_count g ≤ v). get_or_past s.faults v 0 (omega arith))
    (cases_lt v (process_count g)))
    (λ (high : 128 ≤ v). let values_long = lawful.values in
    cond-false (nat_lt v 128) (fault_of s v) (number_of_value (get_or s.values (v - 128) false)) (le-ltb v 128 high)
    ∙ ⊎_elim (λ (inside : v < value_variable (condition_count g)). absurd (unknown (inr (high, inside))))
    (λ (past : value_variable (condition_count g) ≤ v). ap number_of_value
    (get_or_past s.values (v - 128) false (omega arith))) (cases_lt v (value_variable (condition_count g))))
    (cases_lt v 128)
