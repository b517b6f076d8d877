-- The scenario without faults, in which every value is false.
use Rattle.std.proofs.Common.{◌≡◌, ℕ, zero, suc, Bool, false, List, get_or, replicate, arith, refl, ap}
use Rattle.std.proofs.lemmas.List.{length-replicate}
use Rattle.std.proofs.lemmas.List.Folds.{sum_by-replicate}
use Rattle.cpg_base.specs.Graph.{Graph, process_count, condition_count}
use Rattle.cpg_base.specs.Scenario.{zero_scenario, number_of_value, is_before, Scenario, IsScenario}
use Rattle.cpg_base.proofs.ScenarioOrder.{not_before_by_parts}

module _ (g : Graph) where
  -- the scenario without faults and with every value false is one of the graph
  pub zero_lawful : IsScenario g (zero_scenario g)
  zero_lawful = record {
    values = length-replicate (condition_count g) false;
    faults = length-replicate {A = ℕ} (process_count g) 0;
    budget = omega (arith, sum_by-replicate (λ (x : ℕ). x) (process_count g) 0);
  }

  -- no scenario comes before it
  pub zero_first : (order : List ℕ) (s : Scenario) → is_before g order s (zero_scenario g) ≡ false
  zero_first order s = not_before_by_parts g (zero_scenario g) s order
      (λ p. omega (arith, same_all {X = ℕ} (process_count g) p 0))
      (λ p c e. let no_value = ap number_of_value (same_all {X = Bool} (condition_count g) c false) in
      omega (arith, no_value))
    where
      -- each element of a list of equal ones is the one, and so is the default past its end
      same_all : {X : Type 0} (n i : ℕ) (a : X) → get_or (replicate n a) i a ≡ a
      same_all zero i a = refl
      same_all (suc n) zero a = refl
      same_all (suc n) (suc i) a = same_all n i a
