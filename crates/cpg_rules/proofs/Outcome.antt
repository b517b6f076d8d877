-- The scenario of standings, set value by value; and what the search says of joins.
use Rattle.std.proofs.Common.{ℕ, ◌<◌, ◌≤◌, ◌≡◌, Bool, false, List, length, get_or, map, filter, replicate, Option, None}
use Rattle.std.proofs.Common.{arith, sym, ap₂, ◌∙◌}
use Rattle.std.specs.Bool.{nat_lt}
use Rattle.std.proofs.lemmas.List.{ext_get_or, length-map}
use Rattle.std.proofs.lemmas.List.FromFn.{length-range_with_len}
use Rattle.std.proofs.lemmas.Bool.{ltb-false}
use Rattle.cpg_base.specs.Numbers.{numbers_below}
use Rattle.cpg_base.specs.Graph.{Graph, process_count, condition_count, process_of, inputs}
use Rattle.cpg_base.specs.Activity.{live}
use Rattle.cpg_base.specs.Scenario.{Scenario}
use Rattle.cpg_base.specs.WellFormed.{HasSingleJoins}
use Rattle.cpg_base.proofs.Lists.{get_or-map-below}
use Rattle.cpg_rules.specs.Alternatives.{IsSingleJoin, is_set, scenario_of}

-- A scenario with these values and no faults is that of the standings.
-- Its values are equal condition by condition, and its faults as lists.
pub scenario_given : (g : Graph) (s : List (Option Bool)) (t : Scenario) → length t.values ≡ condition_count g →
    t.faults ≡ replicate (process_count g) 0
    → ((c : ℕ) → c < condition_count g → get_or t.values c false ≡ is_set (get_or s (process_of g c) None)) →
    t ≡ scenario_of g s
scenario_given g s t long faults given = ap₂ (λ vs fs. let r : Scenario = record { values = vs; faults = fs } in r)
    (ext_get_or false t.values (map (λ c. is_set (get_or s (process_of g c) None)) (numbers_below (condition_count g)))
    (long ∙ sym (length-map (numbers_below (condition_count g)) (λ c. is_set (get_or s (process_of g c) None))
    ∙ length-range_with_len 0 (condition_count g)))
    (λ c l. given c (omega arith) ∙ sym
    (get_or-map-below (λ d. is_set (get_or s (process_of g d) None)) (condition_count g) c false (omega arith))))
    faults

-- if no process is a join with two live inputs, the graph has none
pub single_joins : (g : Graph) → ((p : ℕ) → p < process_count g → IsSingleJoin g p) → HasSingleJoins g
single_joins g h = λ p values l join long. few (length (filter (live g values) (inputs g p))) (h p l values join long)
  where
    -- a count that isn't above 1 is at most 1
    few : (n : ℕ) → nat_lt 1 n ≡ false → n ≤ 1
    few n is_false = ltb-false 1 n is_false
