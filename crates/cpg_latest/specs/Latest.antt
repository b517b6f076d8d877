-- The latest times of a track under an order, for each number n of faults: those of its runs with at most n faults. They
-- follow from each other by the rules of a run, but for the ends.
use Rattle.std.specs.Prelude.{ℕ, ◌+◌, ◌-◌, ◌≡◌, ◌≤◌, Bool, List, [], Option, None, map, get_or, option_map}
use Rattle.std.specs.Prelude.{option_to_list}
use Rattle.std.specs.Int.{div_ceil}
use Rattle.std.specs.List.{flat_map}
use Rattle.cpg_base.specs.Graph.{Graph, process_count, process_at, item_count}
use Rattle.cpg_base.specs.Duration.{duration}
use Rattle.cpg_base.specs.Numbers.{numbers_below, greatest}
use Rattle.cpg_base.specs.Scenario.{Scenario}
use Rattle.cpg_run.specs.Run.{Times, time_in, time_by}

-- the scenario of an outcome and fault counts
abbrev pub with_faults : List Bool → List ℕ → Scenario
with_faults values faults = record { values = values; faults = faults }

-- when a process ends that has j of n faults itself, if the other n - j delayed its start
abbrev pub end_with : Graph → (ℕ → Times) → ℕ → ℕ → ℕ → ℕ
end_with g late n p j = time_in (late (n - j)) p + duration g p j

-- the latest of these ends, over all j from 0 to n
abbrev pub latest_end : Graph → (ℕ → Times) → ℕ → ℕ → ℕ
latest_end g late n p = greatest (map (end_with g late n p) (numbers_below (n + 1)))

-- the latest end of a process with n faults; None if it doesn't start
abbrev pub latest_end_by : Graph → (ℕ → Times) → ℕ → ℕ → Option ℕ
latest_end_by g late n p = option_map (λ start. latest_end g late n p) (get_or (late n).times p None)

-- what each fault adds to an execution: a recovery, one part once more and its detection
abbrev pub fault_delay : Graph → ℕ → ℕ
fault_delay g p = (process_at g p).mu + div_ceil (process_at g p).wcet (process_at g p).parts + (process_at g p).alpha

-- `late n` are the latest times of an outcome with n faults
pub record AreLatest (g : Graph) (order : List ℕ) (frozen : List (Option ℕ)) (values : List Bool)
    (late : ℕ → Times) : Type 0 where
  -- each item has the time that the rules of a run make of these times and ends
  pub times : (n : ℕ) → n ≤ g.faults →
      (late n).times ≡ map (time_by g order frozen (with_faults values []) (late n)) (numbers_below (item_count g))
  -- an end follows from the latest starts with n and with fewer faults
  pub ends : (n : ℕ) → n ≤ g.faults → (late n).ends ≡ map (latest_end_by g late n) (numbers_below (process_count g))
  -- the finish is the greatest of the ends
  pub finish : (n : ℕ) → n ≤ g.faults → (late n).finish ≡ greatest (flat_map option_to_list (late n).ends)
