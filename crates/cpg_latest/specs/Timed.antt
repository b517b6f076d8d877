-- Times that keep the rules of a run but for the ends, which may be any. Runs and latest times both are such times.
use Rattle.std.specs.Prelude.{ℕ, ◌≡◌, List, Option, None, map, get_or, option_map}
use Rattle.cpg_base.specs.Graph.{Graph, process_count, item_count}
use Rattle.cpg_base.specs.Numbers.{numbers_below}
use Rattle.cpg_base.specs.Scenario.{Scenario}
use Rattle.cpg_run.specs.Run.{Times, time_by}

-- the given end of a process; None if it doesn't start
abbrev pub end_where : Times → (ℕ → ℕ) → ℕ → Option ℕ
end_where t end_of p = option_map (λ start. end_of p) (get_or t.times p None)

-- `t` are times of a scenario that keep the rules of a run but for the ends
pub record IsTimed (g : Graph) (order : List ℕ) (frozen : List (Option ℕ)) (s : Scenario) (t : Times) : Type 0 where
  -- each item has the time that the rules make of these times and ends
  pub times : t.times ≡ map (time_by g order frozen s t) (numbers_below (item_count g))
  -- when each process ends, if it starts
  pub end_of : ℕ → ℕ
  pub ends : t.ends ≡ map (end_where t end_of) (numbers_below (process_count g))
