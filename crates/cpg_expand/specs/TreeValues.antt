-- What the trees made so far say in one scenario: the run's times, and no more than is carried beside them.
use Rattle.std.specs.Prelude.{ℕ, ◌≡◌, ◌<◌, ◌≤◌, true, List, None, get_or}
use Rattle.cpg_base.specs.Graph.{Graph, process_count, item_count, item_at, producer}
use Rattle.cpg_base.specs.Activity.{active, item_active}
use Rattle.cpg_base.specs.Scenario.{Scenario}
use Rattle.cpg_base.specs.Order.{place}
use Rattle.cpg_cube.specs.declared.column.Column.{Column}
use Rattle.cpg_run.specs.Run.{Times}
use Rattle.cpg_run.specs.Carried.{carried_by_row, carried_at_end}
use Rattle.cpg_expand.specs.Agreeing.{HasValueFrom}
use Rattle.cpg_expand.specs.Forest.{ForestState, times_of, ends_of}

-- In scenario s, with its run t, the trees give the ends of the active processes before the place i and the times of
-- the active items that these send.
pub record HasTreeValues (g : Graph) (order : List ℕ) (rows : List (List Column)) (s : Scenario) (t : Times) (i : ℕ)
    (f : ForestState) : Type 0 where
  -- the ends, by what is carried beside them
  pub ends : (q : ℕ) → q < process_count g → place order q < i → active g s.values q ≡ true →
      HasValueFrom s (carried_at_end g order rows s q) (get_or t.ends q None) (ends_of g f q)
  -- the times of what is sent, by the literals of the column that matches s in the item's row
  pub sends : (x : ℕ) → x < item_count g → process_count g ≤ x → place order (producer g x) < i →
      item_active g s.values (item_at g x) ≡ true →
      HasValueFrom s (carried_by_row rows s x) (get_or t.times x None) (times_of g f x)
