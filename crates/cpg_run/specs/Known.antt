-- What is known of a run so far, and bounds that keep its times small.
use Rattle.std.specs.Prelude.{ℕ, ◌^◌, ◌≡◌, ◌<◌, List, Option, Some, None, get_or, unwrap_or, replicate}
use Rattle.cpg_base.specs.Graph.{Graph, process_count, item_count}
use Rattle.cpg_run.specs.Run.{Times, time_in, end_in}

-- each frozen time that is set is below 2 ^ 58; the times of a run stay below 2 ^ 59 then
abbrev pub AreEarly : List (Option ℕ) → Type 0
AreEarly frozen = (x time : ℕ) → get_or frozen x None ≡ Some time → time < 2 ^ 58

-- the frozen time of an item, or 0 if none is set
abbrev pub frozen_in : List (Option ℕ) → ℕ → ℕ
frozen_in frozen x = unwrap_or (get_or frozen x None) 0

-- each time and each end of a run is below 2 ^ 59
pub record AreSmall (t : Times) : Type 0 where
  pub times : (x : ℕ) → time_in t x < 2 ^ 59
  pub ends : (p : ℕ) → end_in t p < 2 ^ 59

-- nothing is known yet: no item has a time, and no process an end
abbrev pub no_times : Graph → Times
no_times g = record { times = replicate (item_count g) None; ends = replicate (process_count g) None; finish = 0 }
