-- The latest times of all tracks along an order, the frozen times that they give, and what is greatest in them.
use Rattle.std.specs.Prelude.{ℕ, ◌≡◌, ◌≤◌, ◌<◌, Bool, true, false, List, [], Option, Some, None, length, get_or, map}
use Rattle.cpg_base.specs.Numbers.{numbers_below, greatest}
use Rattle.cpg_base.specs.Graph.{Graph, item_count, item_at, is_frozen}
use Rattle.cpg_base.specs.Activity.{item_active}
use Rattle.cpg_order.specs.Track.{AreTracks}
use Rattle.cpg_run.specs.Finish.{excess_in_run}
use Rattle.cpg_run.specs.Run.{Times, unfrozen_time}
use Rattle.cpg_latest.specs.Latest.{AreLatest, with_faults}

-- the outcome of the track at a place, or no values past the end
abbrev pub track_at : List (List Bool) → ℕ → List Bool
track_at tracks i = get_or tracks i []

-- `lates i n` are the latest times of the i-th track with n faults, all under the same frozen times
pub record AreLatestOf (g : Graph) (order : List ℕ) (frozen : List (Option ℕ)) (tracks : List (List Bool))
    (lates : ℕ → ℕ → Times) : Type 0 where
  -- the list has each track of the graph once
  pub all : AreTracks g tracks
  -- each track has its latest times
  pub each : (i : ℕ) → i < length tracks → AreLatest g order frozen (track_at tracks i) (lates i)

-- whether the item x is active in the i-th track
abbrev pub acts_in : Graph → List (List Bool) → ℕ → ℕ → Bool
acts_in g tracks x i = item_active g (track_at tracks i) (item_at g x)

-- the latest time that x would have in the i-th track, with all the faults, if it were not frozen; `lates i n` are the latest
-- times of that track with n faults
abbrev pub unfrozen_in : Graph → List ℕ → List (List Bool) → (ℕ → ℕ → Times) → ℕ → ℕ → ℕ
unfrozen_in g order tracks lates x i = unfrozen_time g order (with_faults (track_at tracks i) []) (lates i g.faults) x

-- `frozen` is the latest time that x would have over the tracks in which it is active if it were not frozen, or None if there
-- is no such track; `lates i n` are the latest times of track i with n faults
pub record IsLatestFrozen (g : Graph) (order : List ℕ) (tracks : List (List Bool)) (lates : ℕ → ℕ → Times) (x : ℕ)
    (frozen : Option ℕ) : Type 0 where
  -- in some track x has this time
  pub reached : (time : ℕ) → frozen ≡ Some time →
      (i : ℕ) × (i < length tracks) × (acts_in g tracks x i ≡ true) × (unfrozen_in g order tracks lates x i ≡ time)
  -- in no track does it have a later one
  pub greatest : (time i : ℕ) → frozen ≡ Some time → i < length tracks → acts_in g tracks x i ≡ true →
      unfrozen_in g order tracks lates x i ≤ time
  -- without a time x is active in no track
  pub none : frozen ≡ None → (i : ℕ) → i < length tracks → acts_in g tracks x i ≡ false

-- Each frozen item has the latest of its times, and no other item has a frozen time. Latest times depend on frozen times of
-- earlier items alone, so both are found along the order together. `lates i n` are the latest times of track i with n faults.
pub record AreLatestFrozen (g : Graph) (order : List ℕ) (tracks : List (List Bool)) (lates : ℕ → ℕ → Times)
    (frozen : List (Option ℕ)) : Type 0 where
  -- there is a place for each item of the graph
  pub count : length frozen ≡ item_count g
  -- a frozen item has the latest of its times over the tracks in which it is active
  pub each : (x : ℕ) → x < item_count g → is_frozen g x ≡ true →
      IsLatestFrozen g order tracks lates x (get_or frozen x None)
  -- no other item has one
  pub others : (x : ℕ) → is_frozen g x ≡ false → get_or frozen x None ≡ None

-- the greatest finish of `lates i g.faults`, the latest times of the tracks i with all the faults
abbrev pub latest_finish : Graph → List (List Bool) → (ℕ → ℕ → Times) → ℕ
latest_finish g tracks lates = greatest (map (λ i. (lates i g.faults).finish) (numbers_below (length tracks)))

-- the greatest excess of `lates i g.faults`, the latest times of the tracks i with all the faults
abbrev pub latest_excess : Graph → List (List Bool) → (ℕ → ℕ → Times) → ℕ
latest_excess g tracks lates = greatest (map (λ i. excess_in_run g (lates i g.faults)) (numbers_below (length tracks)))
