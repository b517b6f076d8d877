-- What is latest over the first tracks of a list, as a loop over the tracks finds it.
use Rattle.std.specs.Prelude.{ℕ, ◌+◌, ◌^◌, ◌≡◌, ◌≤◌, ◌<◌, true, Bool, List, [], Option, Some, length, get_or}
use Rattle.cpg_base.specs.Activity.{active, item_active}
use Rattle.cpg_base.specs.Graph.{Graph, item_at}
use Rattle.cpg_run.specs.Known.{AreSmall}
use Rattle.cpg_run.specs.Progress.{ProgressState}
use Rattle.cpg_run.specs.Run.{end_in}
use Rattle.cpg_latest.specs.Lanes.{IsUnfrozenStart, last_course, unfrozen_send}
use Rattle.cpg_latest.specs.Tracks.{track_at}

-- `latest` is the greatest time of those of the first `count` numbers i with `Acts i`, where `Is i time` says that the time
-- of i is `time`; None if there is no such i
pub record IsLatestOver (count : ℕ) (Acts : ℕ → Type 0) (Is : ℕ → ℕ → Type 0) (latest : Option ℕ) : Type 0 where
  -- some number that acts has it
  pub reached : (time : ℕ) → latest ≡ Some time → (i : ℕ) × (i < count) × Acts i × Is i time
  -- each number that acts has a time, which isn't later
  pub above : (i : ℕ) → i < count → Acts i → (time : ℕ) × (most : ℕ) × Is i time × (latest ≡ Some most) × (time ≤ most)

-- the lane at a place, or an empty one past the end
abbrev pub lane_at : List (List ProgressState) → ℕ → List ProgressState
lane_at lanes i = get_or lanes i []

-- what `Lane::start` requires of the last course, that with all the faults
pub record TellsStart (g : Graph) (courses : List ProgressState) : Type 0 where
  -- there is a course for each number of faults, from none to all
  pub count : length courses ≡ g.faults + 1
  -- the last course says of each node when it is ready
  pub ready : length (last_course g courses).ready ≡ length g.nodes
  -- its times are small enough for their sums not to overflow
  pub small : AreSmall (last_course g courses).known

-- what `Lane::send_time` requires of the last course
pub record TellsSend (g : Graph) (values : List Bool) (p : ℕ) (courses : List ProgressState) : Type 0 where
  -- there is a course for each number of faults, from none to all
  pub count : length courses ≡ g.faults + 1
  -- the last course says of each node from when its slots are free
  pub free : length (last_course g courses).free ≡ length g.nodes
  -- if p is active, its end is small enough for the next slot not to overflow
  pub early : active g values p ≡ true → end_in (last_course g courses).known p < 2 ^ 59

-- each lane has what `Lane::start` requires
pub record TellStarts (g : Graph) (tracks : List (List Bool)) (lanes : List (List ProgressState)) : Type 0 where
  -- there is a lane for each track
  pub count : length lanes ≡ length tracks
  -- the lane of each track has it; the default d is never used
  pub each : (i : ℕ) (d : List ProgressState) → i < length tracks → TellsStart g (get_or lanes i d)

-- each lane has what `Lane::send_time` requires
pub record TellSends (g : Graph) (tracks : List (List Bool)) (p : ℕ) (lanes : List (List ProgressState)) : Type 0 where
  -- there is a lane for each track
  pub count : length lanes ≡ length tracks
  -- the lane of each track has it; the default d is never used
  pub each : (i : ℕ) (d : List ProgressState) → i < length tracks → TellsSend g (track_at tracks i) p (get_or lanes i d)

-- `latest` is the latest start of p over the first `count` tracks, with all the faults, as if p were not frozen; None if p
-- is active in none of them
abbrev pub IsLatestStart : Graph → List (List Bool) → ℕ → List (List ProgressState) → ℕ → Option ℕ → Type 0
IsLatestStart g tracks p lanes count latest = IsLatestOver count (λ i. active g (track_at tracks i) p ≡ true)
    (λ i time. IsUnfrozenStart g (track_at tracks i) p (last_course g (lane_at lanes i)) time) latest

-- the process p and its item x are active
pub record AreSent (g : Graph) (values : List Bool) (p x : ℕ) : Type 0 where
  -- the process is active
  pub acts : active g values p ≡ true
  -- its item is active
  pub sent : item_active g values (item_at g x) ≡ true

-- `latest` is the latest time of the item x of p over the first `count` tracks, with all the faults, as if x were not
-- frozen; None if it is active in none of them
abbrev pub IsLatestSend : Graph → List (List Bool) → ℕ → ℕ → List (List ProgressState) → ℕ → Option ℕ → Type 0
IsLatestSend g tracks p x lanes count latest = IsLatestOver count (λ i. AreSent g (track_at tracks i) p x)
    (λ i time. time ≡ unfrozen_send g p (last_course g (lane_at lanes i))) latest
