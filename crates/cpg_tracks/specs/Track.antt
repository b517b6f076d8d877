-- Tracks as the code keeps them: each with the processes that are active in it.
use Rattle.std.specs.Prelude.{ℕ, ◌≡◌, ◌≤◌, Bool, List, Option, map, filter, length, All}
use Rattle.cpg_base.specs.Numbers.{numbers_below}
use Rattle.cpg_base.specs.Graph.{Graph, process_count, condition_count}
use Rattle.cpg_base.specs.Scenario.{Scenario}
use Rattle.cpg_base.specs.Activity.{active}
use Rattle.cpg_tracks.specs.Tracks.{start_in, most_scheduled_tracks}
use Rattle.cpg_order.specs.Track.{AreTracks}

-- how `Track` of the code is seen
pub record Track : Type 0 where
  -- the value of each condition, by number
  pub outcome : List Bool
  -- the processes that are active in the outcome, in numerical order
  pub active : List ℕ

-- the track fits the graph
pub record IsTrackOf (g : Graph) (t : Track) : Type 0 where
  -- the outcome has a value for each condition
  pub values : length t.outcome ≡ condition_count g
  -- the processes are those that are active in it
  pub active : t.active ≡ filter (active g t.outcome) (numbers_below (process_count g))

-- these are the tracks of a graph, which are few enough to be scheduled
pub record AreAllTracks (g : Graph) (tracks : List Track) : Type 0 where
  -- their outcomes are those of all tracks, each once and in order
  pub outcomes : AreTracks g (map (λ t. t.outcome) tracks)
  -- each has the processes that are active in it
  pub each : All (IsTrackOf g) tracks
  -- there are at most 256
  pub few : length tracks ≤ most_scheduled_tracks

-- no process starts later than this time
abbrev pub AreBy : ℕ → List (Option ℕ) → Type 0
AreBy time starts = (p : ℕ) → start_in starts p ≤ time

-- the outcomes of scenarios
abbrev pub outcomes_of : List Scenario → List (List Bool)
outcomes_of scenarios = map (λ s. s.values) scenarios

-- a scenario has a value for each condition
abbrev pub HasValues : Graph → Scenario → Type 0
HasValues g s = length s.values ≡ condition_count g
