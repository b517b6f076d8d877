-- Tracks. Each is represented by the outcome in which conditions of inactive processes are false.
use Rattle.std.specs.Prelude.{ℕ, Bool, false, not, ◌||◌, ◌&&◌, List, filter, get_or, length, IsTrue, IsPermutation}
use Rattle.std.specs.Prelude.{AllPairs}
use Rattle.std.specs.List.{list_all, list_any}
use Rattle.cpg_base.specs.Numbers.{numbers_below}
use Rattle.cpg_base.specs.Graph.{Graph, condition_count, process_of}
use Rattle.cpg_base.specs.declared.limits.TheConstants.{MOST_TRACKS}
use Rattle.cpg_base.specs.Activity.{active}
use Rattle.cpg_order.specs.Deciding.{outcomes, agree_on, earlier_conditions}

-- whether an outcome represents a track: every condition of an inactive process is false
abbrev pub is_track : Graph → List Bool → Bool
is_track g o = list_all (λ c. not (get_or o c false) || active g o (process_of g c)) (numbers_below (condition_count g))

-- how many tracks a graph has
abbrev pub track_count : Graph → ℕ
track_count g = length (filter (is_track g) (outcomes (condition_count g)))

-- the most tracks that an admitted graph may have
abbrev pub most_tracks : ℕ
most_tracks = MOST_TRACKS

-- whether outcome o comes before outcome p: at the first condition in urgency order at which they differ, o is false
abbrev pub is_outcome_before : Graph → List Bool → List Bool → Bool
is_outcome_before g o p = list_any
    (λ c. not (get_or o c false) && get_or p c false && agree_on (earlier_conditions g c) o p)
    (numbers_below (condition_count g))

-- these are the tracks of the graph, in the order of outcomes
pub record AreTracks (g : Graph) (tracks : List (List Bool)) : Type 0 where
  -- each track is in it once
  pub all : IsPermutation (filter (is_track g) (outcomes (condition_count g))) tracks
  -- each comes after all that are before it in the order of outcomes
  pub in_order : AllPairs (λ o p. IsTrue (is_outcome_before g o p)) tracks
