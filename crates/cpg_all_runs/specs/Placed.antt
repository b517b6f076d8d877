-- A sorted map that has a place for each list of active numbers met so far: that of the first scenario that has them.
use Rattle.std.specs.Prelude.{ℕ, ◌≡◌, ◌⊎◌, List, Option, Some, None}
use Rattle.std.specs.BTreeMap.{is_at, insert_entry}
use Rattle.std.specs.Cmp.Lexicographic.{slice_cmp}
use Rattle.std.specs.Global.{Vec}
use Rattle.std.specs.Map.{lookup}
use Rattle.std.specs.Ordering.{nat_cmp}

-- the place of a list of numbers; None if the map has none
abbrev pub place_in : List (Vec ℕ × ℕ) → List ℕ → Option ℕ
place_in entries numbers = lookup (is_at (λ k. slice_cmp nat_cmp numbers k.items)) entries

-- the map with this place for a list of numbers
abbrev pub with_place : List (Vec ℕ × ℕ) → Vec ℕ → ℕ → List (Vec ℕ × ℕ)
with_place entries numbers place = insert_entry (λ x y. slice_cmp nat_cmp x.items y.items) entries numbers place

-- `place` is that of a list of numbers in the map `map_old`, which stays as it is (`map_new`); if there is none, it is
-- `at`, and is added
abbrev pub GetsPlace : Vec ℕ → ℕ → List (Vec ℕ × ℕ) → List (Vec ℕ × ℕ) → ℕ → Type 0
GetsPlace numbers at map_old map_new place =
    ((place_in map_old numbers.items ≡ Some place) × (map_new ≡ map_old))
    ⊎ ((place_in map_old numbers.items ≡ None) × (place ≡ at) × (map_new ≡ with_place map_old numbers at))
