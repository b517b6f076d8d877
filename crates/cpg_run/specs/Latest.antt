-- The greatest time of an item over all scenarios.
use Rattle.std.specs.Prelude.{ℕ, ◌≡◌, ◌≤◌, max, List, Option, Some, None}
use Rattle.cpg_base.specs.Graph.{Graph}
use Rattle.cpg_run.specs.Frozen.{WouldHave}

-- the later of two times, the one that there is if there is only one, and None if there is none
abbrev pub later : Option ℕ → Option ℕ → Option ℕ
later None other = other
later (Some time) None = Some time
later (Some time) (Some other) = Some (max time other)

-- `latest` is the greatest time that the item x would have in any scenario if it were not frozen, and None exactly if it
-- is active in none
pub record IsUnfrozenTime (g : Graph) (order : List ℕ) (frozen : List (Option ℕ)) (x : ℕ)
    (latest : Option ℕ) : Type 0 where
  -- in some scenario it would have this time
  pub reached : (time : ℕ) → latest ≡ Some time → WouldHave g order frozen x time
  -- in no scenario would it have a later one
  pub greatest : (time other : ℕ) → latest ≡ Some time → WouldHave g order frozen x other → other ≤ time
  -- None means that it is active in no scenario
  pub none : latest ≡ None → (time : ℕ) → WouldHave g order frozen x time → ⊥
