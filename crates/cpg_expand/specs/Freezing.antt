-- How the latest time of a frozen item becomes its time in all scenarios.
use Rattle.std.specs.Prelude.{ℕ, ◌≡◌, Bool, List, Option, Some, None, slice_set, unwrap_or}
use Rattle.cpg_tree.specs.Tree.{TreeState, IsMap}
use Rattle.cpg_tree_times.specs.Values.{time_if}

-- the frozen times `frozen`, with the given time for item x; with `None` they stay
abbrev pub set_if : List (Option ℕ) → ℕ → Option ℕ → List (Option ℕ)
set_if frozen x None = frozen
set_if frozen x (Some time) = slice_set frozen x (Some time)

-- Item x is frozen at `latest`, or has no frozen time if that is `None`, as it never goes. `goes` says where it goes, t
-- has its times, and `frozen_old` and `frozen_new` are the frozen times without x's and with it.
pub record IsFrozenBy (x : ℕ) (latest : Option ℕ) (goes : TreeState Bool) (frozen_old frozen_new : List (Option ℕ))
    (t : TreeState (Option ℕ)) : Type 0 where
  -- its frozen time is set, and no other changes
  pub set : frozen_new ≡ set_if frozen_old x latest
  -- t has the latest time where the item goes, and none elsewhere
  pub made : IsMap (λ b z. z ≡ time_if (unwrap_or latest 0) b) goes t
