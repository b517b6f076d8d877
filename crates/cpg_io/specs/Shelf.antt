-- How calls change what a shelf reports.
use Rattle.std.specs.Prelude.{ℕ, ◌≡◌, ◌≤◌, ◌↔◌, ◌⊎◌, Bool, true, false, List, [], ◌∷◌, Option, Some, None, Result}
use Rattle.std.specs.Prelude.{MatchResult, take, ⊤}
use Rattle.cpg_history.specs.Fetch.{Fetch, gave, failed}
use Rattle.cpg_io.specs.Agreement.{AreFetched}
use Rattle.cpg_io.specs.Causes.{Rose}
use Rattle.cpg_io.specs.State.{ShelfState}

-- after a fetch all bytes that stand under the name are left to read, if the shelf reports them
abbrev pub StartsAt : Option (List ℕ) → Option (List ℕ) → Type 0
StartsAt None left = ⊤
StartsAt (Some bytes) left = left ≡ Some bytes

-- the shelf reports the same bytes for each name as before
abbrev pub SameNames : ShelfState → ShelfState → Type 0
SameNames old new = (name : List ℕ) → new.stands name ≡ old.stands name

-- the same names may be fetched as before
abbrev pub SameAccess : (List ℕ → Type 0) → (List ℕ → Type 0) → Type 0
SameAccess old new = (name : List ℕ) → old name ↔ new name

-- the history after a fetch, which failed or not, before any bytes were given
abbrev pub opened : List ℕ → Bool → List Fetch → List Fetch
opened name fails past = record { name = name; given = []; ended = false; failed = fails } ∷ past

-- the history after a read: it gave the first n bytes of the buffer, or it failed
abbrev pub HasGiven : {E : Type 0} → List Fetch → List Fetch → Result ℕ E → List ℕ → Type 0
HasGiven old new result buf = MatchResult result (λ n. new ≡ gave (take n buf) old) (λ _. new ≡ failed old)

-- what a run does to a shelf
pub record KeepsShelf (old new : ShelfState) : Type 0 where
  -- what stands under names is unchanged
  pub names : SameNames old new
  -- each fetch gave a prefix of what stands under its name, if the shelf reports that
  pub fetched : AreFetched old new
  -- the count of faults didn't fall
  pub later : old.faults ≤ new.faults
  -- if the newest fetch failed, and the history isn't the old one, the count rose or has come to its greatest number
  pub rose : (fetch : Fetch) (past : List Fetch) → new.history ≡ fetch ∷ past → fetch.failed ≡ true →
      (new.history ≡ old.history) ⊎ Rose old.faults new.faults
