-- How what a shelf gave agrees with what stands under the names, if the shelf reports that.
use Rattle.std.specs.Prelude.{ℕ, ◌≡◌, true, List, [], ◌∷◌, ◌++◌, Option, Some, IfSome, All, ⊤}
use Rattle.std.specs.Io.KnownBytes.{Consumes, IsAtEnd}
use Rattle.cpg_history.specs.Fetch.{Fetch}
use Rattle.cpg_io.specs.State.{ShelfState}

-- the fetch gave a prefix of the bytes `whole`, and all of them if a read came to the end
pub record IsFrontOf (whole : List ℕ) (f : Fetch) : Type 0 where
  -- what it hasn't given
  pub rest : List ℕ
  -- what it gave comes first
  pub front : whole ≡ f.given ++ rest
  -- at the end nothing is left to give
  pub all : f.ended ≡ true → rest ≡ []

-- if the shelf reports what stands under the name of the fetch, the fetch gave a prefix of that
abbrev pub Agrees : (List ℕ → Option (List ℕ)) → Fetch → Type 0
Agrees stands f = IfSome (stands f.name) (λ whole. IsFrontOf whole f)

-- between two states of a shelf it has only gone on: each new fetch agrees with what stands under its name
pub record AreFetched (old new : ShelfState) : Type 0 where
  -- the fetches between the states, newest first
  pub fetches : List Fetch
  -- these fetches are added to the history
  pub history : new.history ≡ fetches ++ old.history
  -- each of them gave a prefix of what stands under its name, if the shelf reports that
  pub agree : All (Agrees old.stands) fetches

-- what is left is the rest of the bytes `whole` after what the fetch gave, and nothing if a read came to the end
pub record IsLeft (whole : List ℕ) (left : Option (List ℕ)) (f : Fetch) : Type 0 where
  -- what was given is the front of the bytes, and what is left is the rest
  pub came : Consumes (Some whole) left f.given
  -- at the end nothing is left
  pub end : f.ended ≡ true → IsAtEnd left

-- if the shelf reports what stands under the name of the newest fetch, what is left is the rest of that; before the first
-- fetch nothing is said
abbrev pub IsRestLeft : ShelfState → List Fetch → Type 0
IsRestLeft s [] = ⊤
IsRestLeft s (f ∷ past) = IfSome (s.stands f.name) (λ whole. IsLeft whole s.left f)

-- if the shelf reports what stands under the name of its newest fetch, what is left is the rest of that
abbrev pub LeavesRest : ShelfState → Type 0
LeavesRest s = IsRestLeft s s.history
