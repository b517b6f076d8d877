-- The loop of `meeting`: it keeps the place of each column that some scenario matches together with a cube.
use Rattle.std.proofs.Common.{ℕ, ◌+◌, ◌<◌, ◌≤◌, ◌≡◌, true, false, ◌&&◌, List, [], ◌∷◌, ◌++◌, length, get_or, take}
use Rattle.std.proofs.Common.{Contains, sym, subst, ⊎_elim}
use Rattle.std.proofs.lemmas.Bool.{and_from, both_ways}
use Rattle.std.proofs.lemmas.List.{take_more, take_all}
use Rattle.std.proofs.lemmas.List.Elements.{Contains-push_cases, Contains-append_left, Contains-push}
use Rattle.cpg_base.specs.Scenario.{Scenario}
use Rattle.cpg_cube.specs.Cube.{matches}
use Rattle.cpg_cube.specs.declared.literal.Literal.{Literal}
use Rattle.cpg_cube.specs.declared.column.Column.{Column}
use Rattle.cpg_cube.specs.Column.{column_at}

-- given: the columns of a row, the cube, and the places that the loop goes over
module _ (columns : List Column) (cube : List Literal) (places : List ℕ) where
  -- `kept` has each of the first `n` places whose column matches together with the cube in some scenario
  abbrev pub MeetsFirst : ℕ → List ℕ → Type 0
  MeetsFirst n kept = (s : Scenario) (i : ℕ) → Contains (take n places) i → i < length columns →
      matches (column_at columns i).cube s ≡ true → matches cube s ≡ true → Contains kept i

  -- after the last place, `kept` has all places whose column matches together with the cube in some scenario
  pub meets_all : (kept : List ℕ) (k : ℕ) → length places ≤ k → MeetsFirst k kept
      → (s : Scenario) (i : ℕ) → Contains places i → i < length columns → matches (column_at columns i).cube s ≡ true →
      matches cube s ≡ true → Contains kept i
  meets_all kept k past keeps s i member inside matched cube_matched =
      keeps s i (subst (λ xs. Contains xs i) (sym (take_all k places past)) member) inside matched cube_matched

  -- given: the place `k` that comes next (`d` is only the default of `get_or`)
  module _ (kept : List ℕ) (k d : ℕ) (within : k < length places) where
    -- if the next place is added, `kept` has all places up to it whose column matches together with the cube
    pub meets_push : MeetsFirst k kept → MeetsFirst (k + 1) (kept ++ get_or places k d ∷ [])
    -- a place that is asked for is one of those before, or this one
    meets_push keeps s i member inside matched cube_matched = ⊎_elim
        (λ (before : Contains (take k places) i). Contains-append_left kept (get_or places k d ∷ []) i
        (keeps s i before inside matched cube_matched))
        (λ (is_next : get_or places k d ≡ i).
        subst (λ j. Contains (kept ++ get_or places k d ∷ []) j) is_next (Contains-push kept (get_or places k d)))
        (Contains-push_cases (take k places) (get_or places k d) i
        (subst (λ xs. Contains xs i) (take_more places k d within) member))

    -- if the column at the next place matches together with the cube in no scenario, `kept` needs no more than the
    -- places it has
    pub meets_skip : ((s : Scenario) → get_or places k d < length columns →
        (matches cube s && matches (column_at columns (get_or places k d)).cube s) ≡ false) →
        MeetsFirst k kept →
        MeetsFirst (k + 1) kept
    -- a place that is asked for is one of those before: this one isn't, as its column doesn't match where the cube does
    meets_skip off keeps s i member inside matched cube_matched = ⊎_elim
        (λ (before : Contains (take k places) i). keeps s i before inside matched cube_matched)
        (λ (is_next : get_or places k d ≡ i).
        absurd (both_ways (matches cube s && matches (column_at columns (get_or places k d)).cube s)
        (off s (subst (λ j. j < length columns) (sym is_next) inside))
        (and_from (matches cube s) (matches (column_at columns (get_or places k d)).cube s) cube_matched
        (subst (λ j. matches (column_at columns j).cube s ≡ true) (sym is_next) matched))))
        (Contains-push_cases (take k places) (get_or places k d) i
        (subst (λ xs. Contains xs i) (take_more places k d within) member))
