-- The loop of `meeting`: it finds the columns at the places that a sieve gives.
use Rattle.std.proofs.Common.{ℕ, ◌+◌, ◌<◌, ◌≤◌, ◌≡◌, Bool, true, List, [], ◌∷◌, ◌++◌, length, get_or, take, All}
use Rattle.std.proofs.Common.{Contains, arith, sym, ap, ◌∙◌, subst, inl, inr}
use Rattle.std.specs.List.{list_any}
use Rattle.std.proofs.lemmas.Bool.{cases_lt}
use Rattle.std.proofs.lemmas.List.{take_more, get_or_default}
use Rattle.std.proofs.lemmas.List.Elements.{All-contains, All-push, Contains-append_cases, Contains-append_left}
use Rattle.std.proofs.lemmas.List.Elements.{Contains-append_right, Contains-get_or}
use Rattle.cpg_base.proofs.Lists.{same_truth, list_any_true, list_any_parts, Contains-first, Contains-cases}
use Rattle.cpg_base.proofs.Lists.{Contains-nil}
use Rattle.cpg_base.specs.Scenario.{Scenario}
use Rattle.cpg_cube.specs.Cube.{matches}
use Rattle.cpg_cube.specs.declared.literal.Literal.{Literal}
use Rattle.cpg_cube.specs.declared.column.Column.{Column}
use Rattle.cpg_cube.specs.Column.{column_at}

-- `found` has the column at each of these places at which there is one
abbrev pub AreFound : List Column → List Column → List ℕ → Type 0
AreFound columns found places = (i : ℕ) → Contains places i → i < length columns → Contains found (column_at columns i)

-- given: `found`, the columns before the step for place `k` of `places`, and `more`, those after it: the column at that
-- place is added, if there is one
module _ (columns : List Column) (places : List ℕ) (k d : ℕ) (inside : k < length places) (found more : List Column)
    (there : get_or places k d < length columns → more ≡ found ++ column_at columns (get_or places k d) ∷ [])
    (none : length columns ≤ get_or places k d → more ≡ found) where
  -- if `found` has the columns at the first `k` places, `more` has those at one place more
  pub found_more : AreFound columns found (take k places) → AreFound columns more (take (k + 1) places)
  found_more before i member i_inside = elim (Contains-append_cases (take k places) (get_or places k d ∷ []) i
      (subst (λ xs. Contains xs i) (take_more places k d inside) member)) [
        -- a place from before
        | inl earlier ↦ elim (cases_lt (get_or places k d) (length columns)) [
          | inl lt ↦ subst (λ xs. Contains xs (column_at columns i)) (sym (there lt)) (Contains-append_left found
              (column_at columns (get_or places k d) ∷ []) (column_at columns i) (before i earlier i_inside))
          | inr ge ↦ subst (λ xs. Contains xs (column_at columns i)) (sym (none ge)) (before i earlier i_inside)
        ]
        -- the new place
        | inr at_next ↦ elim (Contains-cases (get_or places k d) [] i at_next) [
          | inl same ↦
              let lt : get_or places k d < length columns = omega arith in
              subst (λ xs. Contains xs (column_at columns i)) (sym (there lt))
              (Contains-append_right found (column_at columns (get_or places k d) ∷ []) (column_at columns i)
              (subst (λ p. Contains (column_at columns (get_or places k d) ∷ []) (column_at columns p)) same
              (Contains-first (column_at columns (get_or places k d)) [])))
          | inr nil ↦ absurd (Contains-nil i nil)
        ]
      ]

  -- if each of `found` is one of the row's columns, so is each of `more`
  pub among_more : All (λ c. Contains columns c) found → All (λ c. Contains columns c) more
  among_more before = elim (cases_lt (get_or places k d) (length columns)) [
    | inl lt ↦ subst (All (λ c. Contains columns c)) (sym (there lt))
        (All-push (λ c. Contains columns c) found (column_at columns (get_or places k d)) before
        (Contains-get_or columns (get_or places k d) (record { time = 0; cube = [] }) lt))
    | inr ge ↦ subst (All (λ c. Contains columns c)) (sym (none ge)) before
  ]

-- a test that passes only at columns that match together with the cube passes at one of the columns `found` exactly if
-- it does at one of all columns: each that matches with the cube is at one of the places
pub same_found : (columns found : List Column) (places : List ℕ) (cube : List Literal) →
    All (λ c. Contains columns c) found →
    AreFound columns found places
    → ((s : Scenario) (i : ℕ) → i < length columns → matches (column_at columns i).cube s ≡ true →
    matches cube s ≡ true → Contains places i) → (s : Scenario) (test : Column → Bool) →
    ((c : Column) → test c ≡ true → (matches cube s ≡ true) × (matches c.cube s ≡ true)) →
    list_any test found ≡ list_any test columns
same_found columns found places cube among all candidates s test both = same_truth _ _
    (λ passes. let passing = list_any_parts test found passes in
    -- a column that was found is one of the columns
    list_any_true test columns passing.0
    (All-contains (λ c. Contains columns c) found passing.0 among passing.1) passing.2)
    (λ passes.
    -- a column that passes matches together with the cube, so its place is a candidate and it was found
    let passing = list_any_parts test columns passes in
    let column : Column = passing.0 in
    let index : ℕ = passing.1.0 in
    let at : column_at columns index ≡ column =
    get_or_default columns index (record { time = 0; cube = [] }) column passing.1.1 ∙ passing.1.2 in
    let matched = both column passing.2 in
    let place = candidates s index passing.1.1 (ap (λ (d : Column). matches d.cube s) at ∙ matched.1) matched.0 in
    list_any_true test found column (subst (Contains found) at (all index place passing.1.1)) passing.2)
