-- How a cut parts places between its sides; and tests of columns by the places that a sieve finds.
use Rattle.std.proofs.Common.{ℕ, ◌+◌, ◌<◌, ◌≤◌, ◌≡◌, Bool, true, false, not, ◌&&◌, cond, List, [], ◌∷◌, ◌++◌, length}
use Rattle.std.proofs.Common.{get_or, take, Contains, arith, refl, sym, ap, ◌∙◌, subst, ⊎_elim, true≢false}
use Rattle.std.proofs.Common.{lt-ltb, ltb-true}
use Rattle.std.specs.Prelude.{nat_le, nat_lt, slice_get, Some}
use Rattle.std.specs.List.{list_any}
use Rattle.std.proofs.lemmas.Bool.{and_from, and_parts}
use Rattle.std.proofs.lemmas.Option.{slice_get_within, get_or_from_slice_get}
use Rattle.std.proofs.lemmas.List.{take_more, take_all, get_or_default, get_or-take, length-take}
use Rattle.std.proofs.lemmas.List.Elements.{Contains-push_cases, Contains-append_left, Contains-push, Contains-get_or}
use Rattle.cpg_base.proofs.Lists.{list_any_parts, list_any_true, same_truth}
use Rattle.cpg_base.specs.Scenario.{Scenario, number_of}
use Rattle.cpg_cube.specs.Cube.{matches}
use Rattle.cpg_cube.specs.declared.column.Column.{Column}
use Rattle.cpg_cube.specs.Column.{column_at}
use Rattle.cpg_violation.specs.Parted.{Parted, Cut}
use Rattle.cpg_violation.specs.Sieves.{places_in, Sifts, is_at}

-- nothing, `x`, is both a value and its negation
pub not_itself : (b x : Bool) → x ≡ b → x ≡ not b → ⊥
not_itself true true same opposite = true≢false opposite
not_itself true false same opposite = true≢false (sym same)
not_itself false true same opposite = true≢false same
not_itself false false same opposite = true≢false (sym opposite)

-- a place `i` on the side that a scenario goes to, as `b` says, was found, if it was found on either side that the
-- scenario may go to
pub side_of : (b : Bool) (below above found : List ℕ) (i : ℕ) → (b ≡ true → Contains below i → Contains found i) →
    (b ≡ false → Contains above i → Contains found i) →
    Contains (cond b below above) i → Contains found i
side_of true below above found i if_below if_above member = if_below refl member
side_of false below above found i if_below if_above member = if_above refl member

-- a place `i` is on the side that a scenario goes to, as `b` says, if it is on either side that the scenario may go to
pub side_found : (b : Bool) (below above : List ℕ) (i : ℕ) → (b ≡ true → Contains below i) →
    (b ≡ false → Contains above i) →
    Contains (cond b below above) i
side_found true below above i if_below if_above = if_below refl
side_found false below above i if_below if_above = if_above refl

-- given: one side of a cut by whether variable `v` is at most `most`, and the places that the loop of `places_on_side`
-- keeps
module _ (columns : List Column) (v most : ℕ) (below : Bool) (places kept : List ℕ) (k : ℕ) where
  -- `kept` has each of the first `n` places whose column matches a scenario on this side
  abbrev pub KeepsFirst : ℕ → List ℕ → Type 0
  KeepsFirst n kept = (s : Scenario) (i : ℕ) → Contains (take n places) i → i < length columns →
      matches (column_at columns i).cube s ≡ true → nat_le (number_of s v) most ≡ below → Contains kept i

  -- after the last place, `kept` has all places whose column matches a scenario on this side
  pub keeps_all : length places ≤ k → KeepsFirst k kept
      → (s : Scenario) (i : ℕ) → Contains places i → i < length columns → matches (column_at columns i).cube s ≡ true →
      nat_le (number_of s v) most ≡ below → Contains kept i
  keeps_all past keeps s i member inside matched on_side =
      keeps s i (subst (λ xs. Contains xs i) (sym (take_all k places past)) member) inside matched on_side

-- given: the next step of that loop, at place `k` of `places` (`d` is only the default of `get_or`)
module _ (columns : List Column) (v most : ℕ) (below : Bool) (places kept : List ℕ) (k d : ℕ)
    (within : k < length places) where
  -- if the next place is added, `kept` has all places up to it whose column matches a scenario on this side
  pub keeps_push : KeepsFirst columns v most below places kept k k kept →
      KeepsFirst columns v most below places kept k (k + 1) (kept ++ get_or places k d ∷ [])
  -- a place that is asked for is one of those before, or this one
  keeps_push keeps s i member inside matched on_side = ⊎_elim
      (λ (before : Contains (take k places) i). Contains-append_left kept (get_or places k d ∷ []) i
      (keeps s i before inside matched on_side))
      (λ (is_next : get_or places k d ≡ i).
      subst (λ j. Contains (kept ++ get_or places k d ∷ []) j) is_next (Contains-push kept (get_or places k d)))
      (Contains-push_cases (take k places) (get_or places k d) i
      (subst (λ xs. Contains xs i) (take_more places k d within) member))

  -- if the column at the next place matches no scenario on this side, `kept` needs no more than the places it has
  pub keeps_skip : ((s : Scenario) → get_or places k d < length columns →
      matches (column_at columns (get_or places k d)).cube s ≡ true → nat_le (number_of s v) most ≡ not below)
      → KeepsFirst columns v most below places kept k k kept →
      KeepsFirst columns v most below places kept k (k + 1) kept
  -- a place that is asked for is one of those before: this one isn't, as each scenario of its column is on the other
  -- side
  keeps_skip off keeps s i member inside matched on_side = ⊎_elim
      (λ (before : Contains (take k places) i). keeps s i before inside matched on_side)
      (λ (is_next : get_or places k d ≡ i). absurd (not_itself below (nat_le (number_of s v) most) on_side
      (off s (subst (λ j. j < length columns) (sym is_next) inside)
      (subst (λ j. matches (column_at columns j).cube s ≡ true) (sym is_next) matched))))
      (Contains-push_cases (take k places) (get_or places k d) i
      (subst (λ xs. Contains xs i) (take_more places k d within) member))

-- if the sides of a cut of variable `v` at `most`, with places `low` and `high`, lose no place that a scenario on them
-- needs, and the sieves `below` and `above` find these, the cut's sieve finds all places
pub sifts_cut : (columns : List Column) (v most : ℕ) (places low high : List ℕ) (below above : Parted)
    → ((s : Scenario) (i : ℕ) → Contains places i → i < length columns → matches (column_at columns i).cube s ≡ true →
    nat_le (number_of s v) most ≡ true → Contains low i)
    → ((s : Scenario) (i : ℕ) → Contains places i → i < length columns → matches (column_at columns i).cube s ≡ true →
    nat_le (number_of s v) most ≡ false → Contains high i)
    → Sifts columns low below → Sifts columns high above → Sifts columns places (Cut v most below above)
sifts_cut columns v most places low high below above low_has high_has below_sifts above_sifts = record {
  found = λ s i member inside matched. side_found (nat_le (number_of s v) most) (places_in below s)
      (places_in above s) i
      (λ on_side. below_sifts.found s i (low_has s i member inside matched on_side) inside matched)
      (λ on_side. above_sifts.found s i (high_has s i member inside matched on_side) inside matched);
}

-- whether some column passes a test may be asked of places, if the place of each column that passes is among them
pub any_at : (test : Column → Bool) (columns : List Column) (places : List ℕ) →
    ((i : ℕ) → i < length columns → test (column_at columns i) ≡ true → Contains places i)
    → list_any test columns ≡ list_any (λ i. nat_lt i (length columns) && test (column_at columns i)) places
any_at test columns places among =
    same_truth (list_any test columns) (list_any (λ i. nat_lt i (length columns) && test (column_at columns i)) places)
    -- a column that passes has a place, which is among them
    (λ passing. let found = list_any_parts test columns passing in
    let index : ℕ = found.1.0 in
    let at : column_at columns index ≡ found.0 = get_or_default columns index _ found.0 found.1.1 ∙ found.1.2 in
    let passes : test (column_at columns index) ≡ true = ap test at ∙ found.2 in
    list_any_true (λ index. nat_lt index (length columns) && test (column_at columns index)) places index
    (among index found.1.1 passes)
    (and_from (nat_lt index (length columns)) (test (column_at columns index))
    (lt-ltb index (length columns) found.1.1) passes))
    -- a place at which the test passes has a column
    (λ passing. let found = list_any_parts
    (λ i. nat_lt i (length columns) && test (column_at columns i)) places passing in
    let parts = and_parts (nat_lt found.0 (length columns)) (test (column_at columns found.0)) found.2 in
    list_any_true test columns (column_at columns found.0)
    (Contains-get_or columns found.0 _ (ltb-true _ _ parts.0)) parts.1)

-- whether a column before place `j` matches in a scenario may be asked of places, if those of all columns that match
-- there are among them
pub before_at : (columns : List Column) (j : ℕ) (places : List ℕ) (s : Scenario) → j ≤ length columns →
    ((i : ℕ) → i < length columns → matches (column_at columns i).cube s ≡ true → Contains places i)
    → list_any (is_at (take j columns) s) places ≡ list_any (λ d. matches d.cube s) (take j columns)
before_at columns j places s j_within among = sym (any_at (λ d. matches d.cube s) (take j columns) places
    (λ i inside matched. let below : i < j = omega (arith, inside, length-take j columns) in
    let at : column_at (take j columns) i ≡ column_at columns i = get_or-take j columns i _ below in
    among i (omega arith) (sym (ap (λ (d : Column). matches d.cube s) at) ∙ matched)))

-- the column that is looked up at a place matches exactly if `is_at` says so of the place
pub at_found : (columns : List Column) (i : ℕ) (d : Column) → slice_get columns i ≡ Some d → (s : Scenario) →
    matches d.cube s ≡ is_at columns s i
at_found columns i d found_at s =
    let within : i < length columns = slice_get_within columns i d found_at in
    let at : column_at columns i ≡ d = get_or_from_slice_get columns i d _ found_at in
    ap (λ (c : Column). matches c.cube s) (sym at)
    ∙ ap (λ b. b && matches (column_at columns i).cube s) (sym (lt-ltb i (length columns) within))
