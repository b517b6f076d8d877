-- The last row that is accepted.
use Rattle.std.proofs.Common.{ℕ, zero, suc, ◌+◌, ◌<◌, ◌≡◌, ◌⊎◌, Bool, true, false, cond, List, [], ◌∷◌, Option, Some}
use Rattle.std.proofs.Common.{None, length, refl, sym, ap, ◌∙◌, subst, inl, inr, arith}
use Rattle.cpg_tune.specs.declared.judge.Judged.{Judged}
use Rattle.cpg_tune.specs.Tuned.{is_accepted, row_at, tolerated_from, tolerated, IsGreatestAccepted}

-- counted from a place, if what came before is settled
abbrev IsLastFrom : ℕ → Option ℕ → List Judged → Option ℕ → Type 0
IsLastFrom from found rows last =
    ((last ≡ found) × ((k : ℕ) → k < length rows → is_accepted (row_at rows k) ≡ false))
    ⊎ ((k : ℕ) × (k < length rows) × (last ≡ Some (from + k)) × (is_accepted (row_at rows k) ≡ true) ×
    ((m : ℕ) → k < m → m < length rows → is_accepted (row_at rows m) ≡ false))

-- Counting the rows finds the last one that is accepted.
-- By induction on the rows: a later accepted row takes the place of what was found.
last_from : (from : ℕ) (found : Option ℕ) (rows : List Judged) →
    IsLastFrom from found rows (tolerated_from from found rows)
last_from from found [] = inl (refl, λ k inside. absurd (omega (arith, inside)))
last_from from found (row ∷ rows) =
    go (is_accepted row) refl (last_from (from + 1) (cond (is_accepted row) (Some from) found) rows)
  where
    -- if no later row is accepted, none behind the first is
    none_later : ((k : ℕ) → k < length rows → is_accepted (row_at rows k) ≡ false) → (m : ℕ) → 0 < m →
        m < suc (length rows) →
        is_accepted (row_at (row ∷ rows) m) ≡ false
    none_later none zero later inside = absurd (omega (arith, later))
    none_later none (suc m) later inside = none m (omega (arith, inside))

    -- if no row behind a place is accepted, none is with one more row in front
    none_after : (k : ℕ) → ((m : ℕ) → k < m → m < length rows → is_accepted (row_at rows m) ≡ false) → (m : ℕ) →
        suc k < m → m < suc (length rows) →
        is_accepted (row_at (row ∷ rows) m) ≡ false
    none_after k none zero k_before_m inside = absurd (omega (arith, k_before_m))
    none_after k none (suc m) k_before_m inside = none m (omega (arith, k_before_m)) (omega (arith, inside))

    -- if no row is accepted, none is with one more row in front that isn't accepted either
    none_here : is_accepted row ≡ false → ((k : ℕ) → k < length rows → is_accepted (row_at rows k) ≡ false) → (m : ℕ) →
        m < suc (length rows) →
        is_accepted (row_at (row ∷ rows) m) ≡ false
    none_here rejected none zero inside = rejected
    none_here rejected none (suc m) inside = none m (omega (arith, inside))

    -- the last accepted row is one of the rest or, if there is none, this row if it is accepted
    go : (b : Bool) → is_accepted row ≡ b →
        IsLastFrom (from + 1) (cond b (Some from) found) rows
        (tolerated_from (from + 1) (cond b (Some from) found) rows)
        → IsLastFrom from found (row ∷ rows) (tolerated_from (from + 1) (cond b (Some from) found) rows)
    go true accepted (inl (is, none)) = inr (0, omega arith, is ∙ ap Some (omega arith), accepted, none_later none)
    go false rejected (inl (is, none)) = inl (is, none_here rejected none)
    go true row_accepted (inr (k, within, is, accepted, none)) =
        inr (suc k, omega (arith, within), is ∙ ap Some (omega arith), accepted, none_after k none)
    go false rejected (inr (k, within, is, accepted, none)) =
        inr (suc k, omega (arith, within), is ∙ ap Some (omega arith), accepted, none_after k none)

-- the faults that are tolerated are the greatest number whose row is accepted
pub tolerated_greatest : (rows : List Judged) → IsGreatestAccepted rows (tolerated rows)
tolerated_greatest rows = go (tolerated rows) (last_from 0 None rows)
  where
    -- by what the search from the first row finds
    go : (last : Option ℕ) → IsLastFrom 0 None rows last → IsGreatestAccepted rows last
    go last (inl (is, none)) = subst (IsGreatestAccepted rows) (sym is) none
    go last (inr (k, within, is, accepted, none)) =
        subst (IsGreatestAccepted rows) (sym (is ∙ ap Some (omega arith))) (within, accepted, none)
