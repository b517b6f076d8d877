-- The finish of a run is the greatest of its ends, place by place.
use Rattle.std.proofs.Common.{◌≡◌, ℕ, zero, suc, ◌<◌, ◌≤◌, ◌⊎◌, max, List, [], ◌∷◌, ◌++◌, flat_map, length, get_or}
use Rattle.std.proofs.Common.{Option, Some, None, option_to_list, unwrap_or, arith, refl, ap, inl, inr}
use Rattle.std.proofs.lemmas.Bool.{cases_lt}
use Rattle.std.proofs.lemmas.List.{get_or_past}
use Rattle.cpg_base.specs.Numbers.{greatest}
use Rattle.cpg_base.proofs.Lists.{greatest-cons}

-- the end at a place, or 0 if there is none
abbrev at : List (Option ℕ) → ℕ → ℕ
at os p = unwrap_or (get_or os p None) 0

-- the greatest of an end that may be missing, taken as 0 then, and of others
first_of : (o : Option ℕ) (ys : List ℕ) → greatest (option_to_list o ++ ys) ≡ max (unwrap_or o 0) (greatest ys)
first_of None ys = omega arith
first_of (Some n) ys = greatest-cons n ys

-- behind the list there is no end
past : (os : List (Option ℕ)) (p : ℕ) → length os ≤ p → at os p ≡ 0
past os p at_most = ap (λ o. unwrap_or o 0) (get_or_past os p None at_most)

-- no end is later than the greatest of all ends: by induction on the list
pub at_most_finish : (os : List (Option ℕ)) (p : ℕ) →
    unwrap_or (get_or os p None) 0 ≤ greatest (flat_map option_to_list os)
at_most_finish [] p = omega (arith, past [] p (omega arith))
at_most_finish (o ∷ os) zero = omega (arith, first_of o (flat_map option_to_list os))
at_most_finish (o ∷ os) (suc p) = omega (arith, first_of o (flat_map option_to_list os), at_most_finish os p)

-- the greatest end is 0 or the end of some process: by induction, the first end is it or the greatest of the rest is
pub finish_at : (os : List (Option ℕ)) →
    (greatest (flat_map option_to_list os) ≡ 0) ⊎
    ((p : ℕ) × (p < length os) × (unwrap_or (get_or os p None) 0 ≡ greatest (flat_map option_to_list os)))
finish_at [] = inl refl
finish_at (o ∷ os) = elim (cases_lt (greatest (flat_map option_to_list os)) (unwrap_or o 0)) [
  | inl l ↦ inr (0, omega arith, omega (arith, l, first_of o (flat_map option_to_list os)))
  | inr l ↦ elim (finish_at os) [
    | inl e ↦ inl (omega (arith, l, e, first_of o (flat_map option_to_list os)))
    | inr r ↦ inr (suc r.0, omega (arith, r.1), omega (arith, l, r.2, first_of o (flat_map option_to_list os)))
  ]
]
