-- Numbers filed by a key: one list for each key, and one more number at the end of one of them.
use Rattle.std.proofs.Common.{ℕ, ◌+◌, ◌<◌, ◌≡◌, ◌==◌, List, [], ◌∷◌, ◌++◌, length, get_or, set, map, filter, arith}
use Rattle.std.proofs.Common.{refl, sym, ap, ap₂, ◌∙◌, subst, inl, inr, get_or-set_other, get_or-set_same}
use Rattle.std.proofs.Common.{length-set, eq-eqb}
use Rattle.std.proofs.lemmas.List.{ext_get_or}
use Rattle.std.proofs.lemmas.List.FromFn.{length-map-range_with_len}
use Rattle.std.proofs.lemmas.Bool.{cases_eq, ne_eqb}
use Rattle.cpg_base.specs.Numbers.{numbers_below}
use Rattle.cpg_base.proofs.Lists.{get_or-map-below, filter_below_takes, filter_below_skips}

module _ (key : ℕ → ℕ) where
  -- the numbers below n that have a key
  abbrev pub with_key : ℕ → ℕ → List ℕ
  with_key n k = filter (λ x. key x == k) (numbers_below n)

  -- When the number n is added to the list of its key, each list has the numbers up to n with its key.
  -- List i is that of n's key, which gets n, or another one, which n doesn't belong to.
  filed_at : (n k i : ℕ) (lists : List (List ℕ)) → key n < k → i < k → lists ≡ map (with_key n) (numbers_below k) →
      get_or (set lists (key n) (with_key n (key n) ++ n ∷ [])) i [] ≡ with_key (n + 1) i
  filed_at n k i lists key_below i_below is =
      let long : length lists ≡ k = ap length is ∙ length-map-range_with_len (with_key n) 0 k in
      elim (cases_eq i (key n)) [
        | inl is_key ↦
            subst (λ j. get_or (set lists (key n) (with_key n (key n) ++ n ∷ [])) j [] ≡ with_key (n + 1) j)
            (sym is_key)
            (get_or-set_same lists (key n) (with_key n (key n) ++ n ∷ []) [] (omega arith)
            ∙ filter_below_takes (λ x. key x == key n) (with_key n (key n)) (with_key n (key n) ++ n ∷ []) n refl
            (eq-eqb (key n) (key n) refl) refl)
        | inr other ↦ get_or-set_other lists (key n) i (with_key n (key n) ++ n ∷ []) [] other
            ∙ ap (λ xs. get_or xs i []) is ∙ get_or-map-below (with_key n) k i [] i_below
            ∙ filter_below_skips (λ x. key x == i) (with_key n i) n refl (ne_eqb (key n) i (λ same. other (sym same)))
      ]

  -- The next number goes to the end of the list of its key.
  -- The lists are equal place by place, by `filed_at`.
  pub filed : (n k : ℕ) (lists : List (List ℕ)) → key n < k → lists ≡ map (with_key n) (numbers_below k) →
      set lists (key n) (with_key n (key n) ++ n ∷ []) ≡ map (with_key (n + 1)) (numbers_below k)
  filed n k lists key_below is =
      ext_get_or [] (set lists (key n) (with_key n (key n) ++ n ∷ [])) (map (with_key (n + 1)) (numbers_below k))
      (length-set lists (key n) (with_key n (key n) ++ n ∷ []) ∙ ap length is
      ∙ length-map-range_with_len (with_key n) 0 k ∙ sym (length-map-range_with_len (with_key (n + 1)) 0 k))
      (λ i inside.
      let long : length (set lists (key n) (with_key n (key n) ++ n ∷ [])) ≡ k =
      length-set lists (key n) (with_key n (key n) ++ n ∷ []) ∙ ap length is
      ∙ length-map-range_with_len (with_key n) 0 k in
      filed_at n k i lists key_below (omega arith) is ∙ sym (get_or-map-below (with_key (n + 1)) k i [] (omega arith)))

  -- the next number goes to the end of the list of its key, as code says it
  pub file_next : (n k at : ℕ) (lists : List (List ℕ)) (old new : List ℕ) → at ≡ key n → at < k →
      lists ≡ map (with_key n) (numbers_below k) → old ≡ get_or lists at old →
      new ≡ old ++ n ∷ []
      → set lists at new ≡ map (with_key (n + 1)) (numbers_below k)
  file_next n k at lists old new is_key below is was then =
      let found : old ≡ with_key n (key n) =
      was ∙ ap (λ xs. get_or xs at old) is ∙ get_or-map-below (with_key n) k at old below ∙ ap (with_key n) is_key in
      ap₂ (set lists) is_key (then ∙ ap (λ xs. xs ++ n ∷ []) found)
      ∙ filed n k lists (subst (λ a. a < k) is_key below) is

  -- there is one list for each of the k keys
  pub length_filed : (n k : ℕ) (lists : List (List ℕ)) → lists ≡ map (with_key n) (numbers_below k) → length lists ≡ k
  length_filed n k lists is = ap length is ∙ length-map-range_with_len (with_key n) 0 k
