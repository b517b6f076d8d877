-- What tests of lists come to: that each number is there once, and that each edge leads to a later place.
use Rattle.std.proofs.Common.{ℕ, ◌+◌, ◌<◌, ◌≤◌, ◌≡◌, ◌≢◌, inl, inr, Bool, true, false, ◌||◌, ◌==◌, List, [], ◌∷◌}
use Rattle.std.proofs.Common.{length, get_or, set, take, replicate, Contains, IsPermutation, arith, refl, sym, ap}
use Rattle.std.proofs.Common.{◌∙◌, subst, length-set, get_or-set_other, get_or-set_same, eq-eqb}
use Rattle.std.specs.List.{AllPairs}
use Rattle.std.proofs.lemmas.Bool.{cases_eq, both_ways, or_right, ne_eqb}
use Rattle.std.proofs.lemmas.List.{take_more, take_all, get_or-replicate, length-replicate}
use Rattle.std.proofs.lemmas.List.Elements.{Contains-get_or, Contains-append_cases}
use Rattle.std.proofs.lemmas.List.Folds.{list_any_more}
use Rattle.cpg_base.specs.Numbers.{numbers_below}
use Rattle.cpg_base.proofs.Lists.{Contains-cases, Contains-nil}
use Rattle.cpg_base.proofs.Pairs.{AllPairs-append, AllPairs-nil, AllPairs-cons_by, order_apart}
use Rattle.cpg_order.specs.Reach.{is_in}
use Rattle.cpg_order.proofs.Along.{is_in_from}
use Rattle.cpg_base.specs.Order.{place, comes_before, IsOrder}
use Rattle.cpg_base.proofs.Places.{from_order, Contains-order, places_from_comes_before, comes_before_from_places}
use Rattle.cpg_order.proofs.Readiness.{apart_before, permutation_of_all}

-- if c is false, `b or c` is b
or_nothing : (b c : Bool) → c ≡ false → (b || c) ≡ b
or_nothing true c is_false = refl
or_nothing false c is_false = is_false

-- the first i numbers of a list are below its length and differ, and the marks say which they are
pub record AreSeen (list : List ℕ) (seen : List Bool) (i : ℕ) : Type 0 where
  -- there is a mark for each number below the length
  pub long : length seen ≡ length list
  -- the first i numbers differ
  pub apart : AllPairs (λ x y. x ≢ y) (take i list)
  -- each is below the length
  pub below : (x : ℕ) → Contains (take i list) x → x < length list
  -- a mark is set exactly if its number is among them
  pub marks : (x : ℕ) → x < length list → get_or seen x false ≡ is_in (take i list) x

module _ (list : List ℕ) where
  -- before the first number no place is marked
  pub seen_none : (seen : List Bool) → seen ≡ replicate (length list) false → AreSeen list seen 0
  seen_none seen is = record {
    long = ap length is ∙ length-replicate (length list) false;
    apart = AllPairs-nil (λ x y. x ≢ y);
    below = λ x nothing. absurd (Contains-nil x nothing);
    marks = λ x inside. ap (λ s. get_or s x false) is ∙ get_or-replicate (length list) x false false inside;
  }

  -- given marks for the first i numbers, and one more number
  module _ (seen : List Bool) (i : ℕ) (are : AreSeen list seen i) (inside : i < length list) where
    -- the next number is below the length and not marked yet, so it is marked
    pub seen_more : get_or list i 0 < length list → get_or seen (get_or list i 0) false ≡ false →
        AreSeen list (set seen (get_or list i 0) true) (i + 1)
    seen_more small fresh =
        -- the number isn't among those before
        let new : is_in (take i list) (get_or list i 0) ≡ false = sym (are.marks (get_or list i 0) small) ∙ fresh in
        -- the numbers so far with this one: different, below the length, and marked
        record {
          long = length-set seen (get_or list i 0) true ∙ are.long;
          -- the number differs from those before, which differ
          apart = subst (AllPairs (λ x y. x ≢ y)) (sym (take_more list i 0 inside))
              (AllPairs-append (λ x y. x ≢ y) (take i list) (get_or list i 0 ∷ []) are.apart
              (AllPairs-cons_by (λ x y. x ≢ y) (get_or list i 0) [] (λ y nothing. absurd (Contains-nil y nothing))
              (AllPairs-nil (λ x y. x ≢ y)))
              (λ x y in_front in_last equal. elim (Contains-cases (get_or list i 0) [] y in_last) [
                | inl is_last ↦ both_ways (is_in (take i list) (get_or list i 0)) new
                    (is_in_from (take i list) (get_or list i 0)
                    (subst (Contains (take i list)) (equal ∙ sym is_last) in_front))
                | inr nothing ↦ Contains-nil y nothing
              ]));
          -- it is below the length, as they are
          below = λ x listed. elim (Contains-append_cases (take i list) (get_or list i 0 ∷ []) x
              (subst (λ xs. Contains xs x) (take_more list i 0 inside) listed)) [
                | inl in_front ↦ are.below x in_front
                | inr in_last ↦ elim (Contains-cases (get_or list i 0) [] x in_last) [
                  | inl is_last ↦ subst (λ y. y < length list) is_last small
                  | inr nothing ↦ absurd (Contains-nil x nothing)
                ]
              ];
          -- a number that is marked now is this one, or was marked before
          marks = λ x below.
              let more = list_any_more (λ y. y == x) list i 0 inside in
              elim (cases_eq x (get_or list i 0)) [
                | inl is_this ↦ ap (λ y. get_or (set seen (get_or list i 0) true) y false) is_this
                    ∙ get_or-set_same seen (get_or list i 0) true false (omega (arith, are.long))
                    ∙ sym (more
                    ∙ or_right (is_in (take i list) x) (get_or list i 0 == x)
                    (eq-eqb (get_or list i 0) x (sym is_this)))
                | inr is_other ↦ get_or-set_other seen (get_or list i 0) x true false is_other ∙ are.marks x below
                    ∙ sym (more ∙ or_nothing (is_in (take i list) x) (get_or list i 0 == x)
                    (ne_eqb (get_or list i 0) x (λ equal. is_other (sym equal))))
              ];
        }

    -- a number that is not below the length shows that the list doesn't have each number once
    pub not_great : length list ≤ get_or list i 0 → IsPermutation (numbers_below (length list)) list → ⊥
    not_great past all =
        omega (arith, from_order (length list) list all (get_or list i 0) (Contains-get_or list i 0 inside))

    -- a list in which a number occurs twice doesn't have each number once
    pub not_twice : get_or list i 0 < length list → get_or seen (get_or list i 0) false ≡ true →
        IsPermutation (numbers_below (length list)) list → ⊥
    not_twice small old all = both_ways (is_in (take i list) (get_or list i 0))
        (apart_before list i (order_apart (length list) list all) inside)
        (sym (are.marks (get_or list i 0) small) ∙ old)

  -- a list in which all numbers are below its length and differ has each number once
  pub all_seen : (seen : List Bool) → AreSeen list seen (length list) → IsPermutation (numbers_below (length list)) list
  all_seen seen are =
      let whole = take_all (length list) list (omega arith) in
      permutation_of_all (length list) list (subst (AllPairs (λ x y. x ≢ y)) whole are.apart)
      (λ x listed. are.below x (subst (λ xs. Contains xs x) (sym whole) listed)) (omega arith)

-- a process with an earlier place comes before one with a later place
pub comes_before_at : (order : List ℕ) → IsOrder order → (p q a b : ℕ) → p < length order → a ≡ place order p →
    b ≡ place order q → a < b →
    comes_before order p q ≡ true
comes_before_at order lawful p q a b inside a_is b_is less =
    comes_before_from_places order p q (Contains-order (length order) order lawful.all p inside) (omega arith)

-- a process whose place is not earlier than another's doesn't come before it
pub not_before_at : (order : List ℕ) (p q a b : ℕ) → a ≡ place order p → b ≡ place order q → b ≤ a →
    comes_before order p q ≡ true → ⊥
not_before_at order p q a b a_is b_is not_less is_before = omega (arith, places_from_comes_before order p q is_before)
