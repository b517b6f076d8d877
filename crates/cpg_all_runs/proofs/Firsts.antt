-- The search for the first scenario that has the greatest number, one scenario after another.
use Rattle.std.proofs.Common.{◌≡◌, ◌∙◌, ℕ, ◌+◌, ◌≤◌, true, false, List, get_or, map, max, arith, sym, ap, inl, inr}
use Rattle.std.proofs.lemmas.Bool.{cases_eq}
use Rattle.std.specs.Ordering.{ord_max, nat_cmp}
use Rattle.std.proofs.lemmas.Grind.{common_steps}
use Rattle.std.proofs.lemmas.List.{map_push}
use Rattle.cpg_base.specs.Numbers.{greatest, numbers_below}
use Rattle.cpg_base.proofs.Lists.{below_push, greatest_push}
use Rattle.cpg_base.specs.Graph.{Graph}
use Rattle.cpg_base.specs.Scenario.{Scenario, is_before}
use Rattle.cpg_base.proofs.ScenarioOrder.{before_irreflexive, before_one_way, not_before_transitive}
use Rattle.cpg_all_runs.specs.Peaks.{IsFirstGreatest}

-- given: the place of the first greatest of n numbers
module _ (g : Graph) (urgency : List ℕ) (n : ℕ) (list : List Scenario) (numbers : List ℕ) (at : ℕ)
    (is_first : IsFirstGreatest g urgency n list numbers at) where
  -- If the number at n is greater, or as great and its scenario comes first, n is the place among the first n + 1. No
  -- scenario with that number comes before the n-th, since it would come before that of the old place too.
  pub takes_it : get_or numbers at 0 ≤ get_or numbers n 0 →
      (get_or numbers n 0 ≡ get_or numbers at 0 → (d : Scenario) →
      is_before g urgency (get_or list n d) (get_or list at d) ≡ true) →
      IsFirstGreatest g urgency (n + 1) list numbers n
  takes_it much earlier = record {
    there = omega arith;
    -- its number is the greatest of the first n + 1
    most = λ i within. elim (cases_eq i n) [
      | inl is_n ↦ omega (arith, ap (λ j. get_or numbers j 0) is_n)
      | inr other ↦ omega (arith, is_first.most i (omega arith))
    ];
    -- of those with this number, none comes before its scenario
    first = λ i d within as_great. elim (cases_eq i n) [
      | inl same ↦ ap (λ j. is_before g urgency (get_or list j d) (get_or list n d)) same
          ∙ before_irreflexive g urgency (get_or list n d)
      | inr other ↦
          let no_greater = is_first.most i (omega arith) in
          not_before_transitive g urgency (get_or list n d) (get_or list at d) (get_or list i d)
          (before_one_way g urgency (get_or list n d) (get_or list at d) (earlier (omega arith) d))
          (is_first.first i d (omega arith) (omega arith))
    ];
  }

  -- if the number at n is less, or as great and its scenario does not come first, the place stays
  pub skips_it : get_or numbers n 0 ≤ get_or numbers at 0 →
      (get_or numbers n 0 ≡ get_or numbers at 0 → (d : Scenario) →
      is_before g urgency (get_or list n d) (get_or list at d) ≡ false) →
      IsFirstGreatest g urgency (n + 1) list numbers at
  skips_it no_greater later = record {
    there = let inside = is_first.there in omega arith;
    most = λ i within. elim (cases_eq i n) [
      | inl is_n ↦ omega (arith, ap (λ j. get_or numbers j 0) is_n)
      | inr other ↦ omega (arith, is_first.most i (omega arith))
    ];
    first = λ i d within as_great. elim (cases_eq i n) [
      | inl same ↦ ap (λ j. is_before g urgency (get_or list j d) (get_or list at d)) same
          ∙ later (sym (ap (λ j. get_or numbers j 0) same) ∙ as_great) d
      | inr other ↦ is_first.first i d (omega arith) as_great
    ];
  }

-- of one number the place is 0
pub starts_it : (g : Graph) (urgency : List ℕ) (list : List Scenario) (numbers : List ℕ) →
    IsFirstGreatest g urgency 1 list numbers 0
starts_it g urgency list numbers = record {
  there = omega arith;
  most = λ i within. omega (arith, ap (λ j. get_or numbers j 0) (let is_0 : i ≡ 0 = omega arith in is_0));
  first = λ i d within as_great. ap (λ j. is_before g urgency (get_or list j d) (get_or list 0 d))
      (let is_0 : i ≡ 0 = omega arith in is_0) ∙ before_irreflexive g urgency (get_or list 0 d);
}

-- the greatest of the first n + 1 numbers is the greater of the greatest of the first n and the n-th
pub greatest_more : (f : ℕ → ℕ) (n : ℕ) →
    greatest (map f (numbers_below (n + 1))) ≡ max (greatest (map f (numbers_below n))) (f n)
greatest_more f n = ap (λ xs. greatest (map f xs)) (below_push n) ∙ ap greatest (map_push f (numbers_below n) n)
    ∙ greatest_push (map f (numbers_below n)) (f n)

-- the greater of two numbers by their comparison is their maximum
pub the_max : (a b : ℕ) → ord_max nat_cmp a b ≡ max a b
the_max a b = grind (arith, common_steps)
