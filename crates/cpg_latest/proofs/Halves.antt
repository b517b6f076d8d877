-- A loop over a list, which gives one element after another a new fact in place of an old one.
use Rattle.std.proofs.Common.{◌≡◌, ◌∙◌, ℕ, ◌+◌, ◌<◌, List, length, length-set, get_or, set, arith, sym, ap, inl, inr}
use Rattle.std.proofs.Common.{subst, get_or-set_same, get_or-set_other}
use Rattle.std.proofs.lemmas.Bool.{cases_eq}
use Rattle.cpg_latest.specs.Course.{AreHalf}

module _ {X : Type 0} (Old New : ℕ → X → Type 0) (count : ℕ) where
  -- before the first element all have the old fact
  pub half_first : (xs : List X) → length xs ≡ count → ((j : ℕ) (d : X) → j < count → Old j (get_or xs j d)) →
      AreHalf Old New 0 count xs
  half_first xs is old = record { count_is = is; done = λ j d l k. absurd (omega arith); left = λ j d l k. old j d k }

  -- if the m-th element is set to one with the new fact, the first m + 1 have it, and the others stay
  pub half_more : (m : ℕ) (xs more : List X) (x : X) → AreHalf Old New m count xs → m < count → New m x →
      more ≡ set xs m x →
      AreHalf Old New (m + 1) count more
  half_more m xs more x half less new is = record {
    count_is = ap length is ∙ length-set xs m x ∙ half.count_is;
    done = λ j d h k. elim (cases_eq j m) [
      | inl e ↦ subst (λ i. New i (get_or more i d)) (sym e)
          (subst (New m) (sym (ap (λ ys. get_or ys m d) is ∙ get_or-set_same xs m x d
          (omega (arith, half.count_is)))) new)
      | inr other ↦ subst (New j) (sym (ap (λ ys. get_or ys j d) is ∙ get_or-set_other xs m j x d other))
          (half.done j d (omega arith) k)
    ];
    left = λ j d h k. subst (Old j) (sym (ap (λ ys. get_or ys j d) is ∙ get_or-set_other xs m j x d (λ e. omega arith)))
        (half.left j d (omega arith) k);
  }

  -- after the last element all have the new fact
  pub half_all : (m : ℕ) (xs : List X) → AreHalf Old New m count xs → m ≡ count → (j : ℕ) (d : X) → j < count →
      New j (get_or xs j d)
  half_all m xs half is j d less = half.done j d (omega arith) less
