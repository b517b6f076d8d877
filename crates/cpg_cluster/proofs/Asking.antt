-- The answer of a node that is asked: it waits on the least node that passes a test, or takes its turn.
use Rattle.std.proofs.Common.{◌≡◌, ℕ, zero, suc, ◌<◌, ◌≤◌, ◌+◌, ◌-◌, ◌++◌, length, take, drop, Bool, true, false, List}
use Rattle.std.proofs.Common.{◌∷◌, filter, Option, Some, sym, ap, ◌∙◌, subst, arith, inl, inr}
use Rattle.std.specs.Prelude.{IfSome}
use Rattle.std.specs.List.{range_with_len}
use Rattle.std.proofs.lemmas.Bool.{cases_eq, cond-true, cond-false}
use Rattle.std.proofs.lemmas.Grind.{common_steps}
use Rattle.cpg_base.specs.Numbers.{numbers_below}
use Rattle.cpg_base.proofs.Lists.{numbers-Contains, filter_none}
use Rattle.cpg_cluster.specs.Cluster.{Took, Waits, answer_by}

-- if option `o` has value `x`, what holds of its value holds of `x`
pub at_some : {X : Type 0} (o : Option X) (x : X) (P : X → Type 0) → o ≡ Some x → IfSome o P → P x
at_some o x P is if_some = subst (λ o. IfSome o P) is if_some

-- if `i` is the first of the `n` numbers from `a` on that passes test `p`, the answer is to wait on `i`; by induction
-- on the range
first_from : (p : ℕ → Bool) (a n i : ℕ) → a ≤ i → i < a + n → ((j : ℕ) → a ≤ j → j < i → p j ≡ false) → p i ≡ true →
    answer_by (filter p (range_with_len a n)) ≡ Waits i
first_from p a zero i l m none is = absurd (omega arith)
first_from p a (suc n) i l m none is = elim (cases_eq a i) [
  | inl e ↦ ap answer_by
      (cond-true (p a) (a ∷ filter p (range_with_len (a + 1) n)) (filter p (range_with_len (a + 1) n)) (ap p e ∙ is))
      ∙ ap Waits e
  | inr ne ↦ ap answer_by (cond-false (p a) (a ∷ filter p (range_with_len (a + 1) n))
      (filter p (range_with_len (a + 1) n)) (none a (omega arith) (omega arith)))
      ∙ first_from p (a + 1) n i (omega arith) (omega arith) (λ j k h. none j (omega arith) h) is
]

-- if `i` is the first of the numbers below `n` that passes test `p`, the answer is to wait on `i`
pub first_waits : (p : ℕ → Bool) (n i : ℕ) → i < n → ((j : ℕ) → j < i → p j ≡ false) → p i ≡ true →
    Waits i ≡ answer_by (filter p (numbers_below n))
first_waits p n i less none is = sym (first_from p 0 n i (omega arith) (omega arith) (λ j _ h. none j h) is)

-- if no number below `n` passes test `p`, the answer is a turn
pub none_waits : (p : ℕ → Bool) (n : ℕ) → ((j : ℕ) → j < n → p j ≡ false) →
    Took ≡ answer_by (filter p (numbers_below n))
none_waits p n none = sym (ap answer_by
    (filter_none p (numbers_below n) (λ j there. none j (numbers-Contains n j there))))

-- what was added to a list is what comes from the old length on
pub tail_of : {X : Type 0} (old rs : List X) →
    take (length (old ++ rs) - length old) (drop (length old) (old ++ rs)) ≡ rs
tail_of old rs = grind (arith, common_steps)

-- if `seen` is `old` and then `rs`, what comes in it from place `first` on, the length of `old`, is `rs`
pub tail_is : {X : Type 0} (seen old rs : List X) (first : ℕ) → seen ≡ old ++ rs → first ≡ length old →
    take (length seen - first) (drop first seen) ≡ rs
tail_is seen old rs first e f = (λ i. take (length (e i) - f i) (drop (f i) (e i))) ∙ tail_of old rs
