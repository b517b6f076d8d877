-- A literal is heard exactly if its low and its high are each told, or leave out no number.
use Rattle.std.proofs.Common.{ℕ, ◌≡◌, ◌==◌, Bool, true, false, cond, ◌&&◌, ◌||◌, List, [], ◌∷◌, filter, map, fold, max}
use Rattle.std.proofs.Common.{min, arith, sym, ap, ◌∙◌}
use Rattle.std.specs.Prelude.{nat_le}
use Rattle.std.specs.List.{list_any}
use Rattle.std.proofs.lemmas.Bool.Decides.{nat_tests}
use Rattle.std.proofs.Math.Bool.{or-false, or_assoc}
use Rattle.cpg_base.specs.Variable.{top}
use Rattle.cpg_cube.specs.declared.literal.Literal.{Literal}
use Rattle.cpg_table.specs.Heard.{kept_high, is_heard}
use Rattle.cpg_check_heard.specs.Bounds.{tells, is_free, low_of, high_of}

-- number `n` is at most the greater of `a` and `b` exactly if it is at most one of them
below_max : (n a b : ℕ) → nat_le n (max a b) ≡ (nat_le n a || nat_le n b)
below_max n a b = grind (arith, nat_tests)

-- number `n` is at least the lesser of `a` and `b` exactly if it is at least one of them
above_min : (n a b : ℕ) → nat_le (min a b) n ≡ (nat_le a n || nat_le b n)
above_min n a b = grind (arith, nat_tests)

-- elements that pass `p`, each with a number `f`; the greatest and the least of these numbers are compared with `n`
module _ {X : Type 0} (p : X → Bool) (f : X → ℕ) (n : ℕ) where
  -- the step of `any_max`: with `x` in front, which passes if `b`, the greatest is at least `n` by `a`, by `x` or by
  -- `xs`
  max_step : (b : Bool) (x : X) (xs : List X) (a : ℕ) →
      ((c : ℕ) → nat_le n (fold max c (map f (filter p xs))) ≡ (nat_le n c || list_any (λ x. p x && nat_le n (f x)) xs))
      → nat_le n (fold max a (map f (cond b (x ∷ filter p xs) (filter p xs))))
      ≡ (nat_le n a || ((b && nat_le n (f x)) || list_any (λ x. p x && nat_le n (f x)) xs))
  max_step true x xs a ih =
      ih (max a (f x)) ∙ ap (λ t. t || list_any (λ x. p x && nat_le n (f x)) xs) (below_max n a (f x)) ∙
      or_assoc (nat_le n a) (nat_le n (f x)) (list_any (λ x. p x && nat_le n (f x)) xs)
  max_step false x xs a ih = ih a

  -- the greatest of `a` and the numbers of those that pass is at least `n` exactly if one of these is; by induction on
  -- the elements
  any_max : (xs : List X) (a : ℕ) →
      nat_le n (fold max a (map f (filter p xs))) ≡ (nat_le n a || list_any (λ x. p x && nat_le n (f x)) xs)
  any_max [] a = sym (or-false (nat_le n a))
  any_max (x ∷ xs) a = max_step (p x) x xs a (any_max xs)

  -- the step of `any_min`: with `x` in front, which passes if `b`, the least is at most `n` by `a`, by `x` or by `xs`
  min_step : (b : Bool) (x : X) (xs : List X) (a : ℕ) →
      ((c : ℕ) → nat_le (fold min c (map f (filter p xs))) n ≡ (nat_le c n || list_any (λ x. p x && nat_le (f x) n) xs))
      → nat_le (fold min a (map f (cond b (x ∷ filter p xs) (filter p xs)))) n
      ≡ (nat_le a n || ((b && nat_le (f x) n) || list_any (λ x. p x && nat_le (f x) n) xs))
  min_step true x xs a ih =
      ih (min a (f x)) ∙ ap (λ t. t || list_any (λ x. p x && nat_le (f x) n) xs) (above_min n a (f x)) ∙
      or_assoc (nat_le a n) (nat_le (f x) n) (list_any (λ x. p x && nat_le (f x) n) xs)
  min_step false x xs a ih = ih a

  -- the least of `a` and the numbers of those that pass is at most `n` exactly if one of these is; by induction on the
  -- elements
  any_min : (xs : List X) (a : ℕ) →
      nat_le (fold min a (map f (filter p xs))) n ≡ (nat_le a n || list_any (λ x. p x && nat_le (f x) n) xs)
  any_min [] a = sym (or-false (nat_le a n))
  any_min (x ∷ xs) a = min_step (p x) x xs a (any_min xs)

-- only 0 is at most 0
none_below : (n : ℕ) → nat_le n 0 ≡ (n == 0)
none_below n = grind (arith, nat_tests)

-- a literal `l` is heard exactly if its low and its high each leave out no number or are told by a known literal: what
-- a node keeps is the greatest of the known lows, from 0 on, and the least of the known highs, from the top on
pub heard_is : (k : ℕ) (known : List Literal) (l : Literal) →
    is_heard k known l ≡ ((is_free k (low_of l) || list_any (tells (low_of l)) known)
    && (is_free k (high_of l) || list_any (tells (high_of l)) known))
heard_is k known l = ap (λ t. t && nat_le (kept_high k known l.variable) l.high)
    (any_max (λ (m : Literal). m.variable == l.variable) (λ (m : Literal). m.low) l.low known 0
    ∙ ap (λ t. t || list_any (tells (low_of l)) known) (none_below l.low))
    ∙ ap (λ t. (is_free k (low_of l) || list_any (tells (low_of l)) known) && t)
    (any_min (λ (m : Literal). m.variable == l.variable) (λ (m : Literal). m.high) l.high known (top k l.variable))

-- the step for one literal: `old`, `one` and `two` say whether a bound is untold among those so far, then with the
-- literal's low added, and then with its high added; `both` says whether the low or the high is untold. So `two` is
-- true exactly if `old` or `both` is.
pub literal_more : (old one two low high both : Bool) → one ≡ (old || low) → two ≡ (one || high) →
    (low || high) ≡ both →
    two ≡ (old || both)
literal_more old one two low high both a b c = b ∙ ap (λ t. t || high) a ∙ or_assoc old low high ∙ ap (λ t. old || t) c
