-- The least scenario of a cube in which a guard's process is active, or isn't: at a leaf of the guard, and at a test
-- from the answers for its two sides, for false and for true.
use Rattle.std.proofs.Common.{ℕ, ◌≡◌, Bool, true, false, cond, not, ◌&&◌, ◌||◌, List, get_or, Option, None, refl, ap}
use Rattle.std.proofs.Common.{◌∙◌}
use Rattle.std.specs.Prelude.{nat_le}
use Rattle.std.specs.List.{list_any}
use Rattle.std.proofs.Math.Bool.{or-false}
use Rattle.std.proofs.lemmas.Bool.{and_right}
use Rattle.cpg_base.specs.Numbers.{same_bool}
use Rattle.cpg_base.specs.Graph.{Graph}
use Rattle.cpg_base.specs.declared.activation.Activation.{Activation}
use Rattle.cpg_base.specs.Activity.{is_active}
use Rattle.cpg_order.specs.Guard.{Guard, Leaf, Test, outcome_at}
use Rattle.cpg_base.specs.Scenario.{Scenario, number_of_value}
use Rattle.cpg_base.proofs.NumbersOf.{number_of-value}
use Rattle.cpg_base.specs.First.{IsFirst, earlier}
use Rattle.cpg_base.proofs.First.{first_same, first_or}
use Rattle.cpg_cube.specs.Cube.{matches, holds}
use Rattle.cpg_cube.specs.declared.literal.Literal.{Literal}
use Rattle.cpg_cover.specs.Cover.{is_left}
use Rattle.cpg_violation.specs.Activity.{comes_to, value_literal}
use Rattle.cpg_violation.proofs.Tests.{with_true}

-- ---- a value's literal

-- the number of value `v` is at least and at most that of `b` exactly if the two values are the same
same_value : (b v : Bool) →
    (nat_le (number_of_value b) (number_of_value v) && nat_le (number_of_value v) (number_of_value b)) ≡ same_bool b v
same_value true true = refl
same_value true false = refl
same_value false true = refl
same_value false false = refl

-- the literal that says that condition `c` has value `b` holds exactly if the condition has the value
pub value_holds : (s : Scenario) (c : ℕ) (b : Bool) →
    holds s (value_literal c b) ≡ same_bool b (get_or s.values c false)
value_holds s c b = ap (λ n. nat_le (number_of_value b) n && nat_le n (number_of_value b)) (number_of-value s c)
    ∙ same_value b (get_or s.values c false)

-- ---- the steps

-- a test goes on at the side for the condition's value, `v`, so what is asked (`m`, and that the test comes to what is
-- wanted) passes just if it passes at the one side and `v` is the value for it
of_arms : (v m : Bool) (wanted : Bool) (off on : Activation) →
    ((same_bool false v && (m && same_bool wanted (is_active off)))
    || (same_bool true v && (m && same_bool wanted (is_active on)))) ≡
    (m && same_bool wanted (is_active (cond v on off)))
of_arms true m wanted off on = refl
of_arms false m wanted off on = or-false (m && same_bool wanted (is_active off))

-- of four tests that all have to pass, `x` too, the first, `h`, may be put in front of the others
moved : (h m n x : Bool) → (((h && m) && n) && x) ≡ (h && ((m && n) && x))
moved true m n x = refl
moved false m n x = refl

-- if the first two of four tests, `h` and `m`, don't both pass, not all four do
never : (h m n x : Bool) → (h && m) ≡ false → (h && ((m && n) && x)) ≡ false
never true m n x fails = ap (λ b. (b && n) && x) fails
never false m n x fails = refl

-- given: the scenarios that are asked about: `cube` matches them and no cube of `by` does, and a process is active
-- there (`wanted`) or isn't
module _ (g : Graph) (order : List ℕ) (by : List (List Literal)) (wanted : Bool) (cube : List Literal) where
  -- at a leaf `a` that is what is wanted, the least scenario `o` that is left of the cube is the answer
  pub at_leaf : (a : Activation) (o : Option Scenario) → same_bool wanted (is_active a) ≡ true →
      IsFirst g order (is_left by cube) o →
      IsFirst g order (λ s. is_left by cube s && comes_to (Leaf a) wanted s) o
  at_leaf a o is_wanted is_first =
      first_same g order (is_left by cube) (λ s. is_left by cube s && comes_to (Leaf a) wanted s) o
      (λ s _. with_true (is_left by cube s) (same_bool wanted (is_active a)) is_wanted) is_first

  -- at a leaf that isn't, there is none
  pub at_other_leaf : (a : Activation) → same_bool wanted (is_active a) ≡ false →
      IsFirst g order (λ s. is_left by cube s && comes_to (Leaf a) wanted s) None
  at_other_leaf a other = λ s _. and_right (is_left by cube s) (same_bool wanted (is_active a)) other

  -- at a test of condition `c`, the earlier of the answers `a`, with the condition false, and `b`, with it true, is the
  -- answer
  pub at_test : (c : ℕ) (off on : Guard) (a b : Option Scenario)
      → IsFirst g order (λ s. holds s (value_literal c false) && (is_left by cube s && comes_to off wanted s)) a
      → IsFirst g order (λ s. holds s (value_literal c true) && (is_left by cube s && comes_to on wanted s)) b
      → IsFirst g order (λ s. is_left by cube s && comes_to (Test c off on) wanted s) (earlier g order a b)
  -- by `first_or` it is the answer for one or the other; and in each scenario only the side for the value there counts
  at_test c off on a b off_first on_first = first_same g order
      (λ s. (holds s (value_literal c false) && (is_left by cube s && comes_to off wanted s))
      || (holds s (value_literal c true) && (is_left by cube s && comes_to on wanted s)))
      (λ s. is_left by cube s && comes_to (Test c off on) wanted s) (earlier g order a b)
      (λ s _. ap (λ t. (t && (is_left by cube s && comes_to off wanted s))
      || (holds s (value_literal c true) && (is_left by cube s && comes_to on wanted s))) (value_holds s c false)
      ∙ ap (λ t. (same_bool false (get_or s.values c false) && (is_left by cube s && comes_to off wanted s))
      || (t && (is_left by cube s && comes_to on wanted s))) (value_holds s c true)
      ∙ of_arms (get_or s.values c false) (is_left by cube s) wanted (outcome_at off s.values) (outcome_at on s.values))
      (first_or g order _ _ a b off_first on_first)

  -- given: a literal that has to hold as well, and the guard that is asked there
  module _ (l : Literal) (tree : Guard) where
    -- the answer `o` for the part of the cube that literal `l` leaves is that for the cube where the literal holds
    pub where_holds : (part : List Literal) (o : Option Scenario) →
        ((s : Scenario) → matches part s ≡ (holds s l && matches cube s)) →
        IsFirst g order (λ s. is_left by part s && comes_to tree wanted s) o
        → IsFirst g order (λ s. holds s l && (is_left by cube s && comes_to tree wanted s)) o
    where_holds part o both is_first = first_same g order (λ s. is_left by part s && comes_to tree wanted s)
        (λ s. holds s l && (is_left by cube s && comes_to tree wanted s)) o
        (λ s _. ap (λ m. (m && not (list_any (λ b. matches b s) by)) && comes_to tree wanted s) (both s) ∙
        moved (holds s l) (matches cube s) (not (list_any (λ b. matches b s) by)) (comes_to tree wanted s)) is_first

    -- if the literal holds nowhere that the cube matches, there is none
    pub where_never : ((s : Scenario) → (holds s l && matches cube s) ≡ false) →
        IsFirst g order (λ s. holds s l && (is_left by cube s && comes_to tree wanted s)) None
    where_never none = λ s _.
        never (holds s l) (matches cube s) (not (list_any (λ b. matches b s) by)) (comes_to tree wanted s) (none s)
