-- The least scenario for any of several elements, from those for each; and for the column at a place of a row.
use Rattle.std.proofs.Common.{ℕ, ◌+◌, ◌<◌, ◌≤◌, ◌≡◌, Bool, true, false, cond, ◌&&◌, ◌||◌, List, [], ◌∷◌, length, get_or}
use Rattle.std.proofs.Common.{take, filter, Option, refl, sym, ap, ◌∙◌}
use Rattle.std.specs.List.{list_any}
use Rattle.std.proofs.Math.Bool.{or-false}
use Rattle.std.proofs.lemmas.List.{drop_more, drop_all}
use Rattle.std.proofs.lemmas.List.Folds.{list_any_more}
use Rattle.cpg_base.specs.Graph.{Graph}
use Rattle.cpg_base.specs.Scenario.{Scenario}
use Rattle.cpg_base.specs.First.{IsFirst, earlier}
use Rattle.cpg_base.proofs.First.{first_same, first_or}
use Rattle.cpg_cube.specs.Cube.{matches}
use Rattle.cpg_cube.specs.declared.column.Column.{Column}
use Rattle.cpg_violation.specs.Broken.{is_broken}

-- test `m`, asked along with `a` or along with `b`, may be asked once, along with either
both_or : (m a b : Bool) → ((m && a) || (m && b)) ≡ (m && (a || b))
both_or true a b = refl
both_or false a b = refl

-- some element of those that are kept passes exactly if some element is kept and passes; by induction on `xs`
pub any_filter : {X : Type 0} (test keep : X → Bool) (xs : List X) →
    list_any test (filter keep xs) ≡ list_any (λ x. keep x && test x) xs
any_filter test keep [] = refl
any_filter test keep (x ∷ xs) = go (keep x) (any_filter test keep xs)
  where
    -- the first element counts if it is kept and passes the test
    go : (b : Bool) → list_any test (filter keep xs) ≡ list_any (λ x. keep x && test x) xs →
        list_any test (cond b (x ∷ filter keep xs) (filter keep xs))
        ≡ ((b && test x) || list_any (λ x. keep x && test x) xs)
    go true rest_is = ap (λ r. test x || r) rest_is
    go false rest_is = rest_is

-- given: a fact that has to hold in a scenario, and a test of an element of a list there
module _ {X : Type 0} (g : Graph) (order : List ℕ) (fact : Scenario → Bool) (test : Scenario → X → Bool)
    (xs : List X) where
  -- the earlier of the answers for the first `i` elements and for the next one is the answer for one element more
  pub first_any_more : (i : ℕ) (d : X) → i < length xs → (a b : Option Scenario) →
      IsFirst g order (λ s. fact s && list_any (test s) (take i xs)) a
      → IsFirst g order (λ s. fact s && test s (get_or xs i d)) b →
      IsFirst g order (λ s. fact s && list_any (test s) (take (i + 1) xs)) (earlier g order a b)
  first_any_more i d inside a b first_before first_next = first_same g order
      (λ s. (fact s && list_any (test s) (take i xs)) || (fact s && test s (get_or xs i d)))
      (λ s. fact s && list_any (test s) (take (i + 1) xs)) (earlier g order a b)
      (λ s _. both_or (fact s) (list_any (test s) (take i xs)) (test s (get_or xs i d))
      ∙ ap (λ m. fact s && m) (sym (list_any_more (test s) xs i d inside)))
      (first_or g order (λ s. fact s && list_any (test s) (take i xs))
      (λ s. fact s && test s (get_or xs i d)) a b first_before first_next)

-- the earlier of the answers `a` for test `p` and `b` for test `q` is the answer for either test, with a fact that has
-- to hold as well
pub first_either : (g : Graph) (order : List ℕ) (fact p q : Scenario → Bool) (a b : Option Scenario) →
    IsFirst g order (λ s. fact s && p s) a →
    IsFirst g order (λ s. fact s && q s) b
    → IsFirst g order (λ s. fact s && (p s || q s)) (earlier g order a b)
first_either g order fact p q a b p_first q_first =
    first_same g order (λ s. (fact s && p s) || (fact s && q s)) (λ s. fact s && (p s || q s)) (earlier g order a b)
    (λ s _. both_or (fact s) (p s) (q s))
    (first_or g order (λ s. fact s && p s) (λ s. fact s && q s) a b p_first q_first)

-- given: a test that says whether a column that matches breaks a rule, and a place of a row
module _ (test : Scenario → Column → Bool) (columns : List Column) (i : ℕ) where
  -- if there is a column at the place, `is_broken` says of the place that this column matches and breaks the rule
  pub broken_at : (d : Column) (s : Scenario) → i < length columns →
      (matches (get_or columns i d).cube s && test s (get_or columns i d)) ≡ is_broken test columns i s
  broken_at d s inside = sym (or-false (matches (get_or columns i d).cube s && test s (get_or columns i d)))
      ∙ sym (ap (λ rest. list_any (λ (c : Column). matches c.cube s && test s c) (take 1 rest))
      (drop_more columns i d inside))

  -- past the last place, `is_broken` is false
  pub broken_past : (s : Scenario) → length columns ≤ i → is_broken test columns i s ≡ false
  broken_past s past = ap (λ rest. list_any (λ (c : Column). matches c.cube s && test s c) (take 1 rest))
      (drop_all i columns past)

  -- the least scenario in which the column at the place breaks the rule is that in which `is_broken` says so of the
  -- place
  pub broken_place : (g : Graph) (order : List ℕ) (d : Column) → i < length columns → (o : Option Scenario)
      → IsFirst g order (λ s. matches (get_or columns i d).cube s && test s (get_or columns i d)) o →
      IsFirst g order (is_broken test columns i) o
  broken_place g order d inside o is_first =
      first_same g order (λ s. matches (get_or columns i d).cube s && test s (get_or columns i d))
      (is_broken test columns i) o (λ s _. broken_at d s inside) is_first
