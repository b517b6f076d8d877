-- The least scenario in which an element of a list passes a test, for one element more; and a premise that is asked
-- once.
use Rattle.std.proofs.Common.{ℕ, ◌+◌, ◌<◌, ◌≡◌, Bool, true, false, ◌&&◌, ◌||◌, List, [], ◌∷◌, length, get_or, take, map}
use Rattle.std.proofs.Common.{filter, Option, refl, sym, ap, ◌∙◌}
use Rattle.std.specs.List.{list_any}
use Rattle.std.proofs.Math.Bool.{and_assoc, and_comm, or-false}
use Rattle.std.proofs.lemmas.List.Folds.{list_any_more, list_any-append}
use Rattle.cpg_base.specs.Graph.{Graph}
use Rattle.cpg_base.specs.Numbers.{numbers_below}
use Rattle.cpg_base.proofs.Lists.{below_push}
use Rattle.cpg_base.specs.Scenario.{Scenario}
use Rattle.cpg_base.specs.First.{IsFirst, earlier}
use Rattle.cpg_base.proofs.First.{first_same, first_or}
use Rattle.cpg_cube.specs.Cube.{matches}
use Rattle.cpg_cube.proofs.Mapped.{any_map}
use Rattle.cpg_table.specs.Table.{NodeTable, columns_of, at}
use Rattle.cpg_cube.specs.declared.column.Column.{Column}
use Rattle.cpg_violation.proofs.Columnwise.{any_filter}

-- of three tests that all have to pass, `a` and `b` may change places
pub and_swap : (a b c : Bool) → (a && (b && c)) ≡ (b && (a && c))
and_swap a b c = sym (and_assoc a b c) ∙ ap (λ d. d && c) (and_comm a b) ∙ and_assoc b a c

-- a premise `m` that is asked along with the test of each element of `xs` may be asked once; by induction on the list
pub both_any : {X : Type 0} (m : Bool) (test : X → Bool) (xs : List X) →
    list_any (λ x. m && test x) xs ≡ (m && list_any test xs)
both_any true test [] = refl
both_any false test [] = refl
both_any true test (x ∷ xs) = ap (λ b. test x || b) (both_any true test xs)
both_any false test (x ∷ xs) = both_any false test xs

-- ---- the least scenario

-- the least scenario in which one of the first `i + 1` elements passes is the earlier of `a`, that for the first `i`,
-- and `b`, that for the next one (`d` is only the default of `get_or`)
pub first_more : {X : Type 0} (g : Graph) (order : List ℕ) (test : X → Scenario → Bool) (xs : List X) (i : ℕ) (d : X) →
    i < length xs →
    (a b : Option Scenario) →
    IsFirst g order (λ s. list_any (λ x. test x s) (take i xs)) a → IsFirst g order (test (get_or xs i d)) b
    → IsFirst g order (λ s. list_any (λ x. test x s) (take (i + 1) xs)) (earlier g order a b)
first_more g order test xs i d inside a b first_before first_next =
    first_same g order (λ s. list_any (λ x. test x s) (take i xs) || test (get_or xs i d) s)
    (λ s. list_any (λ x. test x s) (take (i + 1) xs))
    (earlier g order a b)
    (λ s _. sym (list_any_more (λ x. test x s) xs i d inside))
    (first_or g order (λ s. list_any (λ x. test x s) (take i xs)) (test (get_or xs i d)) a b first_before first_next)

-- the least scenario in which one of the first `i + 1` of `xs` passes, each mapped by `f` before it is tested, is the
-- earlier of `a`, that for the first `i`, and `b`, that for the one at place `i`
pub first_mapped : {X Y : Type 0} (f : X → Y) (g : Graph) (order : List ℕ) (test : Y → Scenario → Bool) (xs : List X)
    (i : ℕ) (d : X) → i < length xs →
    (a b : Option Scenario) →
    IsFirst g order (λ s. list_any (λ y. test y s) (map f (take i xs))) a → IsFirst g order (test (f (get_or xs i d))) b
    → IsFirst g order (λ s. list_any (λ y. test y s) (map f (take (i + 1) xs))) (earlier g order a b)
first_mapped f g order test xs i d inside a b first_before first_next =
    first_same g order (λ s. list_any (λ x. test (f x) s) (take (i + 1) xs))
    (λ s. list_any (λ y. test y s) (map f (take (i + 1) xs))) (earlier g order a b)
    (λ s _. sym (any_map (λ y. test y s) f (take (i + 1) xs)))
    (first_more g order (λ x. test (f x)) xs i d inside a b
    (first_same g order (λ s. list_any (λ y. test y s) (map f (take i xs)))
    (λ s. list_any (λ x. test (f x) s) (take i xs)) a (λ s _. any_map (λ y. test y s) f (take i xs)) first_before)
    first_next)

-- the least scenario in which one of the numbers up to `n` passes is the earlier of `a`, that for the numbers below
-- `n`, and `b`, that for `n` itself
pub first_below : (g : Graph) (order : List ℕ) (test : ℕ → Scenario → Bool) (n : ℕ) (a b : Option Scenario) →
    IsFirst g order (λ s. list_any (λ x. test x s) (numbers_below n)) a →
    IsFirst g order (test n) b
    → IsFirst g order (λ s. list_any (λ x. test x s) (numbers_below (n + 1))) (earlier g order a b)
first_below g order test n a b first_before first_at =
    first_same g order (λ s. list_any (λ x. test x s) (numbers_below n) || test n s)
    (λ s. list_any (λ x. test x s) (numbers_below (n + 1))) (earlier g order a b)
    (λ s _.
    sym (ap (list_any (λ x. test x s)) (below_push n) ∙ list_any-append (λ x. test x s) (numbers_below n) (n ∷ []) ∙
    ap (λ b. list_any (λ x. test x s) (numbers_below n) || b) (or-false (test n s))))
    (first_or g order (λ s. list_any (λ x. test x s) (numbers_below n)) (test n) a b first_before first_at)

-- one of the times of item `x` passes a test exactly if one of its columns `d` matches and its time passes
pub any_at : (tables : List NodeTable) (x : ℕ) (s : Scenario) (test : ℕ → Bool) →
    list_any test (at tables x s) ≡ list_any (λ d. matches d.cube s && test d.time) (columns_of tables x)
any_at tables x s test =
    any_map test (λ (d : Column). d.time) (filter (λ (d : Column). matches d.cube s) (columns_of tables x)) ∙
    any_filter (λ (d : Column). test d.time) (λ (d : Column). matches d.cube s) (columns_of tables x)
