-- The one path of a scenario of a graph.
use Rattle.std.proofs.Common.{ℕ, zero, suc, ◌+◌, ◌≤◌, ◌≡◌, ◌∙◌, List, [], ◌∷◌, length, filter, get_or, sum, sum_by, All}
use Rattle.std.proofs.Common.{Contains, arith, refl, sym, subst, inl, inr}
use Rattle.std.proofs.lemmas.Grind.{common_steps}
use Rattle.std.proofs.lemmas.List.Elements.{All-contains}
use Rattle.std.proofs.lemmas.List.Sums.{sum_by-cons}
use Rattle.cpg_base.specs.Graph.{Graph}
use Rattle.cpg_base.specs.Numbers.{numbers_below}
use Rattle.cpg_base.proofs.Lists.{Contains-first, Contains-cases, Contains-nil, Contains-filter, Contains-filter_parts}
use Rattle.cpg_base.proofs.Sums.{sum_by-below_first, same_sum_by, sum_by_zeros}
use Rattle.cpg_base.specs.Scenario.{Scenario, IsScenario}
use Rattle.cpg_tree.specs.Space.{HasAtMostFaults}
use Rattle.cpg_tree.specs.Tree.{Path, TreeState, is_on, IsOnPath, IsAsWide, IsMap, HasOnePathEach}

-- ---- a scenario of the graph has at most its faults

-- the first n numbers of a list sum to no more than the whole list
few_sum : (xs : List ℕ) (n : ℕ) → sum_by (λ p. get_or xs p 0) (numbers_below n) ≤ sum xs
-- by induction on the numbers
few_sum [] n = omega (arith, sum_by_zeros (λ p. get_or [] p 0) (numbers_below n) (λ p c. refl))
few_sum (x ∷ xs) zero = omega arith
few_sum (x ∷ xs) (suc n) = omega (
  arith,
  sum_by-below_first (λ p. get_or (x ∷ xs) p 0) n,
  same_sum_by (λ i. get_or (x ∷ xs) (i + 1) 0) (λ i. get_or xs i 0) (numbers_below n) (λ i c. next i),
  few_sum xs n,
  sum_by-cons (λ n. n) x xs,
)
  where
    -- behind the first number come those of the rest
    next : (i : ℕ) → get_or (x ∷ xs) (i + 1) 0 ≡ get_or xs i 0
    next i = grind (arith, common_steps)

-- a scenario of a graph has at most the graph's number of faults
pub scenario_few : (g : Graph) (s : Scenario) → IsScenario g s → HasAtMostFaults g.faults s
scenario_few g s law = omega (arith, few_sum s.faults 128, law.budget)

-- ---- the path of a scenario

-- a list of one has an element
first_of_one : {X : Type 0} (xs : List X) → length xs ≡ 1 → (x : X) × Contains xs x
first_of_one [] e = absurd (omega (arith, e))
first_of_one (x ∷ xs) e = (x, Contains-first x xs)

-- each scenario of at most k faults is on a path
pub the_path : {T : Type 0} (k : ℕ) (paths : List (Path T)) → HasOnePathEach k paths → (s : Scenario) →
    HasAtMostFaults k s →
    (x : Path T) × IsOnPath paths s x
the_path k paths each s few =
    let found = first_of_one (filter (is_on s) paths) (each s few) in
    let parts = Contains-filter_parts (is_on s) paths found.0 found.1 in
    (found.0, record { stands = parts.0; matched = parts.1 })

-- what is in a list of one element is that element
the_only : {X : Type 0} (z x : X) → Contains (z ∷ []) x → z ≡ x
the_only z x listed = elim (Contains-cases z [] x listed) [
  | inl same ↦ same
  | inr none ↦ absurd (Contains-nil x none)
]

-- any two members of a list of one are equal
same_of_one : {X : Type 0} (xs : List X) → length xs ≡ 1 → (x y : X) → Contains xs x → Contains xs y → x ≡ y
same_of_one [] one x y x_listed y_listed = absurd (Contains-nil x x_listed)
same_of_one (z ∷ []) one x y x_listed y_listed = sym (the_only z x x_listed) ∙ the_only z y y_listed
same_of_one (z ∷ w ∷ zs) one x y x_listed y_listed = absurd (omega (arith, one))

-- two paths of one scenario are the same
pub same_path : {T : Type 0} (k : ℕ) (paths : List (Path T)) → HasOnePathEach k paths → (s : Scenario) →
    HasAtMostFaults k s → (x y : Path T) → IsOnPath paths s x → IsOnPath paths s y → x ≡ y
same_path k paths each s few x y on_x on_y =
    same_of_one (filter (is_on s) paths) (each s few) x y (Contains-filter (is_on s) paths x on_x.matched on_x.stands)
    (Contains-filter (is_on s) paths y on_y.matched on_y.stands)

-- if each value of a tree is an answer to itself, the tree has the answers to its own values
pub own_map : {T : Type 0} (answers : T → T → Type 0) (t : TreeState T) → HasOnePathEach t.faults t.paths →
    All (λ (p : Path T). answers p.1 p.1) t.paths →
    IsMap answers t t
-- the two paths of a scenario in one tree are the same
own_map {T} answers t each own = record {
  faults = refl;
  value = λ s x z few on_x on_z.
      subst (λ (y : Path T). answers x.1 y.1) (same_path t.faults t.paths each s few x z on_x on_z)
      (All-contains (λ (p : Path T). answers p.1 p.1) t.paths x own on_x.stands);
  ranges = λ s x z few on_x on_z.
      subst (λ (y : Path T). IsAsWide t.faults y.0 x.0) (same_path t.faults t.paths each s few x z on_x on_z)
      (record { low = λ v. omega arith; high = λ v. omega arith });
}
