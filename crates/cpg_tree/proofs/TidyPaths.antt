-- What each path of a tree that fits is, in the words that callers read.
use Rattle.std.proofs.Common.{ℕ, zero, suc, ◌+◌, ◌-◌, ◌<◌, ◌≤◌, ◌≡◌, true, false, nat_lt, get_or, map, List, Contains}
use Rattle.std.proofs.Common.{arith, refl, ap, ◌∙◌, inl, inr, lt-ltb, le-ltb}
use Rattle.std.specs.Prelude.{All}
use Rattle.std.proofs.lemmas.Bool.{cases_lt, cond-true, cond-false}
use Rattle.std.proofs.lemmas.List.Elements.{Contains-get_or}
use Rattle.cpg_base.specs.Numbers.{numbers_below}
use Rattle.cpg_base.specs.Scenario.{Scenario, fault_of, number_of, number_of_value}
use Rattle.cpg_base.proofs.Lists.{all_from, get_or-map-below, numbers-Contains}
use Rattle.cpg_base.proofs.Sums.{same_sum_by}
use Rattle.cpg_cube.specs.declared.literal.Literal.{Literal}
use Rattle.cpg_cube.specs.Cube.{holds, matches}
use Rattle.cpg_cube.proofs.Boxes.{top_of_value}
use Rattle.cpg_cube.proofs.CubeLows.{holds-from}
use Rattle.cpg_cube.proofs.Ranges.{range_of_literal}
use Rattle.cpg_tree.specs.TreeNode.{TreeNode}
use Rattle.cpg_tree.specs.Space.{Space, HasAtMostFaults}
use Rattle.cpg_tree.specs.Decision.{IsGood}
use Rattle.cpg_tree.specs.Paths.{paths_of}
use Rattle.cpg_tree.specs.Tree.{Path, IsTidyPath}
use Rattle.cpg_tree.proofs.OpenSpaces.{IsOpenSpace}
use Rattle.cpg_tree.proofs.Tidy.{IsPathAround, tidy_of, not_whole, within}

-- ---- the scenario of a space's lows

-- the scenario in which each variable has the low of the space
lowest : Space → Scenario
lowest space = record {
  values = map (λ c. nat_lt 0 (get_or space.low (128 + c) 0)) (numbers_below 128);
  faults = map (λ p. get_or space.low p 0) (numbers_below 128);
}

-- a number that is at most 1 is that of a value
bit : (n : ℕ) → n ≤ 1 → number_of_value (nat_lt 0 n) ≡ n
bit zero few = refl
bit (suc zero) few = refl
bit (suc (suc n)) few = absurd (omega (arith, few))

-- a value's variable is 128 and the number of its condition
back : (v : ℕ) → 128 ≤ v → 128 + (v - 128) ≡ v
back v is_value = omega (arith, is_value)

-- the counts of the lowest scenario are the lows
lowest_faults : (space : Space) (p : ℕ) → p < 128 → fault_of (lowest space) p ≡ get_or space.low p 0
unfolding lowest
lowest_faults space p is_count = get_or-map-below (λ p. get_or space.low p 0) 128 p 0 is_count

-- the values of the lowest scenario are the lows
lowest_values : (space : Space) (v : ℕ) → 128 ≤ v → v < 256 → get_or space.low v 0 ≤ 1 →
    number_of_value (get_or (lowest space).values (v - 128) false) ≡ get_or space.low v 0
unfolding lowest
lowest_values space v is_value small is_bit =
    ap number_of_value
    (get_or-map-below (λ c. nat_lt 0 (get_or space.low (128 + c) 0)) 128 (v - 128) false
    (omega (arith, is_value, small)))
    ∙ ap (λ u. number_of_value (nat_lt 0 (get_or space.low u 0))) (back v is_value)
    ∙ bit (get_or space.low v 0) is_bit

-- given: a space that is open for k faults
module _ (k : ℕ) (space : Space) (is : IsOpenSpace k space) where
  -- the number of the lowest scenario at each variable is the low
  lowest_is : (v : ℕ) → v < 256 → number_of (lowest space) v ≡ get_or space.low v 0
  -- a count has the low itself; a value is true if the low is above 0, so as a number it is the low, which is 0 or 1
  lowest_is v small = elim (cases_lt v 128) [
    | inl is_count ↦ cond-true (nat_lt v 128) (fault_of (lowest space) v)
        (number_of_value (get_or (lowest space).values (v - 128) false)) (lt-ltb v 128 is_count)
        ∙ lowest_faults space v is_count
    | inr is_value ↦ cond-false (nat_lt v 128) (fault_of (lowest space) v)
        (number_of_value (get_or (lowest space).values (v - 128) false)) (le-ltb v 128 is_value)
        ∙ lowest_values space v is_value small
        (omega (arith, is.opens v small, is.tops v small, top_of_value k v is_value))
  ]

  -- the lowest scenario has few enough faults
  lowest_few : HasAtMostFaults k (lowest space)
  lowest_few = fewer _ _ space.left (same_sum_by (fault_of (lowest space)) (λ p. get_or space.low p 0)
      (numbers_below 128) (λ p listed. lowest_faults space p (omega (arith, numbers-Contains 128 p listed))))
      is.budget
    where
      -- the lows ask for as many faults as were counted, which with those left are at most k
      fewer : (new old left : ℕ) → new ≡ old → old + left ≤ k → new ≤ k
      fewer new old left same fits = omega (arith, same, fits)

-- given: the cube of a path around a space (`tidy`)
module _ (k : ℕ) (cube : List Literal) (tidy : IsPathAround k cube) where
  -- each literal of the path's cube holds in the lowest scenario
  held : (l : Literal) → Contains cube l → holds (lowest tidy.space) l ≡ true
  held l listed =
      let range = range_of_literal k cube l tidy.covers.rising listed in
      let there = (tidy.part l listed).0 in
      let is = lowest_is k tidy.space tidy.is l.variable there in
      holds-from (lowest tidy.space) l (omega (arith, is, range.0, tidy.covers.low l.variable there))
      (omega (arith, is, range.1, tidy.is.opens l.variable there, tidy.covers.high l.variable there))

  -- the path's cube matches the lowest scenario
  lowest_matches : matches cube (lowest tidy.space) ≡ true
  lowest_matches = all_from (holds (lowest tidy.space)) cube held

-- ---- of a whole tree

-- given: a good tree
module _ {T : Type 0} (k : ℕ) (node : TreeNode T) (good : IsGood k node) where
  -- each path of a good tree is tidy
  tidy_path : (x : Path T) → Contains (paths_of k node) x → IsTidyPath k x
  tidy_path x listed =
      let covers = tidy_of k node good x listed in
      record {
        rising = covers.covers.rising;
        not_whole = λ i d inside. not_whole k x.0 covers (get_or x.0 i d) (Contains-get_or x.0 i d inside);
        within = λ i d inside. within k x.0 covers (get_or x.0 i d) (Contains-get_or x.0 i d inside);
        met = (lowest covers.space, lowest_few k covers.space covers.is, lowest_matches k x.0 covers);
      }

  -- each path of a good tree is tidy
  pub tidy_all : All (IsTidyPath k) (paths_of k node)
  tidy_all i d inside = tidy_path (get_or (paths_of k node) i d) (Contains-get_or (paths_of k node) i d inside)
