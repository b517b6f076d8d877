-- The search for what a list of cubes leaves of a cube, step by step.
use Rattle.std.proofs.Common.{ℕ, ◌+◌, ◌-◌, ◌<◌, ◌≤◌, ◌≡◌, Bool, true, false, cond, not, ◌&&◌, ◌||◌, List, [], ◌∷◌}
use Rattle.std.proofs.Common.{length, get_or, map, IsPermutation, IsTrue, Option, None, Some, arith, refl, sym, ap}
use Rattle.std.proofs.Common.{◌∙◌, subst, ltb-true, ltb-false}
use Rattle.std.specs.Prelude.{remove, nat_lt, IfNone, IfSome}
use Rattle.std.specs.List.{list_any}
use Rattle.std.proofs.lemmas.Bool.{and_right, and_left}
use Rattle.std.proofs.lemmas.List.Sorted.{Contains-permutation, IsPermutation-sym}
use Rattle.cpg_base.specs.Graph.{Graph, process_count, IsVariable}
use Rattle.cpg_base.proofs.Lists.{from_all, all_from, same_truth}
use Rattle.cpg_base.specs.Scenario.{Scenario, IsScenario, IsLeast}
use Rattle.cpg_base.specs.First.{IsFirst, earlier}
use Rattle.cpg_base.proofs.First.{first_same, first_or}
use Rattle.cpg_cube.specs.Cube.{holds, matches}
use Rattle.cpg_cube.specs.declared.literal.Literal.{Literal}
use Rattle.cpg_base.specs.Variable.{top}
use Rattle.cpg_cube.specs.Narrow.{narrowed_by, with_literal}
use Rattle.cpg_cover.specs.Cover.{is_left}
use Rattle.cpg_cover.specs.Parts.{range_below, range_above}
use Rattle.cpg_cube.proofs.Narrow.{matches-narrowed, with-none}
use Rattle.cpg_cube.proofs.CubeLaws.{with-is}
use Rattle.cpg_cover.proofs.CoverSearch.{in_range}
use Rattle.cpg_cover.proofs.CoverSteps.{is_below_range, is_above_range, left_below, left_above, none_below, none_above}
use Rattle.cpg_cube.proofs.Mapped.{any_map}
use Rattle.cpg_cover.proofs.Kept.{taken_out}

-- if `other` has the literals of `one` in another order, both match the same scenarios
pub matches_permutation : (one other : List Literal) (s : Scenario) → IsPermutation one other →
    matches one s ≡ matches other s
matches_permutation one other s permuted = same_truth (matches one s) (matches other s)
    (λ matched. all_from (holds s) other
    (λ l member. from_all (holds s) one l matched
    (Contains-permutation other one l (IsPermutation-sym one other permuted) member)))
    (λ matched. all_from (holds s) one
    (λ l member. from_all (holds s) other l matched (Contains-permutation one other l permuted member)))

-- given: a graph, and an order of its processes
module _ (g : Graph) (order : List ℕ) where
  -- the earlier of an answer and none is the answer
  pub earlier_none : (o : Option Scenario) → earlier g order o None ≡ o
  earlier_none None = refl
  earlier_none (Some s) = refl

  -- the first scenario that passes a test, if there is one, is the least that passes
  pub least_if_some : (test : Scenario → Bool) (o : Option Scenario) → IsFirst g order test o →
      IfSome o (IsLeast g order (λ s. IsTrue (test s)))
  least_if_some test None is_first = tt
  least_if_some test (Some s) is_first = is_first

  -- What the others leave of the cube outside one cube of the list is what the whole list leaves. Some literals stand
  -- for that one: in each scenario that the cube matches, they match exactly if it does.
  pub left_by_taken : {X : Type 0} (seen : X → List Literal) (xs : List X) (i : ℕ) (d : X)
      (literals cube : List Literal) (o : Option Scenario) → i < length xs
      → ((s : Scenario) → IsScenario g s → matches cube s ≡ true →
      matches literals s ≡ matches (seen (get_or xs i d)) s)
      → IsFirst g order (λ s. is_left (map seen (remove xs i)) cube s && not (matches literals s)) o →
      IsFirst g order (is_left (map seen xs) cube) o
  left_by_taken seen xs i d literals cube o inside same is_first = first_same g order
      (λ s. is_left (map seen (remove xs i)) cube s && not (matches literals s)) (is_left (map seen xs) cube) o
      (λ s lawful.
      let all = any_map (λ b. matches b s) seen xs ∙ taken_out (λ x. matches (seen x) s) xs i d inside in
      let rest = any_map (λ b. matches b s) seen (remove xs i) in
      ap (λ u. (matches cube s && not u) && not (matches literals s)) rest
      ∙ none_of_either (matches cube s) (list_any (λ x. matches (seen x) s) (remove xs i)) (matches literals s)
      (matches (seen (get_or xs i d)) s) (same s lawful)
      ∙ sym (ap (λ u. matches cube s && not u) all))
      is_first
    where
      -- two negations are the negation of either
      neither : (y z : Bool) → (not y && not z) ≡ not (z || y)
      neither true true = refl
      neither true false = refl
      neither false true = refl
      neither false false = refl

      -- within the cube (x), what the literals match (z) is what the taken cube matches (w)
      none_of_either : (x y z w : Bool) → (x ≡ true → z ≡ w) → ((x && not y) && not z) ≡ (x && not (w || y))
      none_of_either true y z w agree = ap (λ u. not y && not u) (agree refl) ∙ neither y w
      none_of_either false y z w agree = refl

-- given: a list of cubes; a scenario of a cube is left if no cube of the list matches it
module _ (g : Graph) (few : process_count g ≤ 128) (order : List ℕ) (by : List (List Literal)) where
  -- ---- beside a literal

  -- an answer for the range below a literal is one for the scenarios left that have a lower number
  pub first_below : (l : Literal) (cube : List Literal) (o : Option Scenario) →
      IfSome (range_below l) (λ m. IsFirst g order (is_left by (narrowed_by m cube)) o) →
      IfNone (range_below l) (o ≡ None)
      → IsFirst g order (λ s. is_below_range g few order by l s && is_left by cube s) o
  first_below l cube o some none = by_case (nat_lt 0 l.low) refl some none
    where
      -- by whether the range has a number below it
      by_case : (b : Bool) → nat_lt 0 l.low ≡ b →
          IfSome (cond b (Some (record { variable = l.variable; low = 0; high = l.low - 1 })) None)
          (λ m. IsFirst g order (is_left by (narrowed_by m cube)) o)
          → IfNone (cond b (Some (let m : Literal = record { variable = l.variable; low = 0; high = l.low - 1 } in m))
          None) (o ≡ None) →
          IsFirst g order (λ s. is_below_range g few order by l s && is_left by cube s) o
      by_case true test_is answer none_is = left_below g few order by l cube o (ltb-true 0 l.low test_is) answer
      by_case false test_is answer none_is = let low_zero = ltb-false 0 l.low test_is in
          subst (IsFirst g order (λ s. is_below_range g few order by l s && is_left by cube s)) (sym none_is)
          (none_below g few order by l cube (omega arith))

  -- an answer for the range above a literal is one for the scenarios left that have a higher number
  pub first_above : (l : Literal) (cube : List Literal) (o : Option Scenario) → IsVariable g l.variable →
      IfSome (range_above g.faults l) (λ m. IsFirst g order (is_left by (narrowed_by m cube)) o) →
      IfNone (range_above g.faults l) (o ≡ None)
      → IsFirst g order (λ s. is_above_range g few order by l s && is_left by cube s) o
  first_above l cube o known some none = by_case (nat_lt l.high (top g.faults l.variable)) refl some none
    where
      -- by whether the range has a number above it
      by_case : (b : Bool) → nat_lt l.high (top g.faults l.variable) ≡ b →
          IfSome
          (cond b (Some (record { variable = l.variable; low = l.high + 1; high = top g.faults l.variable })) None)
          (λ m. IsFirst g order (is_left by (narrowed_by m cube)) o)
          → IfNone (cond b (Some (let m : Literal = record {
            variable = l.variable;
            low = l.high + 1;
            high = top g.faults l.variable;
          } in m)) None) (o ≡ None) →
          IsFirst g order (λ s. is_above_range g few order by l s && is_left by cube s) o
      by_case true test_is answer none_is = left_above g few order by l cube o known answer
      by_case false test_is answer none_is =
          subst (IsFirst g order (λ s. is_above_range g few order by l s && is_left by cube s)) (sym none_is)
          (none_above g few order by l cube known (ltb-false l.high (top g.faults l.variable) test_is))

  -- ---- outside literals

  -- nothing is left outside a cube without literals
  pub outside_none : (cube : List Literal) → IsFirst g order (λ s. is_left by cube s && not (matches [] s)) None
  outside_none cube = λ s i. and_right (is_left by cube s) false refl

  -- The first scenario left outside a cube is below the first literal, above it, or within it and outside the rest:
  -- `below`, `above` and `within` are the answers for these three parts, and `gathered` shows that they are the whole.
  pub outside_one : (l : Literal) (ls cube : List Literal) (below above within : Option Scenario)
      → IsFirst g order (λ s. is_below_range g few order by l s && is_left by cube s) below
      → IsFirst g order (λ s. is_above_range g few order by l s && is_left by cube s) above
      → IsFirst g order (λ s. is_left by (narrowed_by l cube) s && not (matches ls s)) within
      → IsFirst g order (λ s. is_left by cube s && not (matches (l ∷ ls) s))
      (earlier g order (earlier g order below above) within)
  outside_one l ls cube below above within below_is above_is within_is = first_same g order
      (λ s. ((is_below_range g few order by l s && is_left by cube s)
      || (is_above_range g few order by l s && is_left by cube s))
      || (is_left by (narrowed_by l cube) s && not (matches ls s)))
      (λ s. is_left by cube s && not (matches (l ∷ ls) s))
      (earlier g order (earlier g order below above) within)
      (λ s lawful. ap (λ m. ((is_below_range g few order by l s && is_left by cube s)
      || (is_above_range g few order by l s && is_left by cube s)) ||
      ((m && not (list_any (λ b. matches b s) by)) && not (matches ls s))) (matches-narrowed s l cube)
      ∙ gathered (is_below_range g few order by l s) (is_above_range g few order by l s) (holds s l) (matches cube s)
      (not (list_any (λ b. matches b s) by)) (matches ls s) (in_range g few s lawful l))
      (first_or g order (λ s. (is_below_range g few order by l s && is_left by cube s)
      || (is_above_range g few order by l s && is_left by cube s))
      (λ s. is_left by (narrowed_by l cube) s && not (matches ls s)) (earlier g order below above) within
      (first_or g order (λ s. is_below_range g few order by l s && is_left by cube s)
      (λ s. is_above_range g few order by l s && is_left by cube s) below above below_is above_is) within_is)
    where
      -- A truth table: a below, b above, h within the literal's range (exactly if neither), m in the cube, u left by
      -- the list, r in the other literals.
      gathered : (a b h m u r : Bool) → not h ≡ (a || b) →
          (((a && (m && u)) || (b && (m && u))) || (((h && m) && u) && not r)) ≡ ((m && u) && not (h && r))
      gathered true true true m u r split = cc
      gathered true false true m u r split = cc
      gathered false true true m u r split = cc
      gathered false false true true true true split = refl
      gathered false false true true true false split = refl
      gathered false false true true false true split = refl
      gathered false false true true false false split = refl
      gathered false false true false true true split = refl
      gathered false false true false true false split = refl
      gathered false false true false false true split = refl
      gathered false false true false false false split = refl
      gathered true true false true true true split = refl
      gathered true true false true true false split = refl
      gathered true true false true false true split = refl
      gathered true true false true false false split = refl
      gathered true true false false true true split = refl
      gathered true true false false true false split = refl
      gathered true true false false false true split = refl
      gathered true true false false false false split = refl
      gathered true false false true true true split = refl
      gathered true false false true true false split = refl
      gathered true false false true false true split = refl
      gathered true false false true false false split = refl
      gathered true false false false true true split = refl
      gathered true false false false true false split = refl
      gathered true false false false false true split = refl
      gathered true false false false false false split = refl
      gathered false true false true true true split = refl
      gathered false true false true true false split = refl
      gathered false true false true false true split = refl
      gathered false true false true false false split = refl
      gathered false true false false true true split = refl
      gathered false true false false true false split = refl
      gathered false true false false false true split = refl
      gathered false true false false false false split = refl
      gathered false false false m u r split = cc

-- ---- a cube narrowed by a literal

-- given: a list of cubes, and a literal by which a cube is narrowed
module _ (g : Graph) (order : List ℕ) (by : List (List Literal)) (l : Literal) (cube : List Literal) where
  -- if the literal leaves no number, nothing is left
  pub part_none : with_literal l cube ≡ None → IsFirst g order (is_left by (narrowed_by l cube)) None
  part_none none_left = λ s lawful. and_left (matches (narrowed_by l cube) s) (not (list_any (λ b. matches b s) by))
      (matches-narrowed s l cube ∙ with-none s l cube none_left)

  -- if the literal leaves the cube no number, nothing is left within it
  pub within_none : (ls : List Literal) → with_literal l cube ≡ None →
      IsFirst g order (λ s. is_left by (narrowed_by l cube) s && not (matches ls s)) None
  within_none ls none_left =
      λ s lawful. and_left (is_left by (narrowed_by l cube) s) (not (matches ls s)) (part_none none_left s lawful)

  -- given: the cube narrowed by the literal, and a list of cubes that leaves the same of it
  module _ (c : List Literal) (some : with_literal l cube ≡ Some c) (kept : List (List Literal))
      (same : (s : Scenario) → IsScenario g s → is_left kept c s ≡ is_left by c s) where
    -- what the cubes that are kept leave outside literals is what the whole list leaves outside them
    pub within_kept : (ls : List Literal) (o : Option Scenario) →
        IsFirst g order (λ s. is_left kept c s && not (matches ls s)) o →
        IsFirst g order (λ s. is_left by (narrowed_by l cube) s && not (matches ls s)) o
    within_kept ls o is_first = first_same g order (λ s. is_left kept c s && not (matches ls s))
        (λ s. is_left by (narrowed_by l cube) s && not (matches ls s)) o
        (λ s lawful. ap (λ b. b && not (matches ls s))
        (same s lawful ∙ ap (λ d. is_left by d s) (sym (with-is l cube c some)))) is_first
