-- What is left of the parts of a cube below and above a literal; and what an answer says.
use Rattle.std.proofs.Common.{ℕ, ◌+◌, ◌-◌, ◌<◌, ◌≤◌, ◌≡◌, ◌↔◌, IsTrue, subst, Bool, true, false, not, ◌&&◌, List}
use Rattle.std.proofs.Common.{Option, Some, None, arith, refl, sym, ap, ◌∙◌, lt-ltb, le-ltb}
use Rattle.std.specs.Prelude.{nat_lt, All}
use Rattle.std.specs.List.{list_any}
use Rattle.std.proofs.lemmas.Bool.{both_ways, and_parts, and_left, not-true, not-false, ltb-true}
use Rattle.cpg_base.specs.Graph.{Graph, process_count, IsVariable}
use Rattle.cpg_base.specs.Scenario.{Scenario, IsScenario, number_of, IsLeast}
use Rattle.cpg_base.specs.First.{IsFirst}
use Rattle.cpg_base.proofs.First.{first_same}
use Rattle.cpg_cube.specs.Cube.{holds, matches}
use Rattle.cpg_cube.specs.declared.literal.Literal.{Literal}
use Rattle.cpg_base.specs.Variable.{top}
use Rattle.cpg_cube.specs.Fit.{IsCube}
use Rattle.cpg_cube.specs.Narrow.{narrowed_by}
use Rattle.cpg_cover.specs.Cover.{is_left, uncovered}
use Rattle.cpg_cube.proofs.Boxes.{number_within}
use Rattle.cpg_cube.proofs.CubeLows.{holds-low, holds-high, holds-from}
use Rattle.cpg_cube.proofs.Narrow.{matches-narrowed}
use Rattle.cpg_cover.proofs.CoverSearch.{uncovered_is}

-- if two tests h and n say the same, one may take the place of the other in front of a conjunction
gather : (h n m u : Bool) → (h ≡ true → n ≡ true) → (n ≡ true → h ≡ true) → ((h && m) && u) ≡ (n && (m && u))
gather true true m u to_n to_h = refl
gather true false m u to_n to_h = cc (to_n refl)
gather false true m u to_n to_h = cc (to_h refl)
gather false false m u to_n to_h = refl

-- if u holds whenever m does, m doesn't hold without u
neither : (m u : Bool) → (m ≡ true → u ≡ true) → (m && not u) ≡ false
neither true true implied = refl
neither true false implied = cc (implied refl)
neither false u implied = refl

-- given: a graph of at most 128 processes, an order of them, and a list of cubes
module _ (g : Graph) (few : process_count g ≤ 128) (order : List ℕ) (by : List (List Literal)) where
  -- whether the number of a literal's variable is below its range
  abbrev pub is_below_range : Literal → Scenario → Bool
  is_below_range l s = nat_lt (number_of s l.variable) l.low

  -- whether the number of a literal's variable is above its range
  abbrev pub is_above_range : Literal → Scenario → Bool
  is_above_range l s = nat_lt l.high (number_of s l.variable)

  -- ---- the parts below and above a literal

  -- what is left of the part below a literal's range is what is left with a lower number
  pub left_below : (l : Literal) (rest : List Literal) (o : Option Scenario) → 0 < l.low → IsFirst g order
      (is_left by (narrowed_by (record { variable = l.variable; low = 0; high = l.low - 1 }) rest)) o →
      IsFirst g order (λ s. is_below_range l s && is_left by rest s) o
  -- a number is in the range from 0 to the low exclusive exactly if it is below the low
  left_below l rest o some is_first =
      let part : Literal = record { variable = l.variable; low = 0; high = l.low - 1 } in
      first_same g order (is_left by (narrowed_by part rest)) (λ s. is_below_range l s && is_left by rest s) o
      (λ s lawful. ap (λ b. b && not (list_any (λ b. matches b s) by)) (matches-narrowed s part rest)
      ∙ gather (holds s part) (is_below_range l s) (matches rest s) (not (list_any (λ b. matches b s) by))
      (λ in_part. lt-ltb (number_of s l.variable) l.low (let below_high = holds-high s part in_part in omega arith))
      (λ below. let number_below = ltb-true (number_of s l.variable) l.low below in
      holds-from s part (omega arith) (omega arith)))
      is_first

  -- what is left of the part above a literal's range is what is left with a higher number
  pub left_above : (l : Literal) (rest : List Literal) (o : Option Scenario) → IsVariable g l.variable →
      IsFirst g order (is_left by
      (narrowed_by (record { variable = l.variable; low = l.high + 1; high = top g.faults l.variable }) rest)) o →
      IsFirst g order (λ s. is_above_range l s && is_left by rest s) o
  -- a number is in the range from the next after the high to the top exactly if it is above the high
  left_above l rest o known is_first =
      let part : Literal = record { variable = l.variable; low = l.high + 1; high = top g.faults l.variable } in
      first_same g order (is_left by (narrowed_by part rest)) (λ s. is_above_range l s && is_left by rest s) o
      (λ s lawful. let below_top = number_within g few s lawful l.variable known in
      ap (λ b. b && not (list_any (λ b. matches b s) by)) (matches-narrowed s part rest)
      ∙ gather (holds s part) (is_above_range l s) (matches rest s) (not (list_any (λ b. matches b s) by))
      (λ in_part. lt-ltb l.high (number_of s l.variable) (let above_low = holds-low s part in_part in omega arith))
      (λ above. let number_above = ltb-true l.high (number_of s l.variable) above in
      holds-from s part (omega arith) (omega arith)))
      is_first

  -- nothing is left below a range that begins at 0
  pub none_below : (l : Literal) (rest : List Literal) → l.low ≡ 0 →
      IsFirst g order (λ s. is_below_range l s && is_left by rest s) None
  none_below l rest low_zero =
      λ s lawful. and_left (is_below_range l s) (is_left by rest s)
      (le-ltb (number_of s l.variable) l.low (omega arith))

  -- nothing is left above a range that goes up to the top
  pub none_above : (l : Literal) (rest : List Literal) → IsVariable g l.variable → top g.faults l.variable ≤ l.high →
      IsFirst g order (λ s. is_above_range l s && is_left by rest s) None
  none_above l rest known high_top = λ s lawful. and_left (is_above_range l s) (is_left by rest s)
      (le-ltb l.high (number_of s l.variable)
      (let below_top = number_within g few s lawful l.variable known in omega arith))

-- ---- what an answer says

-- given: a graph, an order of its processes, a list of cubes, and the cube of which something may be left
module _ (g : Graph) (order : List ℕ) (by : List (List Literal)) (cube : List Literal) where
  -- if no scenario is left, each that the cube matches is matched by a cube of the list
  pub covered_from_none : IsFirst g order (is_left by cube) None → (s : Scenario) → IsScenario g s →
      matches cube s ≡ true →
      list_any (λ b. matches b s) by ≡ true
  covered_from_none none_left s lawful matched =
      not-false (list_any (λ b. matches b s) by)
      (sym (ap (λ b. b && not (list_any (λ b. matches b s) by)) matched) ∙ none_left s lawful)

  -- if each scenario that the cube matches is matched by a cube of the list, none is left
  pub none_from_covered :
      ((s : Scenario) → IsScenario g s → matches cube s ≡ true → list_any (λ b. matches b s) by ≡ true) →
      IsFirst g order (is_left by cube) None
  none_from_covered covered = λ s lawful. neither (matches cube s) (list_any (λ b. matches b s) by) (covered s lawful)

  -- the first scenario that is left is matched by the cube and by no cube of the list
  pub left_from_some : (s : Scenario) → IsFirst g order (is_left by cube) (Some s) →
      (matches cube s ≡ true) × (list_any (λ b. matches b s) by ≡ false)
  left_from_some s is_first =
      let parts = and_parts (matches cube s) (not (list_any (λ b. matches b s) by)) is_first.holds in
      (parts.0, not-true (list_any (λ b. matches b s) by) parts.1)

  -- ---- the whole search: None exactly if all is covered, else the least that isn't

  -- given: the cubes of the list are on variables of the graph, and the cube is one of the graph
  module _ (few : process_count g ≤ 128) (known : All (All (λ l. IsVariable g l.variable)) by)
      (is : IsCube g cube) where
    -- the search finds nothing exactly if each scenario that the cube matches is matched by one of the list
    pub none_where_covered : (uncovered g order by cube ≡ None) ↔
        ((s : Scenario) → IsScenario g s → matches cube s ≡ true → list_any (λ b. matches b s) by ≡ true)
    none_where_covered = (
      λ none_found. covered_from_none (subst (IsFirst g order (is_left by cube)) none_found answer),
      λ covered. not_some (uncovered g order by cube) answer covered,
    )
      where
        -- the search answers with the first scenario that is left
        answer : IsFirst g order (is_left by cube) (uncovered g order by cube)
        answer = uncovered_is g few order by cube known is

        -- if the list covers the cube, there is none
        not_some : (o : Option Scenario) → IsFirst g order (is_left by cube) o →
            ((s : Scenario) → IsScenario g s → matches cube s ≡ true → list_any (λ b. matches b s) by ≡ true) → o ≡ None
        not_some None is_first covered = refl
        not_some (Some s) is_first covered = let parts = left_from_some s is_first in
            absurd (both_ways (list_any (λ b. matches b s) by) parts.1 (covered s is_first.lawful parts.0))

    -- a scenario that the search finds is the least that is left
    pub some_is_least : (s : Scenario) → uncovered g order by cube ≡ Some s →
        IsLeast g order (λ t. IsTrue (is_left by cube t)) s
    some_is_least s found = subst (IsFirst g order (is_left by cube)) found (uncovered_is g few order by cube known is)
