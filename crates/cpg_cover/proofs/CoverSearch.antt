-- Splitting a cube by the literals of others finds the least scenario that none of them matches.
use Rattle.std.proofs.Common.{ℕ, ◌+◌, ◌-◌, ◌<◌, ◌≤◌, ◌≡◌, Bool, true, false, cond, not, ◌&&◌, ◌||◌, List, [], ◌∷◌, ◌++◌}
use Rattle.std.proofs.Common.{Contains, Option, Some, None, arith, refl, sym, ap, ap₂, ◌∙◌, subst, ⊎_elim}
use Rattle.std.proofs.Common.{lt-ltb, le-ltb}
use Rattle.std.specs.Prelude.{nat_lt, All}
use Rattle.std.specs.List.{list_any}
use Rattle.std.proofs.Math.Bool.{or-false}
use Rattle.std.proofs.lemmas.Bool.{cases_lt, and_parts, and_from, and_left, and_right, both_ways, false_from_ne_true}
use Rattle.std.proofs.lemmas.Bool.{or_left, or_right, or_from, ltb-true, not_from_false}
use Rattle.std.proofs.lemmas.List.Elements.{All-head, All-tail, Contains-append_cases}
use Rattle.std.proofs.lemmas.List.Folds.{list_any-append}
use Rattle.cpg_base.specs.Graph.{Graph, process_count, IsVariable}
use Rattle.cpg_base.proofs.Lists.{Contains-cases, Contains-nil}
use Rattle.cpg_base.specs.Scenario.{Scenario, IsScenario, number_of}
use Rattle.cpg_base.specs.First.{IsFirst, first_of}
use Rattle.cpg_base.proofs.First.{first_same, first_of_all}
use Rattle.cpg_cube.specs.Cube.{holds, matches}
use Rattle.cpg_cube.specs.declared.literal.Literal.{Literal}
use Rattle.cpg_base.specs.Variable.{top}
use Rattle.cpg_cube.specs.Fit.{IsCube, is_met, lows}
use Rattle.cpg_cube.specs.Narrow.{narrowed_by}
use Rattle.cpg_cover.specs.Cover.{is_left, part_below, part_above, parts_outside, uncovered}
use Rattle.cpg_cube.proofs.Boxes.{number_within}
use Rattle.cpg_cube.proofs.CubeLows.{holds-low, holds-high, holds-from, met_by, lows-least}
use Rattle.cpg_cube.proofs.Narrow.{matches-narrowed, cube-narrowed}

-- ---- the parts of a cube outside another

-- some cube of a list that has a cube only if b is true matches exactly if b is true and that cube matches
any_of_one : (b : Bool) (c : List Literal) (s : Scenario) →
    list_any (λ x. matches x s) (cond b (c ∷ []) []) ≡ (b && matches c s)
any_of_one true c s = or-false (matches c s)
any_of_one false c s = refl

-- the one element of a list has its fact
only : {X : Type 0} (P : X → Type 0) (x y : X) → Contains (x ∷ []) y → P x → P y
only P x y member holds =
    ⊎_elim (λ (same : x ≡ y). subst P same holds) (λ (in_none : Contains [] y). absurd (Contains-nil y in_none))
    (Contains-cases x [] y member)

-- part of a range and the rest of the cube together are the narrowed cube
together : (p h n m : Bool) → (p ≡ true → h ≡ true → n ≡ true) → (n ≡ true → (p ≡ true) × (h ≡ true)) →
    (p && (h && m)) ≡ (n && m)
together true true true m both_give gives_both = refl
together true true false m both_give gives_both = cc (both_give refl refl)
together true false true m both_give gives_both = cc (gives_both refl).1
together true false false m both_give gives_both = refl
together false h true m both_give gives_both = cc (gives_both refl).0
together false h false m both_give gives_both = refl

-- A truth table: a below the range, b above it, h in it (exactly if neither), m the cube matches, r the other literals
-- do. The cube matches below, above, or in the range outside the rest exactly if it matches and not all literals do.
joined : (a b h m r : Bool) → not h ≡ (a || b) → (((a && m) || (b && m)) || ((h && m) && not r)) ≡ (m && not (h && r))
joined true b true m r split = cc
joined false true true m r split = cc
joined false false true true r split = refl
joined false false true false r split = refl
joined true b false true r split = refl
joined true true false false r split = refl
joined true false false false r split = refl
joined false true false true r split = refl
joined false true false false r split = refl
joined false false false m r split = cc

-- given: a graph of at most 128 processes, and a scenario of it
module _ (g : Graph) (few : process_count g ≤ 128) (s : Scenario) (lawful : IsScenario g s) where
  -- the part below matches if the cube does and the number is below the literal's low
  matches_below : (l : Literal) (cube : List Literal) →
      list_any (λ c. matches c s) (part_below l cube) ≡ (nat_lt (number_of s l.variable) l.low && matches cube s)
  matches_below l cube =
      let part : Literal = record { variable = l.variable; low = 0; high = l.low - 1 } in
      any_of_one (nat_lt 0 l.low) (narrowed_by part cube) s
      ∙ ap (λ b. nat_lt 0 l.low && b) (matches-narrowed s part cube)
      ∙ together (nat_lt 0 l.low) (holds s part) (nat_lt (number_of s l.variable) l.low) (matches cube s)
      (λ low_above_0 in_part.
      lt-ltb (number_of s l.variable) l.low
      (let above_0 = ltb-true 0 l.low low_above_0 in let below_high = holds-high s part in_part in omega arith))
      (λ below. let number_below = ltb-true (number_of s l.variable) l.low below in
      (lt-ltb 0 l.low (omega arith), holds-from s part (omega arith) (omega arith)))

  -- the part above matches if the cube does and the number is above the literal's high
  matches_above : (l : Literal) (cube : List Literal) → IsVariable g l.variable →
      list_any (λ c. matches c s) (part_above g.faults l cube)
      ≡ (nat_lt l.high (number_of s l.variable) && matches cube s)
  -- a number above the high is in the range from the next one to the top, and the other way round
  matches_above l cube known =
      let part : Literal = record { variable = l.variable; low = l.high + 1; high = top g.faults l.variable } in
      let below_top = number_within g few s lawful l.variable known in
      any_of_one (nat_lt l.high (top g.faults l.variable)) (narrowed_by part cube) s
      ∙ ap (λ b. nat_lt l.high (top g.faults l.variable) && b) (matches-narrowed s part cube)
      ∙ together (nat_lt l.high (top g.faults l.variable)) (holds s part) (nat_lt l.high (number_of s l.variable))
      (matches cube s)
      (λ high_below in_part. lt-ltb l.high (number_of s l.variable)
      (let above_low = holds-low s part in_part in omega arith))
      (λ above. let number_above = ltb-true l.high (number_of s l.variable) above in
      (lt-ltb l.high (top g.faults l.variable) (omega arith), holds-from s part (omega arith) (omega arith)))

  -- a number is in the range, below it or above it
  pub in_range : (l : Literal) →
      not (holds s l) ≡ (nat_lt (number_of s l.variable) l.low || nat_lt l.high (number_of s l.variable))
  in_range l = ⊎_elim
      -- below the range
      (λ (below : number_of s l.variable < l.low).
      outside (λ held. let above_low = holds-low s l held in omega arith) (or_left _ _ (lt-ltb _ _ below)))
      -- above it, or in it
      (λ (from_low : l.low ≤ number_of s l.variable). ⊎_elim
      (λ (above : l.high < number_of s l.variable).
      outside (λ held. let below_high = holds-high s l held in omega arith) (or_right _ _ (lt-ltb _ _ above)))
      (λ (to_high : number_of s l.variable ≤ l.high). ap not (holds-from s l from_low to_high)
      ∙ sym (or_from _ _ (le-ltb _ _ from_low) (le-ltb _ _ to_high)))
      (cases_lt l.high (number_of s l.variable)))
      (cases_lt (number_of s l.variable) l.low)
    where
      -- a literal doesn't hold if the number is below its low or above its high
      outside : (holds s l ≡ true → ⊥) →
          (nat_lt (number_of s l.variable) l.low || nat_lt l.high (number_of s l.variable)) ≡ true →
          not (holds s l) ≡ (nat_lt (number_of s l.variable) l.low || nat_lt l.high (number_of s l.variable))
      outside fails one_side = ap not (false_from_ne_true (holds s l) fails) ∙ sym one_side

  -- some part matches exactly if the cube does and the other doesn't
  pub matches_parts : (ls cube : List Literal) → All (λ l. IsVariable g l.variable) ls →
      list_any (λ c. matches c s) (parts_outside g.faults ls cube) ≡ (matches cube s && not (matches ls s))
  -- by induction on the literals
  matches_parts [] cube known = sym (and_right (matches cube s) false refl)
  matches_parts (l ∷ ls) cube known =
      let known_l = All-head (λ m. IsVariable g m.variable) l ls known in
      list_any-append (λ c. matches c s) (part_below l cube ++ part_above g.faults l cube)
      (parts_outside g.faults ls (narrowed_by l cube))
      ∙ ap₂ ◌||◌
      (list_any-append (λ c. matches c s) (part_below l cube) (part_above g.faults l cube)
      ∙ ap₂ ◌||◌ (matches_below l cube) (matches_above l cube known_l))
      (matches_parts ls (narrowed_by l cube) (All-tail (λ m. IsVariable g m.variable) l ls known)
      ∙ ap (λ b. b && not (matches ls s)) (matches-narrowed s l cube))
      ∙ joined (nat_lt (number_of s l.variable) l.low) (nat_lt l.high (number_of s l.variable)) (holds s l)
      (matches cube s) (matches ls s) (in_range l)

-- ---- the steps of a search

-- given: a graph, an order of its processes, a list of cubes, and the cube of which something may be left
module _ (g : Graph) (order : List ℕ) (by : List (List Literal)) (cube : List Literal) where
  -- nothing is left of a cube that matches nothing
  pub left_of_none : IsFirst g order (matches cube) None → IsFirst g order (is_left by cube) None
  left_of_none none = λ s lawful. and_left (matches cube s) (not (list_any (λ b. matches b s) by)) (none s lawful)

  -- the least scenario of a cube is the least that is left, if no cube of the list matches it
  pub left_at_once : (least : Scenario) → IsFirst g order (matches cube) (Some least) →
      list_any (λ b. matches b least) by ≡ false →
      IsFirst g order (is_left by cube) (Some least)
  -- each scenario that is left matches the cube, so it isn't before the least one
  left_at_once least first unmatched = record {
    lawful = first.lawful;
    holds = and_from (matches cube least) (not (list_any (λ b. matches b least) by)) first.holds
        (not_from_false (list_any (λ b. matches b least) by) unmatched);
    least = λ t t_lawful left. first.least t t_lawful
        (and_parts (matches cube t) (not (list_any (λ b. matches b t) by)) left).0;
  }

-- given: a graph of at most 128 processes
module _ (g : Graph) (few : process_count g ≤ 128) where
  -- the part below a literal's range is a cube of the graph
  below_is : (l : Literal) (cube : List Literal) → IsVariable g l.variable → IsCube g cube → (c : List Literal) →
      Contains (part_below l cube) c → IsCube g c
  below_is l cube known is c member = one (nat_lt 0 l.low) member
    where
      -- the part below is there only if the low isn't 0
      one : (b : Bool) →
          Contains (cond b (narrowed_by (record { variable = l.variable; low = 0; high = l.low - 1 }) cube ∷ []) []) c →
          IsCube g c
      one true in_part = only (IsCube g)
          (narrowed_by (record { variable = l.variable; low = 0; high = l.low - 1 }) cube) c in_part
          (cube-narrowed g (record { variable = l.variable; low = 0; high = l.low - 1 }) cube known is)
      one false in_part = absurd (Contains-nil c in_part)

  -- the part above a literal's range is a cube of the graph
  above_is : (l : Literal) (cube : List Literal) → IsVariable g l.variable → IsCube g cube → (c : List Literal) →
      Contains (part_above g.faults l cube) c → IsCube g c
  above_is l cube known is c member = one (nat_lt l.high (top g.faults l.variable)) member
    where
      -- the part above is there only if the high isn't the top
      one : (b : Bool) → Contains (cond b (narrowed_by
          (record { variable = l.variable; low = l.high + 1; high = top g.faults l.variable }) cube ∷ []) []) c →
          IsCube g c
      one true in_part = only (IsCube g)
          (narrowed_by (record { variable = l.variable; low = l.high + 1; high = top g.faults l.variable }) cube) c
          in_part
          (cube-narrowed g
          (record { variable = l.variable; low = l.high + 1; high = top g.faults l.variable }) cube known is)
      one false in_part = absurd (Contains-nil c in_part)

  -- the parts of a cube outside another are cubes of the graph
  pub parts_are : (ls cube : List Literal) → All (λ l. IsVariable g l.variable) ls → IsCube g cube →
      (c : List Literal) → Contains (parts_outside g.faults ls cube) c → IsCube g c
  -- by induction on the literals
  parts_are [] cube known is c member = absurd (Contains-nil c member)
  parts_are (l ∷ ls) cube known is c member =
      let known_l = All-head (λ m. IsVariable g m.variable) l ls known in
      ⊎_elim
      -- a part below or above the first literal's range
      (λ (in_sides : Contains (part_below l cube ++ part_above g.faults l cube) c).
      ⊎_elim (below_is l cube known_l is c) (above_is l cube known_l is c)
      (Contains-append_cases (part_below l cube) (part_above g.faults l cube) c in_sides))
      -- a part for one of the other literals, of the cube narrowed by the first
      (λ (in_others : Contains (parts_outside g.faults ls (narrowed_by l cube)) c). parts_are ls (narrowed_by l cube)
      (All-tail (λ m. IsVariable g m.variable) l ls known) (cube-narrowed g l cube known_l is) c in_others)
      (Contains-append_cases (part_below l cube ++ part_above g.faults l cube)
      (parts_outside g.faults ls (narrowed_by l cube)) c member)

  -- b and the cubes bs leave a scenario of the cube exactly if bs leaves it of some part of the cube outside b
  pub left_in_parts : (b : List Literal) (bs : List (List Literal)) (cube : List Literal) (s : Scenario) →
      IsScenario g s →
      All (λ l. IsVariable g l.variable) b →
      list_any (λ c. is_left bs c s) (parts_outside g.faults b cube) ≡ is_left (b ∷ bs) cube s
  left_in_parts b bs cube s lawful known =
      both_any (not (list_any (λ d. matches d s) bs)) (parts_outside g.faults b cube)
      ∙ ap (λ x. x && not (list_any (λ d. matches d s) bs)) (matches_parts g few s lawful b cube known)
      ∙ none_of_either (matches cube s) (matches b s) (list_any (λ d. matches d s) bs)
    where
      -- a test that doesn't depend on the part may stand outside
      both_any : (u : Bool) (cs : List (List Literal)) →
          list_any (λ c. matches c s && u) cs ≡ (list_any (λ c. matches c s) cs && u)
      both_any u [] = refl
      both_any u (c ∷ cs) =
          ap (λ x. (matches c s && u) || x) (both_any u cs) ∙ spread (matches c s) (list_any (λ d. matches d s) cs) u
        where
          -- x or y holds together with z exactly if one of them does, and z
          spread : (x y z : Bool) → ((x && z) || (y && z)) ≡ ((x || y) && z)
          spread true true true = refl
          spread true false true = refl
          spread true true false = refl
          spread true false false = refl
          spread false y z = refl

      -- x holds, and neither y nor z, exactly if x holds and not one of them does
      none_of_either : (x y z : Bool) → ((x && not y) && not z) ≡ (x && not (y || z))
      none_of_either true true z = refl
      none_of_either true false z = refl
      none_of_either false y z = refl

  -- given: an order of the processes
  module _ (order : List ℕ) where
    -- the first of the answers to the parts is the answer to the cube with one cube more in the list
    pub left_by_parts : (b : List Literal) (bs : List (List Literal)) (cube : List Literal)
        (answer : List Literal → Option Scenario) →
        All (λ l. IsVariable g l.variable) b
        → ((c : List Literal) → Contains (parts_outside g.faults b cube) c → IsFirst g order (is_left bs c) (answer c))
        → IsFirst g order (is_left (b ∷ bs) cube) (first_of g order answer (parts_outside g.faults b cube))
    left_by_parts b bs cube answer known answers =
        first_same g order (λ s. list_any (λ c. is_left bs c s) (parts_outside g.faults b cube)) (is_left (b ∷ bs) cube)
        (first_of g order answer (parts_outside g.faults b cube))
        (λ s lawful. left_in_parts b bs cube s lawful known)
        (first_of_all g order (is_left bs) answer (parts_outside g.faults b cube) answers)

    -- ---- the whole search

    -- a cube that matches nothing leaves no scenario, and any other one is answered by the search
    when_met : (by : List (List Literal)) (cube : List Literal) (o : Option Scenario) → IsCube g cube →
        (is_met g.faults cube ≡ true → IsFirst g order (is_left by cube) o) → (m : Bool) →
        is_met g.faults cube ≡ m → IsFirst g order (is_left by cube) (cond m o None)
    when_met by cube o is if_met true met = if_met met
    when_met by cube o is if_met false unmet = left_of_none g order by cube (λ s lawful.
        false_from_ne_true (matches cube s)
        (λ matched. both_ways (is_met g.faults cube) unmet (met_by g few cube is s lawful matched)))

    -- the answer of the search is the first scenario that the cube matches and no cube of the list does
    pub uncovered_is : (by : List (List Literal)) (cube : List Literal) → All (All (λ l. IsVariable g l.variable)) by →
        IsCube g cube →
        IsFirst g order (is_left by cube) (uncovered g order by cube)
    -- by induction on the cubes
    uncovered_is [] cube known is = when_met [] cube (Some (lows g cube)) is
        (λ met. left_at_once g order [] cube (lows g cube) (lows-least g few cube is met order) refl)
        (is_met g.faults cube) refl
    uncovered_is (b ∷ bs) cube known is =
        when_met (b ∷ bs) cube (first_of g order (uncovered g order bs) (parts_outside g.faults b cube)) is
        (λ met. left_by_parts b bs cube (uncovered g order bs)
        (All-head (All (λ l. IsVariable g l.variable)) b bs known)
        (λ c member. uncovered_is bs c (All-tail (All (λ l. IsVariable g l.variable)) b bs known)
        (parts_are b cube (All-head (All (λ l. IsVariable g l.variable)) b bs known) is c member)))
        (is_met g.faults cube) refl
