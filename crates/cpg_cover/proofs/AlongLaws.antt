-- The least scenario that is left of a cube, by the numbers of one variable.
use Rattle.std.proofs.Common.{ℕ, ◌+◌, ◌<◌, ◌≤◌, ◌≡◌, Bool, true, false, not, ◌&&◌, ◌||◌, List, Option, Some, None}
use Rattle.std.proofs.Common.{IfSome, arith, refl, sym, ap, ◌∙◌, ⊎_elim, lt-ltb, le-ltb, le-leb, leb-true}
use Rattle.std.specs.Prelude.{nat_lt, nat_le}
use Rattle.std.specs.List.{list_any}
use Rattle.std.proofs.Math.Bool.{or-false, and-true}
use Rattle.std.proofs.lemmas.Bool.{cases_lt, and_parts, and_from, and_right, or_left, or_right, or_from, or_cases}
use Rattle.std.proofs.lemmas.Bool.{false_from_ne_true}
use Rattle.cpg_base.specs.Graph.{Graph, process_count, IsVariable}
use Rattle.cpg_base.specs.Scenario.{Scenario, IsScenario, number_of}
use Rattle.cpg_base.specs.First.{IsFirst, earlier}
use Rattle.cpg_base.specs.Variable.{top}
use Rattle.cpg_base.proofs.First.{first_same, first_or}
use Rattle.cpg_cube.specs.Cube.{holds, matches}
use Rattle.cpg_cube.specs.declared.literal.Literal.{Literal}
use Rattle.cpg_cube.specs.Narrow.{narrowed_by, with_literal}
use Rattle.cpg_cover.specs.Cover.{is_left}
use Rattle.cpg_cover.specs.Late.{IsLate}
use Rattle.cpg_cube.proofs.Boxes.{number_within}
use Rattle.cpg_cover.proofs.CoverLaws.{part_none}
use Rattle.cpg_cube.proofs.Narrow.{matches-narrowed}

-- the first scenario that passes a test, if there is one, is a scenario of the graph
pub lawful_if_some : (g : Graph) (order : List ℕ) (test : Scenario → Bool) (o : Option Scenario) →
    IsFirst g order test o →
    IfSome o (IsScenario g)
lawful_if_some g order test None is_first = tt
lawful_if_some g order test (Some s) is_first = is_first.lawful

-- a number is below m + 1 exactly if it is below m, or is m
one_more : (x m : ℕ) → nat_lt x (m + 1) ≡ (nat_lt x m || (nat_le m x && nat_le x m))
-- by whether `x` is below `m + 1` and whether `x` is below `m`
one_more x m = ⊎_elim
    (λ (below : x < m). lt-ltb x (m + 1) (omega arith) ∙ sym (or_left _ _ (lt-ltb x m below)))
    (λ (from_m : m ≤ x). ⊎_elim
    (λ (is_m : x < m + 1). lt-ltb x (m + 1) is_m
    ∙ sym (or_right _ _ (and_from _ _ (le-leb m x from_m) (le-leb x m (omega arith)))))
    (λ (past_m : m + 1 ≤ x). le-ltb x (m + 1) past_m ∙ sym (or_from _ _ (le-ltb x m from_m)
    (and_right (nat_le m x) (nat_le x m)
    (false_from_ne_true _ (λ at_most. let at_most_m = leb-true x m at_most in omega arith)))))
    (cases_lt x (m + 1)))
    (cases_lt x m)

-- A truth table: c the cube matches, u no cube of the list does, a the number is below m, b it is m, d it is below
-- m + 1. Left with a number below m + 1 is left with a lesser one, or left of the part with m.
shared : (c u a b d : Bool) → d ≡ (a || b) → ((c && u) && d) ≡ (((c && u) && a) || ((b && c) && u))
shared true true true b d split = split
shared true true false true d split = split
shared true true false false d split = split
shared true false true true d split = refl
shared true false true false d split = refl
shared true false false true d split = refl
shared true false false false d split = refl
shared false u true true d split = refl
shared false u true false d split = refl
shared false u false true d split = refl
shared false u false false d split = refl

-- given: a list of cubes, a cube, and the variable by whose numbers the cube is split
module _ (g : Graph) (order : List ℕ) (by : List (List Literal)) (cube : List Literal) (v : ℕ) where
  -- the literal that says that v has this number
  abbrev pub only : ℕ → Literal
  only m = record { variable = v; low = m; high = m }

  -- whether a scenario is left and has a number of v below m
  abbrev pub is_left_below : ℕ → Scenario → Bool
  is_left_below m s = is_left by cube s && nat_lt (number_of s v) m

  -- what is left with a number below m + 1 is left with a lesser one, or of the part with m
  grown : (m : ℕ) (s : Scenario) →
      is_left_below (m + 1) s ≡ (is_left_below m s || is_left by (narrowed_by (only m) cube) s)
  grown m s = shared (matches cube s) (not (list_any (λ b. matches b s) by)) (nat_lt (number_of s v) m)
      (holds s (only m)) (nat_lt (number_of s v) (m + 1)) (one_more (number_of s v) m)
      ∙ ap (λ b. is_left_below m s || (b && not (list_any (λ b. matches b s) by)))
      (sym (matches-narrowed s (only m) cube))

  -- nothing is left with a number below 0
  pub none_at_first : IsFirst g order (is_left_below 0) None
  none_at_first s lawful =
      and_right (is_left by cube s) (nat_lt (number_of s v) 0) (le-ltb (number_of s v) 0 (omega arith))

  -- if `found` is first of what is left with a number below m, and `next` with m itself, the earlier of both is first
  -- of what is left with a number below m + 1
  pub with_part : (m : ℕ) (found next : Option Scenario) → IsFirst g order (is_left_below m) found →
      IsFirst g order (is_left by (narrowed_by (only m) cube)) next →
      IsFirst g order (is_left_below (m + 1)) (earlier g order found next)
  with_part m found next found_first next_first =
      first_same g order (λ s. is_left_below m s || is_left by (narrowed_by (only m) cube) s)
      (is_left_below (m + 1)) (earlier g order found next) (λ s lawful. sym (grown m s))
      (first_or g order (is_left_below m) (is_left by (narrowed_by (only m) cube)) found next found_first next_first)

  -- if the cube can't have the number, what is found below it is first of what is left below the next
  pub without_part : (m : ℕ) (found : Option Scenario) → with_literal (only m) cube ≡ None →
      IsFirst g order (is_left_below m) found →
      IsFirst g order (is_left_below (m + 1)) found
  without_part m found no_part found_first = first_same g order (is_left_below m) (is_left_below (m + 1)) found
      (λ s lawful. sym (grown m s
      ∙ ap (λ b. is_left_below m s || b) (part_none g order by (only m) cube no_part s lawful)
      ∙ or-false (is_left_below m s))) found_first

  -- if no scenario of the cube with the number m is before what is found below m, what is found is first of what is left
  -- below m + 1
  pub late_part : (m : ℕ) (found : Option Scenario) → IsLate g order (narrowed_by (only m) cube) found →
      IsFirst g order (is_left_below m) found →
      IsFirst g order (is_left_below (m + 1)) found
  -- a scenario that is left below m + 1 is left below m, and so not before, or is of the part with m, which is late
  late_part m None late found_first = absurd late
  late_part m (Some s) late found_first = record {
    lawful = found_first.lawful;
    holds = grown m s ∙ or_left _ _ found_first.holds;
    least = λ t t_lawful left. ⊎_elim
        -- t has a number below m, or the number m: then it comes no earlier than s, by `late`
        (λ (lower : is_left_below m t ≡ true). found_first.least t t_lawful lower)
        (λ (of_part : is_left by (narrowed_by (only m) cube) t ≡ true).
        late t t_lawful (and_parts (matches (narrowed_by (only m) cube) t) _ of_part).0)
        (or_cases _ _ (sym (grown m t) ∙ left));
  }

  -- what is first below the number after the top is first of all that is left
  pub all_at_last : (few : process_count g ≤ 128) (found : Option Scenario) → IsVariable g v →
      IsFirst g order (is_left_below (top g.faults v + 1)) found →
      IsFirst g order (is_left by cube) found
  all_at_last few found known found_first =
      first_same g order (is_left_below (top g.faults v + 1)) (is_left by cube) found
      (λ s lawful. let below_top = number_within g few s lawful v known in ap (λ b. is_left by cube s && b)
      (lt-ltb (number_of s v) (top g.faults v + 1) (omega arith)) ∙ and-true (is_left by cube s)) found_first
