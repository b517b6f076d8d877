-- A literal on a variable above all others is put last.
use Rattle.std.proofs.Common.{ℕ, suc, ◌-◌, ◌<◌, ◌≤◌, ◌≡◌, ◌==◌, ne_eqb, List, [], ◌∷◌, ◌++◌, length, get_or, All, Some}
use Rattle.std.proofs.Common.{arith, refl, ap, ◌∙◌, subst, ⊎_elim}
use Rattle.std.specs.Prelude.{slice_get}
use Rattle.std.proofs.lemmas.Bool.{cases_lt, cond-false}
use Rattle.std.proofs.lemmas.Option.{get_or_from_slice_get}
use Rattle.std.proofs.lemmas.List.Elements.{All-contains}
use Rattle.cpg_base.proofs.Lists.{Contains-first}
use Rattle.cpg_cube.specs.Cube.{Literal, IsRising}
use Rattle.cpg_cube.specs.Narrow.{meet_literal, narrowed_by, range_left}
use Rattle.cpg_cube.proofs.Narrow.{narrowed-after}

-- if the last of some rising literals is on a variable below v, all of them are
pub all_under : (ms : List Literal) (v : ℕ) (m : Literal) → IsRising ms → slice_get ms (length ms - 1) ≡ Some m →
    m.variable < v →
    All (λ l. l.variable < v) ms
-- by whether the literal is the last one, which is below v, or an earlier one, whose variable is below that of the last
all_under ms v m rising is below_v k d inside =
    let last_is : get_or ms (length ms - 1) d ≡ m = get_or_from_slice_get ms (length ms - 1) m d is in
    let variable_is : (get_or ms (length ms - 1) d).variable ≡ m.variable = ap (λ (x : Literal). x.variable) last_is in
    ⊎_elim
    -- before the last one: its variable is lower, since they rise
    (λ (earlier : k < length ms - 1). let lower = rising k (length ms - 1) d earlier (omega (arith, inside)) in
    omega (arith, lower, variable_is, below_v))
    -- the literal is the last one itself
    (λ (is_last : length ms - 1 ≤ k). let same : length ms - 1 ≡ k = omega (arith, is_last, inside) in
    subst (λ i. (get_or ms i d).variable < v) same (omega (arith, variable_is, below_v)))
    (cases_lt k (length ms - 1))

-- given: a literal l
module _ (l : Literal) where
  -- the first of the literals is on a variable below that of l
  first_under : (m : Literal) (ms : List Literal) → All (λ n. n.variable < l.variable) (m ∷ ms) →
      m.variable < l.variable
  first_under m ms all = All-contains (λ n. n.variable < l.variable) (m ∷ ms) m all (Contains-first m ms)

  -- if all literals are on variables below that of l, so are all but the first
  rest_under : (m : Literal) (ms : List Literal) → All (λ n. n.variable < l.variable) (m ∷ ms) →
      All (λ n. n.variable < l.variable) ms
  rest_under m ms all k d inside = all (suc k) d (omega (arith, inside))

  -- a cube whose literals are all on lower variables leaves l its own range
  pub range_above : (ms : List Literal) → All (λ n. n.variable < l.variable) ms → range_left l ms ≡ l
  -- by induction on the literals
  range_above [] all = refl
  range_above (m ∷ ms) all =
      cond-false (l.variable == m.variable) (meet_literal l m) (range_left l ms)
      (ne_eqb l.variable m.variable (λ equal. let lower = first_under m ms all in omega (arith, equal, lower)))
      ∙ range_above ms (rest_under m ms all)

  -- narrowing by a literal above all others puts it last
  pub narrowed_above : (ms : List Literal) → All (λ n. n.variable < l.variable) ms → narrowed_by l ms ≡ ms ++ l ∷ []
  narrowed_above [] all = refl
  narrowed_above (m ∷ ms) all =
      narrowed-after l m ms (first_under m ms all) ∙ ap (λ ns. m ∷ ns) (narrowed_above ms (rest_under m ms all))
