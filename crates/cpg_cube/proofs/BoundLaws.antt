-- What the bounds of a cube say about another cube: whether the two meet, and whether the first lies within the other.
use Rattle.std.proofs.Common.{ℕ, ◌+◌, ◌-◌, ◌<◌, ◌≤◌, ◌≡◌, ◌⊎◌, min, true, cond, not, ◌&&◌, ◌||◌, ◌==◌, List, [], ◌∷◌}
use Rattle.std.proofs.Common.{get_or, map, sum_by, Contains, arith, refl, sym, ap, ap₂, ◌∙◌, ⊎_elim, inl, inr}
use Rattle.std.proofs.Common.{lt-ltb, le-ltb, le-leb, leb-true, eq-eqb, ne_eqb}
use Rattle.std.specs.Prelude.{nat_lt, nat_le, is_some}
use Rattle.std.specs.List.{list_all}
use Rattle.std.proofs.lemmas.Bool.{cases_eq, cases_lt, cond-true, cond-false, and_parts, and_from}
use Rattle.std.proofs.lemmas.List.Elements.{All-contains, All-map}
use Rattle.cpg_base.specs.Numbers.{numbers_below}
use Rattle.cpg_base.specs.Graph.{Graph, process_count, condition_count, IsVariable}
use Rattle.cpg_base.proofs.Lists.{Contains-first, Contains-rest, Contains-cases, Contains-nil, from_all, all_from}
use Rattle.cpg_base.proofs.Lists.{same_truth, same_all}
use Rattle.cpg_base.proofs.Pairs.{AllPairs-map}
use Rattle.cpg_base.proofs.Sums.{same_sum_by, sum_by-add, sum_by-map}
use Rattle.cpg_cube.specs.Cube.{Literal, IsRising, low_in, high_in}
use Rattle.cpg_base.specs.Variable.{top}
use Rattle.cpg_cube.specs.Fit.{IsCube, asked_of_literal, asked_faults, is_open, is_met, both_low, reaches, do_meet}
use Rattle.cpg_cube.specs.Fit.{most_in, bounds, is_within}
use Rattle.cpg_cube.specs.Bounds.{bound_in, AreBounds, budget_left, touches, more_asked, spans}
use Rattle.cpg_cube.proofs.Ranges.{rising_rest, rising_first, range_of_literal}
use Rattle.cpg_cube.proofs.Boxes.{top_of_count, top_of_value}
use Rattle.cpg_cube.proofs.CubeLows.{budget_of_cube}
use Rattle.cpg_cube.proofs.Budgets.{budget_is}
use Rattle.cpg_cube.proofs.BoundSteps.{low_here, low_else, bound_here, bound_else}

-- ---- A low or a bound is that of a literal, or that of the whole range.

-- the low of a variable is 0 or that of a literal on the variable
pub low_of_some : (ls : List Literal) (v : ℕ) →
    (low_in ls v ≡ 0) ⊎ ((m : Literal) × Contains ls m × (m.variable ≡ v) × (low_in ls v ≡ m.low))
-- by induction on the literals, and by whether `l.variable` is `v`
low_of_some [] v = inl refl
low_of_some (l ∷ ls) v = ⊎_elim
    -- the first literal is on v, and the low is its low
    (λ (same : l.variable ≡ v). inr (l, Contains-first l ls, same, low_here l v ls same))
    -- the first literal is on another variable: the low is that of the rest, which is 0 or one of the rest's lows
    (λ (other : l.variable ≡ v → ⊥). ⊎_elim
    (λ (is_zero : low_in ls v ≡ 0). inl (low_else l v ls other ∙ is_zero))
    (λ (found : (m : Literal) × Contains ls m × (m.variable ≡ v) × (low_in ls v ≡ m.low)).
    inr (found.0, Contains-rest l ls found.0 found.1, found.2, low_else l v ls other ∙ found.3))
    (low_of_some ls v))
    (cases_eq l.variable v)

-- the bound and the high of a variable are 255 and its top, or both the high of a literal on it
bound_of_some : (k : ℕ) (ls : List Literal) (v : ℕ) →
    ((bound_in ls v ≡ 255) × (low_in ls v ≡ 0) × (high_in k ls v ≡ top k v)) ⊎
    ((m : Literal) × Contains ls m × (m.variable ≡ v) × (bound_in ls v ≡ m.high) × (high_in k ls v ≡ m.high))
-- by induction on the literals, and by whether `l.variable` is `v`
bound_of_some k [] v = inl (refl, refl, refl)
bound_of_some k (l ∷ ls) v = ⊎_elim
    -- the first literal is on the variable, and is the one that bounds it
    (λ (same : l.variable ≡ v). inr (
      l,
      Contains-first l ls,
      same,
      bound_here l v ls same,
      cond-true (l.variable == v) l.high (high_in k ls v) (eq-eqb l.variable v same),
    ))
    -- the first literal is on another variable, so the bound is that of the rest
    (λ (other : l.variable ≡ v → ⊥).
    let high = cond-false (l.variable == v) l.high (high_in k ls v) (ne_eqb l.variable v other) in
    ⊎_elim
    (λ (unbounded : (bound_in ls v ≡ 255) × (low_in ls v ≡ 0) × (high_in k ls v ≡ top k v)).
    inl (bound_else l v ls other ∙ unbounded.0, low_else l v ls other ∙ unbounded.1, high ∙ unbounded.2))
    (λ (found : (m : Literal) × Contains ls m × (m.variable ≡ v) × (bound_in ls v ≡ m.high) ×
    (high_in k ls v ≡ m.high)).
    inr (found.0, Contains-rest l ls found.0 found.1, found.2, bound_else l v ls other ∙ found.3, high ∙ found.4))
    (bound_of_some k ls v))
    (cases_eq l.variable v)

-- the bound of a literal's variable in a rising cube is the high of the literal
pub bound_of_literal : (cube : List Literal) (l : Literal) → IsRising cube → Contains cube l →
    bound_in cube l.variable ≡ l.high
-- by induction on the literals
bound_of_literal [] l rises member = absurd (Contains-nil l member)
bound_of_literal (m ∷ ms) l rises member = ⊎_elim
    (λ (same : m ≡ l). bound_here m l.variable ms (ap (λ (n : Literal). n.variable) same)
    ∙ ap (λ (n : Literal). n.high) same)
    (λ (in_rest : Contains ms l). let above = rising_first m l ms rises in_rest in
    bound_else m l.variable ms (λ equal. omega arith) ∙ bound_of_literal ms l (rising_rest m ms rises) in_rest)
    (Contains-cases m ms l member)

-- ---- the sum of the greater lows

-- the literal with its low less the cube a's low of its variable: what it asks for beyond that low
raised : List Literal → Literal → Literal
raised a l = record { variable = l.variable; low = l.low - low_in a l.variable; high = l.high }

-- the low of v in the raised literals of `ls` is how far the low of `ls` is above that of `a`, and else 0
low_raised : (a ls : List Literal) (v : ℕ) → low_in (map (raised a) ls) v ≡ low_in ls v - low_in a v
unfolding raised
-- by induction on the literals, and by whether `l.variable` is `v`
low_raised a [] v = let zero : 0 ≡ 0 - low_in a v = omega arith in zero
low_raised a (l ∷ ls) v = ⊎_elim
    (λ (same : l.variable ≡ v). low_here (raised a l) v (map (raised a) ls) same
    ∙ ap₂ ◌-◌ (sym (low_here l v ls same)) (ap (low_in a) same))
    (λ (other : l.variable ≡ v → ⊥). low_else (raised a l) v (map (raised a) ls) other ∙ low_raised a ls v
    ∙ ap (λ x. x - low_in a v) (sym (low_else l v ls other)))
    (cases_eq l.variable v)

-- given: a cube a of a graph, and its bounds
module _ (g : Graph) (few : process_count g ≤ 128) (a : List Literal) (is_a : IsCube g a) (lows highs : List ℕ)
    (are : AreBounds a lows highs) where
  -- the raised literals are a cube of the graph, on the same variables
  raised_is : (b : List Literal) → IsCube g b → IsCube g (map (raised a) b)
  unfolding raised
  raised_is b is = record {
    rising = AllPairs-map (λ (l m : Literal). l.variable < m.variable) (λ (l m : Literal). l.variable < m.variable)
        (raised a) b (λ l m rise. rise) is.rising;
    known = All-map (λ l. IsVariable g l.variable) (raised a) b is.known;
  }

  -- a raised literal asks for the faults that the literal asks for beyond its variable's low; a value for none
  more_of_raised : (l : Literal) → asked_of_literal (raised a l) ≡ more_asked lows l
  unfolding raised
  -- a count asks for its raised low, which is what it asks beyond the other's; a value asks for none
  more_of_raised l = ⊎_elim
      (λ (is_count : l.variable < 128). let low_is = are.low l.variable (omega arith) in
      cond-true (nat_lt l.variable 128) (l.low - low_in a l.variable) 0 (lt-ltb l.variable 128 is_count)
      ∙ ap (λ n. l.low - n) (sym low_is)
      ∙ sym (cond-true (nat_lt l.variable 128) (l.low - get_or lows l.variable 0) 0 (lt-ltb l.variable 128 is_count)))
      (λ (is_value : 128 ≤ l.variable).
      cond-false (nat_lt l.variable 128) (l.low - low_in a l.variable) 0 (le-ltb l.variable 128 is_value)
      ∙ sym (cond-false (nat_lt l.variable 128) (l.low - get_or lows l.variable 0) 0 (le-ltb l.variable 128 is_value)))
      (cases_lt l.variable 128)

  -- the greater lows of the cubes a and b add up to what a asks for and what b asks for beyond a's lows
  pub sum_of_both : (b : List Literal) → IsCube g b →
      sum_by (both_low a b) (numbers_below (process_count g)) ≡ asked_faults a + sum_by (more_asked lows) b
  -- the greater of two lows is the first and what the second is above it; each part is summed up over the literals
  sum_of_both b is =
      same_sum_by (both_low a b) (λ v. low_in a v + low_in (map (raised a) b) v) (numbers_below (process_count g))
      (λ v member. let raised_low = low_raised a b v in omega arith)
      ∙ sum_by-add (low_in a) (low_in (map (raised a) b)) (numbers_below (process_count g))
      ∙ ap₂ ◌+◌ (budget_of_cube g few a is_a)
      (budget_of_cube g few (map (raised a) b) (raised_is b is)
      ∙ sum_by-map asked_of_literal (raised a) b
      ∙ same_sum_by (λ l. asked_of_literal (raised a l)) (more_asked lows) b (λ l member. more_of_raised l))

  -- ---- two cubes

  -- given: the cube a is met, and leaves `left` faults; and another cube b
  module _ (small : condition_count g ≤ 32) (limit : g.faults ≤ 255) (met : is_met g.faults a ≡ true) (left : ℕ)
      (rest : left + asked_faults a ≡ g.faults) (b : List Literal) (is_b : IsCube g b) where
    -- each variable of b is below 256
    is_small : (l : Literal) → Contains b l → l.variable < 256
    is_small l member = ⊎_elim
        (λ (is_count : l.variable < process_count g). omega arith)
        (λ (is_value : (128 ≤ l.variable) × (l.variable < 128 + condition_count g)). omega (arith, is_value.1))
        (All-contains (λ m. IsVariable g m.variable) b l is_b.known member)

    -- no variable has a top above 255
    top_small : (v : ℕ) → top g.faults v ≤ 255
    -- the top of a count is the graph's faults, of which there are few; that of a value is 1
    top_small v = ⊎_elim
        (λ (is_count : v < 128). let top_is = top_of_count g.faults v is_count in omega arith)
        (λ (is_value : 128 ≤ v). let top_is = top_of_value g.faults v is_value in omega arith)
        (cases_lt v 128)

    -- no literal of the first cube is empty
    open_first : (l : Literal) → Contains a l → is_open g.faults l ≡ true
    open_first l member = from_all (is_open g.faults) a l
        (and_parts (list_all (is_open g.faults) a) (nat_le (asked_faults a) g.faults) met).0 member

    -- a literal of b that touches the range of its variable can hold, and shares a number with a's range
    touch_parts : (l : Literal) → Contains b l → touches g.faults lows highs l ≡ true →
        (is_open g.faults l ≡ true) × (low_in a l.variable ≤ l.high) × (l.low ≤ bound_in a l.variable)
    -- the three tests of `touches`, with the low and the bound that the lists have for the variable
    touch_parts l member touched =
        let parts = and_parts (is_open g.faults l && nat_le (get_or lows l.variable 0) l.high)
        (nat_le l.low (get_or highs l.variable 0)) touched in
        let first_parts = and_parts (is_open g.faults l) (nat_le (get_or lows l.variable 0) l.high) parts.0 in
        let low_below = leb-true (get_or lows l.variable 0) l.high first_parts.1 in
        let high_above = leb-true l.low (get_or highs l.variable 0) parts.1 in
        let low_is = are.low l.variable (is_small l member) in
        let high_is = are.high l.variable (is_small l member) in
        (first_parts.0, omega arith, omega arith)

    -- the cubes meet if each literal of b touches the range of its variable and asks for no more than the faults left
    meet_from_touch : list_all (touches g.faults lows highs) b ≡ true → sum_by (more_asked lows) b ≤ left →
        do_meet g a b ≡ true
    -- the literals of a reach b's lows (0, or the low of a literal that touches), those of b reach a's, and the greater
    -- lows are within the faults
    meet_from_touch touched few_asked = and_from _ _
        (and_from _ _
        (all_from (reaches g.faults b) a
        (λ l member. and_from _ _ (open_first l member) (le-leb (low_in b l.variable) l.high (⊎_elim
        (λ (is_zero : low_in b l.variable ≡ 0). omega arith)
        (λ (found : (m : Literal) × Contains b m × (m.variable ≡ l.variable) × (low_in b l.variable ≡ m.low)).
        let low_below = (touch_parts found.0 found.1
        (from_all (touches g.faults lows highs) b found.0 touched found.1)).2 in
        let bound_is = ap (bound_in a) found.2 ∙ bound_of_literal a l is_a.rising member in
        let low_is = found.3 in
        omega arith)
        (low_of_some b l.variable)))))
        (all_from (reaches g.faults a) b (λ l member.
        let parts = touch_parts l member (from_all (touches g.faults lows highs) b l touched member) in
        and_from _ _ parts.0 (le-leb (low_in a l.variable) l.high parts.1))))
        (le-leb _ _ (let sum_is = sum_of_both b is_b in omega arith))

    -- if the cubes meet, each literal of b touches the range of its variable, and they ask for no more than is left
    touch_from_meet : do_meet g a b ≡ true →
        (list_all (touches g.faults lows highs) b ≡ true) × (sum_by (more_asked lows) b ≤ left)
    touch_from_meet meets =
        -- as the cubes meet, each one's literals reach the lows of the other, and the greater lows fit the faults
        let parts = and_parts (list_all (reaches g.faults b) a && list_all (reaches g.faults a) b)
        (nat_le (sum_by (both_low a b) (numbers_below (process_count g))) g.faults) meets in
        let reach_both = and_parts (list_all (reaches g.faults b) a) (list_all (reaches g.faults a) b) parts.0 in
        let few_asked = leb-true _ _ parts.1 in
        let sum_is = sum_of_both b is_b in (
          all_from (touches g.faults lows highs) b (λ l member.
              -- one literal of b: its range is open, and reaches the first cube's low
              let reach_parts = and_parts (is_open g.faults l) (nat_le (low_in a l.variable) l.high)
              (from_all (reaches g.faults a) b l reach_both.1 member) in
              let low_reached = leb-true (low_in a l.variable) l.high reach_parts.1 in
              let below_top = leb-true l.low (top g.faults l.variable)
              (and_parts (nat_le l.low l.high) (nat_le l.low (top g.faults l.variable)) reach_parts.0).1 in
              let top_bound = top_small l.variable in
              let low_is = are.low l.variable (is_small l member) in
              let high_is = are.high l.variable (is_small l member) in
              -- its low is within the first cube's bound, whether a literal stands there or not
              let below : l.low ≤ bound_in a l.variable = ⊎_elim
              (λ (unbounded : (bound_in a l.variable ≡ 255) × (low_in a l.variable ≡ 0) ×
              (high_in g.faults a l.variable ≡ top g.faults l.variable)).
              let bound_is = unbounded.0 in
              omega arith)
              (λ (found : (m : Literal) × Contains a m × (m.variable ≡ l.variable) × (bound_in a l.variable ≡ m.high) ×
              (high_in g.faults a l.variable ≡ m.high)).
              let reached_low = leb-true (low_in b found.0.variable) found.0.high (and_parts (is_open g.faults found.0)
              (nat_le (low_in b found.0.variable) found.0.high)
              (from_all (reaches g.faults b) a found.0 reach_both.0 found.1)).1 in
              let low_of_b = ap (low_in b) found.2 ∙ (range_of_literal g.faults b l is_b.rising member).0 in
              let bound_is = found.3 in
              omega arith)
              (bound_of_some g.faults a l.variable) in
              and_from _ _ (and_from _ _ reach_parts.0 (le-leb (get_or lows l.variable 0) l.high (omega arith)))
              (le-leb l.low (get_or highs l.variable 0) (omega arith))),
          omega arith,
        )

    -- the other fits beside the bounds exactly if the cubes meet
    pub fits_is_meet : is_some (budget_left (touches g.faults lows highs) (more_asked lows) left b) ≡ do_meet g a b
    fits_is_meet = budget_is (touches g.faults lows highs) (more_asked lows) left b ∙ same_truth
        (list_all (touches g.faults lows highs) b && nat_le (sum_by (more_asked lows) b) left) (do_meet g a b)
        (λ tests. let parts = and_parts _ _ tests in meet_from_touch parts.0 (leb-true _ _ parts.1))
        (λ meets. let touch = touch_from_meet meets in and_from _ _ touch.0 (le-leb _ _ touch.1))

    -- ---- within the other

    -- the most that the bounds leave a variable of b is the most that it can have in a; by kind: a count or a value
    most_is : (l : Literal) → Contains b l →
        min (get_or highs l.variable 0) (cond (nat_lt l.variable 128) (get_or lows l.variable 0 + left) 1)
        ≡ most_in g.faults a l.variable
    -- a count is bounded by its low and the faults left, a value by 1
    most_is l member =
        -- the low and the bound of the variable, as the lists have them
        let low_is = are.low l.variable (is_small l member) in
        let high_is = are.high l.variable (is_small l member) in
        ⊎_elim
        -- a count: its bound, or its low and the faults that are left
        (λ (is_count : l.variable < 128).
        let allowed_is = cond-true (nat_lt l.variable 128) (get_or lows l.variable 0 + left) 1
        (lt-ltb l.variable 128 is_count) in
        let allowed_in_a = cond-true (nat_lt l.variable 128) (low_in a l.variable + (g.faults - asked_faults a)) 1
        (lt-ltb l.variable 128 is_count) in
        let top_is = top_of_count g.faults l.variable is_count in
        ap₂ min high_is allowed_is ∙ (⊎_elim
        (λ (unbounded : (bound_in a l.variable ≡ 255) × (low_in a l.variable ≡ 0) ×
        (high_in g.faults a l.variable ≡ top g.faults l.variable)).
        let bound_is = unbounded.0 in let low_zero = unbounded.1 in let high_is_top = unbounded.2 in omega arith)
        (λ (found : (m : Literal) × Contains a m × (m.variable ≡ l.variable) × (bound_in a l.variable ≡ m.high) ×
        (high_in g.faults a l.variable ≡ m.high)).
        let bound_is = found.3 in let high_of_a = found.4 in omega arith)
        (bound_of_some g.faults a l.variable)) ∙ ap (min (high_in g.faults a l.variable)) (sym allowed_in_a))
        -- a value: its bound, or 1
        (λ (is_value : 128 ≤ l.variable).
        let allowed_is = cond-false (nat_lt l.variable 128) (get_or lows l.variable 0 + left) 1
        (le-ltb l.variable 128 is_value) in
        let allowed_in_a = cond-false (nat_lt l.variable 128) (low_in a l.variable + (g.faults - asked_faults a)) 1
        (le-ltb l.variable 128 is_value) in
        let top_is = top_of_value g.faults l.variable is_value in
        ap₂ min high_is allowed_is ∙ (⊎_elim
        (λ (unbounded : (bound_in a l.variable ≡ 255) × (low_in a l.variable ≡ 0) ×
        (high_in g.faults a l.variable ≡ top g.faults l.variable)).
        let bound_is = unbounded.0 in let high_is_top = unbounded.2 in omega arith)
        (λ (found : (m : Literal) × Contains a m × (m.variable ≡ l.variable) × (bound_in a l.variable ≡ m.high) ×
        (high_in g.faults a l.variable ≡ m.high)).
        let bound_is = found.3 in let high_of_a = found.4 in omega arith)
        (bound_of_some g.faults a l.variable)) ∙ ap (min (high_in g.faults a l.variable)) (sym allowed_in_a))
        (cases_lt l.variable 128)

    -- every literal of the other cube spans the bounds exactly if the cube lies within the other
    pub spans_is_within : list_all (spans lows highs left) b ≡ is_within g.faults a b
    spans_is_within =
        same_all (spans lows highs left) (bounds g.faults a) b
        (λ l member. ap₂ (λ x y. nat_le l.low x && nat_le y l.high) (are.low l.variable (is_small l member))
        (most_is l member))
        ∙ sym (ap (λ m. not m || list_all (bounds g.faults a) b) met)
