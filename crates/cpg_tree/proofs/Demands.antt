-- No more faults are asked for than a scenario has.
use Rattle.std.proofs.Common.{arith, ℕ, ◌+◌, ◌-◌, ◌<◌, ◌≤◌, ◌≡◌, ◌≢◌, ◌==◌, true, cond, List, [], ◌∷◌, Contains, sum_by}
use Rattle.std.proofs.Common.{drop, nat_lt, get_or, length, ◌∙◌, refl, sym, ap, subst, inl, inr, lt-ltb}
use Rattle.std.proofs.Common.{le-ltb, eq-eqb, ne_eqb}
use Rattle.std.proofs.lemmas.Bool.{cases_lt, cond-true, cond-false}
use Rattle.std.proofs.lemmas.List.Sums.{sum_by-cons, sum_by-take-drop, sum_by-drop_more}
use Rattle.cpg_base.specs.Numbers.{numbers_below}
use Rattle.cpg_base.proofs.Lists.{Contains-first, Contains-rest, from_all}
use Rattle.cpg_base.proofs.NumbersOf.{number_of-fault}
use Rattle.cpg_base.proofs.Sums.{sum_changed}
use Rattle.cpg_base.specs.Scenario.{Scenario}
use Rattle.cpg_cube.specs.declared.literal.Literal.{Literal}
use Rattle.cpg_cube.specs.Cube.{IsRising, holds, matches}
use Rattle.cpg_cube.proofs.CubeLows.{holds-low}
use Rattle.cpg_cube.proofs.Ranges.{rising_rest, rising_first}
use Rattle.cpg_tree.specs.Space.{Space, IsInSpace, beyond, faults_of, asked_beyond}

-- the function f with 0 for the variable v
abbrev pub without : ℕ → (ℕ → ℕ) → ℕ → ℕ
without v f u = cond (u == v) 0 (f u)

-- `without` gives 0 for the variable itself
pub without_here : (v : ℕ) (f : ℕ → ℕ) → without v f v ≡ 0
without_here v f = cond-true (v == v) 0 (f v) (eq-eqb v v refl)

-- leaving out a variable leaves the others
pub without_other : (v u : ℕ) (f : ℕ → ℕ) → u ≢ v → without v f u ≡ f u
without_other v u f other = cond-false (u == v) 0 (f u) (ne_eqb u v other)

-- if each literal's weight is at most a number of its variable, and 0 from a variable on, the weights add up to no
-- more than the numbers
pub weights_le : (g : Literal → ℕ) (n : ℕ) (f : ℕ → ℕ) (ls : List Literal) → IsRising ls →
    ((l : Literal) → Contains ls l → l.variable < n → g l ≤ f l.variable) →
    ((l : Literal) → n ≤ l.variable → g l ≤ 0) → sum_by g ls ≤ sum_by f (numbers_below n)
-- by induction on the literals, and by whether `l.variable` is below `n`
weights_le g n f [] rising each none = omega arith
weights_le g n f (l ∷ ls) rising each none = elim (cases_lt l.variable n) [
  | inl few ↦
      let rest = weights_le g n (without l.variable f) ls (rising_rest l ls rising) (λ m listed below.
      subst (λ x. g m ≤ x) (sym (without_other l.variable m.variable f
      (λ same. omega (arith, same, rising_first l m ls rising listed)))) (each m (Contains-rest l ls m listed) below))
      none in
      let changed = sum_changed (without l.variable f) f n l.variable few
      (λ u other. without_other l.variable u f other) in
      omega (arith, rest, changed, without_here l.variable f, each l (Contains-first l ls) few, sum_by-cons g l ls)
  | inr many ↦
      let rest = weights_le g n f ls (rising_rest l ls rising)
      (λ m listed below. each m (Contains-rest l ls m listed) below) none in
      omega (arith, rest, none l many, sum_by-cons g l ls)
]

-- given: a space
module _ (space : Space) where
  -- given: a scenario of the space that matches literals on rising variables
  module _ (s : Scenario) (lies : IsInSpace space s) (ls : List Literal) (rising : IsRising ls)
      (all : matches ls s ≡ true) where
    -- a matching literal on a count asks for no more beyond the low than the scenario has beyond it
    beyond_le : (l : Literal) → Contains ls l → l.variable < 128 → asked_beyond space l ≤ beyond space s l.variable
    beyond_le l listed few =
        let low = holds-low s l (from_all (holds s) ls l all listed) in
        omega (
          arith,
          low,
          number_of-fault s l.variable few,
          cond-true (nat_lt l.variable 128) (l.low - get_or space.low l.variable 0) 0 (lt-ltb l.variable 128 few),
        )

    -- from any place on, the literals of a cube that matches ask for no more faults beyond the lows than the space
    -- has left
    pub demands_left : (from : ℕ) → sum_by (asked_beyond space) (drop from ls) ≤ space.left
    demands_left from =
        let all_of = weights_le (asked_beyond space) 128 (beyond space s) ls rising beyond_le
        (λ l many. omega (
          arith,
          cond-false (nat_lt l.variable 128) (l.low - get_or space.low l.variable 0) 0 (le-ltb l.variable 128 many),
        )) in
        omega (arith, all_of, lies.left, sum_by-take-drop (asked_beyond space) ls from)

  -- given: the next literal and the faults that it asks for, and enough faults left for it and all behind it
  module _ (ls : List Literal) (at : ℕ) (d : Literal) (there : at < length ls) (left low more : ℕ)
      (low_is : low ≡ (get_or ls at d).low - get_or space.low (get_or ls at d).variable 0)
      (more_is : more ≡ faults_of (get_or ls at d).variable low)
      (most : sum_by (asked_beyond space) (drop at ls) ≤ left) where
    -- what the literal asks for beyond the space
    this_one : more ≡ asked_beyond space (get_or ls at d)
    this_one = more_is ∙ ap (faults_of (get_or ls at d).variable) low_is

    -- the faults that the next literal asks for are left
    pub demand_fits : more ≤ left
    demand_fits = omega (arith, this_one, sum_by-drop_more (asked_beyond space) ls at d there, most)

    -- the other literals ask for no more than is left then
    pub demand_rest : sum_by (asked_beyond space) (drop (at + 1) ls) ≤ left - more
    demand_rest = omega (arith, this_one, sum_by-drop_more (asked_beyond space) ls at d there, most)
