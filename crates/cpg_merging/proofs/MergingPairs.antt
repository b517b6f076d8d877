-- Two cubes that touch at a variable, made one: that matches what either matches, and no scenario matches both.
use Rattle.std.proofs.Common.{ℕ, ◌<◌, ◌≤◌, ◌≡◌, ◌≢◌, ◌⊎◌, true, false, not, List, [], ◌∷◌, Contains, All, arith, refl}
use Rattle.std.proofs.Common.{sym, ◌∙◌, subst, ⊎_elim, inl, inr, leb-true}
use Rattle.std.specs.Prelude.{nat_le}
use Rattle.std.specs.List.{list_all}
use Rattle.std.proofs.lemmas.Bool.{cases_eq, cases_lt, and_parts, not-true}
use Rattle.std.proofs.lemmas.List.Elements.{All-contains, All-filter, All-tail, All-head}
use Rattle.std.proofs.lemmas.List.Kept.{AllPairs-filter}
use Rattle.cpg_base.specs.Graph.{Graph, process_count, IsVariable}
use Rattle.cpg_base.proofs.Lists.{from_all, all_from, same_truth, Contains-filter_parts}
use Rattle.cpg_merging.proofs.MergingCubes.{All-from_each, shorn-low, shorn-high, raised-low, raised-high}
use Rattle.cpg_merging.proofs.MergingCubes.{raised-high_here, raised-rising, raised-all, raised-within}
use Rattle.cpg_base.specs.Scenario.{Scenario, IsScenario, number_of}
use Rattle.cpg_cube.specs.declared.literal.Literal.{Literal}
use Rattle.cpg_cube.specs.Cube.{IsRising, matches, holds, low_in, high_in, is_whole}
use Rattle.cpg_base.specs.Variable.{top}
use Rattle.cpg_cube.specs.Fit.{IsCube, is_open, is_met, asked_faults, lows}
use Rattle.cpg_cube.proofs.Ranges.{IsNarrow, high_in-here, high_in-later, range_of_literal}
use Rattle.cpg_cube.proofs.Boxes.{number_within}
use Rattle.cpg_cube.proofs.CubeLows.{holds-from, low_in-le, met_by, lows-lawful, lows-match}
use Rattle.cpg_cube.proofs.Within.{high_in-ge, low_in-high}
use Rattle.cpg_merging.specs.Merged.{IsWider}
use Rattle.cpg_merging.specs.Merging.{shorn, raised, TouchAt}

-- a cube of the graph that some scenario matches, with no literal of the whole range or past it
pub record IsGood (g : Graph) (literals : List Literal) : Type 0 where
  -- its literals are on variables of the graph, in rising order
  pub cube : IsCube g literals
  -- no literal has the whole range of its variable or goes past it
  pub narrow : IsNarrow g.faults literals
  -- some scenario of the graph matches it
  pub met : is_met g.faults literals ≡ true

-- if no literal goes past the whole range of its variable, no high of the cube does
pub high_in-top : (k : ℕ) (ls : List Literal) → All (λ l. l.high ≤ top k l.variable) ls → (v : ℕ) →
    high_in k ls v ≤ top k v
-- by induction on the literals: the first is on v, and gives the high, or the rest does
high_in-top k [] within v = omega arith
high_in-top k (l ∷ ls) within v = ⊎_elim
    (λ (same : l.variable ≡ v). subst (λ u. high_in k (l ∷ ls) u ≤ top k u) same
    (let high_is = high_in-here k l ls l.variable refl in
    let below_top = All-head (λ (m : Literal). m.high ≤ top k m.variable) l ls within in
    omega arith))
    (λ (other : l.variable ≢ v). let high_is = high_in-later k l ls v other in
    let below_top = high_in-top k ls (All-tail (λ (m : Literal). m.high ≤ top k m.variable) l ls within) v in
    omega arith)
    (cases_eq l.variable v)

-- a cube that some scenario matches has no empty range
pub low-le-high : (k : ℕ) (cube : List Literal) → is_met k cube ≡ true → (v : ℕ) → low_in cube v ≤ high_in k cube v
low-le-high k cube met v = low_in-high k cube v (λ l member.
    let parts = and_parts (list_all (is_open k) cube) (nat_le (asked_faults cube) k) met in
    let open_l = from_all (is_open k) cube l parts.0 member in
    leb-true l.low l.high (and_parts (nat_le l.low l.high) (nat_le l.low (top k l.variable)) open_l).0)

-- each cube is at least as wide as itself
pub wider_itself : (k : ℕ) (a : List Literal) → IsWider k a a
wider_itself k a = λ v. (omega arith, omega arith)

-- if a is at least as wide as b, and b as c, a is at least as wide as c
pub wider_through : (k : ℕ) (a b c : List Literal) → IsWider k a b → IsWider k b c → IsWider k a c
wider_through k a b c over_b over_c = λ v. let from_a = over_b v in let from_b = over_c v in (omega arith, omega arith)

-- a cube without its literals of the whole range allows all that the cube does
pub shorn_wider : (k : ℕ) (cube : List Literal) → IsRising cube → IsWider k (shorn k cube) cube
shorn_wider k cube rises = λ v. let low_is = shorn-low k cube rises v in let high_is = shorn-high k cube rises v in
    (omega arith, omega arith)

-- a cube allows all that it does without its literals of the whole range
pub wider_shorn : (k : ℕ) (cube : List Literal) → IsRising cube → IsWider k cube (shorn k cube)
wider_shorn k cube rises = λ v. let low_is = shorn-low k cube rises v in let high_is = shorn-high k cube rises v in
    (omega arith, omega arith)

-- without its literals of the whole range a cube still rises
pub shorn_rising : (k : ℕ) (cube : List Literal) → IsRising cube → IsRising (shorn k cube)
shorn_rising k cube rises =
    AllPairs-filter (λ (l m : Literal). l.variable < m.variable) (λ l. not (is_whole k l)) cube rises

-- what holds of all literals of a cube holds of those that aren't of the whole range
pub shorn_all : (k : ℕ) (P : Literal → Type 0) (cube : List Literal) → All P cube → All P (shorn k cube)
shorn_all k P cube all = All-filter (λ l. not (is_whole k l)) P cube all

-- a cube without its literals of the whole range has none that has the whole range of its variable or goes past it
pub shorn_narrow : (k : ℕ) (cube : List Literal) → All (λ l. l.high ≤ top k l.variable) cube → IsNarrow k (shorn k cube)
shorn_narrow k cube within =
    All-from_each {P = λ l. (is_whole k l ≡ false) × (l.high ≤ top k l.variable)} (shorn k cube) (λ l member.
    let parts = Contains-filter_parts (λ m. not (is_whole k m)) cube l member in
    (not-true (is_whole k l) parts.1, All-contains (λ (m : Literal). m.high ≤ top k m.variable) cube l within parts.0))

-- given: a graph of at most 128 processes
module _ (g : Graph) (few : process_count g ≤ 128) where
  -- a rising cube matches a scenario if its range of each literal's variable has the scenario's number
  pub matches_in_ranges : (cube : List Literal) (s : Scenario) → IsRising cube
      → ((l : Literal) → Contains cube l → (low_in cube l.variable ≤ number_of s l.variable) ×
      (number_of s l.variable ≤ high_in g.faults cube l.variable)) → matches cube s ≡ true
  matches_in_ranges cube s rises in_range = all_from (holds s) cube (λ l member.
      let range_is = range_of_literal g.faults cube l rises member in
      let number_in = in_range l member in
      holds-from s l (omega arith) (omega arith))

  -- if a cube matches a scenario, its range of each variable has the scenario's number
  pub ranges_of_match : (cube : List Literal) (s : Scenario) → IsScenario g s → matches cube s ≡ true → (v : ℕ) →
      IsVariable g v →
      (low_in cube v ≤ number_of s v) ×
      (number_of s v ≤ high_in g.faults cube v)
  ranges_of_match cube s lawful matched v known =
      (low_in-le cube s v matched, high_in-ge g.faults cube s v (number_within g few s lawful v known) matched)

  -- a cube that allows all that another one does matches what that one matches
  pub matches_wider : (a b : List Literal) (s : Scenario) → IsScenario g s → IsCube g a → IsWider g.faults a b →
      matches b s ≡ true →
      matches a s ≡ true
  matches_wider a b s lawful is wider matched = matches_in_ranges a s is.rising (λ l member.
      let number_in =
      ranges_of_match b s lawful matched l.variable
      (All-contains (λ (m : Literal). IsVariable g m.variable) a l is.known member) in
      let wider_here = wider l.variable in
      (omega arith, omega arith))

  -- without its whole literals a cube is still one of the graph
  pub cube_shorn : (cube : List Literal) → IsCube g cube → IsCube g (shorn g.faults cube)
  cube_shorn cube is = record {
    rising = shorn_rising g.faults cube is.rising;
    known = shorn_all g.faults (λ l. IsVariable g l.variable) cube is.known;
  }

  -- leaving out the whole literals leaves what a cube matches as it was
  pub matches_shorn : (cube : List Literal) (s : Scenario) → IsScenario g s → IsCube g cube →
      matches (shorn g.faults cube) s ≡ matches cube s
  matches_shorn cube s lawful is = same_truth (matches (shorn g.faults cube) s) (matches cube s)
      (matches_wider cube (shorn g.faults cube) s lawful is (wider_shorn g.faults cube is.rising))
      (matches_wider (shorn g.faults cube) cube s lawful (cube_shorn cube is) (shorn_wider g.faults cube is.rising))

  -- a cube that scenario s matches is good without its whole literals
  pub good_shorn : (cube : List Literal) (s : Scenario) → IsScenario g s → matches cube s ≡ true → IsCube g cube →
      All (λ l. l.high ≤ top g.faults l.variable) cube →
      IsGood g (shorn g.faults cube)
  good_shorn cube s lawful matched is within = record {
    cube = cube_shorn cube is;
    narrow = shorn_narrow g.faults cube within;
    met = met_by g few (shorn g.faults cube) (cube_shorn cube is) s lawful (matches_shorn cube s lawful is ∙ matched);
  }

  -- ---- two that touch

  -- given: two good cubes, a and b, that touch at variable v
  module _ (v : ℕ) (a b : List Literal) (good_a : IsGood g a) (good_b : IsGood g b)
      (touch : TouchAt g.faults v a b) where
    -- a with its range of v extended to the end of b's
    abbrev wide : List Literal
    wide = raised v (high_in g.faults b v) a

    -- the two made one: that cube without literals of the whole range
    abbrev pub both : List Literal
    both = shorn g.faults wide

    -- no literal of a goes past the top of its variable
    within_a : All (λ l. l.high ≤ top g.faults l.variable) a
    within_a = All-from_each {P = λ l. l.high ≤ top g.faults l.variable} a
        (λ l member. (All-contains
        (λ (m : Literal). (is_whole g.faults m ≡ false) × (m.high ≤ top g.faults m.variable)) a l
        good_a.narrow member).1)

    -- no literal of b goes past the top of its variable
    within_b : All (λ l. l.high ≤ top g.faults l.variable) b
    within_b = All-from_each {P = λ l. l.high ≤ top g.faults l.variable} b
        (λ l member. (All-contains
        (λ (m : Literal). (is_whole g.faults m ≡ false) × (m.high ≤ top g.faults m.variable)) b l
        good_b.narrow member).1)

    -- no low of a is above its high
    open_a : (u : ℕ) → low_in a u ≤ high_in g.faults a u
    open_a u = low-le-high g.faults a good_a.met u

    -- no low of b is above its high
    open_b : (u : ℕ) → low_in b u ≤ high_in g.faults b u
    open_b u = low-le-high g.faults b good_b.met u

    -- the extended cube rises
    rising_wide : IsRising wide
    rising_wide = raised-rising v (high_in g.faults b v) a good_a.cube.rising

    -- the extended cube is one of the graph
    cube_wide : IsCube g wide
    cube_wide =
        record { rising = rising_wide; known = raised-all v (high_in g.faults b v) (IsVariable g) a good_a.cube.known }

    -- the two made one have the lows of a
    pub both-low : (u : ℕ) → low_in both u ≡ low_in a u
    both-low u = shorn-low g.faults wide rising_wide u ∙ raised-low v (high_in g.faults b v) a u

    -- of each variable but v the two made one have the high of a
    pub both-high : (u : ℕ) → u ≢ v → high_in g.faults both u ≡ high_in g.faults a u
    both-high u other = shorn-high g.faults wide rising_wide u ∙ raised-high v (high_in g.faults b v) g.faults a u other

    -- of v the two made one have the high of b
    pub both-high_here : high_in g.faults both v ≡ high_in g.faults b v
    both-high_here = shorn-high g.faults wide rising_wide v ∙ raised-high_here v (high_in g.faults b v) g.faults a
        (let next_is = touch.next in let open_v = open_b v in let top_high = high_in-top g.faults b within_b v in
        omega arith)

    -- the two made one allow all that a does
    pub wider_first : IsWider g.faults both a
    -- on v the high of the two made one is b's, which isn't below a's; on other variables they agree
    wider_first = λ u. let low_is = both-low u in (
      omega arith,
      ⊎_elim
          (λ (here : u ≡ v). let high_is = both-high_here in
          let next_is = touch.next in
          let open_v = open_b v in
          subst (λ w. high_in g.faults a w ≤ high_in g.faults both w) (sym here) (omega arith))
          (λ (other : u ≢ v). let high_is = both-high u other in omega arith)
          (cases_eq u v),
    )

    -- the two made one allow all that b does
    pub wider_second : IsWider g.faults both b
    wider_second = λ u. let low_is = both-low u in ⊎_elim
        (λ (here : u ≡ v). let high_is = both-high_here in let next_is = touch.next in let open_v = open_a v in
        let v_low = both-low v in
        subst (λ w. (low_in both w ≤ low_in b w) × (high_in g.faults b w ≤ high_in g.faults both w)) (sym here)
        (omega arith, omega arith))
        (λ (other : u ≢ v). let high_is = both-high u other in let same_range = touch.others u other in
        (omega arith, omega arith))
        (cases_eq u v)

    -- the two made one are a cube of the graph
    cube_both : IsCube g both
    cube_both = cube_shorn wide cube_wide

    -- no scenario matches both a and b: their ranges of v are apart
    pub apart : (s : Scenario) → IsScenario g s → IsVariable g v → matches a s ≡ true → matches b s ≡ true → ⊥
    apart s lawful known matches_a matches_b =
        let in_a = ranges_of_match a s lawful matches_a v known in
        let in_b = ranges_of_match b s lawful matches_b v known in
        let next_is = touch.next in omega arith

    -- a scenario that matches the two made one matches a or b, by whether its number of v is past a's high
    pub either : (s : Scenario) → IsScenario g s → IsVariable g v → matches both s ≡ true →
        (matches a s ≡ true) ⊎ (matches b s ≡ true)
    either s lawful known matched = ⊎_elim
        -- past a's high the number is in b's range of v; all other ranges of b are those of the joined cube
        (λ (past : high_in g.faults a v < number_of s v). inr
        (matches_in_ranges b s good_b.cube.rising (λ m member. ⊎_elim
        (λ (on_v : m.variable ≡ v). let number_in = ranges_of_match both s lawful matched v known in
        let high_is = both-high_here in
        let next_is = touch.next in
        subst (λ w. (low_in b w ≤ number_of s w) × (number_of s w ≤ high_in g.faults b w)) (sym on_v)
        (omega arith, omega arith))
        (λ (other : m.variable ≢ v). let number_in = ranges_of_match both s lawful matched m.variable
        (All-contains (λ (z : Literal). IsVariable g z.variable) b m good_b.cube.known member) in
        let same_range = touch.others m.variable other in
        let low_is = both-low m.variable in
        let high_is = both-high m.variable other in
        (omega arith, omega arith))
        (cases_eq m.variable v))))
        -- up to a's high it is in a's range of v, since the joined cube has a's low there
        (λ (up_to : number_of s v ≤ high_in g.faults a v). inl
        (matches_in_ranges a s good_a.cube.rising (λ m member. ⊎_elim
        (λ (on_v : m.variable ≡ v). let number_in = ranges_of_match both s lawful matched v known in
        let low_is = both-low v in
        subst (λ w. (low_in a w ≤ number_of s w) × (number_of s w ≤ high_in g.faults a w)) (sym on_v)
        (omega arith, omega arith))
        (λ (other : m.variable ≢ v). let number_in = ranges_of_match both s lawful matched m.variable
        (All-contains (λ (z : Literal). IsVariable g z.variable) a m good_a.cube.known member) in
        let low_is = both-low m.variable in let high_is = both-high m.variable other in (omega arith, omega arith))
        (cases_eq m.variable v))))
        (cases_lt (high_in g.faults a v) (number_of s v))

    -- the two made one match what a matches
    pub matches_first : (s : Scenario) → IsScenario g s → matches a s ≡ true → matches both s ≡ true
    matches_first s lawful matched = matches_wider both a s lawful cube_both wider_first matched

    -- the two made one match what b matches
    pub matches_second : (s : Scenario) → IsScenario g s → matches b s ≡ true → matches both s ≡ true
    matches_second s lawful matched = matches_wider both b s lawful cube_both wider_second matched

    -- the two made one are a good cube
    pub good_both : IsGood g both
    good_both = record {
      cube = cube_both;
      narrow = shorn_narrow g.faults wide
          (raised-within v (high_in g.faults b v) g.faults a (high_in-top g.faults b within_b v) within_a);
      met = met_by g few both cube_both (lows g a) (lows-lawful g few a good_a.cube good_a.met)
          (matches_first (lows g a) (lows-lawful g few a good_a.cube good_a.met)
          (lows-match g few a good_a.cube good_a.met));
    }
