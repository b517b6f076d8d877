-- Columns that are settled and stand by their least scenarios are what merging gives.
use Rattle.std.specs.Result.{IfOk}
use Rattle.std.proofs.Common.{ℕ, ◌<◌, ◌≤◌, ◌≡◌, ◌≢◌, ◌⊎◌, true, false, Result, Ok, Err, List, [], ◌∷◌, length, filter}
use Rattle.std.proofs.Common.{get_or, Contains, IsPermutation, arith, refl, sym, ap, ap₂, ◌∙◌, subst, subst₂}
use Rattle.std.proofs.Common.{⊎_elim, inl, inr}
use Rattle.std.specs.Prelude.{IsTrue}
use Rattle.std.proofs.lemmas.Bool.{cases_Bool, cases_eq, cases_lt}
use Rattle.std.proofs.lemmas.List.{length-map}
use Rattle.std.proofs.lemmas.List.Elements.{All-contains}
use Rattle.std.proofs.lemmas.Option.{slice_get_within}
use Rattle.cpg_base.specs.Numbers.{numbers_below, is_below}
use Rattle.cpg_base.specs.Graph.{Graph, process_count, IsVariable}
use Rattle.cpg_base.proofs.Lists.{Contains-first, Contains-rest, Contains-cases, Contains-nil, Contains-filter}
use Rattle.cpg_base.proofs.Lists.{Contains-filter_parts, Contains-map, Contains-map_parts, Contains-slice_get}
use Rattle.std.proofs.lemmas.List.Sorted.{IsPermutation-sym, Contains-permutation}
use Rattle.cpg_base.specs.Scenario.{Scenario, IsScenario, is_before, key}
use Rattle.cpg_base.proofs.ScenarioOrder.{before_total}
use Rattle.cpg_cube.specs.declared.literal.Literal.{Literal}
use Rattle.cpg_cube.specs.Cube.{matches, low_in, high_in, is_whole}
use Rattle.cpg_base.specs.Variable.{top}
use Rattle.cpg_cube.specs.Fit.{IsCube, lows}
use Rattle.cpg_cube.proofs.Ranges.{high_in-later, range_of_literal, narrow}
use Rattle.cpg_cube.specs.Keys.{lows_along, AreByLows}
use Rattle.cpg_cube.proofs.KeyLows.{lows_are_key}
use Rattle.cpg_cube.proofs.CubeLows.{low_in-later, lows-lawful, lows-match, lows-least}
use Rattle.cpg_cube.proofs.CubeLaws.{least_match}
use Rattle.cpg_cube.specs.declared.column.Column.{Column}
use Rattle.cpg_cube.specs.Column.{times_in}
use Rattle.cpg_merging.specs.Merged.{IsColumn, AreMet, AreOrdered, IsMerged, IsWider, AreMergeable, IsMergeOf}
use Rattle.cpg_merging.specs.Merging.{all_shorn, IsJoinOf, TouchAt, AreSettled}
use Rattle.cpg_merging.proofs.MergingPairs.{IsGood, matches_wider}
use Rattle.cpg_merging.proofs.MergingLists.{AreGood, joins_through}
use Rattle.cpg_merging.proofs.MergingSettled.{pairs_apart, share}
use Rattle.cpg_merging.proofs.MergingSteps.{AreSingle, good_of, good_permuted, single_permuted, joins_permuted}
use Rattle.cpg_merging.proofs.MergingSteps.{joins_shorn}

-- ---- literals

-- a cube has a literal on the variable, or allows it its whole range
speaks : (k : ℕ) (cube : List Literal) (v : ℕ) →
    ((m : Literal) × Contains cube m × (m.variable ≡ v)) ⊎ ((low_in cube v ≡ 0) × (high_in k cube v ≡ top k v))
-- by induction on the cube
speaks k [] v = inr (refl, refl)
speaks k (l ∷ ls) v = ⊎_elim
    (λ (same : l.variable ≡ v). inl (l, Contains-first l ls, same))
    (λ (other : l.variable ≢ v). ⊎_elim
    (λ (found : (m : Literal) × Contains ls m × (m.variable ≡ v)). inl
    (found.0, Contains-rest l ls found.0 found.1, found.2))
    (λ (whole : (low_in ls v ≡ 0) × (high_in k ls v ≡ top k v)).
    inr (low_in-later l ls v other ∙ whole.0, high_in-later k l ls v other ∙ whole.1))
    (speaks k ls v))
    (cases_eq l.variable v)

-- a variable of which a cube has a low above 0 is one of the graph: a literal is on it
known_by_low : (g : Graph) (cube : List Literal) (v : ℕ) → IsCube g cube → 0 < low_in cube v → IsVariable g v
known_by_low g cube v is above_0 = ⊎_elim
    (λ (found : (m : Literal) × Contains cube m × (m.variable ≡ v)).
    subst (IsVariable g) found.2
    (All-contains (λ (x : Literal). IsVariable g x.variable) cube found.0 is.known found.1))
    (λ (whole : (low_in cube v ≡ 0) × (high_in g.faults cube v ≡ top g.faults v)). let low_zero = whole.0 in
    absurd (omega arith))
    (speaks g.faults cube v)

-- ---- one column of those that match

-- two elements of a list of at most one are the same
one_element : {X : Type 0} (xs : List X) (x y : X) → length xs ≤ 1 → Contains xs x → Contains xs y → x ≡ y
one_element [] x y few x_in y_in = absurd (Contains-nil x x_in)
one_element (z ∷ []) x y few x_in y_in = ⊎_elim
    (λ (is_x : z ≡ x).
    ⊎_elim (λ (is_y : z ≡ y). sym is_x ∙ is_y) (λ (in_none : Contains [] y). absurd (Contains-nil y in_none))
    (Contains-cases z [] y y_in))
    (λ (in_none : Contains [] x). absurd (Contains-nil x in_none))
    (Contains-cases z [] x x_in)
one_element (z ∷ w ∷ xs) x y few x_in y_in = absurd (omega arith)

-- if at most one of the columns matches a scenario, two that match are the same
pub one_column : (columns : List Column) (s : Scenario) (c d : Column) → length (times_in columns s) ≤ 1 →
    Contains columns c → Contains columns d →
    matches c.cube s ≡ true →
    matches d.cube s ≡ true → c ≡ d
one_column columns s c d few c_in d_in c_matches d_matches =
    one_element (filter (λ (z : Column). matches z.cube s) columns) c d
    (let length_is = length-map (filter (λ (z : Column). matches z.cube s) columns) (λ (z : Column). z.time) in
    omega arith)
    (Contains-filter (λ (z : Column). matches z.cube s) columns c c_matches c_in)
    (Contains-filter (λ (z : Column). matches z.cube s) columns d d_matches d_in)

-- a column that matches gives its time
time_there : (columns : List Column) (s : Scenario) (c : Column) → Contains columns c → matches c.cube s ≡ true →
    Contains (times_in columns s) c.time
time_there columns s c member matched =
    Contains-map (λ (z : Column). z.time) (filter (λ (z : Column). matches z.cube s) columns) c
    (Contains-filter (λ (z : Column). matches z.cube s) columns c matched member)

-- a time that a scenario has is that of a column that matches it
column_there : (columns : List Column) (s : Scenario) (t : ℕ) → Contains (times_in columns s) t →
    (c : Column) × Contains columns c × (matches c.cube s ≡ true)
column_there columns s t member =
    let mapped = Contains-map_parts (λ (z : Column). z.time)
    (filter (λ (z : Column). matches z.cube s) columns) t member in
    let filtered = Contains-filter_parts (λ (z : Column). matches z.cube s) columns mapped.0 mapped.1 in
    (mapped.0, filtered.0, filtered.1)

-- if c is the column at place i of the list, `get_or` answers c there
at_number : (columns : List Column) (i : ℕ) (c d : Column) → IsColumn columns i c → get_or columns i d ≡ c
-- by induction on the list
at_number [] i c d is_c = cc
at_number (x ∷ xs) ℕ.zero c d is_c = cc
at_number (x ∷ xs) (ℕ.suc i) c d is_c = at_number xs i c d is_c

-- ---- the end

-- given: good columns, of which no scenario matches two, and an order that has each process once
module _ (g : Graph) (few : process_count g ≤ 128) (order : List ℕ)
    (all : IsPermutation (numbers_below (process_count g)) order)
    (columns : List Column) (good : AreGood g columns) (single : AreSingle g columns) where
  -- the cube of each of the columns is good
  good_at : (c : Column) → Contains columns c → IsGood g c.cube
  good_at c member = All-contains (λ (x : Column). IsGood g x.cube) columns c good member

  -- two columns at different places match no scenario together
  apart_at : (i j : ℕ) (c d : Column) → i < j → IsColumn columns i c → IsColumn columns j d → (s : Scenario) →
      IsScenario g s → matches c.cube s ≡ true → matches d.cube s ≡ true → ⊥
  apart_at i j c d less c_at d_at s lawful c_matches d_matches =
      pairs_apart g columns single i j c less (slice_get_within columns j d d_at) s lawful
      (subst (λ (z : Column). matches z.cube s ≡ true) (sym (at_number columns i c c c_at)) c_matches)
      (subst (λ (z : Column). matches z.cube s ≡ true) (sym (at_number columns j d c d_at)) d_matches)

  -- each of the columns has a least scenario that it matches
  pub are_met : AreMet g order columns
  are_met = λ k d inside. let good_k = good k d inside in
      (lows g (get_or columns k d).cube, lows-least g few (get_or columns k d).cube good_k.cube good_k.met order)

  -- columns that stand by their lows stand by the least scenarios that they match
  pub are_ordered : AreByLows (λ (c : Column). c.cube) g order columns → AreOrdered g order columns
  are_ordered up = λ i j c d s t less c_at d_at c_least d_least.
      let c_in = Contains-slice_get columns i c c_at in
      let d_in = Contains-slice_get columns j d d_at in
      let good_c = good_at c c_in in
      let good_d = good_at d d_in in
      let s_is = least_match g few order c.cube s all good_c.cube c_least in
      let t_is = least_match g few order d.cube t all good_d.cube d_least in
      let not_below : is_below (lows_along g order (low_in d.cube)) (lows_along g order (low_in c.cube)) ≡ false =
      subst₂
      (λ (a b : Column). is_below (lows_along g order (low_in b.cube)) (lows_along g order (low_in a.cube)) ≡ false)
      (at_number columns i c c c_at) (at_number columns j d c d_at)
      (up i j c less (slice_get_within columns j d d_at)) in
      let back : is_before g order t s ≡ false =
      ap₂ is_below (ap (key g order) t_is ∙ sym (lows_are_key g few d.cube good_d.met order all))
      (ap (key g order) s_is ∙ sym (lows_are_key g few c.cube good_c.met order all)) ∙ not_below in
      ⊎_elim
      (λ (before : is_before g order s t ≡ true). before)
      (λ (not_before : is_before g order s t ≡ false).
      let same = before_total g order all s t c_least.lawful d_least.lawful not_before back in
      absurd (apart_at i j c d less c_at d_at s c_least.lawful c_least.holds
      (subst (λ z. matches d.cube z ≡ true) (sym same) d_least.holds)))
      (cases_Bool (is_before g order s t))

  -- if no two columns of one time touch at any variable, no two can be made one
  pub is_merged : ((v : ℕ) → IsVariable g v → (c d : Column) → Contains columns c → Contains columns d →
      c.time ≡ d.time → TouchAt g.faults v c.cube d.cube → ⊥) →
      IsMerged g columns
  -- two columns of one time that differ at v alone have ranges at v that touch, one way or the other, or that share a
  -- number; touching ranges are excluded as the columns are settled, shared numbers as at most one column matches
  is_merged settled = λ i j v c d less c_at d_at same_time differ.
      let c_in = Contains-slice_get columns i c c_at in
      let d_in = Contains-slice_get columns j d d_at in
      let good_c = good_at c c_in in
      let good_d = good_at d d_in in
      let away = apart_at i j c d less c_at d_at in
      let back : (u : ℕ) → u ≢ v →
      (low_in d.cube u ≡ low_in c.cube u) × (high_in g.faults d.cube u ≡ high_in g.faults c.cube u) =
      λ u other. let same_range = differ.others u other in (sym same_range.0, sym same_range.1) in
      ⊎_elim
      -- c ends below d, so d begins right behind c, and they touch
      (λ (c_below : high_in g.faults c.cube v < low_in d.cube v).
      let touching = differ.touch_below in
      settled v (known_by_low g d.cube v good_d.cube (omega arith)) c d c_in d_in same_time
      (record { others = differ.others; next = omega arith }))
      (λ (d_low : low_in d.cube v ≤ high_in g.faults c.cube v). ⊎_elim
      -- d ends below c, so c begins right behind d, and they touch
      (λ (d_below : high_in g.faults d.cube v < low_in c.cube v).
      let touching = differ.touch_above in
      settled v (known_by_low g c.cube v good_c.cube (omega arith)) d c d_in c_in (sym same_time)
      (record { others = back; next = omega arith }))
      -- the ranges share the greater of their lows, so one scenario matches both columns
      (λ (c_low : low_in c.cube v ≤ high_in g.faults d.cube v). ⊎_elim
      (λ (d_higher : low_in c.cube v < low_in d.cube v).
      let shared = share g few v c.cube d.cube good_c good_d differ.others (omega arith) d_low in
      away shared.0 shared.1 shared.2 shared.3)
      (λ (c_higher : low_in d.cube v ≤ low_in c.cube v). let shared = share g few v d.cube c.cube good_d good_c back
      c_higher c_low in
      away shared.0 shared.1 shared.3 shared.2)
      (cases_lt (low_in c.cube v) (low_in d.cube v)))
      (cases_lt (high_in g.faults d.cube v) (low_in c.cube v)))
      (cases_lt (high_in g.faults c.cube v) (low_in d.cube v))

  -- given: entries of which the columns are a join
  module _ (entries : List Column) (joins : IsJoinOf g entries columns) where
    -- the column that a scenario matches allows all that the entry allows which it matches
    pub is_wider : (s : Scenario) (e c : Column) → IsScenario g s → Contains entries e → Contains columns c →
        matches e.cube s ≡ true → matches c.cube s ≡ true →
        IsWider g.faults c.cube e.cube
    is_wider s e c lawful e_in c_in e_matches c_matches =
        let holder = joins.held e e_in in
        let holder_matches = matches_wider g few holder.0.cube e.cube s lawful
        (good_at holder.0 holder.1).cube holder.3 e_matches in
        subst (λ (z : Column). IsWider g.faults z.cube e.cube)
        (one_column columns s holder.0 c (single s lawful) holder.1 c_in holder_matches c_matches) holder.3

    -- each literal of a column is on a variable on which an entry that matches together with it has a literal
    pub is_spoken : (c : Column) (l : Literal) → Contains columns c → Contains c.cube l →
        (s : Scenario) × (e : Column) × (m : Literal) × IsScenario g s × Contains entries e ×
        IsTrue (matches e.cube s) × IsTrue (matches c.cube s) × Contains e.cube m × (m.variable ≡ l.variable)
    -- in the column's least scenario some entry matches; if it had no literal on l's variable, the column would allow
    -- that its whole range, but l isn't whole
    is_spoken c l c_in l_in =
        let good_c = good_at c c_in in
        let s = lows g c.cube in
        let lawful = lows-lawful g few c.cube good_c.cube good_c.met in
        let matched = lows-match g few c.cube good_c.cube good_c.met in
        let entry = column_there entries s c.time
        (subst (λ ts. Contains ts c.time) (joins.times s lawful) (time_there columns s c c_in matched)) in
        let wider = is_wider s entry.0 c lawful entry.1 c_in entry.2 matched l.variable in
        let range = range_of_literal g.faults c.cube l good_c.cube.rising l_in in
        let narrow_l = All-contains
        (λ (x : Literal). (is_whole g.faults x ≡ false) × (x.high ≤ top g.faults x.variable))
        c.cube l good_c.narrow l_in in
        ⊎_elim
        (λ (spoken : (x : Literal) × Contains entry.0.cube x × (x.variable ≡ l.variable)).
        (s, entry.0, spoken.0, lawful, entry.1, entry.2, matched, spoken.1, spoken.2))
        (λ (whole : (low_in entry.0.cube l.variable ≡ 0) ×
        (high_in g.faults entry.0.cube l.variable ≡ top g.faults l.variable)).
        let leaves_out = narrow g.faults l narrow_l.0 narrow_l.1 in
        let low_zero = whole.0 in
        let high_top = whole.1 in
        absurd (⊎_elim (λ (above : 0 < l.low). let wrong : ⊥ = omega arith in wrong)
        (λ (below : l.high < top g.faults l.variable). let wrong : ⊥ = omega arith in wrong) leaves_out))
        (speaks g.faults entry.0.cube l.variable)

-- entries without their whole literals, settled and put in order, are what merging gives of the entries
pub merge_of : (g : Graph) → process_count g ≤ 128 → (order : List ℕ) →
    IsPermutation (numbers_below (process_count g)) order → (entries columns ordered : List Column) →
    AreMergeable g entries →
    AreSettled g (all_shorn g.faults entries) columns → IsPermutation columns ordered →
    AreByLows (λ (c : Column). c.cube) g order ordered → IsMergeOf g order entries ordered
-- the ordered columns are a join of the entries: whole literals are left out, then columns are settled, then put in
-- order; each field follows from that join
merge_of g few order all entries columns ordered mergeable settled permuted up =
    let good = good_permuted g few columns ordered permuted (good_of g few columns settled.good) in
    let single = single_permuted g few columns ordered permuted settled.good.good.apart in
    let joins = joins_through g entries columns ordered (joins_through g entries (all_shorn g.faults entries) columns
    (joins_shorn g few entries mergeable) settled.joins)
    (joins_permuted g few columns ordered permuted settled.good.good.apart) in
    let back = λ (c : Column) (member : Contains ordered c).
    Contains-permutation ordered columns c (IsPermutation-sym columns ordered permuted) member in
    record {
      times = joins.times;
      wider = is_wider g few order all ordered good single entries joins;
      cubes = λ k d inside. (good k d inside).cube;
      within = λ k d inside i e inside_cube. ((good k d inside).narrow i e inside_cube).1;
      not_whole = λ k d inside i e inside_cube. ((good k d inside).narrow i e inside_cube).0;
      met = are_met g few order all ordered good single;
      ordered = are_ordered g few order all ordered good single up;
      merged = is_merged g few order all ordered good single
          (λ v known c d c_in d_in. settled.settled v known c d (back c c_in) (back d d_in));
      spoken = is_spoken g few order all ordered good single entries joins;
    }

-- what follows from two facts of an answer's value is a fact of it
pub if_ok_both : {T E : Type 0} (r : Result T E) (P Q R : T → Type 0) → ((x : T) → P x → Q x → R x) → IfOk r P →
    IfOk r Q → IfOk r R
if_ok_both (Ok x) P Q R combine p_holds q_holds = combine x p_holds q_holds
if_ok_both (Err e) P Q R combine p_holds q_holds = tt
