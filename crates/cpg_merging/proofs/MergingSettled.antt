-- After a walk over columns that are sorted at a variable, no two of one time touch there any more.
use Rattle.std.proofs.Common.{ℕ, ◌+◌, ◌<◌, ◌≤◌, ◌≡◌, ◌≢◌, ◌⊎◌, Bool, true, false, not, cond, ◌==◌, List, [], ◌∷◌}
use Rattle.std.proofs.Common.{length, filter, get_or, Contains, AllPairs, Equal, arith, refl, sym, ap, ◌∙◌, subst}
use Rattle.std.proofs.Common.{subst₂, ⊎_elim, eq-eqb}
use Rattle.std.specs.Ordering.{is_lt, is_eq, nat_cmp}
use Rattle.std.specs.List.Sorted.{IsSortedBy}
use Rattle.std.proofs.lemmas.Bool.{cases_eq, cases_lt, cases_order, and_from, both_ways}
use Rattle.std.proofs.lemmas.Cmp.{tied_itself, tied_back, alike_right}
use Rattle.std.proofs.lemmas.List.{length-map, get_or_default}
use Rattle.std.proofs.lemmas.List.Elements.{All-contains, All-cons, All-head, All-tail, All-filter, Contains-get_or}
use Rattle.std.proofs.lemmas.List.Kept.{AllPairs-filter}
use Rattle.cpg_base.specs.Graph.{Graph, process_count, IsVariable}
use Rattle.cpg_base.proofs.Lists.{Contains-first, Contains-rest, Contains-cases, Contains-nil, Contains-filter}
use Rattle.cpg_base.proofs.Pairs.{AllPairs-nil, AllPairs-first, AllPairs-rest, AllPairs-cons_by}
use Rattle.cpg_base.specs.Scenario.{Scenario, IsScenario, number_of}
use Rattle.cpg_cube.specs.declared.literal.Literal.{Literal}
use Rattle.cpg_cube.specs.Cube.{IsRising, matches, low_in, high_in, is_whole}
use Rattle.cpg_base.specs.Variable.{top}
use Rattle.cpg_cube.proofs.Ranges.{IsNarrow}
use Rattle.cpg_cube.specs.Fit.{lows}
use Rattle.cpg_cube.proofs.Boxes.{made_number}
use Rattle.cpg_cube.proofs.CubeLows.{lows-lawful, lows-match}
use Rattle.cpg_cube.specs.declared.column.Column.{Column}
use Rattle.cpg_cube.specs.Column.{times_in}
use Rattle.cpg_merging.specs.Merging.{without, beside_cmp, column_cmp, is_followed, joined, walked, IsSettledOn}
use Rattle.cpg_merging.proofs.MergingCubes.{without-low, without-high, without-low_here, without-high_here, same_cube}
use Rattle.cpg_merging.proofs.MergingPairs.{IsGood, low-le-high, both-low, both-high, both-high_here, matches_in_ranges}
use Rattle.cpg_merging.proofs.MergingPairs.{ranges_of_match, high_in-top}
use Rattle.cpg_base.proofs.Keyed.{next_of}
use Rattle.cpg_merging.proofs.MergingOrder.{beside_total, beside_equal, beside_from, between, then_not_less}
use Rattle.cpg_merging.proofs.MergingOrder.{not_less-le, sorted_pairs}
use Rattle.cpg_merging.proofs.MergingLists.{AreGood, followed_parts, ranges_beside, touch_of, good_joined, walk}

-- ---- No two columns match one scenario.

-- if at most one element of a list passes a test, no two of them do
pub apart_pairs : {X : Type 0} (p : X → Bool) (xs : List X) → length (filter p xs) ≤ 1 →
    AllPairs (λ x y. p x ≡ true → p y ≡ true → ⊥) xs
-- by induction on the list: if the first element passes, no other does
apart_pairs {X} p [] few = AllPairs-nil (λ x y. p x ≡ true → p y ≡ true → ⊥)
apart_pairs {X} p (x ∷ xs) few = AllPairs-cons_by (λ x y. p x ≡ true → p y ≡ true → ⊥) x xs
    (λ y member px py. both y px (Contains-filter p xs y py member) (p x) px few)
    (apart_pairs p xs (rest (p x) few))
  where
    -- the rest has no more elements that pass than the whole list
    rest : (b : Bool) → length (cond b (x ∷ filter p xs) (filter p xs)) ≤ 1 → length (filter p xs) ≤ 1
    rest true at_most_1 = omega arith
    rest false at_most_1 = at_most_1

    -- if at most one element passes, and x does, no element y of the rest does
    both : (y : X) → p x ≡ true → Contains (filter p xs) y → (b : Bool) → b ≡ true →
        length (cond b (x ∷ filter p xs) (filter p xs)) ≤ 1 → ⊥
    both y px member true passes at_most_1 = omega (arith, member.1)
    both y px member false passes at_most_1 = cc

-- if no scenario matches two of the columns, no scenario matches both of any pair
pub pairs_apart : (g : Graph) (columns : List Column) →
    ((s : Scenario) → IsScenario g s → length (times_in columns s) ≤ 1) →
    AllPairs (λ c d. (s : Scenario) → IsScenario g s → matches c.cube s ≡ true → matches d.cube s ≡ true → ⊥) columns
pairs_apart g columns single = λ i j d less inside s is. apart_pairs (λ (c : Column). matches c.cube s) columns
    (let length_is = length-map (filter (λ (c : Column). matches c.cube s) columns) (λ (c : Column). c.time) in
    let few = single s is in omega arith) i j d less inside

-- given: a graph of at most 128 processes
module _ (g : Graph) (few : process_count g ≤ 128) where
  -- If a and b have the same ranges of all variables but v, and b's low of v is within a's range of v, some scenario
  -- matches both.
  pub share : (v : ℕ) (a b : List Literal) → IsGood g a → IsGood g b →
      ((u : ℕ) → u ≢ v → (low_in a u ≡ low_in b u) × (high_in g.faults a u ≡ high_in g.faults b u)) →
      low_in a v ≤ low_in b v → low_in b v ≤ high_in g.faults a v →
      (s : Scenario) × IsScenario g s × (matches a s ≡ true) × (matches b s ≡ true)
  share v a b good_a good_b others low_above low_within =
      -- the scenario is the one with the least number of each range of b: at v its number lies in a's range too
      let s = lows g b in
      let lawful = lows-lawful g few b good_b.cube good_b.met in
      let matched = lows-match g few b good_b.cube good_b.met in
      let number_at : IsVariable g v → number_of s v ≡ low_in b v = λ known. made_number g few (low_in b) v known
      (let open_v = low-le-high g.faults b good_b.met v in
      let below_top = high_in-top g.faults b (λ k d inside. (good_b.narrow k d inside).1) v in
      omega arith) in (
        s,
        lawful,
        matches_in_ranges g few a s good_a.cube.rising (λ m member. ⊎_elim
            (λ (on_v : m.variable ≡ v). let number_is = number_at (subst (IsVariable g) on_v
            (All-contains (λ (x : Literal). IsVariable g x.variable) a m good_a.cube.known member)) in
            subst (λ w. (low_in a w ≤ number_of s w) × (number_of s w ≤ high_in g.faults a w)) (sym on_v)
            (omega arith, omega arith))
            (λ (other : m.variable ≢ v). let in_b = ranges_of_match g few b s lawful matched m.variable
            (All-contains (λ (x : Literal). IsVariable g x.variable) a m good_a.cube.known member) in
            let same_range =
            others m.variable other in (omega arith, omega arith))
            (cases_eq m.variable v)),
        matched,
      )

  -- given: a variable of the graph
  module _ (v : ℕ) (known : IsVariable g v) where
    -- c stands before d: in the sort d doesn't come before c beside v, and if they tie there, d's range of v lies
    -- above c's
    pub record Before (c d : Column) : Type 0 where
      -- d doesn't come before c by time and literals on other variables
      pub group : is_lt (beside_cmp v d c) ≡ false
      -- if d ties with c in these, d's range of v begins above the end of c's
      pub later : beside_cmp v c d ≡ Equal → high_in g.faults c.cube v < low_in d.cube v

    -- of sorted columns no two of which match one scenario, each earlier one stands before each later one
    pub before_pairs : (xs : List Column) → AreGood g xs →
        ((s : Scenario) → IsScenario g s → length (times_in xs s) ≤ 1) →
        IsSortedBy (λ c d. is_lt (column_cmp v c d)) xs →
        AllPairs Before xs
    before_pairs xs good single up = λ i j d less inside. pair (get_or xs i d) (get_or xs j d)
        (All-contains (λ (c : Column). IsGood g c.cube) xs (get_or xs i d) good (Contains-get_or xs i d (omega arith)))
        (All-contains (λ (c : Column). IsGood g c.cube) xs (get_or xs j d) good (Contains-get_or xs j d inside))
        (pairs_apart g xs single i j d less inside) (sorted_pairs v xs up i j d less inside)
      where
        -- if d doesn't sort before c and no scenario matches both, c stands before d: if they tie and d began within
        -- c's range, `share` would give a scenario
        pair : (c d : Column) → IsGood g c.cube → IsGood g d.cube →
            ((s : Scenario) → IsScenario g s → matches c.cube s ≡ true → matches d.cube s ≡ true → ⊥) →
            is_lt (column_cmp v d c) ≡ false →
            Before c d
        pair c d good_c good_d away not_less = record {
          group = then_not_less (beside_cmp v d c) (nat_cmp (low_in d.cube v) (low_in c.cube v)) not_less;
          later = λ ties.
              let same = beside_equal v c d ties in
              let back = beside_from v d c (sym same.0) (sym same.1) in
              let low_below = not_less-le (low_in c.cube v) (low_in d.cube v)
              (next_of (beside_cmp v d c) (nat_cmp (low_in d.cube v) (low_in c.cube v)) back not_less) in
              ⊎_elim
              (λ (past : high_in g.faults c.cube v < low_in d.cube v). past)
              (λ (within : low_in d.cube v ≤ high_in g.faults c.cube v).
              let shared = share v c.cube d.cube good_c good_d
              (ranges_beside g.faults v c.cube d.cube same.1) low_below within in
              absurd (away shared.0 shared.1 shared.2 shared.3))
              (cases_lt (high_in g.faults c.cube v) (low_in d.cube v));
        }

    -- column r begins as x does: they tie beside v, and have the same low of v
    abbrev BeginsAs : Column → Column → Type 0
    BeginsAs r x = (beside_cmp v x r ≡ Equal) × (low_in r.cube v ≡ low_in x.cube v)

    -- neither column follows the other at v
    pub record Untouched (c d : Column) : Type 0 where
      -- d doesn't begin right behind the end of c
      pub above : beside_cmp v c d ≡ Equal → high_in g.faults c.cube v + 1 ≢ low_in d.cube v
      -- c doesn't begin right behind the end of d
      pub below : beside_cmp v c d ≡ Equal → high_in g.faults d.cube v + 1 ≢ low_in c.cube v

    -- ---- a join stands where its first column stood

    -- if no literal of a cube has the whole range or goes past it, none does without the literals on v
    without_narrow : (cube : List Literal) → IsNarrow g.faults cube → IsNarrow g.faults (without v cube)
    without_narrow cube narrow = All-filter (λ l. not (l.variable == v))
        (λ (l : Literal). (is_whole g.faults l ≡ false) × (l.high ≤ top g.faults l.variable)) cube narrow

    -- without the literals on v, a cube still rises
    without_rising : (cube : List Literal) → IsRising cube → IsRising (without v cube)
    without_rising cube rises =
        AllPairs-filter (λ (l m : Literal). l.variable < m.variable) (λ l. not (l.variable == v)) cube rises

    -- if good cubes a and b have the same ranges of all variables but v, they have the same literals on these
    pub same_without : (a b : List Literal) → IsGood g a → IsGood g b →
        ((u : ℕ) → u ≢ v → (low_in a u ≡ low_in b u) × (high_in g.faults a u ≡ high_in g.faults b u)) →
        without v a ≡ without v b
    -- both cubes then have the same ranges of all variables, v's whole, and a good cube is known by its ranges
    same_without a b good_a good_b same_ranges = same_cube g.faults (without v a) (without v b)
        (without_rising a good_a.cube.rising) (without_rising b good_b.cube.rising) (without_narrow a good_a.narrow)
        (without_narrow b good_b.narrow)
        (λ u. ⊎_elim
        (λ (here : u ≡ v). subst (λ w. low_in (without v a) w ≡ low_in (without v b) w) (sym here)
        (without-low_here v a ∙ sym (without-low_here v b)))
        (λ (other : u ≢ v). without-low v a u other ∙ (same_ranges u other).0 ∙ sym (without-low v b u other))
        (cases_eq u v))
        (λ u. ⊎_elim
        (λ (here : u ≡ v). subst (λ w. high_in g.faults (without v a) w ≡ high_in g.faults (without v b) w) (sym here)
        (without-high_here v g.faults a ∙ sym (without-high_here v g.faults b)))
        (λ (other : u ≢ v). without-high v g.faults a u other ∙ (same_ranges u other).1
        ∙ sym (without-high v g.faults b u other))
        (cases_eq u v))

    -- given: two good columns, the second of which follows the first
    module _ (c d : Column) (good_c : IsGood g c.cube) (good_d : IsGood g d.cube)
        (follows : is_followed g.faults v c d ≡ true) where
      -- the low of two joined columns is that of the first
      joined_low : low_in (joined g.faults v c d).cube v ≡ low_in c.cube v
      joined_low = both-low g few v c.cube d.cube good_c good_d (touch_of g.faults v c d follows) v

      -- the high of two joined columns is that of the second
      joined_high : high_in g.faults (joined g.faults v c d).cube v ≡ high_in g.faults d.cube v
      joined_high = both-high_here g few v c.cube d.cube good_c good_d (touch_of g.faults v c d follows)

      -- the joined column ties with c beside v
      joined_beside : beside_cmp v c (joined g.faults v c d) ≡ Equal
      joined_beside = beside_from v c (joined g.faults v c d) refl
          (same_without c.cube (joined g.faults v c d).cube good_c (good_joined g few v known c d good_c good_d follows)
          (λ u other. (
            sym (both-low g few v c.cube d.cube good_c good_d (touch_of g.faults v c d follows) u),
            sym (both-high g few v c.cube d.cube good_c good_d (touch_of g.faults v c d follows) u other),
          )))

      -- the joined column stands before what both c and d stand before
      joined_before : (r : Column) → Before c r → Before d r → Before (joined g.faults v c d) r
      joined_before r c_before d_before = record {
        group = ap is_lt (sym (alike_right (beside_total v) c (joined g.faults v c d) r joined_beside))
            ∙ c_before.group;
        later = λ ties.
            let d_ties = sym ((beside_total v).congr c d r (followed_parts g.faults v c d follows).0)
            ∙ (beside_total v).congr c (joined g.faults v c d) r joined_beside ∙ ties in
            let d_below = d_before.later d_ties in
            let high_is = joined_high in
            omega arith;
      }

    -- each column that the walk leaves begins as one of the given columns does
    begins : (c : Column) (ds : List Column) → AreGood g (c ∷ ds) → (r : Column) → Contains (walked g.faults v c ds) r →
        (x : Column) × Contains (c ∷ ds) x × BeginsAs r x
    -- by induction on the columns: the first one stays, or is joined with the second, and the joined one begins as the
    -- first
    begins c [] all_good r member = ⊎_elim
        (λ (is_c : c ≡ r). (
          c,
          Contains-first c [],
          subst (λ z. BeginsAs z c) is_c (tied_itself (beside_total v) c, refl),
        ))
        (λ (in_none : Contains [] r). absurd (Contains-nil r in_none))
        (Contains-cases c [] r member)
    begins c (d ∷ ds) all_good r member = go (is_followed g.faults v c d) refl member
        (λ good in_walk. begins (joined g.faults v c d) ds
        (All-cons (λ (x : Column). IsGood g x.cube) (joined g.faults v c d) ds good (All-tail
        (λ (x : Column). IsGood g x.cube) d ds (All-tail (λ (x : Column). IsGood g x.cube) c (d ∷ ds) all_good))) r
        in_walk)
        (begins d ds (All-tail (λ (x : Column). IsGood g x.cube) c (d ∷ ds) all_good) r)
      where
        -- the first column's cube is good
        good_c : IsGood g c.cube
        good_c = All-head (λ (x : Column). IsGood g x.cube) c (d ∷ ds) all_good

        -- the second column's cube is good
        good_d : IsGood g d.cube
        good_d =
            All-head (λ (x : Column). IsGood g x.cube) d ds
            (All-tail (λ (x : Column). IsGood g x.cube) c (d ∷ ds) all_good)

        -- by whether d follows c: the column found begins as the joined one, and then as c, or it is one of those
        -- from d on
        go : (b : Bool) → is_followed g.faults v c d ≡ b →
            Contains (cond b (walked g.faults v (joined g.faults v c d) ds) (c ∷ walked g.faults v d ds)) r →
            (IsGood g (joined g.faults v c d).cube → Contains (walked g.faults v (joined g.faults v c d) ds) r →
            (x : Column) × Contains (joined g.faults v c d ∷ ds) x × BeginsAs r x) →
            (Contains (walked g.faults v d ds) r → (x : Column) × Contains (d ∷ ds) x × BeginsAs r x) →
            (x : Column) × Contains (c ∷ d ∷ ds) x × BeginsAs r x
        go true follows in_walk from_joined from_d =
            let found = from_joined (good_joined g few v known c d good_c good_d follows) in_walk in
            ⊎_elim
            -- r begins as the joined column, which begins as c
            (λ (is_joined : joined g.faults v c d ≡ found.0).
            let begins_as : BeginsAs r (joined g.faults v c d) = subst (BeginsAs r) (sym is_joined) found.2 in (
              c,
              Contains-first c (d ∷ ds),
              (
                (beside_total v).congr c (joined g.faults v c d) r (joined_beside c d good_c good_d follows)
                    ∙ begins_as.0,
                begins_as.1 ∙ joined_low c d good_c good_d follows,
              ),
            ))
            (λ (in_rest : Contains ds found.0).
            (found.0, Contains-rest c (d ∷ ds) found.0 (Contains-rest d ds found.0 in_rest), found.2))
            (Contains-cases (joined g.faults v c d) ds found.0 found.1)
        go false not_followed in_walk from_joined from_d = ⊎_elim
            (λ (is_c : c ≡ r).
            (c, Contains-first c (d ∷ ds), subst (λ z. BeginsAs z c) is_c (tied_itself (beside_total v) c, refl)))
            (λ (in_later : Contains (walked g.faults v d ds) r). let found = from_d in_later in
            (found.0, Contains-rest c (d ∷ ds) found.0 found.1, found.2))
            (Contains-cases c (walked g.faults v d ds) r in_walk)

    -- ---- no two touch

    -- given: good columns, each of which stands before the later ones, and of which the second doesn't follow the
    -- first
    module _ (c d : Column) (ds : List Column) (good : AreGood g (c ∷ d ∷ ds)) (before : AllPairs Before (c ∷ d ∷ ds))
        (apart : is_followed g.faults v c d ≡ false) where
      -- c stands before each later column
      before_first : (x : Column) → Contains (d ∷ ds) x → Before c x
      before_first x member = AllPairs-first Before c (d ∷ ds) before x member

      -- d stands before each column behind it
      before_second : (x : Column) → Contains ds x → Before d x
      before_second x member = AllPairs-first Before d ds (AllPairs-rest Before c (d ∷ ds) before) x member

      -- no low is above its high
      open_of : (x : Column) → Contains (c ∷ d ∷ ds) x → low_in x.cube v ≤ high_in g.faults x.cube v
      open_of x member =
          low-le-high g.faults x.cube (All-contains (λ (y : Column). IsGood g y.cube) (c ∷ d ∷ ds) x good member).met v

      -- no later column follows c: d doesn't, and any other that ties with c lies above d's range
      not_next : (x : Column) → Contains (d ∷ ds) x → beside_cmp v c x ≡ Equal →
          high_in g.faults c.cube v + 1 ≢ low_in x.cube v
      -- d ties with c too if a later one does, and then it comes after c and before that one, so there is no room
      -- between
      not_next x member ties next_is = ⊎_elim
          (λ (is_d : d ≡ x). both_ways (is_followed g.faults v c d) apart
          (and_from (is_eq (beside_cmp v c d)) (high_in g.faults c.cube v + 1 == low_in d.cube v)
          (ap is_eq (subst (λ z. beside_cmp v c z ≡ Equal) (sym is_d) ties))
          (eq-eqb (high_in g.faults c.cube v + 1) (low_in d.cube v)
          (subst (λ z. high_in g.faults c.cube v + 1 ≡ low_in z.cube v) (sym is_d) next_is))))
          (λ (in_rest : Contains ds x).
          let first = before_first d (Contains-first d ds) in
          let second = before_second x in_rest in
          let tie = between v c d x first.group second.group ties in
          let d_above = first.later tie in
          let x_above = second.later (sym ((beside_total v).congr c d x tie) ∙ ties) in
          let open_d = open_of d (Contains-rest c (d ∷ ds) d (Contains-first d ds)) in
          let wrong : ⊥ = omega arith in wrong)
          (Contains-cases d ds x member)

      -- c touches none of the columns that the walk over the later ones leaves: each begins as one of them does, above
      -- c and not right behind it
      untouched : (r : Column) → Contains (walked g.faults v d ds) r → Untouched c r
      untouched r member =
          let good_rest = All-tail (λ (x : Column). IsGood g x.cube) c (d ∷ ds) good in
          let found = begins d ds good_rest r member in
          let good_r = All-contains (λ (x : Column). IsGood g x.cube) (walked g.faults v d ds) r
          (walk g few v known d ds good_rest).good member in
          let low = found.2.1 in
          record {
            above = λ ties next_is. not_next found.0 found.1 (alike_right (beside_total v) found.0 r c found.2.0 ∙ ties)
                (next_is ∙ low);
            below = λ ties next_is.
                let later = (before_first found.0 found.1).later
                (alike_right (beside_total v) found.0 r c found.2.0 ∙ ties) in
                let open_c = open_of c (Contains-first c (d ∷ ds)) in
                let open_r = low-le-high g.faults r.cube good_r.met v in
                let wrong : ⊥ = omega arith in wrong;
          }

    -- no two columns that the walk leaves touch at v
    walked_untouched : (c : Column) (ds : List Column) → AreGood g (c ∷ ds) → AllPairs Before (c ∷ ds) →
        AllPairs Untouched (walked g.faults v c ds)
    -- by induction on the columns: the second follows the first, and the walk goes on from the two made one; or the
    -- first stays, and touches none that the walk over the others leaves
    walked_untouched c [] all_good all_before =
        AllPairs-cons_by Untouched c [] (λ y in_none. absurd (Contains-nil y in_none)) (AllPairs-nil Untouched)
    walked_untouched c (d ∷ ds) all_good all_before = go (is_followed g.faults v c d) refl
        (λ good in_order. walked_untouched (joined g.faults v c d) ds
        (All-cons (λ (x : Column). IsGood g x.cube) (joined g.faults v c d) ds good (All-tail
        (λ (x : Column). IsGood g x.cube) d ds (All-tail (λ (x : Column). IsGood g x.cube) c (d ∷ ds) all_good)))
        in_order)
        (walked_untouched d ds (All-tail (λ (x : Column). IsGood g x.cube) c (d ∷ ds) all_good)
        (AllPairs-rest Before c (d ∷ ds) all_before))
      where
        -- the first column's cube is good
        good_c : IsGood g c.cube
        good_c = All-head (λ (x : Column). IsGood g x.cube) c (d ∷ ds) all_good

        -- the second column's cube is good
        good_d : IsGood g d.cube
        good_d =
            All-head (λ (x : Column). IsGood g x.cube) d ds
            (All-tail (λ (x : Column). IsGood g x.cube) c (d ∷ ds) all_good)

        -- by whether d follows c: then the walk goes on with the two joined, and otherwise c stays and the walk goes
        -- on with d
        go : (b : Bool) → is_followed g.faults v c d ≡ b →
            (IsGood g (joined g.faults v c d).cube → AllPairs Before (joined g.faults v c d ∷ ds) →
            AllPairs Untouched (walked g.faults v (joined g.faults v c d) ds)) →
            AllPairs Untouched (walked g.faults v d ds) →
            AllPairs Untouched (cond b (walked g.faults v (joined g.faults v c d) ds) (c ∷ walked g.faults v d ds))
        go true follows from_joined from_d = from_joined (good_joined g few v known c d good_c good_d follows)
            (AllPairs-cons_by Before (joined g.faults v c d) ds
            (λ y member. joined_before c d good_c good_d follows y
            (AllPairs-first Before c (d ∷ ds) all_before y (Contains-rest d ds y member))
            (AllPairs-first Before d ds (AllPairs-rest Before c (d ∷ ds) all_before) y member))
            (AllPairs-rest Before d ds (AllPairs-rest Before c (d ∷ ds) all_before)))
        go false not_followed from_joined from_d =
            AllPairs-cons_by Untouched c (walked g.faults v d ds)
            (untouched c d ds all_good all_before not_followed) from_d

    -- columns of which no two touch at v are settled there
    settled_from : (xs : List Column) → AreGood g xs → AllPairs Untouched xs → IsSettledOn g.faults v xs
    -- two columns that touch at v tie, so they stand at different places; whichever is first, the other doesn't follow
    -- it
    settled_from xs good none_touch = λ c d c_at d_at same_time touch.
        let good_c = All-contains (λ (x : Column). IsGood g x.cube) xs c good c_at in
        let good_d = All-contains (λ (x : Column). IsGood g x.cube) xs d good d_at in
        let tie = beside_from v c d same_time (same_without c.cube d.cube good_c good_d touch.others) in
        let next = touch.next in
        ⊎_elim
        (λ (same_place : c_at.0 ≡ d_at.0).
        let same : c ≡ d = sym c_at.2 ∙ get_or_default xs c_at.0 c d c_at.1 ∙ ap (λ k. get_or xs k d) same_place
        ∙ d_at.2 in
        let low_same : low_in c.cube v ≡ low_in d.cube v = ap (λ (x : Column). low_in x.cube v) same in
        let open_c = low-le-high g.faults c.cube good_c.met v in
        let wrong : ⊥ = omega arith in wrong)
        (λ (places_differ : (c_at.0 < d_at.0) ⊎ (d_at.0 < c_at.0)). ⊎_elim
        (λ (less : c_at.0 < d_at.0).
        (subst₂ Untouched c_at.2 (get_or_default xs d_at.0 c d d_at.1 ∙ d_at.2)
        (none_touch c_at.0 d_at.0 c less d_at.1)).above tie next)
        (λ (less : d_at.0 < c_at.0).
        (subst₂ Untouched (get_or_default xs d_at.0 c d d_at.1 ∙ d_at.2) c_at.2
        (none_touch d_at.0 c_at.0 c less c_at.1)).below
        (tied_back (beside_total v) c d tie) next)
        places_differ)
        (cases_order c_at.0 d_at.0)

    -- the whole: sorted columns that were walked over at v are settled there
    pub settled : (c : Column) (ds : List Column) → AreGood g (c ∷ ds) →
        ((s : Scenario) → IsScenario g s → length (times_in (c ∷ ds) s) ≤ 1) →
        IsSortedBy (λ x y. is_lt (column_cmp v x y)) (c ∷ ds) →
        IsSettledOn g.faults v (walked g.faults v c ds)
    settled c ds good single up = settled_from (walked g.faults v c ds) (walk g few v known c ds good).good
        (walked_untouched c ds good (before_pairs (c ∷ ds) good single up))
