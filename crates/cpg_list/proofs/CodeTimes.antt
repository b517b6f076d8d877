-- The search of a column by its time: it goes from the first timed column of the time on, and finds a column if one matches.
use Rattle.std.proofs.Common.{◌≡◌, ◌≢◌, ◌∙◌, ℕ, ◌+◌, ◌<◌, ◌≤◌, false, List, [], ◌∷◌, ◌++◌, length, length-append}
use Rattle.std.proofs.Common.{get_or, IsPermutation, None, arith, sym, ap, inl, inr, subst}
use Rattle.std.proofs.lemmas.Bool.{cases_lt}
use Rattle.std.specs.List.Sorted.{IsNonDecreasingBy}
use Rattle.std.proofs.lemmas.List.{get_or_default}
use Rattle.std.proofs.lemmas.List.Elements.{Contains-get_or}
use Rattle.std.proofs.lemmas.List.Sorted.{Contains-permutation, IsPermutation-sym}
use Rattle.std.proofs.Math.ListN.{get_or-append}
use Rattle.std.proofs.Math.Seq.{get_or-append_seam}
use Rattle.cpg_base.specs.Scenario.{Scenario}
use Rattle.cpg_cube.specs.Cube.{matches}
use Rattle.cpg_cube.specs.declared.column.Column.{Column}
use Rattle.cpg_list.specs.TimeOrder.{TimedColumn, IsTimeOrder, StartsAt, FindsHit}

-- the timed columns from `start` on and before `at` all have the time, and their columns don't match
abbrev pub ArePassed : List Column → List TimedColumn → ℕ → Scenario → ℕ → ℕ → Type 0
ArePassed columns by_time time s start at =
    (i : ℕ) (d : TimedColumn) (c : Column) → start ≤ i → i < at → ((get_or by_time i d).time ≡ time) ×
    (matches (get_or columns (get_or by_time i d).place c).cube s ≡ false)

-- given: the timed columns of a row, the earlier times first, and a search that began at `start`, the first of the time, and
-- has passed those before `at`
module _ (columns : List Column) (by_time : List TimedColumn) (is : IsTimeOrder columns by_time) (time : ℕ)
    (s : Scenario) (start : ℕ) (starts : StartsAt by_time time start) (at : ℕ)
    (passed : ArePassed columns by_time time s start at) where
  -- If no timed column from `at` on has the time, no column of the time matches: the timed column of each is before `start` and
  -- earlier, or was passed, or comes later and has another time.
  missed : ((i : ℕ) (d : TimedColumn) → at ≤ i → i < length by_time → (get_or by_time i d).time ≡ time → ⊥) →
      FindsHit columns time s None
  missed later i c within same =
      let blank : TimedColumn = record { time = 0; place = 0 } in
      let found = is.all i c within in
      let place_and_time = found.2 blank in
      let here : (get_or by_time found.0 blank).time ≡ time = place_and_time.1 ∙ same in
      elim (cases_lt found.0 start) [
        | inl before ↦ absurd (omega (arith, starts.before found.0 blank before, here))
        | inr from_start ↦ elim (cases_lt found.0 at) [
          | inl in_passed ↦ subst (λ j. matches (get_or columns j c).cube s
              ≡ false) place_and_time.0 (passed found.0 blank c from_start in_passed).1
          | inr not_passed ↦ absurd (later found.0 blank not_passed found.1 here)
        ]
      ]

  -- if the search comes to the end, no column of the time matches
  pub missed_end : length by_time ≤ at → FindsHit columns time s None
  missed_end at_most = missed (λ i d l m e. omega (arith, at_most, l, m))

  -- if it comes to another time, no column of the time matches
  pub missed_time : (x : TimedColumn) → start ≤ at → at < length by_time → x ≡ get_or by_time at x → x.time ≢ time →
      FindsHit columns time s None
  missed_time x f within read other = missed (λ i d m n e.
      other (omega (
        arith,
        ap (λ (y : TimedColumn). y.time) read,
        is.rising at i x m n,
        starts.after at x f within,
        ap (λ (y : TimedColumn). y.time) (get_or_default by_time i x d n),
        e,
      )))

-- ---- the times of columns, sorted

-- `made` has the time and place of each of the first n columns, in the order of the row
pub record AreTimes (columns : List Column) (n : ℕ) (made : List TimedColumn) : Type 0 where
  -- there is one for each of these columns
  pub count : length made ≡ n
  -- it has the place and the time of its column
  pub each : (i : ℕ) (d : TimedColumn) (c : Column) → i < n →
      ((get_or made i d).place ≡ i) × ((get_or made i d).time ≡ (get_or columns i c).time)

-- given: the columns of a row, in its order
module _ (columns : List Column) where
  -- If t, the time and place of the n-th column x, is added, `next` has those of the first n + 1 columns.
  pub one_timed : (n : ℕ) (made next : List TimedColumn) (x : Column) (t : TimedColumn) → n < length columns →
      AreTimes columns n made → x ≡ get_or columns n x →
      next ≡ made ++ t ∷ [] →
      t.time ≡ x.time → t.place ≡ n → AreTimes columns (n + 1) next
  one_timed n made next x t inside are at is time place = record {
    count = ap length is ∙ length-append made (t ∷ []) ∙ omega (arith, are.count);
    -- one of the first n columns has its timed column in `made`; the n-th, which is x, has t
    each = λ i d c within. subst (λ ts. ((get_or ts i d).place ≡ i) ×
        ((get_or ts i d).time ≡ (get_or columns i c).time))
        (sym is) (elim (cases_lt i n) [
          | inl earlier ↦ subst (λ (y : TimedColumn). (y.place ≡ i) × (y.time ≡ (get_or columns i c).time))
              (sym (get_or-append made (t ∷ []) d i (omega (arith, earlier, are.count)))) (are.each i d c earlier)
          | inr last ↦
              let same_place : i ≡ n = omega (arith, within, last) in
              let is_new : get_or (made ++ t ∷ []) i d ≡ t =
              ap (λ j. get_or (made ++ t ∷ []) j d) (same_place ∙ sym are.count) ∙ get_or-append_seam made t [] d in
              subst (λ (z : TimedColumn). (z.place ≡ i) × (z.time ≡ (get_or columns i c).time)) (sym is_new) (
                place ∙ sym same_place,
                time ∙ ap (λ (z : Column). z.time)
                    (at ∙ get_or_default columns n x c inside ∙ ap (λ j. get_or columns j c) (sym same_place)),
              )
        ]);
  }

  -- The times and places of all columns, sorted by time, are the columns in time order. Sorting only changes the order, so each
  -- timed column is still one of a column, and each column has its timed column.
  pub time_order : (made sorted : List TimedColumn) → AreTimes columns (length columns) made →
      IsPermutation made sorted →
      IsNonDecreasingBy (λ (t : TimedColumn). t.time) sorted
      → IsTimeOrder columns sorted
  time_order made sorted are same up = record {
    rising = λ i j d h l. up i j d h l;
    -- a timed column of the sorted list is one of the list before, which has a column's time and place
    each = λ i d c within.
        let timed = get_or sorted i d in
        let place_before =
        Contains-permutation sorted made timed (IsPermutation-sym made sorted same)
        (Contains-get_or sorted i d within) in
        let of_column = are.each place_before.0 timed c (omega (arith, place_before.1, are.count)) in
        let place : timed.place ≡ place_before.0 = ap (λ (t : TimedColumn). t.place)
        (sym place_before.2) ∙ of_column.0 in (
          omega (arith, place, place_before.1, are.count),
          ap (λ (k : ℕ). (get_or columns k c).time) place ∙ sym of_column.1
              ∙ ap (λ (t : TimedColumn). t.time) place_before.2,
        );
    -- the timed column of column k is somewhere in the sorted list
    all = λ k c l.
        let blank : TimedColumn = record { time = 0; place = 0 } in
        let timed = get_or made k blank in
        let of_column = are.each k blank c l in
        let place_after =
        Contains-permutation made sorted timed same (Contains-get_or made k blank (omega (arith, l, are.count))) in (
          place_after.0,
          place_after.1,
          λ d.
              let at : get_or sorted place_after.0 d ≡ timed = get_or_default sorted place_after.0 d timed
              place_after.1 ∙ place_after.2 in
              (ap (λ (t : TimedColumn). t.place) at ∙ of_column.0, ap (λ (t : TimedColumn). t.time) at ∙ of_column.1),
        );
  }

-- if the timed column at `at` has the time and its column y doesn't match, the search has passed one timed column more
pub passed_more : (columns : List Column) (by_time : List TimedColumn) (time : ℕ) (s : Scenario) (start at : ℕ) →
    ArePassed columns by_time time s start at → (x : TimedColumn) →
    at < length by_time →
    (get_or by_time at x).time ≡ time → (y : Column)
    → (get_or by_time at x).place < length columns → y ≡ get_or columns (get_or by_time at x).place y →
    matches y.cube s ≡ false → ArePassed columns by_time time s start (at + 1)
passed_more columns by_time time s start at passed x within same y inside is off i d c from_start
    below_next = elim (cases_lt i at) [
      | inl earlier ↦ passed i d c from_start earlier
      | inr last ↦
          let same_place : at ≡ i = omega (arith, below_next, last) in
          let same_timed : get_or by_time at x ≡ get_or by_time i d =
          get_or_default by_time at x d within ∙ ap (λ j. get_or by_time j d) same_place in
          subst (λ (z : TimedColumn). (z.time ≡ time) × (matches (get_or columns z.place c).cube s ≡ false)) same_timed (
            same,
            subst (λ (z : Column). matches z.cube s ≡ false)
                (is ∙ get_or_default columns (get_or by_time at x).place y c inside) off,
          )
    ]
