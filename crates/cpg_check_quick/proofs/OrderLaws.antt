-- Which items are over before others begin: by the trees of their rows, by their columns one by one, and by an item
-- between that is always active.
use Rattle.std.proofs.Common.{ℕ, ◌+◌, ◌-◌, ◌<◌, ◌≤◌, ◌≡◌, ◌⊎◌, true, false, not, ◌&&◌, Bool, cond, List, [], ◌∷◌, ◌++◌}
use Rattle.std.proofs.Common.{Option, None, Some, All, Contains, IfSome, length, get_or, take, drop, min}
use Rattle.std.proofs.Common.{arith, refl, sym, ap, ◌∙◌, subst, inl, inr, Global, Vec}
use Rattle.std.specs.List.{list_any}
use Rattle.std.proofs.lemmas.Bool.{cases_lt, both_ways}
use Rattle.std.proofs.lemmas.List.{get_or_default, get_or-drop, get_or-take, get_or_append_left, get_or_push}
use Rattle.std.proofs.lemmas.List.{length-append, length-take, length-drop}
use Rattle.std.proofs.lemmas.List.Elements.{All-contains, All-more, All-push, All-weaker, Contains-append_left}
use Rattle.std.proofs.lemmas.List.Elements.{Contains-push}
use Rattle.cpg_base.specs.Activity.{item_active}
use Rattle.cpg_base.specs.Graph.{Graph, item_at, item_count, process_count}
use Rattle.cpg_base.proofs.Lists.{list_any_parts}
use Rattle.cpg_base.specs.Duration.{duration}
use Rattle.cpg_base.specs.declared.limits.TheConstants.{MOST_FAULTS}
use Rattle.cpg_base.specs.Scenario.{Scenario, IsScenario, fault_of, number_of}
use Rattle.cpg_base.proofs.NumbersOf.{number_of-fault}
use Rattle.cpg_cube.specs.Cube.{matches}
use Rattle.cpg_table.specs.Table.{NodeTable, columns_of}
use Rattle.cpg_cube.specs.declared.column.Column.{Column}
use Rattle.cpg_cube.specs.Column.{column_at}
use Rattle.cpg_table.specs.declared.rule.Rule.{Rule}
use Rattle.cpg_row_trees.specs.PlacesState.{PlacesState}
use Rattle.cpg_row_trees.specs.Places.{place_at}
use Rattle.cpg_row_trees.specs.Trees.{IsRowTree}
use Rattle.cpg_row_trees.proofs.TreeLaws.{none_matches, place_only}
use Rattle.cpg_violation.specs.Violation.{Holds}
use Rattle.cpg_violation.proofs.Durations.{duration_grows, fault_within}
use Rattle.cpg_violation.specs.Always.{IsUnconditional}
use Rattle.cpg_check_quick.specs.declared.spanned_rows.SpannedRow.{SpannedRow}
use Rattle.cpg_check_quick.specs.declared.spanned_rows.SpannedRows.{SpannedRows}
use Rattle.cpg_check_quick.specs.declared.span.ItemSpan.{ItemSpan}
use Rattle.cpg_check_quick.specs.SpannedRows.{AreSpannedRows, IsSpannedRow, IsOverAt, IsPast, IsSpan}
use Rattle.cpg_check_quick.specs.Order.{execution, IsApart, IsApartAt, IsInSequence, IsOver, IsOverBy, StandsBefore}

-- ---- spans

-- a span whose lengths are the durations of process `p` with 0, 1, .. faults, up to the graph's most, is one of its
-- executions: these last no longer with fewer faults
pub span_of : (g : Graph) → process_count g ≤ 128 → (p : ℕ) → p < process_count g → (span : ItemSpan) →
    span.variable ≡ p
    → ((n : ℕ) → n ≤ MOST_FAULTS → get_or span.lengths n 0 ≡ duration g p (min g.faults n)) →
    span.longest ≡ duration g p g.faults → IsSpan g (execution g p) span
span_of g few p within span is lengths longest = record {
  enough = λ s n law h k.
      let counted : fault_of s p ≤ n =
      omega (arith, number_of-fault s p (omega (arith, few, within)), subst (λ v. number_of s v ≤ n) is h) in
      let most : fault_of s p ≤ min g.faults n = omega (arith, fault_within g few p within s law, counted) in
      omega (arith, duration_grows g p (fault_of s p) (min g.faults n) most, lengths n k);
  longest = λ s law. omega (
    arith,
    duration_grows g p (fault_of s p) g.faults
        (fault_within g few p within s law),
    longest,
  );
}

-- ---- rows

-- the row that is looked up at an item's number is the item's
pub row_at : {lasts : ℕ → Scenario → ℕ} {g : Graph} {tables : List NodeTable} {rows : SpannedRows} →
    AreSpannedRows lasts g tables rows
    → (x : ℕ) (row : SpannedRow) (list : List SpannedRow) → list ≡ rows.list.items → x < length list →
    row ≡ get_or list x row → IsSpannedRow g tables (lasts x) x row
row_at {lasts = lasts} {g = g} {tables = tables} {rows = rows} are x row list same within is =
    subst (IsSpannedRow g tables (lasts x) x) (sym (is ∙ ap (λ (ys : List SpannedRow). get_or ys x row) same))
    (are.each x row (omega (arith, within, ap length same)))

-- the list has the rows of the first `n` items (`d` is only the default of `get_or`)
pub record AreSoFar (lasts : ℕ → Scenario → ℕ) (g : Graph) (tables : List NodeTable) (n : ℕ)
    (list : List SpannedRow) : Type 0 where
  -- it has `n` rows, and each is that of the item whose number is its place
  pub count : length list ≡ n
  pub each : (x : ℕ) (d : SpannedRow) → x < length list → IsSpannedRow g tables (lasts x) x (get_or list x d)

-- with the row of item `n` at its end, the list has the rows of one item more
pub rows_more : (lasts : ℕ → Scenario → ℕ) (g : Graph) (tables : List NodeTable) (n : ℕ) (list : List SpannedRow)
    (row : SpannedRow) →
    AreSoFar lasts g tables n list →
    IsSpannedRow g tables (lasts n) n row → AreSoFar lasts g tables (n + 1) (list ++ row ∷ [])
rows_more lasts g tables n list row before here = record {
  count = omega (arith, length-append list (row ∷ []), before.count);
  each = λ x d l. elim (cases_lt x n) [
    | inl lt ↦ subst (IsSpannedRow g tables (lasts x) x)
        (sym (get_or_append_left list (row ∷ []) d x (omega (arith, before.count, lt))))
        (before.each x d (omega (arith, before.count, lt)))
    | inr ge ↦
        let same : n ≡ x = omega (arith, l, ge, length-append list (row ∷ []), before.count) in
        subst (IsSpannedRow g tables (lasts x) x) (sym (get_or_push list row d x (omega (arith, before.count, same))))
        (subst (λ y. IsSpannedRow g tables (lasts y) y row) same here)
  ];
}

-- ---- one column

-- a tree of a row's columns, a scenario, and a fact of columns
module _ {g : Graph} {columns : List Column} {tree : PlacesState} (is : IsRowTree g columns tree) (s : Scenario)
    (law : IsScenario g s) (fact : Column → Type 0) where
  -- if the fact is one of the column at the place to which the tree leads the scenario (`o`), it is one of each column
  -- `d` that matches: that is only this column, and none if there is no place
  by_place : (o : Option ℕ) → place_at tree s ≡ o → IfSome o (λ i. fact (column_at columns i)) → (d : Column) →
      Contains columns d → matches d.cube s ≡ true → fact d
  by_place None same if_some d there it_matches = absurd (none_matches is s law same d there it_matches)
  by_place (Some i) same if_some d there it_matches =
      let at : column_at columns there.0 ≡ d = get_or_default columns there.0
      (record { time = 0; cube = [] }) d there.1 ∙ there.2 in
      let alike : there.0 ≡ i = place_only is s law i there.0 same there.1
      (ap (λ (d : Column). matches d.cube s) at ∙ it_matches) in
      subst fact (ap (column_at columns) (sym alike) ∙ at) if_some

  -- so a fact of the column at the scenario's place is one of each column that matches
  pub each_told : IfSome (place_at tree s) (λ i. fact (column_at columns i)) → (d : Column) → Contains columns d →
      matches d.cube s ≡ true → fact d
  each_told if_some = by_place (place_at tree s) refl if_some

-- the span of an item, and a scenario
module _ {g : Graph} {lasts : Scenario → ℕ} {span : ItemSpan} (is : IsSpan g lasts span)
    {s : Scenario} (law : IsScenario g s) where
  -- an item that is past a time by its span (`IsPast`) is over by the time
  pub past_over : (start time : ℕ) → IsPast span start time s → start + lasts s ≤ time
  past_over start time p = omega (arith, is.enough s p.count law p.most p.known, p.over)

-- the row of an item, and a scenario
module _ {g : Graph} {tables : List NodeTable} {lasts : Scenario → ℕ} {x : ℕ} {row : SpannedRow}
    (is : IsSpannedRow g tables lasts x row) {s : Scenario} (law : IsScenario g s) where
  -- the item is over by a time, by whichever column it begins, if it would be by its last column, lasting longest
  pub early_over : (time : ℕ) → row.last + row.span.longest ≤ time → IsOverBy tables (lasts s) x time s
  early_over time at_most d c m =
      let last : d.time ≤ row.last =
      All-contains (λ (d : Column). d.time ≤ row.last) (columns_of tables x) d is.last c in
      omega (arith, at_most, last, is.span.longest s law)

  -- what begins at `start` and lasts `other` is over by each of its columns, if it would be by the first, lasting
  -- longer
  pub late_over : (start longest other : ℕ) → other ≤ longest → start + longest ≤ row.first → (d : Column) →
      Contains (columns_of tables x) d →
      start + other ≤ d.time
  late_over start longest other l h d there =
      let first : row.first ≤ d.time =
      All-contains (λ (d : Column). row.first ≤ d.time) (columns_of tables x) d is.first there in
      omega (arith, l, h, first)

  -- the row has a tree
  module _ (tree : PlacesState) (there : row.tree.now ≡ Some tree) where
    -- it is a tree of the item's columns
    row_tree : IsRowTree g (columns_of tables x) tree
    row_tree = subst (λ (o : Option PlacesState). IfSome o (λ (t : PlacesState). IsRowTree g (columns_of tables x) t))
        there is.tree

    -- the item is over by a time if it is from the column at the scenario's place
    pub told_over : (time : ℕ) →
        IfSome (place_at tree s) (λ i. IsPast row.span (column_at row.columns.now i).time time s) →
        IsOverBy tables (lasts s) x time s
    told_over time if_some d among it_matches = past_over is.span law d.time time
        (each_told row_tree s law (λ (d : Column). IsPast row.span d.time time s)
        (subst (λ (columns : List Column).
        IfSome (place_at tree s) (λ i. IsPast row.span (column_at columns i).time time s)) is.columns
        if_some) d among it_matches)

    -- the item and another one, which begins at `time`, are apart if they are with the item begun by the column at the
    -- scenario's place
    pub told_apart : {other : Scenario → ℕ} {span : ItemSpan} → IsSpan g other span → (time : ℕ)
        → IfSome (place_at tree s) (λ i. IsPast row.span (column_at row.columns.now i).time time s ⊎
        IsPast span time (column_at row.columns.now i).time s) →
        IsApartAt tables (lasts s) x (other s) time s
    told_apart {other = other} {span = span} by time if_some d among it_matches =
        elim (each_told row_tree s law (λ (d : Column). IsPast row.span d.time time s ⊎ IsPast span time d.time s)
        (subst (λ (columns : List Column). IfSome (place_at tree s) (λ i. IsPast row.span
        (column_at columns i).time time s ⊎ IsPast span time (column_at columns i).time s)) is.columns if_some)
        d among it_matches) [
          | inl p ↦ inl (past_over is.span law d.time time p)
          | inr p ↦ inr (past_over by law time d.time p)
        ]

-- the row of an item that has a tree
module _ {g : Graph} {tables : List NodeTable} {last : Scenario → ℕ} {x : ℕ} {row : SpannedRow}
    (is : IsSpannedRow g tables last x row) (tree : PlacesState) (there : row.tree.now ≡ Some tree) where
  -- the tree is one of the item's columns
  its_tree : IsRowTree g (columns_of tables x) tree
  its_tree = subst (λ (o : Option PlacesState). IfSome o (λ (t : PlacesState). IsRowTree g (columns_of tables x) t))
      there is.tree

-- a fact of column `c`, which is looked up at place `i`, is one of the column at the place
pub told_at : (fact : Column → Type 0) (columns : List Column) (i : ℕ) (c : Column) → i < length columns →
    c ≡ get_or columns i c → fact c →
    fact (column_at columns i)
told_at fact columns i c within is h =
    subst fact (is ∙ sym (get_or_default columns i (record { time = 0; cube = [] }) c within)) h

-- a fact `P` of a place, if there is one (`o`), may be replaced by `Q`, which follows from it
pub told_so : {P Q : ℕ → Type 0} (o : Option ℕ) → IfSome o P → ((i : ℕ) → P i → Q i) → IfSome o Q
told_so None if_some f = tt
told_so (Some i) if_some f = f i if_some

-- ---- two trees

-- the row of an item that has a tree, and a scenario
module _ {g : Graph} {tables : List NodeTable} {lasts : Scenario → ℕ} {y : ℕ} {one : SpannedRow}
    (is : IsSpannedRow g tables lasts y one) {s : Scenario} (law : IsScenario g s) (own : PlacesState)
    (there : one.tree.now ≡ Some own) where
  -- the item is over by a time if `IsOverAt` says so of the scenario's place
  over_at : (time : ℕ) → IsOverAt one time (place_at own s) s → IsOverBy tables (lasts s) y time s
  over_at time h = elim h [
    | inl early ↦ early_over is law time early
    | inr past ↦ told_over is law own there time past
  ]

-- the rows of two items
module _ {g : Graph} {tables : List NodeTable}
    (lasts : ℕ → Scenario → ℕ) {long : Scenario → ℕ} {y x : ℕ} {one other : SpannedRow}
    (is : IsSpannedRow g tables (lasts y) y one) (by : IsSpannedRow g tables long x other) where
  -- the one is over before the other, if it would be by the other's first time, begun by its last column and lasting
  -- longest
  pub early_before : one.last + one.span.longest ≤ other.first → IsOver lasts g tables y x
  early_before at_most s c law here m = early_over is law c.time
      (omega (
        arith,
        at_most,
        All-contains (λ (d : Column). other.first ≤ d.time)
            (columns_of tables x) c by.first here,
      ))

  -- the one is over before the other, too, if in each scenario it is over, begun by its own column at the scenario's
  -- place, by the time of the other's column at the scenario's place
  pub walked_before : (own tree : PlacesState) → one.tree.now ≡ Some own → other.tree.now ≡ Some tree
      → ((s : Scenario) → IsScenario g s →
      IfSome (place_at tree s) (λ i. IsOverAt one (column_at other.columns.now i).time (place_at own s) s)) →
      IsOver lasts g tables y x
  walked_before own tree has there all s c law here it_matches =
      each_told (its_tree by tree there) s law (λ (c : Column). IsOverBy tables (lasts y s) y c.time s)
      (subst (λ (columns : List Column).
      IfSome (place_at tree s) (λ i. IsOverBy tables (lasts y s) y (column_at columns i).time s)) by.columns
      (told_so (place_at tree s) (all s law) (λ i. over_at is law own has (column_at other.columns.now i).time))) c here
      it_matches

-- ---- columns one after another

-- how long each item lasts, and the tables
module _ (lasts : ℕ → Scenario → ℕ) (g : Graph) (tables : List NodeTable) where
  -- if the items are over by the time of each of the columns of item `x` that matches, they are over before it
  pub over_all : (x : ℕ) (columns : List Column) (items : List ℕ) → columns ≡ columns_of tables x
      → ((s : Scenario) → IsScenario g s → All
      (λ (c : Column). matches c.cube s ≡ true → All (λ y. IsOverBy tables (lasts y s) y c.time s) items) columns)
      → All (λ y. IsOver lasts g tables y x) items
  over_all x columns items all each k d l s c law here m =
      All-contains (λ (c : Column). matches c.cube s ≡ true → All (λ y. IsOverBy tables (lasts y s) y c.time s) items)
      columns c (each s law)
      (subst (λ (cs : List Column). Contains cs c) (sym all) here) m k d l

  -- if the items are apart from item `x` at each of its columns that matches, they are apart from it
  pub apart_all : (x : ℕ) (columns : List Column) (items : List ℕ) → columns ≡ columns_of tables x
      → ((s : Scenario) → IsScenario g s → All (λ (c : Column). matches c.cube s ≡ true →
      All (λ y. IsApartAt tables (lasts y s) y (lasts x s) c.time s) items) columns)
      → All (λ y. IsApart lasts g tables y x) items
  apart_all x columns items all each k d l s c law here m =
      All-contains (λ (c : Column). matches c.cube s ≡ true →
      All (λ y. IsApartAt tables (lasts y s) y (lasts x s) c.time s) items) columns c (each s law)
      (subst (λ (cs : List Column). Contains cs c) (sym all) here) m k d l

  -- an item `y` that is over before item `x` is apart from it
  pub over_apart : (y x : ℕ) → IsOver lasts g tables y x → IsApart lasts g tables y x
  over_apart y x over s c law here m d at n = inl (over s c law here m d at n)

  -- an item `y` that `x` is over before is apart from it
  pub apart_over : (y x : ℕ) → IsOver lasts g tables x y → IsApart lasts g tables y x
  apart_over y x over s c law here m d at n = inr (over s d law at n c here m)

-- ---- items between

-- tables that keep V3
module _ (g : Graph) (tables : List NodeTable) (present : Holds g tables Rule.Present) where
  -- if item `x` is active in scenario `s`, it has a column that matches
  pub has_column : (x : ℕ) → x < item_count g → (s : Scenario) → IsScenario g s →
      item_active g s.values (item_at g x) ≡ true →
      (d : Column) × Contains (columns_of tables x) d ×
      (matches d.cube s ≡ true)
  has_column x within s law active =
      let none : (item_active g s.values (item_at g x)
      && not (list_any (λ (d : Column). matches d.cube s) (columns_of tables x))) ≡ false =
      present x None s law within in
      list_any_parts (λ (d : Column). matches d.cube s) (columns_of tables x)
      (shown (item_active g s.values (item_at g x))
      (list_any (λ (d : Column). matches d.cube s) (columns_of tables x)) active none)
    where
      -- what is active (`a`) and not absent has a column that matches (`b`)
      shown : (a b : Bool) → a ≡ true → (a && not b) ≡ false → b ≡ true
      shown true true e h = refl
      shown true false e h = absurd (both_ways true h refl)
      shown false b e h = absurd (both_ways false refl e)

  -- how long each item lasts
  module _ (lasts : ℕ → Scenario → ℕ) where
    -- if `q` is over before `r`, `r` before `x`, and `r` is always active, then `q` is over before `x`: a column of `r`
    -- matches in between
    pub before_over : (q r x : ℕ) → r < item_count g → IsUnconditional g r → IsOver lasts g tables q r →
        IsOver lasts g tables r x →
        IsOver lasts g tables q x
    before_over q r x within always over is_over s c law here m d at n =
        let column_between = has_column r within s law (always s law) in
        let over_first : d.time + lasts q s ≤ column_between.0.time = over s column_between.0 law column_between.1
        column_between.2 d at n in
        let over_second : column_between.0.time + lasts r s ≤ c.time = is_over s c law here m column_between.0
        column_between.1 column_between.2 in
        omega (arith, over_first, over_second)

    -- the step of `are_in_sequence` at `place` of an order: the item at `start`, unless that is 0, is active in every
    -- scenario (`always`), and the items from there on are over before the item at the place (`here`)
    module _ (items : List ℕ) (place start : ℕ) (there : place < length items) (within : start ≤ place)
        (always : 0 < start →
        (start < place) × IsUnconditional g (get_or items start 0) × (get_or items start 0 < item_count g))
        (here : All (λ y. IsOver lasts g tables y (get_or items place 0))
        (take (place - start) (drop start items))) where
      -- each item from the start on is over before the one at the place
      near : (i : ℕ) → start ≤ i → i < place → IsOver lasts g tables (get_or items i 0) (get_or items place 0)
      near i l h =
          let at : get_or (take (place - start) (drop start items)) (i - start) 0 ≡ get_or items i 0 =
          get_or-take (place - start) (drop start items) (i - start) 0 (omega (arith, l, h))
          ∙ get_or-drop start items (i - start) 0 ∙ ap (λ j. get_or items j 0) (omega (arith, l)) in
          let long : i - start < length (take (place - start) (drop start items)) =
          omega (arith, l, h, there, length-take (place - start) (drop start items), length-drop start items) in
          subst (λ y. IsOver lasts g tables y (get_or items place 0)) at (here (i - start) 0 long)

      -- each item at a place `i` before `start` is over before the one at `start`, and so before the one at `place`
      far : ((i j : ℕ) → i < j → j < place → IsOver lasts g tables (get_or items i 0) (get_or items j 0)) → (i : ℕ) →
          i < start →
          IsOver lasts g tables (get_or items i 0) (get_or items place 0)
      far before i less =
          let is = always (omega (arith, less)) in
          before_over (get_or items i 0) (get_or items start 0) (get_or items place 0) is.2 is.1
          (before i start less is.0)
          (near start (omega arith) is.0)

      -- so if each item at a place `i` is over before each later one, at a place `j` before `place`, this is so up to
      -- `place`
      pub in_sequence_more :
          ((i j : ℕ) → i < j → j < place → IsOver lasts g tables (get_or items i 0) (get_or items j 0)) →
          (i j : ℕ) → i < j → j < place + 1 →
          IsOver lasts g tables (get_or items i 0) (get_or items j 0)
      in_sequence_more before i j h k = elim (cases_lt j place) [
        | inl lt ↦ before i j h lt
        | inr ge ↦ let same : place ≡ j = omega (arith, k, ge) in
            subst (λ z. IsOver lasts g tables (get_or items i 0) (get_or items z 0)) same (elim (cases_lt i start) [
              | inl lt ↦ far before i lt
              | inr at ↦ near i at (omega (arith, h, same))
            ])
      ]

-- the invariant of `are_in_sequence`: each item before `place` is over before each later one before it (`before`), and
-- the item at `start`, unless that is 0, is before the place and active in every scenario (`always`)
pub record IsInSequenceTo (rows : SpannedRows) (items : List ℕ) (place start : ℕ) : Type 0 where
  -- `start` isn't behind `place`
  pub within : start ≤ place
  -- if `start` isn't 0, its item is before the place, and active in every scenario
  pub always : (g : Graph) (tables : List NodeTable) (lasts : ℕ → Scenario → ℕ) → AreSpannedRows lasts g tables rows →
      0 < start →
      (start < place) × IsUnconditional g (get_or items start 0) ×
      (get_or items start 0 < item_count g)
  -- if V3 holds, each item before `place` is over before each later one before `place`
  pub before : (g : Graph) (tables : List NodeTable) (lasts : ℕ → Scenario → ℕ) → AreSpannedRows lasts g tables rows →
      Holds g tables Rule.Present → (i j : ℕ) → i < j → j < place →
      IsOver lasts g tables (get_or items i 0) (get_or items j 0)

-- the invariant holds after the step: the items from `start` on are over before the one at `place`, and `next` is
-- `place` only if that one is active in every scenario
pub sequence_step : (rows : SpannedRows) (items : List ℕ) (place start next : ℕ) (b : Bool) →
    next ≡ cond b place start →
    place < length items
    → ((g : Graph) (tables : List NodeTable) (lasts : ℕ → Scenario → ℕ) → AreSpannedRows lasts g tables rows →
    b ≡ true →
    IsUnconditional g (get_or items place 0) ×
    (get_or items place 0 < item_count g))
    → ((g : Graph) (tables : List NodeTable) (lasts : ℕ → Scenario → ℕ) → AreSpannedRows lasts g tables rows →
    All (λ y. IsOver lasts g tables y (get_or items place 0)) (take (place - start) (drop start items)))
    → IsInSequenceTo rows items place start → IsInSequenceTo rows items (place + 1) next
sequence_step rows items place start next b is there here over now = record {
  within = within b is;
  always = λ g tables lasts are some. always g tables lasts are b is some (here g tables lasts are);
  before = λ g tables lasts are present. in_sequence_more g tables present lasts items place start there now.within
      (now.always g tables lasts are) (over g tables lasts are)
      (now.before g tables lasts are present);
}
  where
    -- the new start isn't past the next place
    within : (b : Bool) → next ≡ cond b place start → next ≤ place + 1
    within true equal = omega (arith, equal)
    within false equal = omega (arith, equal, now.within)

    -- if the new start isn't the first place, its item is before the next place and active in every scenario
    always : (g : Graph) (tables : List NodeTable) (lasts : ℕ → Scenario → ℕ) → AreSpannedRows lasts g tables rows →
        (b : Bool) → next ≡ cond b place start → 0 < next
        → (b ≡ true → IsUnconditional g (get_or items place 0) × (get_or items place 0 < item_count g)) →
        (next < place + 1) × IsUnconditional g (get_or items next 0) ×
        (get_or items next 0 < item_count g)
    always g tables lasts are true same some h = let is = h refl in (
      omega (arith, same),
      subst (λ n. IsUnconditional g (get_or items n 0)) (sym same) is.0,
      subst (λ n. get_or items n 0 < item_count g) (sym same) is.1,
    )
    always g tables lasts are false same some h =
        let old = now.always g tables lasts are (omega (arith, same, some)) in (
          omega (arith, same, old.0),
          subst (λ n. IsUnconditional g (get_or items n 0)) (sym same) old.1,
          subst (λ n. get_or items n 0 < item_count g) (sym same) old.2,
        )

-- ---- what an order tells

-- if each item of an order is over before each later one, and `x` comes before `y` in it, `x` is over before `y`
pub before_in : (lasts : ℕ → Scenario → ℕ) (g : Graph) (tables : List NodeTable) (order : List ℕ) (x y : ℕ) →
    IsInSequence lasts g tables order → StandsBefore order x y →
    IsOver lasts g tables x y
before_in lasts g tables order x y all stands =
    let over : IsOver lasts g tables (get_or order stands.from 0) (get_or order stands.to 0) =
    all stands.from stands.to stands.rising stands.there in
    subst (λ a. IsOver lasts g tables a y) stands.is_first
    (subst (λ b. IsOver lasts g tables (get_or order stands.from 0) b) stands.is_second over)

-- if each order of a list has its items in sequence, so has `order`, which is looked up there at the number of a node
pub order_at : (lasts : ℕ → Scenario → ℕ) (g : Graph) (tables : List NodeTable) (orders list : List (Vec ℕ Global))
    (node : ℕ) (order : Vec ℕ Global) →
    All (λ o. IsInSequence lasts g tables o.items) orders
    → list ≡ orders → node < length list → order ≡ get_or list node order → IsInSequence lasts g tables order.items
order_at lasts g tables orders list node order all same within is =
    subst (λ (o : Vec ℕ Global). IsInSequence lasts g tables o.items)
    (sym (is ∙ ap (λ (os : List (Vec ℕ Global)). get_or os node order) same))
    (all node order (omega (arith, within, ap length same)))

-- if each of `orders` has its items in sequence, and so has `order`, each has with `order` at the end of the list
pub orders_more : (lasts : ℕ → Scenario → ℕ) (g : Graph) (tables : List NodeTable) (orders : List (Vec ℕ Global))
    (order : Vec ℕ Global) →
    All (λ o. IsInSequence lasts g tables o.items) orders →
    IsInSequence lasts g tables order.items
    → All (λ o. IsInSequence lasts g tables o.items) (orders ++ order ∷ [])
orders_more lasts g tables orders order all here =
    All-push (λ (o : Vec ℕ Global). IsInSequence lasts g tables o.items) orders order all here

-- ---- what is left to compare

-- the loop of `untold`, which leaves the items that aren't known to be apart from `x`
module _ (lasts : ℕ → Scenario → ℕ) (g : Graph) (tables : List NodeTable) (x : ℕ) where
  -- item `y` is left, or apart from `x`
  abbrev pub Known : List ℕ → ℕ → Type 0
  Known left y = Contains left y ⊎ IsApart lasts g tables y x

  -- if the next item is left as well, each of the first `i + 1` items is left, or apart from `x`
  pub known_push : (left items : List ℕ) (i : ℕ) → i < length items → All (Known left) (take i items) →
      All (Known (left ++ get_or items i 0 ∷ [])) (take (i + 1) items)
  known_push left items i within before = All-more (Known (left ++ get_or items i 0 ∷ [])) items i 0 within
      (All-weaker (Known left) (Known (left ++ get_or items i 0 ∷ []))
      (λ y k. elim k [ inl there ↦ inl (Contains-append_left left (get_or items i 0 ∷ []) y there) | inr a ↦ inr a ])
      (take i items) before)
      (inl (Contains-push left (get_or items i 0)))

  -- if all items that are left are apart from `x`, all items are
  pub known_apart : (left items : List ℕ) → All (Known left) items → All (λ y. IsApart lasts g tables y x) left →
      All (λ y. IsApart lasts g tables y x) items
  known_apart left items known apart = All-weaker (Known left) (λ y. IsApart lasts g tables y x)
      (λ y k. elim k [ inl a ↦ All-contains (λ y. IsApart lasts g tables y x) left y apart a | inr a ↦ a ]) items known
