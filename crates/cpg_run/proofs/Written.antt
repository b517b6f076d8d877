-- Rows that carry no more than they may can be written as tables if they fit, and tables with these rows are lawful. They fit if no
-- item is too wide.
use Rattle.std.proofs.Common.{◌≡◌, ◌≢◌, ℕ, zero, suc, ◌+◌, ◌*◌, ◌^◌, ◌<◌, ◌≤◌, Bool, true, false, ◌&&◌, nat_lt, List}
use Rattle.std.proofs.Common.{[], ◌∷◌, ◌++◌, Option, Some, None, length, get_or, filter, sum_by, unwrap_or, All}
use Rattle.std.proofs.Common.{Contains, refl, sym, ap, ◌∙◌, subst, arith, inl, inr, append-nil, eq-eqb, ne_eqb, lt-ltb}
use Rattle.std.proofs.Common.{le-ltb, cond, ◌⊎◌, flat_map}
use Rattle.std.proofs.lemmas.Bool.{cases_lt, cond-true, cond-false, and_from, or_left, or_right, both_ways}
use Rattle.std.proofs.lemmas.List.{length-map, get_or-map, get_or_past}
use Rattle.std.proofs.lemmas.List.Elements.{All-contains, All-from_get_or, Contains-get_or}
use Rattle.std.proofs.lemmas.List.FromFn.{length-range_with_len, get_or-range_with_len}
use Rattle.std.proofs.lemmas.List.Sums.{sum_by_push}
use Rattle.std.proofs.Math.Nat.{mul-le-mul}
use Rattle.cpg_base.specs.Numbers.{numbers_below}
use Rattle.cpg_base.specs.declared.limits.TheConstants.{MOST_COLUMNS, MOST_LOAD}
use Rattle.cpg_base.specs.Graph.{Graph, process_count, item_count, item_at, is_sent, is_sent_item, process_of}
use Rattle.cpg_base.specs.declared.item.Item.TheVariants.{Message}
use Rattle.cpg_base.specs.Activity.{item_active, live, active}
use Rattle.cpg_base.specs.Limits.{IsWithinLimits}
use Rattle.cpg_base.specs.Variable.{top}
use Rattle.cpg_base.proofs.Items.{item_cases, ItemCases}
use Rattle.cpg_base.proofs.Lists.{Contains-filter, Contains-map, in_option, from_all, numbers-Contains, below_push}
use Rattle.cpg_base.proofs.Sums.{sum_by-le_each}
use Rattle.cpg_cube.specs.Cube.{matches, holds, is_whole}
use Rattle.cpg_cube.specs.Fit.{IsCube}
use Rattle.cpg_cube.specs.declared.literal.Literal.{Literal}
use Rattle.cpg_cube.proofs.CubeLows.{holds-low, holds-high}
use Rattle.cpg_base.specs.Scenario.{Scenario, IsScenario}
use Rattle.cpg_order.specs.Reach.{Reach, IsReach, reach_of, views, load, rows_of_item, is_too_wide, most_views}
use Rattle.cpg_order.specs.Reach.{most_loads}
use Rattle.cpg_order.proofs.ReachExists.{some_reach}
use Rattle.cpg_merging.specs.Merged.{IsLeastMatch}
use Rattle.cpg_table.specs.Table.{Row, NodeTable, columns_in, columns_of}
use Rattle.cpg_cube.specs.declared.column.Column.{Column}
use Rattle.cpg_table.specs.Writing.{row_for, IsWritable, AreWritable}
use Rattle.cpg_table.proofs.NodeRows.{no_row}
use Rattle.cpg_run.specs.Alike.{Admitted}
use Rattle.cpg_run.specs.Carried.{row_at}
use Rattle.cpg_run.specs.Carrying.{IsCarryingRow, AreTablesCarrying, AreExactAndLawful}
use Rattle.cpg_run.specs.Found.{columns_of_rows, AreRowsFound, NoneIsTooWide, DoRowsFit, FoundRowsFit}
use Rattle.cpg_run.specs.Found.{FoundRowsAreWritable}
use Rattle.cpg_run.specs.Known.{AreSmall}
use Rattle.cpg_run.specs.RowLaws.{IsTimed}
use Rattle.cpg_run.proofs.CarryingTables.{carrying_tables_are_lawful}
use Rattle.cpg_run.proofs.CarryingTimed.{never_columns}
use Rattle.cpg_run.proofs.RunExists.{a_run}
use Rattle.cpg_run.proofs.Small.{run_small}

-- ---- rows as tables

-- if the rows are those of the numbers a, a + 1, .., the columns of number a + k are those of the row at place k
columns_there : (rows : List Row) (a k : ℕ) → k < length rows →
    ((i : ℕ) → i < length rows → (get_or rows i no_row).item ≡ a + i) →
    columns_in rows (a + k) ≡ (get_or rows k no_row).columns
columns_there [] a k inside numbered = absurd (omega arith)
columns_there (row ∷ rows) a zero inside numbered = cond-true _ _ _ (eq-eqb row.item (a + 0) (numbered 0 (omega arith)))
columns_there (row ∷ rows) a (suc k) inside numbered =
    let row_is : row.item ≡ a + 0 = numbered 0 (omega arith) in
    cond-false _ _ _ (ne_eqb row.item (a + suc k) (λ sums. omega (arith, row_is, sums)))
    ∙ ap (columns_in rows) (let sums : a + suc k ≡ a + 1 + k = omega arith in sums)
    ∙ columns_there rows (a + 1) k (omega arith) (λ i i_inside. numbered (suc i) (omega arith) ∙ omega arith)

-- an item that no row is of has no columns
columns_nowhere : (rows : List Row) (x : ℕ) → ((i : ℕ) → i < length rows → (get_or rows i no_row).item ≢ x) →
    columns_in rows x ≡ []
columns_nowhere [] x h = refl
columns_nowhere (row ∷ rows) x h =
    cond-false _ _ _ (ne_eqb row.item x (h 0 (omega arith))) ∙ columns_nowhere rows x (λ i m. h (suc i) (omega arith))

-- one table that has all rows, as if they were starts
abbrev one_table : List Row → List NodeTable
one_table rows = record { faults = 0; first_broadcast = 0; own = []; starts = rows; sends = []; hears = [] } ∷ []

-- the columns at number x are those of the row at place x, and none beyond the rows
columns_at : (rows : List Row) (x : ℕ) → row_at (columns_of_rows rows) x ≡ (row_for rows x).columns
columns_at rows x = elim (cases_lt x (length rows)) [
  | inl less ↦ get_or-map (λ (row : Row). row.columns) rows x no_row [] less
  | inr past ↦
      get_or_past (columns_of_rows rows) x [] (omega (arith, past, length-map rows (λ (row : Row). row.columns)))
      ∙ sym (ap (λ (row : Row). row.columns) (get_or_past rows x no_row past))
]

-- given: the rows that are found about a graph within the limits
-- `is`: there is one row for each item, each carries no more than it may, and all frozen times are early.
module _ (g : Graph) (within : IsWithinLimits g) (urgency order : List ℕ) (admitted : Admitted g urgency order)
    (frozen : List (Option ℕ)) (rows : List Row)
    (is : AreRowsFound g urgency order frozen rows) where
  -- the columns of the rows
  abbrev columns : List (List Column)
  columns = columns_of_rows rows

  -- the frozen times are those of the admitted graph
  timed : IsTimed g urgency order frozen
  timed = record { admitted = admitted; frozen_times = is.frozen_times }

  -- there are as many rows as items
  long : length rows ≡ item_count g
  long = sym (length-map rows (λ (row : Row). row.item)) ∙ ap length is.items ∙ length-range_with_len 0 (item_count g)

  -- the row at place x is that of the item x
  item_is : (x : ℕ) → x < item_count g → (row_for rows x).item ≡ x
  item_is x below = sym (get_or-map (λ (row : Row). row.item) rows x no_row 0 (omega (arith, below, long)))
      ∙ ap (λ xs. get_or xs x 0) is.items ∙ get_or-range_with_len 0 (item_count g) x 0 below ∙ omega arith

  -- ---- tables with these rows

  -- given: tables that have the columns of the rows
  module _ (tables : List NodeTable) (have : (x : ℕ) → columns_of tables x ≡ (row_for rows x).columns) where
    -- the tables carry what the rows carry
    of_rows : AreTablesCarrying g urgency order frozen columns tables
    of_rows = record { timed = timed; found = is.found; columns = λ x. have x ∙ sym (columns_at rows x) }

    -- tables with these rows are exact and lawful
    pub lawful : (r : Reach) → IsReach g order r → AreExactAndLawful g urgency order frozen r tables
    lawful r reached = carrying_tables_are_lawful g urgency order frozen columns tables r of_rows reached

  -- ---- the rows themselves

  -- as one table, the rows are those of all tables
  all_rows : flat_map (λ (t : NodeTable). t.starts ++ t.sends) (one_table rows) ≡ rows
  all_rows = append-nil (rows ++ []) ∙ append-nil rows

  -- the columns of item x are those of its own row, since the row at place x is that of item x
  one_has : (x : ℕ) → columns_of (one_table rows) x ≡ (row_for rows x).columns
  one_has x = ap (λ rs. columns_in rs x) all_rows ∙ elim (cases_lt x (item_count g)) [
    | inl inside ↦ let place_0 : ℕ = 0 in ap (columns_in rows) (let e : x ≡ place_0 + x = omega arith in e) ∙
        columns_there rows place_0 x (omega (arith, inside, long))
        (λ i i_inside. item_is i (omega (arith, i_inside, long)) ∙ omega arith)
    | inr past ↦ columns_nowhere rows x (λ i i_inside e. let own = item_is i (omega (arith, i_inside, long)) in
        absurd (omega (arith, i_inside, long, own, e, past)))
        ∙ sym (ap (λ (row : Row). row.columns) (get_or_past rows x no_row (omega (arith, past, long))))
  ]

  -- a row has no more columns than its item's reach has views
  row_views : (r : Reach) → IsReach g order r → (x : ℕ) → x < item_count g →
      length (row_for rows x).columns ≤ views g (reach_of r x)
  row_views r reached x below = subst (λ cs. length cs ≤ views g (reach_of r x)) (one_has x)
      ((lawful (one_table rows) one_has r reached).views within.few_processes x below)

  -- the time of a column that matches a scenario is below 2 ^ 59, as it is a time of that scenario's run
  column_time : (x : ℕ) → x < item_count g → (c : Column) → Contains (row_at columns x) c → (s : Scenario) →
      IsScenario g s → matches c.cube s ≡ true → c.time < 2 ^ 59
  column_time x below c in_row s lawful matched =
      let found_run = a_run g order frozen s admitted.topological in
      let there = Contains-map (λ (d : Column). d.time) (filter (λ (d : Column). matches d.cube s) (row_at columns x)) c
      (Contains-filter (λ (d : Column). matches d.cube s) (row_at columns x) c matched in_row) in
      let is_time : get_or found_run.0.times x None ≡ Some c.time = in_option (get_or found_run.0.times x None) c.time
      (subst (λ ts. Contains ts c.time) ((is.found.each x below).times s found_run.0 lawful found_run.1) there) in
      let small : AreSmall found_run.0 = run_small g order frozen s found_run.0 within admitted.topological lawful
      is.early found_run.1 in
      subst (λ o. unwrap_or o 0 < 2 ^ 59) is_time (small.times x)

  -- each column of a row can be written: it matches some scenario, so its time is small and no literal is empty; the rest the row
  -- has
  column_writable : (x : ℕ) → x < item_count g → (c : Column) → Contains (row_at columns x) c → IsWritable g c
  column_writable x below c in_row =
      let row : IsCarryingRow g urgency order frozen columns x = is.found.each x below in
      let least =
      All-contains (λ (d : Column). (s : Scenario) × IsLeastMatch g urgency d s) (row_at columns x) c row.met in_row in
      record {
        time = column_time x below c in_row least.0 least.1.lawful least.1.holds;
        cube = All-contains (λ (d : Column). IsCube g d.cube) (row_at columns x) c row.cubes in_row;
        some = λ i d inside.
            let m : Literal = get_or c.cube i d in
            let holds_there : holds least.0 m ≡ true =
            from_all (holds least.0) c.cube m least.1.holds (Contains-get_or c.cube i d inside) in
            omega (arith, holds-low least.0 m holds_there, holds-high least.0 m holds_there);
        within = All-contains (λ (d : Column). All (λ (m : Literal). m.high ≤ top g.faults m.variable) d.cube)
            (row_at columns x) c row.within in_row;
        not_whole = All-contains (λ (d : Column). All (λ (m : Literal). is_whole g.faults m ≡ false) d.cube)
            (row_at columns x) c row.not_whole in_row;
      }

  -- so all columns of a row can be written
  row_writable : (x : ℕ) → x < item_count g → All (IsWritable g) (row_at columns x)
  row_writable x below =
      λ i d h. column_writable x below (get_or (row_at columns x) i d) (Contains-get_or (row_at columns x) i d h)

  -- what is no start and isn't sent is active in no scenario: a message or broadcast that isn't sent is never active
  never_active : (x : ℕ) → is_sent g x ≡ false → process_count g ≤ x → ItemCases g x → (s : Scenario) →
      item_active g s.values (item_at g x) ≡ false
  never_active x unsent later (inl c) s = absurd (omega (arith, c.0))
  never_active x unsent later (inr (inl c)) s =
      ap (item_active g s.values) c.3 ∙ ap (λ b. b && live g s.values c.0) (sym (ap (is_sent_item g) c.3) ∙ unsent)
  never_active x unsent later (inr (inr c)) s = ap (item_active g s.values) c.3
      ∙ ap (λ b. b && active g s.values (process_of g c.0)) (sym (ap (is_sent_item g) c.3) ∙ unsent)

  -- so the row of a message or broadcast that isn't sent is empty
  unsent_row : (x : ℕ) → process_count g ≤ x → x < item_count g → is_sent g x ≡ false → (row_for rows x).columns ≡ []
  unsent_row x later below unsent = sym (columns_at rows x)
      ∙ never_columns g urgency order frozen timed columns is.found x
      (λ s lawful. never_active x unsent later (item_cases g x below) s)

  -- an item that has no row at any node is no start and isn't sent: by its kind, a start has a row, and a message or broadcast
  -- that is sent has at least one
  rowless : (x : ℕ) → ItemCases g x → rows_of_item g (item_at g x) ≤ 0 → (process_count g ≤ x) × (is_sent g x ≡ false)
  rowless x (inl c) none = let one : rows_of_item g (item_at g x) ≡ 1 = ap (rows_of_item g) c.1 in
      absurd (omega (arith, one, none))
  rowless x (inr (inl c)) none = (
    omega (arith, c.2),
    ap (is_sent_item g) c.3
        ∙ message_rowless (is_sent_item g (Message c.0)) (omega (arith, none, ap (rows_of_item g) c.3)),
  )
    where
      -- a message that is sent has two rows, so one without a row isn't
      message_rowless : (b : Bool) → cond b 2 0 ≤ 0 → b ≡ false
      message_rowless true at_most = absurd (omega arith)
      message_rowless false at_most = refl
  rowless x (inr (inr c)) none = (
    omega (arith, c.2),
    ap (is_sent_item g) c.3
        ∙ broadcast_rowless (cases_lt 1 (length g.nodes)) (omega (arith, none, ap (rows_of_item g) c.3)),
  )
    where
      -- with two nodes a broadcast has a row at each, so if it has none, there are fewer
      broadcast_rowless : (1 < length g.nodes) ⊎ (length g.nodes ≤ 1) →
          cond (nat_lt 1 (length g.nodes)) (length g.nodes) 0 ≤ 0 →
          nat_lt 1 (length g.nodes) ≡ false
      broadcast_rowless (inl l) at_most = absurd
          (omega (
            arith,
            l,
            at_most,
            cond-true (nat_lt 1 (length g.nodes))
                (length g.nodes) 0 (lt-ltb 1 (length g.nodes) l),
          ))
      broadcast_rowless (inr l) at_most = le-ltb 1 (length g.nodes) l

  -- ---- how many columns there are

  -- given: no item is too wide under the order
  module _ (narrow : NoneIsTooWide g order) where
    -- some reach of the graph
    abbrev reach : Reach
    reach = (some_reach g order admitted.topological).0

    -- the reach that is computed is one of the graph
    reached : IsReach g order reach
    reached = (some_reach g order admitted.topological).1

    -- an item with a row is too wide if it has too many views
    wide_by_views : (x : ℕ) → 0 < rows_of_item g (item_at g x) → most_views < views g (reach_of reach x) →
        is_too_wide g reach x ≡ true
    wide_by_views x some many =
        and_from (nat_lt 0 (rows_of_item g (item_at g x))) _ (lt-ltb 0 (rows_of_item g (item_at g x)) some)
        (or_left (nat_lt most_views (views g (reach_of reach x))) _
        (lt-ltb most_views (views g (reach_of reach x)) many))

    -- or if the loads of the items up to it are together more than `most_loads`
    wide_by_loads : (x : ℕ) → 0 < rows_of_item g (item_at g x) →
        most_loads < sum_by (load g reach) (numbers_below (x + 1)) →
        is_too_wide g reach x ≡ true
    wide_by_loads x some many =
        and_from (nat_lt 0 (rows_of_item g (item_at g x))) _ (lt-ltb 0 (rows_of_item g (item_at g x)) some)
        (or_right (nat_lt most_views (views g (reach_of reach x))) _
        (lt-ltb most_loads (sum_by (load g reach) (numbers_below (x + 1))) many))

    -- but no item is too wide, by the hypothesis
    not_wide : (x : ℕ) → x < item_count g → is_too_wide g reach x ≡ true → ⊥
    not_wide x below wide = both_ways (is_too_wide g reach x) (narrow reach reached x below) wide

    -- an item that has no row has no load
    no_load : (x : ℕ) → rows_of_item g (item_at g x) ≡ 0 → load g reach x ≡ 0
    no_load x none = ap (λ n. views g (reach_of reach x) * n) none ∙ omega arith

    -- the first n items ask for at most the most columns together: by induction on n, the first item that went beyond would be too
    -- wide
    loads_few : (n : ℕ) → n ≤ item_count g → sum_by (load g reach) (numbers_below n) ≤ most_loads
    loads_few zero n_within = omega arith
    loads_few (suc n) n_within =
        let more : sum_by (load g reach) (numbers_below (n + 1))
        ≡ sum_by (load g reach) (numbers_below n) + load g reach n = ap (sum_by (load g reach)) (below_push n) ∙
        sum_by_push (load g reach) (numbers_below n) n in
        let few_so_far = loads_few n (omega arith) in
        subst (λ m. sum_by (load g reach) (numbers_below m) ≤ most_loads)
        (let sums : n + 1 ≡ suc n = omega arith in sums)
        (elim (cases_lt 0 (rows_of_item g (item_at g n))) [
          | inr none ↦ omega (arith, more, few_so_far, no_load n (omega (arith, none)))
          | inl some ↦ elim (cases_lt most_loads (sum_by (load g reach) (numbers_below (n + 1)))) [
            | inl many ↦ absurd (not_wide n (omega arith) (wide_by_loads n some many))
            | inr few ↦ few
          ]
        ])

    -- each row has few enough columns: no more than views, if the item has rows, and none otherwise
    row_few : (x : ℕ) → x < item_count g → length (row_for rows x).columns ≤ MOST_COLUMNS
    row_few x below = elim (cases_lt 0 (rows_of_item g (item_at g x))) [
      | inl some ↦ elim (cases_lt most_views (views g (reach_of reach x))) [
        | inl many ↦ absurd (not_wide x below (wide_by_views x some many))
        | inr few ↦ omega (arith, row_views reach reached x below, few)
      ]
      | inr none ↦ let none_here = rowless x (item_cases g x below) none in
          omega (arith, ap length (unsent_row x none_here.0 below none_here.1))
    ]

    -- all rows of all tables together have few enough columns, as each item has at most its load
    loads : sum_by (λ x. length (row_for rows x).columns * rows_of_item g (item_at g x)) (numbers_below (item_count g))
        ≤ MOST_LOAD
    loads = omega (
      arith,
      loads_few (item_count g) (omega arith),
      sum_by-le_each (λ x. length (row_for rows x).columns * rows_of_item g (item_at g x)) (load g reach)
          (numbers_below (item_count g))
          (λ x among. mul-le-mul (row_views reach reached x (numbers-Contains (item_count g) x among))
          (let same_count : rows_of_item g (item_at g x) ≤ rows_of_item g (item_at g x) = omega arith in same_count)),
    )

    -- the rows are within the limits of a row and of all rows
    fit : DoRowsFit g rows
    fit = record {
      few = All-from_get_or (λ (row : Row). length row.columns ≤ MOST_COLUMNS) rows no_row
          (λ x l. row_few x (omega (arith, l, long)));
      loads = loads;
    }

  -- if the rows fit, they can be written: each of their columns can, and a row of an item that isn't sent is empty
  writable : DoRowsFit g rows → AreWritable g rows
  writable fits = record {
    items = is.items;
    lawful = All-from_get_or (λ (row : Row). All (IsWritable g) row.columns) rows no_row
        (λ x l. subst (All (IsWritable g)) (columns_at rows x) (row_writable x (omega (arith, l, long))));
    few = fits.few;
    loads = fits.loads;
    unsent = unsent_row;
  }

-- rows that are found fit if no item is too wide
pub found_rows_fit : FoundRowsFit
found_rows_fit g urgency order frozen rows within admitted is narrow =
    fit g within urgency order admitted frozen rows is narrow

-- rows that are found and fit can be written
pub found_rows_are_writable : FoundRowsAreWritable
found_rows_are_writable g urgency order frozen rows within admitted is fits =
    writable g within urgency order admitted frozen rows is fits
