-- Rows that are made one after another: the entries of the next item can be merged, and with its row one item more is made.
use Rattle.std.proofs.Common.{◌≡◌, ◌≢◌, ◌∙◌, ℕ, ◌<◌, ◌≤◌, ◌⊎◌, true, false, List, [], length, get_or, set, All, Bool}
use Rattle.std.proofs.Common.{Option, Some, arith, refl, sym, ap, inl, inr, subst, get_or-set_same}
use Rattle.std.proofs.Common.{get_or-set_other}
use Rattle.std.specs.Prelude.{slice_get}
use Rattle.std.proofs.lemmas.Bool.{both_ways, and_parts}
use Rattle.std.proofs.lemmas.List.{get_or-map, map-set, length-map}
use Rattle.std.proofs.Math.Seq.{map-set_same}
use Rattle.std.proofs.lemmas.List.FromFn.{get_or-range_with_len, length-range_with_len}
use Rattle.cpg_base.specs.Numbers.{numbers_below}
use Rattle.cpg_base.specs.Graph.{Graph, process_count, item_count, item_at, is_sent, is_sent_item, producer}
use Rattle.cpg_base.specs.declared.item.Item.{Item}
use Rattle.cpg_base.specs.declared.item.Item.TheVariants.{Message, Broadcast}
use Rattle.cpg_base.specs.Activity.{item_active}
use Rattle.cpg_base.proofs.Items.{item_cases}
use Rattle.cpg_base.proofs.Lists.{Contains-nil}
use Rattle.cpg_base.proofs.Pairs.{AllPairs-nil}
use Rattle.cpg_rules.specs.Guards.{Guards}
use Rattle.cpg_order.specs.Urgency.{IsTopological}
use Rattle.cpg_base.specs.Order.{place}
use Rattle.cpg_rules.specs.Admission.{IsAdmitted}
use Rattle.cpg_run.specs.Frozen.{AreFrozenTimes}
use Rattle.cpg_base.specs.Scenario.{Scenario, IsScenario}
use Rattle.cpg_run.specs.Run.{Times, IsRun}
use Rattle.cpg_cube.specs.Fit.{lows, IsCube}
use Rattle.cpg_merging.specs.Merged.{AreMergeable, IsMergeOf}
use Rattle.cpg_table.specs.Shape.{items_of}
use Rattle.cpg_table.specs.Table.{Row}
use Rattle.cpg_cube.specs.declared.column.Column.{Column}
use Rattle.cpg_run.specs.Carried.{row_at}
use Rattle.cpg_list.specs.Learning.{EarlierTell}
use Rattle.cpg_list.specs.Made.{AreMade, IsRowSet}
use Rattle.cpg_run.specs.Found.{columns_of_rows}
use Rattle.cpg_run.specs.RowLaws.{IsTimed, SameRowsBefore, AreRowsBefore}
use Rattle.cpg_run.specs.Rows.{AreEntriesOf, IsRowOf}
use Rattle.cpg_run.proofs.BuiltTables.{admitted_under}
use Rattle.cpg_run.proofs.EntriesMerge.{entries_have_times}
use Rattle.cpg_run.proofs.RowsTimed.{row_alike, entries_alike, rows_before}

-- an admitted graph, a topological order and the frozen times are what the laws on rows ask for
pub timed_of : (g : Graph) (urgency order : List ℕ) (trees : Guards) (frozen : List (Option ℕ)) →
    IsAdmitted g urgency trees → IsTopological g order →
    AreFrozenTimes g order frozen →
    IsTimed g urgency order frozen
timed_of g urgency order trees frozen is topological times = record {
  admitted = admitted_under g urgency order trees is topological;
  frozen_times = times;
}

-- there are as many rows as items
pub count_of : (rows : List Row) (n : ℕ) → items_of rows ≡ numbers_below n → length rows ≡ n
count_of rows n is = sym (length-map rows (λ (r : Row). r.item)) ∙ ap length is ∙ length-range_with_len 0 n

-- ---- one row set

-- given: rows, and the next ones, in which the columns of the item x are set
module _ (rows next : List Row) (x : ℕ) (columns : List Column) (within : x < length rows)
    (is : next ≡ set rows x (record { item = x; columns = columns })) where
  -- the columns of the next rows are those before, but for the item's
  columns_set : columns_of_rows next ≡ set (columns_of_rows rows) x columns
  columns_set = ap columns_of_rows is ∙ map-set (λ (r : Row). r.columns) rows x (record { item = x; columns = columns })

  -- in the next rows, the item has its new columns
  pub row_here : row_at (columns_of_rows next) x ≡ columns
  row_here = ap (λ cs. row_at cs x) columns_set
      ∙ get_or-set_same (columns_of_rows rows) x columns []
      (omega (arith, within, length-map rows (λ (r : Row). r.columns)))

  -- the rows of other items are the same
  pub row_other : (y : ℕ) → y ≢ x → row_at (columns_of_rows next) y ≡ row_at (columns_of_rows rows) y
  row_other y other = ap (λ cs. row_at cs y) columns_set ∙ get_or-set_other (columns_of_rows rows) x y columns [] other

  -- the next rows are of the same items, since the row at the place x is that of the item x
  pub items_set : (n : ℕ) → items_of rows ≡ numbers_below n → items_of next ≡ numbers_below n
  items_set n same =
      let blank : Row = record { item = 0; columns = [] } in
      let own : x ≡ (get_or rows x blank).item =
      sym (get_or-range_with_len 0 n x 0 (omega (arith, within, count_of rows n same)) ∙ omega arith)
      ∙ ap (λ xs. get_or xs x 0) (sym same) ∙
      get_or-map (λ (r : Row). r.item) rows x blank 0 within in
      ap items_of is ∙ map-set_same (λ (r : Row). r.item) rows x
      (record { item = x; columns = columns }) blank own ∙ same

-- ---- one more item made

-- given: rows of which those of the items `made` are made
module _ (g : Graph) (urgency order : List ℕ) (frozen : List (Option ℕ)) (timed : IsTimed g urgency order frozen)
    (made : ℕ → Type 0) (rows : List Row)
    (are : AreMade g urgency order frozen made rows) where
  -- if all items from processes below a bound are made, their rows have cubes of the graph and the times of the runs
  before_are : (bound : ℕ) → ((y : ℕ) → place order (producer g y) < bound → made y) →
      AreRowsBefore g order frozen bound (columns_of_rows rows)
  before_are bound there =
      rows_before g urgency order frozen timed (columns_of_rows rows) bound (λ y e. are.each y e.0 (there y e.1))

  -- if all items from processes before p are made, their rows have the times of each run
  pub told_from : (p : ℕ) → ((y : ℕ) → place order (producer g y) < place order p → made y) →
      (s : Scenario) (t : Times) → IsScenario g s →
      IsRun g order frozen s t →
      EarlierTell g order (columns_of_rows rows) s t p
  told_from p there s t law run x l h = record {
    there = omega (arith, l, length-map rows (λ (r : Row). r.columns), count_of rows (item_count g) are.items);
    times = (before_are (place order p) there).times x (l, h) s t law run;
    within = (are.each x l (there x h)).merge.within;
  }

  -- an item all of whose earlier items are made, and its entries
  module _ (x : ℕ) (within : x < item_count g)
      (earlier : (y : ℕ) → place order (producer g y) < place order (producer g x) → made y)
      (entries : List Column) (found : AreEntriesOf g order frozen (columns_of_rows rows) x entries) where
    -- the entries of the item can be merged, as they have the times of the runs
    pub mergeable : AreMergeable g entries
    mergeable = (entries_have_times g urgency order frozen (columns_of_rows rows) x entries timed within
        (before_are (place order (producer g x)) earlier) found).0

    -- the row of the item is set to its entries merged
    module _ (new : made x → ⊥) (late : (y : ℕ) → made y → place order (producer g y) ≤ place order (producer g x))
        (next : List Row) (is : IsRowSet g urgency x entries rows next) where
      -- the item has a row
      inside : x < length rows
      inside = omega (arith, within, count_of rows (item_count g) are.items)

      -- the rows of items from earlier processes stay
      pub same_before : (bound : ℕ) → bound ≤ place order (producer g x) →
          SameRowsBefore g order bound (columns_of_rows rows) (columns_of_rows next)
      same_before bound h y e = sym (row_other rows next x is.columns inside is.set y
          (λ same. omega (arith, e.1, h, ap (λ z. place order (producer g z)) same)))

      -- With the item x one item more is made. An item that was made before keeps its row, as what its entries depend on comes
      -- from earlier processes, whose rows stay. The row of x has its entries, merged. Other rows are still empty.
      pub one_made : AreMade g urgency order frozen (λ y. made y ⊎ (y ≡ x)) next
      one_made = record {
        items = items_set rows next x is.columns inside is.set (item_count g) are.items;
        each = λ y m way. elim way [
          | inl old ↦ row_alike g urgency order frozen timed (columns_of_rows rows) (columns_of_rows next) y m
              (same_before (place order (producer g y)) (late y old))
              (sym (row_other rows next x is.columns inside is.set y (λ same. new (subst made same old))))
              (are.each y m old)
          | inr same ↦ subst (IsRowOf g urgency order frozen (columns_of_rows next)) (sym same) (record {
            entries = entries;
            are = entries_alike g urgency order frozen timed (columns_of_rows rows) (columns_of_rows next) x within
                (same_before (place order (producer g x)) (omega arith)) entries found;
            merge = subst (IsMergeOf g urgency entries) (sym (row_here rows next x is.columns inside is.set)) is.merge;
          })
        ];
        none = λ y other. row_other rows next x is.columns inside is.set y (λ same. other (inr same))
            ∙ are.none y (λ old. other (inl old));
      }

-- if `made` and `also` hold of the same items, rows in which the items of the kind `made` are made are rows in which those of
-- the kind `also` are
pub made_same : (g : Graph) (urgency order : List ℕ) (frozen : List (Option ℕ)) (made also : ℕ → Type 0)
    (rows : List Row) → AreMade g urgency order frozen made rows →
    ((x : ℕ) → also x → made x) →
    ((x : ℕ) → made x → also x)
    → AreMade g urgency order frozen also rows
made_same g urgency order frozen made also rows are to from = record {
  items = are.items;
  each = λ x l way. are.each x l (to x way);
  none = λ x other. are.none x (λ way. other (from x way));
}

-- ---- an item that isn't sent has no column

-- any property holds of all elements of an empty list
no_elements : {X : Type 0} (P : X → Type 0) → All P []
no_elements P = λ k d l. absurd (omega (arith, l))

-- no entries are merged to no columns
no_merge : (g : Graph) (urgency : List ℕ) → IsMergeOf g urgency [] []
no_merge g urgency = record {
  times = λ s law. refl;
  wider = λ s e c law there i a b. absurd (Contains-nil e there);
  cubes = no_elements (λ (c : Column). IsCube g c.cube);
  within = λ k d l. absurd (omega (arith, l));
  not_whole = λ k d l. absurd (omega (arith, l));
  met = λ k d l. absurd (omega (arith, l));
  ordered = λ i j c d s t h found b x y. absurd (no_column i c found);
  merged = λ i j v c d h found b e r. absurd (no_column i c found);
  spoken = λ c m there i. absurd (Contains-nil c there);
}
  where
    -- an empty row has a column at no place
    no_column : (i : ℕ) (c : Column) → slice_get [] i ≡ Some c → ⊥
    no_column i c a = cc

-- The row without columns is that of an item which is no start and isn't sent: it is active in no scenario, so it has no
-- entry.
pub unsent_row : (g : Graph) (urgency order : List ℕ) (frozen : List (Option ℕ)) (rows : List (List Column)) (x : ℕ) →
    x < item_count g → process_count g ≤ x →
    is_sent g x ≡ false →
    row_at rows x ≡ [] → IsRowOf g urgency order frozen rows x
unsent_row g urgency order frozen rows x within above off none = record {
  entries = [];
  are = record {
    each = λ e there. absurd (Contains-nil e there);
    apart = AllPairs-nil (λ (d e : Column). lows g d.cube ≢ lows g e.cube);
    all = λ s e is least. absurd (elim (item_cases g x within) [
      | inl c ↦ omega (arith, c.0, above)
      | inr (inl c) ↦ both_ways (is_sent_item g (item_at g x)) off (of_message s.values (item_at g x) c.0 c.3 is.active)
      | inr (inr c) ↦
          both_ways (is_sent_item g (item_at g x)) off (of_broadcast s.values (item_at g x) c.0 c.3 is.active)
    ]);
  };
  merge = subst (IsMergeOf g urgency []) (sym none) (no_merge g urgency);
}
  where
    -- an active message is an item that is sent
    of_message : (values : List Bool) (i : Item) (e : ℕ) → i ≡ Message e → item_active g values i ≡ true →
        is_sent_item g i ≡ true
    of_message values i f is is_active = subst (λ k. is_sent_item g k ≡ true) (sym is)
        (and_parts (is_sent_item g (Message f)) _ (subst (λ k. item_active g values k ≡ true) is is_active)).0

    -- an active broadcast is an item that is sent
    of_broadcast : (values : List Bool) (i : Item) (c : ℕ) → i ≡ Broadcast c → item_active g values i ≡ true →
        is_sent_item g i ≡ true
    of_broadcast values i f is is_active = subst (λ k. is_sent_item g k ≡ true) (sym is)
        (and_parts (is_sent_item g (Broadcast f)) _ (subst (λ k. item_active g values k ≡ true) is is_active)).0
