-- Trees that are grown along a whole order: their rows are rows that a builder may find, and they say when processes
-- end.
use Rattle.std.proofs.Common.{ℕ, ◌<◌, ◌≤◌, ◌≡◌, List, [], length, get_or, Option, Contains, arith, refl, sym, ◌∙◌}
use Rattle.std.proofs.Common.{subst, inl, inr}
use Rattle.std.proofs.lemmas.Bool.{both_ways, cases_lt}
use Rattle.std.proofs.lemmas.Grind.{same_number_lists}
use Rattle.std.proofs.lemmas.List.{length-map, get_or-map}
use Rattle.std.proofs.lemmas.List.FromFn.{length-range_with_len, get_or-range_with_len}
use Rattle.cpg_base.specs.Graph.{Graph, process_count, item_count, producer}
use Rattle.cpg_base.specs.Numbers.{numbers_below}
use Rattle.cpg_base.proofs.Items.{producer_within}
use Rattle.cpg_rules.specs.Guards.{Guards}
use Rattle.cpg_order.specs.Urgency.{IsTopological}
use Rattle.cpg_base.specs.Order.{place}
use Rattle.cpg_base.proofs.Places.{place_in_order}
use Rattle.cpg_rules.specs.Admission.{IsAdmitted}
use Rattle.cpg_table.specs.Shape.{items_of}
use Rattle.cpg_table.specs.Table.{Row}
use Rattle.cpg_cube.specs.declared.column.Column.{Column}
use Rattle.cpg_table.proofs.NodeRows.{no_row}
use Rattle.cpg_run.specs.Carried.{row_at}
use Rattle.cpg_run.specs.Carrying.{IsCarryingRow, AreCarrying}
use Rattle.cpg_run.specs.Found.{columns_of_rows, AreRowsFound}
use Rattle.cpg_run.specs.Frozen.{AreFrozenTimes}
use Rattle.cpg_run.specs.RowLaws.{IsTimed}
use Rattle.cpg_run.proofs.BuiltTables.{admitted_under}
use Rattle.cpg_run.proofs.EarlyTimes.{early_from_low}
use Rattle.cpg_tree.specs.Tree.{TreeState}
use Rattle.cpg_expand.specs.Forest.{ForestState, times_of}
use Rattle.cpg_expand.specs.Grown.{RowsHold, IsEarlier, IsGrown}
use Rattle.cpg_tree_columns.specs.MadeRows.{AreEntriesOf, AreMergedOf, IsRowOf, AreRowsOf}
use Rattle.cpg_core.specs.RunEnds.{GiveEnds}
use Rattle.cpg_core.specs.TreeRows.{IsTreeOf}
use Rattle.cpg_expand.proofs.Begun.{own_rows, own_rows_hold}
use Rattle.cpg_tree_columns.proofs.TreeColumns.{column_there}
use Rattle.cpg_core.proofs.RowsCarry.{tree_row_carries, merged_row_carries}
use Rattle.cpg_expand.proofs.GuardTrees.{times_tree}

-- what holds of the graph, the order and the trees that the code reads holds of those they are
pub said_of : (P : Graph → List ℕ → List (TreeState (Option ℕ)) → Type 0) (g h : Graph) (us vs : List ℕ)
    (ts rs : List (TreeState (Option ℕ))) → h ≡ g → vs ≡ us → rs ≡ ts → P h vs rs → P g us ts
said_of P g h us vs ts rs same_graph same_us same_ts holds =
    subst (λ x. P x us ts) same_graph (subst (λ x. P h x ts) same_us (subst (λ x. P h vs x) same_ts holds))

-- given: trees that are grown along a whole order
-- `is_admitted`, `order`, `topological`: an admitted graph and an order of it
-- `frozen`, `f`, `grown`: the frozen times and the trees of all processes
module _ (g : Graph) (urgency : List ℕ) (guards : Guards) (is_admitted : IsAdmitted g urgency guards) (order : List ℕ)
    (topological : IsTopological g order) (frozen : List (Option ℕ)) (f : ForestState)
    (grown : IsGrown g order (process_count g) frozen f) where
  -- each process has a place in the order
  placed : (q : ℕ) → q < process_count g → place order q < process_count g
  placed q below = place_in_order (process_count g) order topological.all q (omega (arith, below))

  -- each item is of a process before the last place's end
  earlier : (x : ℕ) → x < item_count g → IsEarlier g order (process_count g) x
  earlier x below = placed (producer g x) (producer_within g is_admitted.well_formed x below)

  -- the trees of the ends say when each process ends in every run
  pub grown_gives_ends : GiveEnds g order frozen f.ends
  grown_gives_ends s t law run q below x on =
      ((grown.lines (own_rows f) (own_rows_hold g order (process_count g) f grown.trees) s law t run).ends q below
      (placed q below)).value x on

  -- the frozen times that are found are those of the order
  pub grown_frozen : AreFrozenTimes g order frozen
  grown_frozen = record {
    count = grown.settled.count;
    each = λ x below is. grown.settled.each x below is (earlier x below);
    others = λ x off. grown.settled.others x (λ below is early. both_ways _ off is);
  }

  -- the frozen times are those of an order of an admitted graph
  timed : IsTimed g urgency order frozen
  timed = record {
    admitted = admitted_under g urgency order guards is_admitted topological;
    frozen_times = grown_frozen;
  }

  -- the tree of each item is for the graph's fault count
  faults_of : (x : ℕ) → x < item_count g → (times_of g f x).faults ≡ g.faults
  faults_of x below = (times_tree g f grown.trees x below).faults

  -- given: rows that are made from the trees of the items' times
  module _ (rows : List Row) (are : AreRowsOf g urgency f.times rows) where
    -- the columns of the rows, row by row
    abbrev columns : List (List Column)
    columns = columns_of_rows rows

    -- each item has a row that is made of its tree
    row_is : (x : ℕ) → x < item_count g → IsRowOf g urgency (times_of g f x) x (get_or rows x no_row)
    row_is x below = are.each x no_row below

    -- the columns of an item are those of its row
    columns_at : (x : ℕ) → x < item_count g → row_at columns x ≡ (get_or rows x no_row).columns
    columns_at x below = get_or-map (λ (row : Row). row.columns) rows x no_row [] (omega (arith, below, are.count))

    -- the row of a start has the paths of its tree, merged
    start_row : (p : ℕ) → p < process_count g → AreMergedOf g urgency (times_of g f p) (row_at columns p)
    start_row p below =
        let inside : p < item_count g = omega (arith, below) in
        subst (AreMergedOf g urgency (times_of g f p)) (sym (columns_at p inside)) ((row_is p inside).start below)

    -- the row of what is sent has the paths of its tree, unmerged
    sent_row : (x : ℕ) → process_count g ≤ x → x < item_count g →
        AreEntriesOf g urgency (times_of g f x) (row_at columns x)
    sent_row x big below = subst (AreEntriesOf g urgency (times_of g f x)) (sym (columns_at x below))
        ((row_is x below).send big)

    -- the columns of what is sent are the paths of its tree that have a time
    hold : RowsHold g order (process_count g) f columns
    hold = record {
      sends = λ x below big sooner path time listed is.
          let its_row = sent_row x big below in (
            record { time = time; cube = path.0 },
            column_there g is_admitted.limits.few_processes urgency is_admitted.topological.all (times_of g f x)
                (row_at columns x) its_row.are path time listed is,
            refl,
          );
    }

    -- in each run the tree of an item gives its time, with the literals that are carried
    tree : (x : ℕ) → x < item_count g → IsTreeOf g order frozen columns x (times_of g f x)
    tree x below s run law ran = (grown.lines columns hold s law run ran).times x below (earlier x below)

    -- each row carries what it has to: that of a start as it is merged, that of a send as it is listed
    carrying_row : (x : ℕ) → x < item_count g → IsCarryingRow g urgency order frozen columns x
    carrying_row x below = elim (cases_lt x (process_count g)) [
      | inl start ↦
          let its_row = start_row x start in
          merged_row_carries g is_admitted.limits.few_processes urgency is_admitted.topological.all
          (times_of g f x) its_row.columns its_row.are order frozen timed columns x (tree x below)
          (faults_of x below) its_row.merge
      | inr send ↦
          let its_row = sent_row x send below in
          tree_row_carries g is_admitted.limits.few_processes urgency is_admitted.topological.all (times_of g f x)
          (row_at columns x) its_row.are order frozen timed columns x (tree x below) (faults_of x below) its_row.by_lows
          refl
    ]

    -- so all rows do
    carrying : AreCarrying g urgency order frozen columns
    carrying = record {
      count = length-map rows (λ (row : Row). row.columns) ∙ are.count;
      each = carrying_row;
      merged = λ p below. (start_row p below).merge.merged;
    }

    -- the rows are those of the items, in the order of their numbers
    items : items_of rows ≡ numbers_below (item_count g)
    items = same_number_lists (items_of rows) (numbers_below (item_count g))
        (count ∙ sym (length-range_with_len 0 (item_count g)))
        (λ x below. let inside : x < item_count g = omega (arith, below, count) in
        get_or-map (λ (row : Row). row.item) rows x no_row 0 (omega (arith, inside, are.count)) ∙ (row_is x inside).item
        ∙ sym (get_or-range_with_len 0 (item_count g) x 0 inside ∙ omega arith))
      where
        -- there are as many rows as items
        count : length (items_of rows) ≡ item_count g
        count = length-map rows (λ (row : Row). row.item) ∙ are.count

    -- the rows of the trees' times are rows that a builder finds
    pub grown_rows_found : AreRowsFound g urgency order frozen rows
    grown_rows_found = record {
      frozen_times = grown_frozen;
      early = early_from_low g order frozen is_admitted.limits topological grown.settled.count grown.settled.low;
      items = items;
      found = carrying;
    }
