-- An order has rows: place by place, those of the process's items are made from the rows of earlier processes.
use Rattle.std.proofs.Common.{◌≡◌, ◌∙◌, ℕ, zero, suc, ◌+◌, ◌<◌, ◌≤◌, List, [], ◌∷◌, ◌++◌, length, get_or, Option, arith}
use Rattle.std.proofs.Common.{refl, sym, ap, subst, inl, inr, length-append}
use Rattle.std.proofs.lemmas.Bool.{cases_eq}
use Rattle.std.proofs.lemmas.List.{get_or_append_left}
use Rattle.std.proofs.Math.Seq.{get_or-append_seam}
use Rattle.cpg_base.specs.Graph.{Graph, process_count, item_count, producer}
use Rattle.cpg_base.specs.Order.{place}
use Rattle.cpg_base.proofs.Places.{place_in_order}
use Rattle.cpg_order.proofs.Moments.{producer_in_range}
use Rattle.cpg_cube.specs.declared.column.Column.{Column}
use Rattle.cpg_merging.specs.Merged.{IsMergeOf}
use Rattle.cpg_run.specs.Carried.{row_at}
use Rattle.cpg_run.specs.RowLaws.{IsTimed, SameRowsBefore, AreRowsBefore}
use Rattle.cpg_run.specs.Rows.{AreEntriesOf, AreRows, IsRowOf}
use Rattle.cpg_run.proofs.EntriesMerge.{entries_have_times}
use Rattle.cpg_run.proofs.RowsTimed.{entries_alike, row_alike, rows_before}
use Rattle.cpg_built_laws.proofs.EntriesExist.{entries_exist}
use Rattle.cpg_built_laws.proofs.MergeExists.{merge_exists}

-- if there is some c for each number below n, there is a list of them
chosen : {X : Type 0} (P : ℕ → X → Type 0) (d : X) (n : ℕ) → ((x : ℕ) → x < n → (c : X) × P x c) →
    (cs : List X) × (length cs ≡ n) × ((x : ℕ) → x < n → P x (get_or cs x d))
-- by induction on n: the last one is put behind the others
chosen P d zero each = ([], refl, λ x below. absurd (omega (arith, below)))
chosen P d (suc n) each =
    let others = chosen P d n (λ x below. each x (omega (arith, below))) in
    let last = each n (omega arith) in (
      others.0 ++ last.0 ∷ [],
      length-append others.0 (last.0 ∷ []) ∙ omega (arith, others.1),
      λ x below. elim (cases_eq x n) [
        | inl is_n ↦ subst (λ y. P y (get_or (others.0 ++ last.0 ∷ []) y d)) (sym is_n)
            (subst (P n) (sym (ap (λ k. get_or (others.0 ++ last.0 ∷ []) k d) (sym others.1)
            ∙ get_or-append_seam others.0 last.0 [] d)) last.1)
        | inr other ↦ let before : x < n = omega (arith, below, other) in
            subst (P x) (sym (get_or_append_left others.0 (last.0 ∷ []) d x (omega (arith, before, others.1))))
            (others.2 x before)
      ],
    )

-- given: an admitted graph, and the frozen times of an order
module _ (g : Graph) (urgency order : List ℕ) (frozen : List (Option ℕ)) (timed : IsTimed g urgency order frozen) where
  -- the rows are right for the items of processes before the place i
  pub record AreRowsTo (i : ℕ) (rows : List (List Column)) : Type 0 where
    -- there is a row for each item
    pub count : length rows ≡ item_count g
    -- it is right if its process stands before i
    pub each : (x : ℕ) → x < item_count g → place order (producer g x) < i → IsRowOf g urgency order frozen rows x

  -- given: rows that are right up to the place i
  module _ (i : ℕ) (rows : List (List Column)) (are : AreRowsTo i rows) where
    -- the columns of item x in rows that are right up to the place behind i
    pub record IsNext (x : ℕ) (columns : List Column) : Type 0 where
      -- an item of an earlier process keeps its columns
      pub same : place order (producer g x) < i → columns ≡ row_at rows x
      -- an item of the process at i has its entries, merged
      pub entries : List Column
      -- they are the item's entries
      pub found : place order (producer g x) ≡ i → AreEntriesOf g order frozen rows x entries
      -- and its columns are these entries merged
      pub merge : place order (producer g x) ≡ i → IsMergeOf g urgency entries columns

    -- the rows are right for all places up to i
    earlier : (bound : ℕ) → bound ≤ i → AreRowsBefore g order frozen bound rows
    earlier bound no_more =
        rows_before g urgency order frozen timed rows bound
        (λ y is_before. are.each y is_before.0 (omega (arith, is_before.1, no_more)))

    -- each item has such columns: one of the process at i has entries, and these have a merge; any other keeps its own
    next_row : (x : ℕ) → x < item_count g → (columns : List Column) × IsNext x columns
    -- by whether the item's producer stands at i
    next_row x below = elim (cases_eq (place order (producer g x)) i) [
      | inl here ↦
          let earlier_rows = earlier (place order (producer g x)) (omega (arith, here)) in
          let its_entries = entries_exist g urgency order frozen timed rows x below earlier_rows in
          let its_merge = merge_exists g timed.admitted.formed.few_processes urgency timed.admitted.urgent.all
          its_entries.0
          (entries_have_times g urgency order frozen rows x its_entries.0 timed below earlier_rows its_entries.1).0 in (
            its_merge.0,
            record {
              same = λ before. absurd (omega (arith, before, here));
              entries = its_entries.0;
              found = λ at_i. its_entries.1;
              merge = λ at_i. its_merge.1;
            },
          )
      | inr there ↦ (
        row_at rows x,
        record {
          same = λ before. refl;
          entries = [];
          found = λ at_i. absurd (there at_i);
          merge = λ at_i. absurd (there at_i);
        },
      )
    ]

    -- there are rows that are right up to the place behind i
    next_rows : (next : List (List Column)) × AreRowsTo (i + 1) next
    next_rows =
        let next_columns = chosen IsNext [] (item_count g) next_row in
        -- the rows before the place stay the same
        let same : (bound : ℕ) → bound ≤ i → SameRowsBefore g order bound rows next_columns.0 =
        λ bound no_more y is_before.
        sym ((next_columns.2 y is_before.0).same (omega (arith, is_before.1, no_more))) in (
          next_columns.0,
          record {
            count = next_columns.1;
            each = λ x below no_later. elim (cases_eq (place order (producer g x)) i) [
              -- an item of the process at this place: its row is made of the rows before
              | inl here ↦
                  let is : IsNext x (row_at next_columns.0 x) = next_columns.2 x below in
                  record {
                    entries = is.entries;
                    are = entries_alike g urgency order frozen timed rows next_columns.0 x below
                        (same (place order (producer g x)) (omega (arith, here))) is.entries (is.found here);
                    merge = is.merge here;
                  }
              -- an item of an earlier process keeps its row
              | inr there ↦
                  let sooner : place order (producer g x) < i = omega (arith, no_later, there) in
                  row_alike g urgency order frozen timed rows next_columns.0 x below (same (place order (producer g x))
                  (omega (arith, sooner))) (sym ((next_columns.2 x below).same sooner)) (are.each x below sooner)
            ];
          },
        )

  -- there are rows that are right up to each place
  rows_to : (i : ℕ) → (rows : List (List Column)) × AreRowsTo i rows
  -- by induction on the place: before the first one any rows will do
  rows_to zero =
      let any_rows = chosen (λ x (c : List Column). Unit {0}) [] (item_count g) (λ x below. ([], tt)) in
      (any_rows.0, record { count = any_rows.1; each = λ x l before. absurd (omega (arith, before)) })
  rows_to (suc i) =
      let so_far = rows_to i in
      let next = next_rows i so_far.0 so_far.1 in
      (next.0, record { count = next.1.count; each = λ x below before. next.1.each x below (omega (arith, before)) })

  -- there are rows that are right for all items
  pub rows_exist : (rows : List (List Column)) × AreRows g urgency order frozen rows
  -- the rows that are right up to the last place are right for all items, whose producers stand in the order
  rows_exist =
      let found = rows_to (process_count g) in (
        found.0,
        record {
          count = found.1.count;
          each = λ x below. found.1.each x below (place_in_order (process_count g) order timed.admitted.topological.all
              (producer g x) (omega (arith, producer_in_range g order timed.admitted.topological x below)));
        },
      )
