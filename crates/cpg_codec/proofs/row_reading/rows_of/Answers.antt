-- Proof of `rows_of`: the rows of these items, if `columns_read` columns were read before them, and how many were read up to
-- their end.
use Rattle.std.proofs.Common.{◌≡◌, ◌++◌, ◌∷◌, [], ◌+◌, ◌<◌, ℕ, List, length, get_or, drop, arith, refl, add-one}
use Rattle.std.proofs.Common.{drop-cons}
use Rattle.std.proofs.lemmas.List.Sums.{sum_by_push}
use Rattle.cpg_table.specs.Table.{Row}
use Rattle.cpg_table.specs.Lawful.{column_count}
use Rattle.cpg_codec.specs.Grammar.{read_row, read_rows}
use Rattle.cpg_codec.proofs.Loop.{goes_on, nothing_in_front}
use Rattle.cpg_codec.proofs.row_reading.rows_of.Goals as goal

-- how many columns there are with one row more
abbrev step : ℕ → Row → ℕ
step c r = c + length r.columns

-- the items from a place on are the one there and those from the next place on
drop_more : (xs : List ℕ) (i : ℕ) → i < length xs → drop i xs ≡ get_or xs i 0 ∷ drop (i + 1) xs
drop_more xs i h = rw (add-one, drop-cons xs i 0) refl

-- one row more adds its columns
columns_push : (rs : List Row) (r : Row) → column_count (rs ++ r ∷ []) ≡ column_count rs + length r.columns
columns_push rs r = sum_by_push (λ (q : Row). length q.columns) rs r

-- at the start nothing is read, and all items are left
pub loop-item-init : goal.loop-item-init
unfolding read_rows
loop-item-init c = record {
  so_far = rw c.in_ok-rows.ensures.items (nothing_in_front _);
  total = rw c.in_ok-rows.ensures.items (omega arith);
  few = c.requires.few;
}

-- the row of the next item is read; by the invariant reading all goes on with the bytes after it
pub loop-item-preserved : goal.loop-item-preserved
loop-item-preserved c =
    let row = c.in_ok-row.row in
    let going_on = goes_on step (read_row c.args.space.now) c.loop-item.rows.items
    (drop c.loop-item.item-index c.args.items.now) (get_or c.args.items.now c.loop-item.item-index 0)
    (drop (c.loop-item.item-index + 1) c.args.items.now) c.loop-item.total c.loop-item.unread row c.next_row.new.unread
    (read_rows c.args.space.now c.args.items.now c.args.columns_read c.args.unread.now)
    (drop_more c.args.items.now c.loop-item.item-index c.loop-item-test.true) c.in_ok-row.ensures.gives
    c.loop-item.invariant.so_far in
    record {
      so_far = rw (c.in_ok-push.ensures.items, c.in_ok-row.ensures.total.0) going_on;
      total = rw (c.in_ok-push.ensures.items, columns_push c.loop-item.rows.items row)
          (omega (arith, c.in_ok-row.ensures.total.0, c.loop-item.invariant.total));
      few = c.in_ok-row.ensures.total.1;
    }
