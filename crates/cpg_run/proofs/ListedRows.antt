-- The rows of groups of listed scenarios carry no more than they may; so they have the times of the runs.
use Rattle.std.proofs.Common.{ℕ, ◌<◌, ◌≤◌, ◌≡◌, true, List, filter, Contains, Option, arith, subst}
use Rattle.cpg_base.specs.Graph.{Graph, item_count, producer}
use Rattle.cpg_base.proofs.Lists.{Contains-map, Contains-map_parts, Contains-filter, Contains-filter_parts}
use Rattle.cpg_base.specs.Order.{place}
use Rattle.cpg_base.specs.Scenario.{Scenario, IsScenario}
use Rattle.cpg_cube.specs.Cube.{matches}
use Rattle.cpg_cube.specs.declared.column.Column.{Column}
use Rattle.cpg_run.specs.Carried.{row_at, carried}
use Rattle.cpg_run.specs.RowLaws.{IsTimed, RowsHaveTimes}
use Rattle.cpg_run.specs.Rows.{AreRows}
use Rattle.cpg_run.proofs.EntriesMerge.{entry_cube}
use Rattle.cpg_run.proofs.CarryingTimed.{carrying_times, never_columns}
use Rattle.cpg_run.proofs.RowsTimed.{all_before, rows_times}
use Rattle.cpg_run.specs.Carrying.{ContainsKept, IsCarryingRow, AreCarrying, ListedRowsCarry}

-- given: the rows of groups of listed scenarios
-- `timed`: the graph is admitted, and `frozen` has its frozen times. `found`: each row is found from those before it,
-- as the merge of its entries.
module _ (g : Graph) (urgency order : List ℕ) (frozen : List (Option ℕ)) (rows : List (List Column))
    (timed : IsTimed g urgency order frozen) (found : AreRows g urgency order frozen rows) where
  -- a column that matches is as wide as an entry that matches, whose cube is what is carried
  carries : (x : ℕ) → x < item_count g → (s : Scenario) (c : Column) → IsScenario g s → Contains (row_at rows x) c →
      matches c.cube s ≡ true →
      ContainsKept g.faults c.cube (carried g order rows s x)
  carries x below s c law in_row matched =
      let row = found.each x below in
      let there = Contains-map (λ (c : Column). c.time) (filter (λ (c : Column). matches c.cube s) (row_at rows x)) c
      (Contains-filter (λ (c : Column). matches c.cube s) (row_at rows x) c matched in_row) in
      let of_entry = Contains-map_parts (λ (c : Column). c.time)
      (filter (λ (c : Column). matches c.cube s) row.entries) c.time
      (subst (λ ns. Contains ns c.time) (row.merge.times s law) there) in
      let entry_parts = Contains-filter_parts (λ (c : Column). matches c.cube s) row.entries of_entry.0 of_entry.1 in
      let is = entry_cube g urgency order frozen rows x timed below (all_before g urgency order frozen timed rows found
      (place order (producer g x))) row.entries row.are of_entry.0 entry_parts.0 s law entry_parts.1 in
      let wide = row.merge.wider s of_entry.0 c law entry_parts.0 in_row entry_parts.1 matched in
      record { low = λ v. omega (arith, (wide v).0, is.low v); high = λ v. omega (arith, (wide v).1, is.high v) }

  -- the row of each item has the times of the runs, and no column that says more than what is carried
  carrying_row : (x : ℕ) → x < item_count g → IsCarryingRow g urgency order frozen rows x
  carrying_row x below = record {
    times = rows_times g urgency order frozen timed rows found x below;
    carries = carries x below;
    cubes = (found.each x below).merge.cubes;
    within = (found.each x below).merge.within;
    not_whole = (found.each x below).merge.not_whole;
    met = (found.each x below).merge.met;
    ordered = (found.each x below).merge.ordered;
  }

  -- the rows carry no more than they may
  carrying : AreCarrying g urgency order frozen rows
  carrying = record {
    count = found.count;
    each = carrying_row;
    merged = λ p l. (found.each p (omega (arith, l))).merge.merged;
  }

-- the rows of groups of listed scenarios carry no more than they may
pub listed_rows_carry : ListedRowsCarry
listed_rows_carry g urgency order frozen rows timed found = carrying g urgency order frozen rows timed found

-- they have the times of the runs, and no column of an item that is never active
pub rows_have_times : RowsHaveTimes
rows_have_times g urgency order frozen rows timed found x =
    let all = listed_rows_carry g urgency order frozen rows timed found in
    (carrying_times g urgency order frozen timed rows all x, never_columns g urgency order frozen timed rows all x)
