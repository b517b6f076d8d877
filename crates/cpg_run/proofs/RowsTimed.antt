-- Found rows have the times of the runs, by induction along the order; and whether a row is found depends only on the rows of
-- earlier processes.
use Rattle.std.proofs.Common.{ℕ, zero, suc, ◌<◌, ◌≤◌, ◌≡◌, List, Contains, Option, arith, sym, ◌∙◌, subst}
use Rattle.cpg_base.specs.Graph.{Graph, item_count, producer}
use Rattle.cpg_base.specs.Order.{place}
use Rattle.cpg_base.specs.Scenario.{Scenario}
use Rattle.cpg_merging.specs.Merged.{IsMergeOf}
use Rattle.cpg_cube.specs.declared.column.Column.{Column}
use Rattle.cpg_run.specs.Carried.{row_at, carried}
use Rattle.cpg_run.specs.Rows.{IsCubeOf, IsEntryIn, AreEntriesOf, IsRowOf, AreRows}
use Rattle.cpg_run.specs.RowLaws.{IsTimed, IsEarlier, SameRowsBefore, AreRowsBefore, HaveTimesOf}
use Rattle.cpg_run.proofs.CarriedBefore.{carried_same}
use Rattle.cpg_run.proofs.EntriesMerge.{entries_times}

-- ---- the rows of later processes may change

-- given: two lists that have the same rows before an item's
-- `same`: both lists have the same rows of all items whose producers are before that of x in the order.
module _ (g : Graph) (urgency order : List ℕ) (frozen : List (Option ℕ)) (timed : IsTimed g urgency order frozen)
    (rows others : List (List Column)) (x : ℕ) (l : x < item_count g)
    (same : SameRowsBefore g order (place order (producer g x)) rows others) where
  -- the literals that are carried beside x are the same by both lists of rows
  carried_alike : (s : Scenario) → carried g order rows s x ≡ carried g order others s x
  carried_alike s =
      carried_same g order timed.admitted.topological rows others (place order (producer g x)) same s x l (omega arith)

  -- an entry by the one list of rows is an entry by the other
  pub entry_alike : (s : Scenario) (e : Column) → IsEntryIn g order frozen rows x s e →
      IsEntryIn g order frozen others x s e
  entry_alike s e is = record {
    lawful = is.lawful;
    active = is.active;
    time = is.time;
    cube = subst (λ ls. IsCubeOf g.faults ls e.cube) (carried_alike s) is.cube;
  }

  -- an entry by the other rows is one by these
  entry_back : (s : Scenario) (e : Column) → IsEntryIn g order frozen others x s e → IsEntryIn g order frozen rows x s e
  entry_back s e is = record {
    lawful = is.lawful;
    active = is.active;
    time = is.time;
    cube = subst (λ ls. IsCubeOf g.faults ls e.cube) (sym (carried_alike s)) is.cube;
  }

  -- the entries by the one list of rows are those by the other
  pub entries_alike : (entries : List Column) → AreEntriesOf g order frozen rows x entries →
      AreEntriesOf g order frozen others x entries
  entries_alike entries are = record {
    each = λ e j. entry_alike _ e (are.each e j);
    apart = are.apart;
    all = λ s e is least. are.all s e (entry_back s e is) least;
  }

  -- if x has the same row in both lists, and the one list has it as found from its rows, so has the other
  pub row_alike : row_at rows x ≡ row_at others x → IsRowOf g urgency order frozen rows x →
      IsRowOf g urgency order frozen others x
  row_alike own is = record {
    entries = is.entries;
    are = entries_alike is.entries is.are;
    merge = subst (λ columns. IsMergeOf g urgency is.entries columns) own is.merge;
  }

-- ---- rows have the times of the runs

-- given: rows and the frozen times of the graph
-- `timed`: the graph is admitted, and `frozen` has its frozen times.
module _ (g : Graph) (urgency order : List ℕ) (frozen : List (Option ℕ)) (timed : IsTimed g urgency order frozen)
    (rows : List (List Column)) where
  -- The rows of the items before a bound have the times of the runs, if each is found from those before it. By induction on n,
  -- which is at least the bound: the entries of a row rest on rows with a smaller bound, the place of its own producer.
  rows_below : (n bound : ℕ) → bound ≤ n →
      ((y : ℕ) → IsEarlier g order bound y → IsRowOf g urgency order frozen rows y) →
      AreRowsBefore g order frozen bound rows
  rows_below zero bound at_most found =
      record {
        cubes = λ y e. absurd (omega (arith, e.1, at_most));
        times = λ y e. absurd (omega (arith, e.1, at_most));
      }
  rows_below (suc n) bound at_most found = record {
    cubes = λ y e. (found y e).merge.cubes;
    times = λ y e s t law run.
        let earlier = rows_below n (place order (producer g y)) (omega (arith, e.1, at_most))
        (λ v i. found v (i.0, omega (arith, i.1, e.1))) in
        (found y e).merge.times s law ∙ entries_times g urgency order frozen rows y timed e.0 earlier
        (found y e).entries (found y e).are s t law run;
  }

  -- the rows of all items from processes before the bound have the times of the runs
  pub rows_before : (bound : ℕ) → ((y : ℕ) → IsEarlier g order bound y → IsRowOf g urgency order frozen rows y) →
      AreRowsBefore g order frozen bound rows
  rows_before bound found = rows_below bound bound (omega arith) found

  -- a row that is found from earlier rows with the times of the runs has these times too
  pub row_times : (x : ℕ) → x < item_count g → AreRowsBefore g order frozen (place order (producer g x)) rows →
      IsRowOf g urgency order frozen rows x →
      HaveTimesOf g order frozen x (row_at rows x)
  row_times x below earlier is s t law run =
      is.merge.times s law ∙ entries_times g urgency order frozen rows x timed below earlier is.entries is.are s t law
      run

  -- given: the row of each item, which is that of its entries
  module _ (all : AreRows g urgency order frozen rows) where
    -- all rows before a place have the times of the runs
    pub all_before : (bound : ℕ) → AreRowsBefore g order frozen bound rows
    all_before bound = rows_before bound (λ y e. all.each y e.0)

    -- each row has the times of the runs
    pub rows_times : (x : ℕ) → x < item_count g → HaveTimesOf g order frozen x (row_at rows x)
    rows_times x below = row_times x below (all_before (place order (producer g x))) (all.each x below)
