-- V8 at one column: it is broken if the item is frozen, and the column's time isn't that of the first column that
-- matches in any scenario (the first possible one).
use Rattle.std.proofs.Common.{ℕ, ◌+◌, ◌<◌, ◌≤◌, ◌≡◌, ◌≢◌, Bool, true, false, cond, not, ◌&&◌, ◌==◌, List, length}
use Rattle.std.proofs.Common.{get_or, drop, find, map, Option, Some, None, All, refl, sym, ap, ◌∙◌, ne_eqb, eq-eqb}
use Rattle.std.specs.Prelude.{option_map}
use Rattle.std.proofs.lemmas.Bool.{and_right}
use Rattle.std.proofs.lemmas.List.{drop_more}
use Rattle.std.proofs.lemmas.Option.{none-some, same_Some}
use Rattle.cpg_base.specs.Graph.{Graph, process_count, is_frozen, item_count}
use Rattle.cpg_base.specs.Numbers.{numbers_below}
use Rattle.cpg_base.proofs.Lists.{get_or-map-below}
use Rattle.cpg_base.specs.Scenario.{Scenario}
use Rattle.cpg_base.specs.First.{IsFirst}
use Rattle.cpg_base.proofs.First.{first_same}
use Rattle.cpg_cube.specs.Cube.{matches}
use Rattle.cpg_cube.specs.Fit.{is_met}
use Rattle.cpg_table.specs.Table.{NodeTable, columns_of}
use Rattle.cpg_cube.specs.declared.column.Column.{Column}
use Rattle.cpg_table.specs.Valid.{is_possible, differs_from}
use Rattle.cpg_table.specs.declared.rule.Rule.{Rule}
use Rattle.cpg_table.proofs.Possible.{possible-is_met}
use Rattle.cpg_violation.proofs.Tests.{with_true}
use Rattle.cpg_check_time.specs.Columns.{breaks_column, IsColumn}
use Rattle.cpg_check_time.specs.Frozen.{frozen_time, possible_time}

-- ---- the first possible column

-- the loop of `possible_time`: `d` is the column at place `i` of a row of the graph
module _ (g : Graph) (few : process_count g ≤ 128) (columns : List Column) (are : All (IsColumn g) columns) (i : ℕ)
    (d : Column) (inside : i < length columns) (is : d ≡ get_or columns i d) where
  -- the column matches in some scenario exactly if its cube asks for no more faults than there may be
  met_here : is_possible g (get_or columns i d) ≡ is_met g.faults d.cube
  met_here =
      possible-is_met g few (get_or columns i d) (are i d inside).cube
      ∙ ap (λ (c : Column). is_met g.faults c.cube) (sym is)

  -- the first possible column from the place on is this one, if it is possible, and otherwise the first behind it
  found_step : find (is_possible g) (drop i columns)
      ≡ cond (is_met g.faults d.cube) (Some (get_or columns i d)) (find (is_possible g) (drop (i + 1) columns))
  found_step = ap (find (is_possible g)) (drop_more columns i d inside)
      ∙ ap (λ b. cond b (Some (get_or columns i d)) (find (is_possible g) (drop (i + 1) columns))) met_here

  -- if no column before is possible and this one is, the possible time is its time
  pub time_here : possible_time g columns ≡ possible_time g (drop i columns) → is_met g.faults d.cube ≡ true →
      Some d.time ≡ possible_time g columns
  time_here so_far met = ap (λ (c : Column). Some c.time) is ∙
      sym (so_far ∙ ap (option_map (λ (c : Column). c.time))
      (found_step ∙ ap (λ b. cond b (Some (get_or columns i d)) (find (is_possible g) (drop (i + 1) columns))) met))

  -- if no column up to this one is possible, the possible time is that of the columns behind it
  pub time_later : possible_time g columns ≡ possible_time g (drop i columns) → is_met g.faults d.cube ≡ false →
      possible_time g columns ≡ possible_time g (drop (i + 1) columns)
  time_later so_far met = so_far ∙ ap (option_map (λ (c : Column). c.time))
      (found_step ∙ ap (λ b. cond b (Some (get_or columns i d)) (find (is_possible g) (drop (i + 1) columns))) met)

-- ---- the rule

-- if an item has no frozen time, as it isn't frozen (`b` is false) or has no possible column (`o` is `None`), a column
-- at `time` doesn't break V8
differs_none : (time : ℕ) (b : Bool) (o : Option Column) → cond b (option_map (λ (c : Column). c.time) o) None ≡ None →
    (b && differs_from time o) ≡ false
differs_none time true None no_time = refl
differs_none time true (Some d) no_time = absurd (none-some d.time (sym no_time))
differs_none time false o no_time = refl

-- if an item has the frozen time `t`, a column at `time` breaks V8 exactly if `time` isn't `t`
differs_some : (time t : ℕ) (b : Bool) (o : Option Column) →
    cond b (option_map (λ (c : Column). c.time) o) None ≡ Some t →
    (b && differs_from time o) ≡ not (t == time)
differs_some time t true None time_is = absurd (none-some t time_is)
differs_some time t true (Some d) time_is = ap (λ u. not (u == time)) (same_Some d.time t time_is)
differs_some time t false o time_is = absurd (none-some t time_is)

-- given: an item and a column
module _ (g : Graph) (order : List ℕ) (tables : List NodeTable) (x : ℕ) (c : Column) where
  -- without a frozen time, the column never breaks V8
  pub frozen_none : frozen_time g tables x ≡ None → (s : Scenario) → breaks_column Rule.Frozen g tables x c s ≡ false
  frozen_none no_time s = and_right (matches c.cube s) _
      (differs_none c.time (is_frozen g x) (find (is_possible g) (columns_of tables x)) no_time)

  -- a column `c` at the frozen time `t` never breaks V8
  pub frozen_same : (t : ℕ) → frozen_time g tables x ≡ Some t → t ≡ c.time → (s : Scenario) →
      breaks_column Rule.Frozen g tables x c s ≡ false
  frozen_same t time_is same s = and_right (matches c.cube s) _ (differs_some c.time t (is_frozen g x)
      (find (is_possible g) (columns_of tables x)) time_is ∙ ap not (eq-eqb t c.time same))

  -- a column `c` at another time than the frozen one, `t`, breaks V8 wherever it matches
  frozen_other : (t : ℕ) → frozen_time g tables x ≡ Some t → t ≢ c.time → (s : Scenario) →
      matches c.cube s ≡ breaks_column Rule.Frozen g tables x c s
  frozen_other t time_is other s = with_true (matches c.cube s) _ (differs_some c.time t (is_frozen g x)
      (find (is_possible g) (columns_of tables x)) time_is ∙ ap not (ne_eqb t c.time other))

  -- if column `c` is at another time than the frozen one, `t`, the least scenario `o` that it matches is the least in
  -- which it breaks V8
  pub frozen_first : (t : ℕ) → frozen_time g tables x ≡ Some t → t ≢ c.time → (o : Option Scenario) →
      IsFirst g order (matches c.cube) o →
      IsFirst g order (breaks_column Rule.Frozen g tables x c) o
  frozen_first t time_is other o is_first =
      first_same g order (matches c.cube) (breaks_column Rule.Frozen g tables x c) o
      (λ s _. frozen_other t time_is other s) is_first

-- the time at the number of item `x` in the list of frozen times is its frozen time; the default `d` isn't read
pub time_at : (g : Graph) (tables : List NodeTable) (times : List (Option ℕ)) (x : ℕ) (d : Option ℕ) →
    times ≡ map (frozen_time g tables) (numbers_below (item_count g)) →
    x < item_count g →
    get_or times x d ≡ frozen_time g tables x
time_at g tables times x d is is_item =
    ap (λ ts. get_or ts x d) is ∙ get_or-map-below (frozen_time g tables) (item_count g) x d is_item
