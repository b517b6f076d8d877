-- One of the columns made of an item's idle times matches just in the scenarios in which the item isn't active. An idle
-- time is some time where the item is inactive and none where it is active, so a path of their tree has a column just
-- if the item is inactive in its scenarios.
use Rattle.std.proofs.Common.{ℕ, ◌+◌, ◌<◌, ◌≡◌, ◌||◌, Bool, true, false, not, List, [], ◌++◌, length, take, get_or}
use Rattle.std.proofs.Common.{Option, Some, None, Contains, IsPermutation, refl, sym, ap, ap₂, ◌∙◌, subst, inl}
use Rattle.std.proofs.Common.{inr}
use Rattle.std.specs.List.{list_any}
use Rattle.std.proofs.lemmas.List.Folds.{list_any-append, list_any_more}
use Rattle.std.proofs.lemmas.List.Sorted.{IsPermutation-sym, Contains-permutation}
use Rattle.std.proofs.lemmas.Option.{none-some}
use Rattle.cpg_base.specs.Graph.{Graph, item_at}
use Rattle.cpg_base.specs.Activity.{item_active}
use Rattle.cpg_base.proofs.Lists.{Contains-first, Contains-cases, Contains-nil, Contains-flat_map}
use Rattle.cpg_base.proofs.Lists.{Contains-flat_map_parts, list_any_true, list_any_parts, same_truth}
use Rattle.cpg_base.specs.Scenario.{Scenario, IsScenario}
use Rattle.cpg_cube.specs.declared.column.Column.{Column}
use Rattle.cpg_cube.specs.Cube.{matches}
use Rattle.cpg_cube.specs.declared.literal.Literal.{Literal}
use Rattle.cpg_tree_columns.specs.Columns.{column_of, columns_of_paths}
use Rattle.cpg_tree.specs.Space.{HasAtMostFaults}
use Rattle.cpg_tree.specs.Tree.{Path, TreeState, IsOnPath, IsMap, HasOnePathEach}
use Rattle.cpg_expand.specs.Active.{IsActivityOf}
use Rattle.cpg_tree.specs.GraphTrees.{IsTree}
use Rattle.cpg_tree.proofs.OnePath.{scenario_few, the_path}
use Rattle.cpg_audit.specs.Excluded.{idle_time, is_some_idle}
use Rattle.cpg_log.specs.declared.log.Logged.{Logged}

-- a column of a path has the path's value for its time, and its cube
column_parts : (cube : List Literal) (time : Option ℕ) (c : Column) → Contains (column_of cube time) c →
    (time ≡ Some c.time) × (cube ≡ c.cube)
column_parts cube None c there = absurd (Contains-nil c there)
column_parts cube (Some n) c there = elim (Contains-cases (record { time = n; cube = cube }) [] c there) [
  | inl e ↦ (ap (λ (d : Column). Some d.time) e, ap (λ (d : Column). d.cube) e)
  | inr none ↦ absurd (Contains-nil c none)
]

-- only an inactive item has an idle time
idle_from : (active : Bool) (n : ℕ) → idle_time active ≡ Some n → not active ≡ true
idle_from true n is = absurd (none-some n is)
idle_from false n is = refl

-- an inactive item has idle time 0
idle_at : (active : Bool) → not active ≡ true → idle_time active ≡ Some 0
idle_at true holds = absurd (true_false (sym holds))
  where
    -- `true` isn't `false`: an item that is active isn't inactive
    true_false : true ≡ false → ⊥
    true_false conflict = cc
idle_at false holds = refl

-- given an item's idle times as a tree, and the tree's columns, in a scenario. `a`, `tree`, `active`: the tree that says
-- where item `x` is active; `t`, `is`, `each`: its image, the tree of idle times; `columns`, `all`: the columns of `t`, in
-- some order; `s`, `law`: a scenario
module _ (g : Graph) (x : ℕ) (a : TreeState Bool) (tree : IsTree g a) (active : IsActivityOf g x a)
    (t : TreeState (Option ℕ)) (is : IsMap (λ b z. z ≡ idle_time b) a t)
    (each : HasOnePathEach t.faults t.paths) (columns : List Column)
    (all : IsPermutation (columns_of_paths t.paths) columns) (s : Scenario) (law : IsScenario g s) where
  -- the scenario has at most the graph's faults
  few : HasAtMostFaults g.faults s
  few = scenario_few g s law

  -- the value of a path that the scenario is on is the idle time of whether the item is active
  value : (z : Path (Option ℕ)) → IsOnPath t.paths s z → z.1 ≡ idle_time (item_active g s.values (item_at g x))
  value z on =
      let active_path = the_path g.faults a.paths tree.each s few in
      is.value s active_path.0 z (subst (λ k. HasAtMostFaults k s) (sym tree.faults) few) active_path.1 on
      ∙ ap idle_time (active s active_path.0 law active_path.1)

  -- if a column matches, the item isn't active: the column is of a path that the scenario is on, whose value is some
  -- time
  from_column : list_any (λ (c : Column). matches c.cube s) columns ≡ true →
      not (item_active g s.values (item_at g x)) ≡ true
  from_column some_match =
      let column = list_any_parts (λ (c : Column). matches c.cube s) columns some_match in
      let back = Contains-permutation columns (columns_of_paths t.paths) column.0
      (IsPermutation-sym (columns_of_paths t.paths) columns all) column.1 in
      let path = Contains-flat_map_parts (λ (p : Path (Option ℕ)). column_of p.0 p.1) t.paths column.0 back in
      let parts = column_parts path.0.0 path.0.1 column.0 path.2 in
      idle_from (item_active g s.values (item_at g x)) column.0.time (sym (value path.0
      (record { stands = path.1; matched = subst (λ (ls : List Literal). matches ls s ≡ true) (sym parts.1) column.2 }))
      ∙ parts.0)

  -- if the item isn't active, the path that the scenario is on has time 0, so a column, and this matches
  to_column : not (item_active g s.values (item_at g x)) ≡ true →
      list_any (λ (c : Column). matches c.cube s) columns ≡ true
  to_column is_idle =
      let own_path = the_path g.faults t.paths
      (subst (λ k. HasOnePathEach k t.paths) (is.faults ∙ tree.faults) each) s few in
      let idle : Column = record { time = 0; cube = own_path.0.0 } in
      let here : own_path.0.1 ≡ Some 0 = value own_path.0 own_path.1
      ∙ idle_at (item_active g s.values (item_at g x)) is_idle in
      list_any_true (λ (c : Column). matches c.cube s) columns idle
      (Contains-permutation (columns_of_paths t.paths) columns idle all
      (Contains-flat_map (λ (p : Path (Option ℕ)). column_of p.0 p.1) t.paths own_path.0 idle own_path.1.stands
      (subst (λ o. Contains (column_of own_path.0.0 o) idle) (sym here) (Contains-first idle [])))) own_path.1.matched

  -- one of the columns matches exactly if the item isn't active
  pub idle_columns : list_any (λ (c : Column). matches c.cube s) columns ≡ not (item_active g s.values (item_at g x))
  idle_columns = same_truth (list_any (λ (c : Column). matches c.cube s) columns)
      (not (item_active g s.values (item_at g x))) from_column to_column

-- the next act: if one of the old columns matches just if some of the first `i` logged items is inactive, and one of
-- its own just if its item is, one of both matches just if some of the first `i + 1` is
pub idle_more : (g : Graph) (s : Scenario) (acts : List Logged) (i : ℕ) (d : Logged) → i < length acts →
    (old columns : List Column) →
    list_any (λ (c : Column). matches c.cube s) old ≡ is_some_idle g (take i acts) s
    → list_any (λ (c : Column). matches c.cube s) columns
    ≡ not (item_active g s.values (item_at g (get_or acts i d).item)) →
    list_any (λ (c : Column). matches c.cube s) (old ++ columns) ≡ is_some_idle g (take (i + 1) acts) s
idle_more g s acts i d within old columns first second = list_any-append (λ (c : Column). matches c.cube s) old columns
    ∙ ap₂ (λ a b. a || b) first second
    ∙ sym (list_any_more (λ (l : Logged). not (item_active g s.values (item_at g l.item))) acts i d within)
