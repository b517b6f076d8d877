-- The row of a tree that agrees with what is carried beside an item's time is a carrying row.
use Rattle.std.proofs.Common.{ℕ, ◌≤◌, ◌≡◌, ◌+◌, Bool, true, false, cond, List, [], ◌∷◌, length, map, filter, get_or}
use Rattle.std.proofs.Common.{Option, Some, None, option_to_list, All, Contains, IsPermutation, arith, refl, sym}
use Rattle.std.proofs.Common.{ap, ◌∙◌, subst, inl, inr, length-append}
use Rattle.std.proofs.lemmas.Bool.{cond-true, cond-false, false_from_ne_true}
use Rattle.std.proofs.lemmas.List.{length-map}
use Rattle.std.proofs.lemmas.List.Elements.{All-contains, filter-append}
use Rattle.std.proofs.lemmas.List.Sorted.{IsPermutation-sym, Contains-permutation}
use Rattle.cpg_base.specs.Graph.{Graph, process_count}
use Rattle.cpg_base.specs.Numbers.{numbers_below}
use Rattle.cpg_base.proofs.Lists.{Contains-first, Contains-cases, Contains-nil, Contains-map, Contains-map_parts}
use Rattle.cpg_base.proofs.Lists.{Contains-filter, Contains-filter_parts, Contains-flat_map, Contains-flat_map_parts}
use Rattle.cpg_base.proofs.Lists.{filter_none}
use Rattle.cpg_base.specs.Scenario.{Scenario, IsScenario}
use Rattle.cpg_cube.specs.declared.literal.Literal.{Literal}
use Rattle.cpg_cube.specs.Cube.{matches, is_whole}
use Rattle.cpg_base.specs.Variable.{top}
use Rattle.cpg_cube.specs.Fit.{IsCube}
use Rattle.cpg_merging.specs.Merged.{AreMet, AreOrdered, AreMergeable, IsLeastMatch, IsMergeOf}
use Rattle.cpg_cube.specs.declared.column.Column.{Column}
use Rattle.cpg_cube.specs.Column.{times_in}
use Rattle.cpg_merging.proofs.MergingEnds.{are_met, are_ordered}
use Rattle.cpg_merging.proofs.MergingLists.{AreGood}
use Rattle.cpg_merging.proofs.MergingPairs.{IsGood}
use Rattle.cpg_merging.proofs.MergingSteps.{AreSingle, single_permuted}
use Rattle.cpg_run.specs.Run.{Times, IsRun}
use Rattle.cpg_run.proofs.RunExists.{a_run}
use Rattle.cpg_run.specs.Carried.{row_at, carried}
use Rattle.cpg_run.specs.RowLaws.{IsTimed}
use Rattle.cpg_run.proofs.EntriesMerge.{the_one, every}
use Rattle.cpg_tree_columns.specs.Columns.{column_of, columns_of_paths, IsTidyColumn}
use Rattle.cpg_cube.specs.Keys.{AreByLows}
use Rattle.cpg_cube.proofs.KeyOrder.{permutation_of_equal}
use Rattle.cpg_tree.specs.Tree.{HasOnePathEach, Path, TreeState, is_on}
use Rattle.cpg_run.specs.Carrying.{ContainsKept, IsCarryingRow}
use Rattle.cpg_expand.specs.Agreeing.{Agrees}
use Rattle.cpg_tree_columns.specs.MadeRows.{AreListedOf}
use Rattle.cpg_core.specs.TreeRows.{IsTreeOf}
use Rattle.cpg_tree.proofs.OnePath.{scenario_few, the_path}
use Rattle.cpg_tree_columns.proofs.TreeColumns.{single as single_of, tidy_at as tidy_of, good as good_of, path_of as path_for}
use Rattle.cpg_tree_columns.proofs.TreeColumns.{column_there as column_for}

-- given: the columns listed of a tree
-- `few`, `urgency`, `all`: the urgency order has each of at most 128 processes; `t`, `columns`, `are`: a tree and its
-- columns
module _ (g : Graph) (few : process_count g ≤ 128) (urgency : List ℕ)
    (all : IsPermutation (numbers_below (process_count g)) urgency)
    (t : TreeState (Option ℕ)) (columns : List Column) (are : AreListedOf g t columns) where
  -- at most one of the columns matches in a scenario
  single : AreSingle g columns
  single = single_of g few urgency all t columns are

  -- each of them is tidy
  tidy_at : (c : Column) → Contains columns c → IsTidyColumn g c
  tidy_at = tidy_of g few urgency all t columns are

  -- their cubes are good ones
  good : AreGood g columns
  good = good_of g few urgency all t columns are

  -- each column is that of a path
  path_of : (c : Column) → Contains columns c →
      (x : Path (Option ℕ)) × Contains t.paths x × (x.1 ≡ Some c.time) × (x.0 ≡ c.cube)
  path_of = path_for g few urgency all t columns are

  -- a path with a time gives a column
  column_there : (x : Path (Option ℕ)) (time : ℕ) → Contains t.paths x → x.1 ≡ Some time →
      Contains columns (record { time = time; cube = x.0 })
  column_there = column_for g few urgency all t columns are

  -- given: rows, and a tree of an item's times that agrees with what is carried beside them
  -- `order`, `frozen`, `timed`: an order of the admitted graph with its frozen times; `x`, `tree`: an item and its
  -- tree
  -- `same_faults`: the tree has the faults of the graph
  module _ (order : List ℕ) (frozen : List (Option ℕ)) (timed : IsTimed g urgency order frozen)
      (rows : List (List Column)) (x : ℕ) (tree : IsTreeOf g order frozen rows x t)
      (same_faults : t.faults ≡ g.faults) where
    -- in each run the columns that match have the item's time, if it has one, and no other
    pub times : (s : Scenario) (run : Times) → IsScenario g s → IsRun g order frozen s run →
        times_in columns s ≡ option_to_list (get_or run.times x None)
    times s run law ran = by_time (get_or run.times x None) refl
      where
        -- the tree agrees with the item's time in this run
        agrees : Agrees s (carried g order rows s x) (λ time. time ≡ get_or run.times x None) t
        agrees = tree s run law ran

        -- no time in the run: no column matches; a time: the column of the scenario's path matches, and no other
        by_time : (o : Option ℕ) → get_or run.times x None ≡ o → times_in columns s ≡ option_to_list o
        by_time None is_o = ap (map (λ (c : Column). c.time))
            (filter_none (λ (c : Column). matches c.cube s) columns
            (λ c listed. false_from_ne_true (matches c.cube s) (λ is_matched.
            let its_path = path_of c listed in
            some_none c.time (sym its_path.2 ∙ agrees.value its_path.0
            (record {
              stands = its_path.1;
              matched = subst (λ (ls : List Literal). matches ls s ≡ true) (sym its_path.3) is_matched;
            })
            ∙ is_o))))
          where
            -- some time isn't none
            some_none : (n : ℕ) → Some n ≡ None → ⊥
            some_none n equal = cc
        by_time (Some n) has_time =
            let its_path = the_path g.faults t.paths are.each s (scenario_few g s law) in
            let value : its_path.0.1 ≡ Some n = agrees.value its_path.0 its_path.1 ∙ has_time in
            the_one (times_in columns s) n (single s law)
            (Contains-map (λ (c : Column). c.time) (filter (λ (c : Column). matches c.cube s) columns)
            (record { time = n; cube = its_path.0.0 })
            (Contains-filter (λ (c : Column). matches c.cube s) columns (record { time = n; cube = its_path.0.0 })
            its_path.1.matched
            (column_there its_path.0 n its_path.1.stands value)))

    -- the cube of a column that matches says no more than what is carried beside the item's time
    pub columns_carry : (s : Scenario) (c : Column) → IsScenario g s → Contains columns c → matches c.cube s ≡ true →
        ContainsKept g.faults c.cube (carried g order rows s x)
    columns_carry s c law listed is_matched =
        let its_path = path_of c listed in
        let its_run = a_run g order frozen s timed.admitted.topological in
        let kept = (tree s its_run.0 law its_run.1).says its_path.0
        (record {
          stands = its_path.1;
          matched = subst (λ (ls : List Literal). matches ls s ≡ true) (sym its_path.3) is_matched;
        }) in
        subst (λ (ls : List Literal). ContainsKept g.faults ls (carried g order rows s x)) its_path.3
        (subst (λ k. ContainsKept k its_path.0.0 (carried g order rows s x)) same_faults kept)

    -- if the columns stand by their least scenarios, the row of a send carries what it has to
    pub tree_row_carries : AreByLows (λ (c : Column). c.cube) g urgency columns → row_at rows x ≡ columns →
        IsCarryingRow g urgency order frozen rows x
    -- the row is the columns, so each field is a fact of these
    tree_row_carries by_lows is = record {
      times = λ s run law ran. subst (λ (cs : List Column). times_in cs s ≡ option_to_list (get_or run.times x None))
          (sym is) (times s run law ran);
      carries = λ s c law listed is_matched. columns_carry s c law
          (subst (λ (cs : List Column). Contains cs c) is listed) is_matched;
      cubes = subst (All (λ (c : Column). IsCube g c.cube)) (sym is)
          (every (λ (c : Column). IsCube g c.cube) columns (λ c listed. (tidy_at c listed).cube));
      within = subst (All (λ (c : Column). All (λ (l : Literal). l.high ≤ top g.faults l.variable) c.cube)) (sym is)
          (every (λ (c : Column). All (λ (l : Literal). l.high ≤ top g.faults l.variable) c.cube) columns
          (λ c listed. (tidy_at c listed).within));
      not_whole = subst (All (λ (c : Column). All (λ (l : Literal). is_whole g.faults l ≡ false) c.cube)) (sym is)
          (every (λ (c : Column). All (λ (l : Literal). is_whole g.faults l ≡ false) c.cube) columns
          (λ c listed. (tidy_at c listed).not_whole));
      met = subst (AreMet g urgency) (sym is) (are_met g few urgency all columns good single);
      ordered = subst (AreOrdered g urgency) (sym is) (are_ordered g few urgency all columns good single by_lows);
    }

    -- the merged columns of a start are a row that carries what it has to
    pub merged_row_carries : IsMergeOf g urgency columns (row_at rows x) → IsCarryingRow g urgency order frozen rows x
    -- a merged column that matches goes back to a column of the tree with the same time, and is at least as wide as
    -- that
    merged_row_carries merge = record {
      times = λ s run law ran. merge.times s law ∙ times s run law ran;
      carries = λ s c law listed is_matched.
          let there = Contains-map (λ (c : Column). c.time) (filter (λ (c : Column). matches c.cube s) (row_at rows x))
          c (Contains-filter (λ (c : Column). matches c.cube s) (row_at rows x) c is_matched listed) in
          let original = Contains-map_parts (λ (c : Column). c.time) (filter (λ (c : Column). matches c.cube s) columns)
          c.time
          (subst (λ ns. Contains ns c.time) (merge.times s law) there) in
          let original_parts = Contains-filter_parts (λ (c : Column). matches c.cube s) columns original.0 original.1 in
          let kept = columns_carry s original.0 law original_parts.0 original_parts.1 in
          let wide = merge.wider s original.0 c law original_parts.0 listed original_parts.1 is_matched in
          record {
            low = λ v. omega (arith, (wide v).0, kept.low v);
            high = λ v. omega (arith, (wide v).1, kept.high v);
          };
      cubes = merge.cubes;
      within = merge.within;
      not_whole = merge.not_whole;
      met = merge.met;
      ordered = merge.ordered;
    }
