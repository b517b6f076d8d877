-- The columns of a tree: in each scenario at most one of them matches, and they can be merged.
use Rattle.std.proofs.Common.{ℕ, ◌≤◌, ◌≡◌, ◌+◌, Bool, true, false, cond, List, [], ◌∷◌, length, map, filter, get_or}
use Rattle.std.proofs.Common.{Option, Some, None, option_to_list, All, Contains, IsPermutation, arith, refl, sym}
use Rattle.std.proofs.Common.{ap, ◌∙◌, subst, inl, inr, length-append}
use Rattle.std.proofs.lemmas.Bool.{cond-true, cond-false, false_from_ne_true}
use Rattle.std.proofs.lemmas.List.{length-map}
use Rattle.std.proofs.lemmas.List.Elements.{All-contains, filter-append}
use Rattle.std.proofs.lemmas.List.Sorted.{IsPermutation-sym, Contains-permutation}
use Rattle.cpg_base.specs.Graph.{Graph, process_count}
use Rattle.cpg_base.specs.Numbers.{numbers_below}
use Rattle.cpg_base.proofs.Lists.{Contains-first, Contains-cases, Contains-nil, Contains-map, Contains-map_parts}
use Rattle.cpg_base.proofs.Lists.{Contains-filter, Contains-filter_parts, Contains-flat_map, Contains-flat_map_parts}
use Rattle.cpg_base.proofs.Lists.{filter_none}
use Rattle.cpg_base.specs.Scenario.{Scenario, IsScenario}
use Rattle.cpg_cube.specs.declared.literal.Literal.{Literal}
use Rattle.cpg_cube.specs.Cube.{matches, is_whole}
use Rattle.cpg_base.specs.Variable.{top}
use Rattle.cpg_cube.specs.Fit.{IsCube}
use Rattle.cpg_merging.specs.Merged.{AreMet, AreOrdered, AreMergeable, IsLeastMatch, IsMergeOf}
use Rattle.cpg_cube.specs.declared.column.Column.{Column}
use Rattle.cpg_cube.specs.Column.{times_in}
use Rattle.cpg_merging.proofs.MergingCubes.{All-from_each}
use Rattle.cpg_merging.proofs.MergingEnds.{are_met, are_ordered}
use Rattle.cpg_merging.proofs.MergingLists.{AreGood}
use Rattle.cpg_merging.proofs.MergingPairs.{IsGood}
use Rattle.cpg_merging.proofs.MergingSteps.{AreSingle, single_permuted}
use Rattle.cpg_tree_columns.specs.Columns.{column_of, columns_of_paths, IsTidyColumn}
use Rattle.cpg_cube.specs.Keys.{AreByLows}
use Rattle.cpg_cube.proofs.KeyOrder.{permutation_of_equal}
use Rattle.cpg_tree.specs.Tree.{HasOnePathEach, Path, TreeState, is_on}
use Rattle.cpg_tree_columns.specs.MadeRows.{AreListedOf}
use Rattle.cpg_tree.proofs.OnePath.{scenario_few, the_path}

-- tidy columns that are those of the tree's paths are the columns listed of the tree
pub listed_all : (g : Graph) (t : TreeState (Option ℕ)) (columns : List Column) → HasOnePathEach g.faults t.paths →
    columns ≡ columns_of_paths t.paths →
    All (IsTidyColumn g) columns →
    AreListedOf g t columns
listed_all g t columns each is tidy =
    record { each = each; all = permutation_of_equal (columns_of_paths t.paths) columns (sym is); tidy = tidy }

-- ---- no more columns match than paths

-- whether a column matches in a scenario
matched : Scenario → Column → Bool
matched s c = matches c.cube s

-- a path gives a column that matches only if its cube does, and none if it has no time
one_more : (b : Bool) (x : Option ℕ) (cube : List Literal) (s : Scenario) → matches cube s ≡ b →
    length (filter (λ (c : Column). matches c.cube s) (column_of cube x)) ≤ cond b 1 0
one_more b None cube s is_b = omega arith
one_more true (Some t) cube s is_b = omega (
  arith,
  ap (λ (cs : List Column). length cs) (cond-true (matches cube s) ((record { time = t; cube = cube }) ∷ []) [] is_b),
)
one_more false (Some t) cube s is_b = omega (
  arith,
  ap (λ (cs : List Column). length cs) (cond-false (matches cube s) ((record { time = t; cube = cube }) ∷ []) [] is_b),
)

-- a path is counted in a scenario if its cube matches
path_count : (b : Bool) (p : Path (Option ℕ)) (ps : List (Path (Option ℕ))) (s : Scenario) → matches p.0 s ≡ b →
    length (filter (is_on s) (p ∷ ps)) ≡ cond b 1 0 + length (filter (is_on s) ps)
path_count true p ps s is_b =
    ap length (cond-true (matches p.0 s) (p ∷ filter (is_on s) ps) (filter (is_on s) ps) is_b) ∙ omega arith
path_count false p ps s is_b =
    ap length (cond-false (matches p.0 s) (p ∷ filter (is_on s) ps) (filter (is_on s) ps) is_b) ∙ omega arith

-- in a scenario no more columns of some paths match than paths
no_more : (paths : List (Path (Option ℕ))) (s : Scenario) →
    length (filter (λ (c : Column). matches c.cube s) (columns_of_paths paths)) ≤ length (filter (is_on s) paths)
-- by induction on the list
no_more [] s = omega arith
no_more (p ∷ ps) s =
    let split = ap length (filter-append (λ (c : Column). matches c.cube s) (column_of p.0 p.1) (columns_of_paths ps))
    ∙ length-append (filter (λ (c : Column). matches c.cube s) (column_of p.0 p.1))
    (filter (λ (c : Column). matches c.cube s) (columns_of_paths ps)) in
    omega (arith, split, one_more (matches p.0 s) p.1 p.0 s refl, path_count (matches p.0 s) p ps s refl, no_more ps s)

-- given: the columns listed of a tree
-- `few`, `urgency`, `all`: the urgency order has each of at most 128 processes; `t`, `columns`, `are`: a tree and its
-- columns
module _ (g : Graph) (few : process_count g ≤ 128) (urgency : List ℕ)
    (all : IsPermutation (numbers_below (process_count g)) urgency)
    (t : TreeState (Option ℕ)) (columns : List Column) (are : AreListedOf g t columns) where
  -- at most one of the columns matches in a scenario, since one path does
  pub single : AreSingle g columns
  single = single_permuted g few (columns_of_paths t.paths) columns are.all
      (λ s law. omega (
        arith,
        length-map (filter (λ (c : Column). matches c.cube s) (columns_of_paths t.paths)) (λ (c : Column). c.time),
        no_more t.paths s,
        are.each s (scenario_few g s law),
      ))

  -- each of them is tidy
  pub tidy_at : (c : Column) → Contains columns c → IsTidyColumn g c
  tidy_at c listed = All-contains (IsTidyColumn g) columns c are.tidy listed

  -- so their cubes are good ones
  pub good : AreGood g columns
  good = All-from_each {P = λ (c : Column). IsGood g c.cube} columns (λ c listed.
      let tidy = tidy_at c listed in
      record {
        cube = tidy.cube;
        met = tidy.met;
        narrow =
            All-from_each {P = λ (l : Literal). (is_whole g.faults l ≡ false) × (l.high ≤ top g.faults l.variable)} c.cube (λ l i. (
              All-contains (λ (l : Literal). is_whole g.faults l ≡ false) c.cube l tidy.not_whole i,
              All-contains (λ (l : Literal). l.high ≤ top g.faults l.variable) c.cube l tidy.within i,
            ));
      })

  -- the columns can be merged
  pub mergeable : AreMergeable g columns
  mergeable = record {
    cubes = All-from_each {P = λ (c : Column). IsCube g c.cube} columns (λ c j. (tidy_at c j).cube);
    within = All-from_each {P = λ (c : Column). All (λ (l : Literal). l.high ≤ top g.faults l.variable) c.cube} columns
        (λ c listed. (tidy_at c listed).within);
    met = All-from_each {P = λ (c : Column). (s : Scenario) × IsScenario g s × (matches c.cube s ≡ true)} columns
        (λ c listed.
        let least = All-contains (λ (c : Column). (s : Scenario) × IsLeastMatch g urgency c s) columns c
        (are_met g few urgency all columns good single) listed in
        (least.0, least.1.lawful, least.1.holds));
    apart = single;
  }

  -- each column is that of a path
  pub path_of : (c : Column) → Contains columns c →
      (x : Path (Option ℕ)) × Contains t.paths x × (x.1 ≡ Some c.time) × (x.0 ≡ c.cube)
  path_of c listed =
      let back = Contains-permutation columns (columns_of_paths t.paths) c
      (IsPermutation-sym (columns_of_paths t.paths) columns are.all) listed in
      let its_path = Contains-flat_map_parts (λ (p : Path (Option ℕ)). column_of p.0 p.1) t.paths c back in
      let is = from_column its_path.0.1 its_path.0.0 c its_path.2 in
      (its_path.0, its_path.1, is.0, is.1)
    where
      -- the column of a path has its time and cube, and a path without a time gives none
      from_column : (x : Option ℕ) (cube : List Literal) (c : Column) → Contains (column_of cube x) c →
          (x ≡ Some c.time) × (cube ≡ c.cube)
      from_column None cube c listed = absurd (Contains-nil c listed)
      from_column (Some n) cube c listed = elim (Contains-cases (record { time = n; cube = cube }) [] c listed) [
        | inl is_it ↦ (ap (λ (d : Column). Some d.time) is_it, ap (λ (d : Column). d.cube) is_it)
        | inr none ↦ absurd (Contains-nil c none)
      ]

  -- a path with a time gives a column
  pub column_there : (x : Path (Option ℕ)) (time : ℕ) → Contains t.paths x → x.1 ≡ Some time →
      Contains columns (record { time = time; cube = x.0 })
  column_there x time listed has_time =
      let column : Column = record { time = time; cube = x.0 } in
      Contains-permutation (columns_of_paths t.paths) columns column are.all
      (Contains-flat_map (λ (p : Path (Option ℕ)). column_of p.0 p.1) t.paths x column listed
      (subst (λ o. Contains (column_of x.0 o) column) (sym has_time) (Contains-first column [])))
