-- The columns of the paths of a good tree are tidy: on variables of the graph, and each matches some scenario.
use Rattle.std.proofs.Common.{ℕ, zero, suc, Option, None, Some, IsPermutation, ◌+◌, ◌≤◌, ◌≡◌, true, false, List, []}
use Rattle.std.proofs.Common.{get_or, sum_by, Contains, arith, ap, subst, inl, inr}
use Rattle.std.specs.Prelude.{nat_le, All}
use Rattle.std.proofs.lemmas.Bool.{and_from, le-leb}
use Rattle.std.proofs.lemmas.List.Elements.{Contains-get_or, All-contains}
use Rattle.std.proofs.lemmas.List.Sorted.{All-permutation}
use Rattle.cpg_base.specs.Graph.{Graph, process_count, IsVariable}
use Rattle.cpg_base.specs.Numbers.{numbers_below}
use Rattle.cpg_base.specs.Variable.{top}
use Rattle.cpg_base.proofs.Lists.{Contains-cases, Contains-nil, all_from, numbers-Contains, Contains-flat_map_parts}
use Rattle.cpg_base.proofs.Sums.{sum_by-below_first, sum_by-le_each}
use Rattle.cpg_cube.specs.declared.literal.Literal.{Literal}
use Rattle.cpg_cube.specs.declared.column.Column.{Column}
use Rattle.cpg_cube.specs.Cube.{low_in, is_whole}
use Rattle.cpg_cube.specs.Fit.{IsCube, IsKnown, is_open, is_met, asked_faults}
use Rattle.cpg_cube.proofs.CubeLows.{budget_of_cube}
use Rattle.cpg_tree.specs.TreeNode.{TreeNode}
use Rattle.cpg_tree.specs.Decision.{IsGood}
use Rattle.cpg_tree.specs.Paths.{paths_of}
use Rattle.cpg_tree.specs.Tree.{Path}
use Rattle.cpg_tree.proofs.Tidy.{IsPathAround, tidy_of, range, not_whole, within}
use Rattle.cpg_tree_columns.specs.Columns.{column_of, columns_of_paths, IsTidyColumn}

-- a sum over the numbers below n is no greater than one over those below m, if n is no greater
pub sum_by_fewer : (f : ℕ → ℕ) (n m : ℕ) → n ≤ m → sum_by f (numbers_below n) ≤ sum_by f (numbers_below m)
sum_by_fewer f zero m no_more = omega arith
sum_by_fewer f (suc n) zero no_more = absurd (omega (arith, no_more))
sum_by_fewer f (suc n) (suc m) no_more =
    omega (
      arith,
      sum_by-below_first f n,
      sum_by-below_first f m,
      sum_by_fewer (λ i. f (i + 1)) n m (omega (arith, no_more)),
    )

-- ---- some scenario meets the cube of a path

-- a literal of a path's cube has a number, and doesn't begin past its variable's greatest one
is_open_literal : (k : ℕ) (cube : List Literal) (tidy : IsPathAround k cube) (l : Literal) → Contains cube l →
    is_open k l ≡ true
-- the space's low and high of the variable lie within the cube's range, and the low isn't above the high
is_open_literal k cube tidy l listed =
    let there = (tidy.part l listed).0 in
    let bounds = range k cube tidy l listed in
    let at_most : l.low ≤ l.high = omega (
      arith,
      bounds.0,
      bounds.1,
      tidy.covers.low l.variable there,
      tidy.is.opens l.variable there,
      tidy.covers.high l.variable there,
    ) in
    and_from (nat_le l.low l.high) _ (le-leb l.low l.high at_most)
    (le-leb l.low (top k l.variable) (omega (arith, at_most, within k cube tidy l listed)))

-- given: a cube of a path whose literals are on variables of the graph
module _ (g : Graph) (few : process_count g ≤ 128) (cube : List Literal) (tidy : IsPathAround g.faults cube)
    (known : All (λ l. IsVariable g l.variable) cube) where
  -- the cube is one of the graph
  pub path_cube : IsCube g cube
  path_cube = record { rising = tidy.covers.rising; known = known }

  -- some scenario of the graph matches it: each literal is open, and the lows ask for no more faults than there are
  pub path_met : is_met g.faults cube ≡ true
  path_met = and_from _ _ (all_from (is_open g.faults) cube (is_open_literal g.faults cube tidy))
      (le-leb (asked_faults cube) g.faults (omega (
        arith,
        budget_of_cube g few cube path_cube,
        sum_by-le_each (low_in cube) (λ p. get_or tidy.space.low p 0) (numbers_below (process_count g))
            (λ p listed. tidy.covers.low p (omega (arith, numbers-Contains (process_count g) p listed, few))),
        sum_below_le (λ p. get_or tidy.space.low p 0) (process_count g) few,
        tidy.is.budget,
      )))
    where
      -- a sum over the first numbers is no greater than that over all 128
      sum_below_le : (f : ℕ → ℕ) (n : ℕ) → n ≤ 128 → sum_by f (numbers_below n) ≤ sum_by f (numbers_below 128)
      sum_below_le f n no_more = sum_by_fewer f n 128 no_more

-- ---- columns

-- the cube of a path's column is that of the path
pub of_column : (cube : List Literal) (x : Option ℕ) (c : Column) → Contains (column_of cube x) c → cube ≡ c.cube
of_column cube None c listed = absurd (Contains-nil c listed)
of_column cube (Some t) c listed = elim (Contains-cases (record { time = t; cube = cube }) [] c listed) [
  | inl is_it ↦ ap (λ (d : Column). d.cube) is_it
  | inr in_none ↦ absurd (Contains-nil c in_none)
]

-- given: a good tree whose variables are the graph's
module _ (g : Graph) (few : process_count g ≤ 128) (node : TreeNode (Option ℕ)) (good : IsGood g.faults node)
    (known : All (λ (p : Path (Option ℕ)). IsKnown g p.0) (paths_of g.faults node)) where
  -- a column with the cube of one of the tree's paths is tidy, as the path is
  of_path : (p : Path (Option ℕ)) → Contains (paths_of g.faults node) p →
      IsTidyColumn g (record { time = 0; cube = p.0 })
  of_path p listed =
      let tidy = tidy_of g.faults node good p listed in
      let variables = All-contains (λ (p : Path (Option ℕ)). IsKnown g p.0) (paths_of g.faults node) p known listed in
      record {
        cube = path_cube g few p.0 tidy variables;
        met = path_met g few p.0 tidy variables;
        not_whole = λ i d inside. not_whole g.faults p.0 tidy (get_or p.0 i d) (Contains-get_or p.0 i d inside);
        within = λ i d inside. within g.faults p.0 tidy (get_or p.0 i d) (Contains-get_or p.0 i d inside);
      }

  -- each column of the tree's paths is tidy, as the column of one path is
  tidy_column : (c : Column) → Contains (columns_of_paths (paths_of g.faults node)) c → IsTidyColumn g c
  tidy_column c listed =
      let from_path = Contains-flat_map_parts (λ (p : Path (Option ℕ)). column_of p.0 p.1) (paths_of g.faults node) c
      listed in
      let is = of_path from_path.0 from_path.1 in
      let same = of_column from_path.0.0 from_path.0.1 c from_path.2 in
      record {
        cube = subst (IsCube g) same is.cube;
        met = subst (λ (ls : List Literal). is_met g.faults ls ≡ true) same is.met;
        not_whole =
            subst (λ (ls : List Literal). All (λ (l : Literal). is_whole g.faults l ≡ false) ls) same is.not_whole;
        within =
            subst (λ (ls : List Literal). All (λ (l : Literal). l.high ≤ top g.faults l.variable) ls) same is.within;
      }

  -- the columns of its paths are tidy, in whatever order they stand
  pub tidy_columns : (columns : List Column) → IsPermutation (columns_of_paths (paths_of g.faults node)) columns →
      All (IsTidyColumn g) columns
  tidy_columns columns p = All-permutation (IsTidyColumn g) (columns_of_paths (paths_of g.faults node)) columns p
      (λ i d inside. tidy_column (get_or (columns_of_paths (paths_of g.faults node)) i d)
      (Contains-get_or (columns_of_paths (paths_of g.faults node)) i d inside))
