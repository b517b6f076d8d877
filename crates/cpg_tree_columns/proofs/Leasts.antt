-- Of the columns of a tree, the one whose lows come first along an order has the least scenario with a number.
use Rattle.std.proofs.Common.{ℕ, ◌≤◌, ◌≡◌, true, false, List, [], get_or, Option, Some, None, All, Contains}
use Rattle.std.proofs.Common.{IsPermutation, refl, sym, ap, ap₂, ◌∙◌, subst, inl, inr}
use Rattle.std.proofs.lemmas.List.{get_or_default}
use Rattle.std.proofs.lemmas.List.Elements.{All-contains, Contains-get_or}
use Rattle.std.proofs.lemmas.List.Sorted.{IsPermutation-sym, Contains-permutation}
use Rattle.cpg_base.specs.Numbers.{numbers_below, is_below}
use Rattle.cpg_base.specs.Graph.{Graph, process_count}
use Rattle.cpg_base.proofs.Lists.{Contains-first, Contains-cases, Contains-nil, Contains-flat_map}
use Rattle.cpg_base.proofs.Lists.{Contains-flat_map_parts}
use Rattle.cpg_base.specs.Scenario.{Scenario, IsScenario, IsLeast, is_before}
use Rattle.cpg_base.proofs.ScenarioOrder.{not_before_transitive}
use Rattle.cpg_cube.specs.declared.literal.Literal.{Literal}
use Rattle.cpg_cube.specs.Cube.{matches, low_in}
use Rattle.cpg_cube.specs.Fit.{lows, is_met}
use Rattle.cpg_cube.specs.Keys.{lows_along, IsFirstByLows}
use Rattle.cpg_cube.proofs.CubeLows.{lows-least}
use Rattle.cpg_cube.proofs.KeyLows.{lows_are_key}
use Rattle.cpg_cube.specs.declared.column.Column.{Column}
use Rattle.cpg_tree_columns.specs.Columns.{column_of, columns_of_paths, IsTidyColumn}
use Rattle.cpg_tree.specs.Tree.{Path}
use Rattle.cpg_tree_columns.specs.Greatest.{HasNumberAt}

-- the lows of a tidy column are the least scenario that it matches
least_of_column : (g : Graph) → process_count g ≤ 128 → (c : Column) → IsTidyColumn g c → (order : List ℕ) →
    IsLeast g order (λ s. matches c.cube s ≡ true) (lows g c.cube)
least_of_column g few c tidy order = lows-least g few c.cube tidy.cube tidy.met order

-- ---- paths and columns

-- a path with a time has a column
of_time : (cube : List Literal) (time : ℕ) → Contains (column_of cube (Some time)) (record { time = time; cube = cube })
of_time cube time = Contains-first (record { time = time; cube = cube }) []

-- the column of a path has the path's time and cube; a path without a time has no column
from_time : (cube : List Literal) (x : Option ℕ) (c : Column) → Contains (column_of cube x) c →
    (x ≡ Some c.time) × (cube ≡ c.cube)
from_time cube None c listed = absurd (Contains-nil c listed)
from_time cube (Some t) c listed = elim (Contains-cases (record { time = t; cube = cube }) [] c listed) [
  | inl is_it ↦ (ap (λ (d : Column). Some d.time) is_it, ap (λ (d : Column). d.cube) is_it)
  | inr in_none ↦ absurd (Contains-nil c in_none)
]

-- given: the columns of paths, in any order
module _ (paths : List (Path (Option ℕ))) (columns : List Column)
    (p : IsPermutation (columns_of_paths paths) columns) where
  -- a path with a time is among the columns
  pub column_there : (x : Path (Option ℕ)) (time : ℕ) → Contains paths x → x.1 ≡ Some time →
      Contains columns (record { time = time; cube = x.0 })
  column_there x time listed has_time =
      Contains-permutation (columns_of_paths paths) columns (record { time = time; cube = x.0 }) p
      (Contains-flat_map (λ (p : Path (Option ℕ)). column_of p.0 p.1) paths x (record { time = time; cube = x.0 })
      listed
      (subst (λ o. Contains (column_of x.0 o) (record { time = time; cube = x.0 })) (sym has_time) (of_time x.0 time)))

  -- each column is that of a path
  pub path_there : (c : Column) → Contains columns c →
      (x : Path (Option ℕ)) × Contains paths x × (x.1 ≡ Some c.time) × (x.0 ≡ c.cube)
  path_there c listed =
      let back = Contains-permutation columns (columns_of_paths paths) c
      (IsPermutation-sym (columns_of_paths paths) columns p) listed in
      let from_path = Contains-flat_map_parts (λ (p : Path (Option ℕ)). column_of p.0 p.1) paths c back in
      let is = from_time from_path.0.0 from_path.0.1 c from_path.2 in
      (from_path.0, from_path.1, is.0, is.1)

  -- if there is no column, no path has a number: one with a number would have a column
  pub no_numbers : columns ≡ [] → (x : Path (Option ℕ)) → Contains paths x → x.1 ≡ None
  no_numbers none x listed = by_value x.1 refl
    where
      -- a path with a time would have a column
      by_value : (o : Option ℕ) → x.1 ≡ o → o ≡ None
      by_value None is_o = refl
      by_value (Some t) is_o = absurd (Contains-nil (record { time = t; cube = x.0 })
          (subst (λ (cs : List Column). Contains cs (record { time = t; cube = x.0 })) none
          (column_there x t listed is_o)))

  -- given: columns that are tidy, and c, the column at place `at`, whose lows come first along the order
  module _ (g : Graph) (few : process_count g ≤ 128) (order : List ℕ)
      (all : IsPermutation (numbers_below (process_count g)) order) (tidy : All (IsTidyColumn g) columns)
      (at : ℕ) (first : IsFirstByLows (λ (c : Column). c.cube) g order columns at) (c : Column)
      (is : get_or columns at c ≡ c) where
    -- the column is one of them
    here : Contains columns c
    here = subst (Contains columns) is (Contains-get_or columns at c first.there)

    -- each column is tidy
    tidy_at : (d : Column) → Contains columns d → IsTidyColumn g d
    tidy_at d listed = All-contains (IsTidyColumn g) columns d tidy listed

    -- some scenario matches the first column
    pub column_met : is_met g.faults c.cube ≡ true
    column_met = (tidy_at c here).met

    -- no scenario that a column d matches is before the lows of c
    not_earlier : (u : Scenario) → IsScenario g u → (d : Column) → Contains columns d → matches d.cube u ≡ true →
        is_before g order u (lows g c.cube) ≡ false
    -- d's lows aren't before c's, by how c was chosen (`below`, said of scenarios by `order_of`), and u isn't before
    -- d's lows
    not_earlier u law d listed matched =
        let below : is_below (lows_along g order (low_in d.cube)) (lows_along g order (low_in c.cube)) ≡ false =
        subst (λ (b : Column).
        is_below (lows_along g order (low_in b.cube)) (lows_along g order (low_in c.cube)) ≡ false) listed.2
        (subst (λ (b : Column). is_below (lows_along g order (low_in (get_or columns listed.0 d).cube))
        (lows_along g order (low_in b.cube)) ≡ false) (get_or_default columns at d c first.there ∙ is)
        (first.first listed.0 d listed.1)) in
        let order_of : is_before g order (lows g d.cube) (lows g c.cube) ≡ false =
        ap₂ is_below (sym (lows_are_key g few d.cube (tidy_at d listed).met order all))
        (sym (lows_are_key g few c.cube (tidy_at c here).met order all)) ∙ below in
        not_before_transitive g order (lows g c.cube) (lows g d.cube) u order_of
        ((least_of_column g few d (tidy_at d listed) order).least u law matched)

    -- the lows of c are the least scenario with a number: a path with it is that of some column, which `not_earlier`
    -- compares
    pub least_of_columns : IsLeast g order (HasNumberAt paths) (lows g c.cube)
    least_of_columns = record {
      lawful = (least_of_column g few c (tidy_at c here) order).lawful;
      -- the path of c has the time of c as its number, and c matches its own lows
      holds =
          let its_path = path_there c here in
          record {
            number = c.time;
            has = (
              its_path.0,
              record {
                stands = its_path.1;
                matched = subst (λ (ls : List Literal). matches ls (lows g c.cube) ≡ true) (sym its_path.3)
                    (least_of_column g few c (tidy_at c here) order).holds;
              },
              its_path.2,
            );
          };
      -- a path with a number is that of a column, whose scenarios aren't earlier
      least = λ u law has_number. not_earlier u law (record { time = has_number.number; cube = has_number.has.0.0 })
          (column_there has_number.has.0 has_number.number has_number.has.1.stands has_number.has.2)
          has_number.has.1.matched;
    }
