-- Where the search for the first column with a time leads: down a tree, and, if the columns stand by their least
-- scenarios, to the least scenario with that time.
use Rattle.std.proofs.Common.{ℕ, ◌+◌, ◌≤◌, ◌≡◌, ◌≢◌, ◌==◌, Bool, true, false, List, [], ◌∷◌, ◌++◌, get_or, Option, Some}
use Rattle.std.proofs.Common.{None, unwrap_or, option_map, All, Contains, IsPermutation, refl, sym}
use Rattle.std.proofs.Common.{ap, ap₂, ◌∙◌, subst, inl, inr, eq-eqb, ne_eqb}
use Rattle.std.specs.Bool.{OnFalse, OnTrue}
use Rattle.std.specs.Option.{IfNone, IfSome, is_some, option_map_or}
use Rattle.std.proofs.lemmas.Bool.{both_ways, cases_eq, cond-true, cond-false}
use Rattle.std.proofs.lemmas.List.Elements.{All-contains, Contains-get_or}
use Rattle.std.proofs.lemmas.List.Sorted.{IsPermutation-refl}
use Rattle.std.proofs.lemmas.Option.{none-some}
use Rattle.cpg_base.specs.Graph.{Graph, process_count}
use Rattle.cpg_base.specs.Numbers.{numbers_below, is_below}
use Rattle.cpg_base.specs.Scenario.{Scenario, IsLeast}
use Rattle.cpg_base.specs.Variable.{top}
use Rattle.cpg_base.proofs.Below.{below_irreflexive}
use Rattle.cpg_base.proofs.Lists.{Contains-first, Contains-rest, Contains-cases, Contains-nil}
use Rattle.cpg_base.proofs.Pairs.{AllPairs-first, AllPairs-rest}
use Rattle.cpg_base.proofs.ScenarioOrder.{not_before_transitive}
use Rattle.cpg_cube.specs.declared.literal.Literal.{Literal}
use Rattle.cpg_cube.specs.declared.column.Column.{Column}
use Rattle.cpg_cube.specs.Cube.{matches, low_in}
use Rattle.cpg_cube.specs.Fit.{IsKnown, lows, is_met}
use Rattle.cpg_cube.specs.Keys.{AreByLows, lows_along}
use Rattle.cpg_cube.specs.Narrow.{with_literal}
use Rattle.cpg_cube.specs.declared.cube.Narrowing.{Narrowing}
use Rattle.cpg_cube.specs.Undo.{IsUndo, restored}
use Rattle.cpg_cube.proofs.CubeLows.{lows-least}
use Rattle.cpg_cube.proofs.KeyLows.{lows_are_key}
use Rattle.cpg_tree.specs.TreeNode.{TreeNode, Leaf, Fork}
use Rattle.cpg_tree.specs.Decision.{IsGood}
use Rattle.cpg_tree.specs.Paths.{up_to, above, paths_of}
use Rattle.cpg_tree.specs.Tree.{Path}
use Rattle.cpg_tree_columns.proofs.ColumnsFound.{above_again}
use Rattle.cpg_tree_columns.specs.Columns.{column_of, columns_from, columns_of_paths, first_with, IsTidyColumn}
use Rattle.cpg_tree_columns.specs.Greatest.{HasValueAt, IsLeastWhereSorted, if_wanted}
use Rattle.cpg_tree_columns.proofs.Leasts.{column_there, path_there}
use Rattle.cpg_tree_columns.proofs.TidyColumns.{tidy_columns}

-- what follows from a true test holds on true
pub on_true : {P : Type 0} (b : Bool) → (b ≡ true → P) → OnTrue b P
on_true true follows = follows refl
on_true false follows = tt

-- what follows from a false test holds on false
pub on_false : {P : Type 0} (b : Bool) → (b ≡ false → P) → OnFalse b P
on_false true follows = tt
on_false false follows = follows refl

-- given: the time that is searched for
module _ (wanted : ℕ) where
  -- the column with the time and a cube
  abbrev With : List Literal → Column
  With cube = record { time = wanted; cube = cube }

  -- if the first column has the time, its cube is found
  at_first : (x : Column) (xs : List Column) → x.time ≡ wanted → first_with wanted (x ∷ xs) ≡ Some x.cube
  at_first x xs same = cond-true (x.time == wanted) (Some x.cube) (first_with wanted xs) (eq-eqb _ _ same)

  -- if the first column has another time, the search goes on with the others
  past_first : (x : Column) (xs : List Column) → x.time ≢ wanted → first_with wanted (x ∷ xs) ≡ first_with wanted xs
  past_first x xs differs = cond-false (x.time == wanted) (Some x.cube) (first_with wanted xs) (ne_eqb _ _ differs)

  -- ---- of two lists, one after the other

  -- if the first list has a column with the time, that is the first of both lists
  pub first_left : (xs ys : List Column) (cube : List Literal) → first_with wanted xs ≡ Some cube →
      first_with wanted (xs ++ ys) ≡ Some cube
  -- by induction on the list
  first_left [] ys cube is_first = absurd (none-some cube is_first)
  first_left (x ∷ xs) ys cube is_first = elim (cases_eq x.time wanted) [
    | inl same ↦ at_first x (xs ++ ys) same ∙ sym (at_first x xs same) ∙ is_first
    | inr differs ↦ past_first x (xs ++ ys) differs ∙ first_left xs ys cube (sym (past_first x xs differs) ∙ is_first)
  ]

  -- if it has none, the first of both is that of the second list
  pub first_right : (xs ys : List Column) → first_with wanted xs ≡ None →
      first_with wanted (xs ++ ys) ≡ first_with wanted ys
  -- by induction on the list
  first_right [] ys is_none = refl
  first_right (x ∷ xs) ys is_none = elim (cases_eq x.time wanted) [
    | inl same ↦ absurd (none-some x.cube (sym is_none ∙ at_first x xs same))
    | inr differs ↦ past_first x (xs ++ ys) differs ∙ first_right xs ys (sym (past_first x xs differs) ∙ is_none)
  ]

  -- ---- on the way down

  -- given: a fork that is entered with a cube
  module _ (k : ℕ) (cube : List Literal) (v cut : ℕ) (below upper node : TreeNode (Option ℕ))
      (is : node ≡ Fork v cut below upper) where
    -- the columns of the side below are those on from the narrowed cube, if that has numbers up to the cut
    of_below : (low : List Literal) → with_literal (up_to v cut) cube ≡ Some low →
        option_map_or (λ c. columns_from k c below) (with_literal (up_to v cut) cube) [] ≡ columns_from k low below
    of_below low is_low = ap (λ (o : Option (List Literal)). option_map_or (λ c. columns_from k c below) o []) is_low

    -- if the side below has a column with the time, its first one is that of the fork
    pub fork_below : (low found : List Literal) → with_literal (up_to v cut) cube ≡ Some low →
        first_with wanted (columns_from k low below) ≡ Some found →
        first_with wanted (columns_from k cube node) ≡ Some found
    fork_below low found is_low first =
        ap (λ (n : TreeNode (Option ℕ)). first_with wanted (columns_from k cube n)) is
        ∙ first_left (option_map_or (λ c. columns_from k c below) (with_literal (up_to v cut) cube) [])
        (option_map_or (λ c. columns_from k c upper) (with_literal (above k v cut) cube) []) found
        (ap (first_with wanted) (of_below low is_low) ∙ first)

    -- If no column of the side below has the time, the first one of the fork is that of the side above. The cube is
    -- narrowed to the numbers above the cut by exchanging the literal.
    pub fork_above : (n : Narrowing) (most : ℕ) (low after : List Literal) (high found : Option (List Literal)) →
        most ≡ top k v → with_literal (up_to v cut) cube ≡ Some low →
        IsUndo n low cube →
        first_with wanted (columns_from k low below) ≡ None →
        after ≡ low → with_literal (record { variable = v; low = cut + 1; high = most }) (restored n after) ≡ high →
        first_with wanted (option_map_or (λ c. columns_from k c upper) high []) ≡ found →
        first_with wanted (columns_from k cube node) ≡ found
    -- the fork's columns are those of the side below, which have no such time, and then those of the side above
    fork_above n most low after high found whole is_low undo none same exchanged first =
        let same_above = above_again k v cut most n cube low after high whole undo same exchanged in
        ap (λ (n : TreeNode (Option ℕ)). first_with wanted (columns_from k cube n)) is
        ∙ first_right (option_map_or (λ c. columns_from k c below) (with_literal (up_to v cut) cube) [])
        (option_map_or (λ c. columns_from k c upper) (with_literal (above k v cut) cube) [])
        (ap (first_with wanted) (of_below low is_low) ∙ none)
        ∙ ap (λ (o : Option (List Literal)). first_with wanted (option_map_or (λ c. columns_from k c upper) o []))
        same_above
        ∙ first

    -- if the cube has no numbers below the cut, the first column of the fork is that of the side above
    pub fork_only_above : (high found : Option (List Literal)) → with_literal (up_to v cut) cube ≡ None →
        with_literal (above k v cut) cube ≡ high →
        first_with wanted (option_map_or (λ c. columns_from k c upper) high []) ≡ found →
        first_with wanted (columns_from k cube node) ≡ found
    fork_only_above high found none_below is_high first =
        ap (λ (n : TreeNode (Option ℕ)). first_with wanted (columns_from k cube n)) is
        ∙ ap₂ (λ (a b : Option (List Literal)). first_with wanted (option_map_or (λ c. columns_from k c below) a []
        ++ option_map_or (λ c. columns_from k c upper) b [])) none_below is_high ∙ first

  -- ---- at a leaf

  -- given: a leaf that is entered with a cube
  module _ (k : ℕ) (cube : List Literal) (x : Option ℕ) (node : TreeNode (Option ℕ)) (is : node ≡ Leaf x) where
    -- the columns of a leaf are those of its value
    leaf_is : first_with wanted (columns_from k cube node) ≡ first_with wanted (column_of cube x)
    leaf_is = ap (λ (n : TreeNode (Option ℕ)). first_with wanted (columns_from k cube n)) is

    -- a leaf with the time has its cube as the first
    pub leaf_first : is_some (if_wanted wanted x) ≡ true → first_with wanted (columns_from k cube node) ≡ Some cube
    leaf_first on = leaf_is ∙ by_value x on
      where
        -- a leaf without a time has no time; a leaf with a time has the time only if the two are equal
        by_value : (o : Option ℕ) → is_some (if_wanted wanted o) ≡ true →
            first_with wanted (column_of cube o) ≡ Some cube
        by_value None is_it = cc
        by_value (Some time) is_it = elim (cases_eq time wanted) [
          | inl same ↦ cond-true (time == wanted) (Some cube) None (eq-eqb _ _ same)
          | inr differs ↦ absurd (both_ways (is_some (if_wanted wanted (Some time)))
              (ap is_some (cond-false (time == wanted) (Some time) None (ne_eqb _ _ differs))) is_it)
        ]

    -- a leaf without the time has none
    pub leaf_none : is_some (if_wanted wanted x) ≡ false → first_with wanted (columns_from k cube node) ≡ None
    leaf_none off = leaf_is ∙ by_value x off
      where
        -- a leaf without a time has no column; a column with another time isn't found
        by_value : (o : Option ℕ) → is_some (if_wanted wanted o) ≡ false → first_with wanted (column_of cube o) ≡ None
        by_value None not_it = refl
        by_value (Some time) not_it = elim (cases_eq time wanted) [
          | inl same ↦ absurd (both_ways (is_some (if_wanted wanted (Some time))) not_it
              (ap is_some (cond-true (time == wanted) (Some time) None (eq-eqb _ _ same))))
          | inr differs ↦ cond-false (time == wanted) (Some cube) None (ne_eqb _ _ differs)
        ]

  -- ---- which it is

  -- the cube that is found is that of a column with the time
  is_there : (xs : List Column) (cube : List Literal) → first_with wanted xs ≡ Some cube → Contains xs (With cube)
  -- by induction on the list
  is_there [] cube is_first = absurd (none-some cube is_first)
  is_there (x ∷ xs) cube is_first = elim (cases_eq x.time wanted) [
    | inl same ↦ subst (Contains (x ∷ xs))
        (ap₂ (λ (t : ℕ) (c : List Literal). let d : Column = record { time = t; cube = c } in d) same
        (ap (λ (o : Option (List Literal)). unwrap_or o cube) (sym (at_first x xs same) ∙ is_first)))
        (Contains-first x xs)
    | inr differs ↦ Contains-rest x xs (With cube) (is_there xs cube (sym (past_first x xs differs) ∙ is_first))
  ]

  -- if none is found, no column has the time
  nowhere : (xs : List Column) → first_with wanted xs ≡ None → (d : Column) → Contains xs d → d.time ≢ wanted
  -- by induction on the columns: the first one has another time, as it isn't found, and so have the others
  nowhere [] is_none d listed has_time = absurd (Contains-nil d listed)
  nowhere (x ∷ xs) is_none d listed has_time = elim (cases_eq x.time wanted) [
    | inl same ↦ none-some x.cube (sym is_none ∙ at_first x xs same)
    | inr differs ↦ elim (Contains-cases x xs d listed) [
      | inl is ↦ differs (ap (λ (y : Column). y.time) is ∙ has_time)
      | inr later ↦ nowhere xs (sym (past_first x xs differs) ∙ is_none) d later has_time
    ]
  ]

  -- given: an order of the graph's processes
  module _ (g : Graph) (order : List ℕ) where
    -- the lows of column d along the order aren't before those of c
    abbrev Stands : Column → Column → Type 0
    Stands c d = is_below (lows_along g order (low_in d.cube)) (lows_along g order (low_in c.cube)) ≡ false

    -- if the columns stand by their lows, no column with the time has lows before those of the first one that has it
    none_before : (xs : List Column) → AreByLows (λ (c : Column). c.cube) g order xs → (cube : List Literal) →
        first_with wanted xs ≡ Some cube → (d : Column) → Contains xs d →
        d.time ≡ wanted →
        Stands (With cube) d
    -- by induction on the columns: the first one is the one found, and stands before all others, or it is passed over
    none_before [] stand cube is_first d listed has_time = absurd (Contains-nil d listed)
    none_before (x ∷ xs) stand cube is_first d listed has_time = elim (cases_eq x.time wanted) [
      | inl same ↦ subst (λ (b : List Literal). Stands (With b) d) (ap (λ (o : Option (List Literal)). unwrap_or o cube)
          (sym (at_first x xs same) ∙ is_first)) (elim (Contains-cases x xs d listed) [
            | inl is ↦ subst (Stands x) is (below_irreflexive (lows_along g order (low_in x.cube)))
            | inr later ↦ AllPairs-first Stands x xs stand d later
          ])
      | inr differs ↦ elim (Contains-cases x xs d listed) [
        | inl is ↦ absurd (differs (ap (λ (y : Column). y.time) is ∙ has_time))
        | inr later ↦
            none_before xs (AllPairs-rest Stands x xs stand) cube (sym (past_first x xs differs) ∙ is_first) d later
            has_time
      ]
    ]

-- ---- the scenarios of paths

-- given: the paths of a tree over the graph's scenarios, and a time
module _ (g : Graph) (paths : List (Path (Option ℕ))) (wanted : ℕ) where
  -- if no column with the time is found, no path has it, since each path with a time has a column
  no_path : first_with wanted (columns_of_paths paths) ≡ None → (p : Path (Option ℕ)) → Contains paths p →
      p.1 ≢ Some wanted
  no_path none p listed has_time = nowhere wanted (columns_of_paths paths) none (record { time = wanted; cube = p.0 })
      (column_there paths (columns_of_paths paths) (IsPermutation-refl (columns_of_paths paths)) p wanted listed
      has_time) refl

  -- if no column has the time, no path has it
  pub none_first : (o : Option Scenario) → o ≡ option_map (lows g) (first_with wanted (columns_of_paths paths)) →
      IfNone o (All (λ (p : Path (Option ℕ)). p.1 ≢ Some wanted) paths)
  none_first o is_result = by_value (first_with wanted (columns_of_paths paths)) refl o is_result
    where
      -- where a scenario is found nothing is asked; where none is, no column has the time
      by_value : (f : Option (List Literal)) → first_with wanted (columns_of_paths paths) ≡ f → (r : Option Scenario) →
          r ≡ option_map (lows g) f →
          IfNone r (All (λ (p : Path (Option ℕ)). p.1 ≢ Some wanted) paths)
      by_value f is_f (Some s) is_result = tt
      by_value None is_f None is_result = λ i d below. no_path is_f (get_or paths i d) (Contains-get_or paths i d below)
      by_value (Some cube) is_f None is_result = absurd (none-some (lows g cube) is_result)

  -- if the columns stand along an order, the first with the time has the least scenario of the time
  pub some_sorted : (order : List ℕ) → IsPermutation (numbers_below (process_count g)) order →
      AreByLows (λ (c : Column). c.cube) g order (columns_of_paths paths) →
      (o : Option Scenario) → IfSome o (IsLeastWhereSorted g paths wanted) →
      IfSome o (IsLeast g order (HasValueAt paths (Some wanted)))
  some_sorted order all stand None least = tt
  some_sorted order all stand (Some s) least = least order all stand

-- given: a good tree whose variables are a graph's, and the cube of the first column with a time
module _ (g : Graph) (few : process_count g ≤ 128) (k : ℕ) (node : TreeNode (Option ℕ)) (good : IsGood k node)
    (paths : List (Path (Option ℕ))) (seen : paths ≡ paths_of k node) (same : k ≡ g.faults)
    (known : All (λ (p : Path (Option ℕ)). IsKnown g p.0) paths)
    (wanted : ℕ) (cube : List Literal) (first : first_with wanted (columns_of_paths paths) ≡ Some cube) where
  -- the columns of the paths are tidy
  tidy : All (IsTidyColumn g) (columns_of_paths paths)
  tidy =
      let is : paths ≡ paths_of g.faults node = seen ∙ ap (λ (m : ℕ). paths_of m node) same in
      subst (λ (ps : List (Path (Option ℕ))). All (IsTidyColumn g) (columns_of_paths ps)) (sym is)
      (tidy_columns g few node (subst (λ (m : ℕ). IsGood m node) same good)
      (subst (All (λ (p : Path (Option ℕ)). IsKnown g p.0)) is known) (columns_of_paths (paths_of g.faults node))
      (IsPermutation-refl (columns_of_paths (paths_of g.faults node))))

  -- each column is tidy
  tidy_at : (d : Column) → Contains (columns_of_paths paths) d → IsTidyColumn g d
  tidy_at d listed = All-contains (IsTidyColumn g) (columns_of_paths paths) d tidy listed

  -- the column that is found is one of the columns of the paths
  here : Contains (columns_of_paths paths) (record { time = wanted; cube = cube })
  here = is_there wanted (columns_of_paths paths) cube first

  -- the first column's cube is on variables of the graph
  pub first_known : IsKnown g cube
  first_known = (tidy_at (record { time = wanted; cube = cube }) here).cube.known

  -- some scenario of the graph matches the cube
  pub first_met : is_met g.faults cube ≡ true
  first_met = (tidy_at (record { time = wanted; cube = cube }) here).met

  -- if the columns stand along an order, the lows of the cube that was found are the least scenario with the time
  pub first_least : IsLeastWhereSorted g paths wanted (lows g cube)
  -- the lows of each column are its least scenario; that of an earlier one would be before, and the columns stand in
  -- order
  first_least order all stand =
      let xs = columns_of_paths paths in
      let column : Column = record { time = wanted; cube = cube } in
      let least = lows-least g few cube (tidy_at column here).cube (tidy_at column here).met order in
      let its_path = path_there paths xs (IsPermutation-refl xs) column here in
      record {
        lawful = least.lawful;
        holds = (
          its_path.0,
          record {
            stands = its_path.1;
            matched = subst (λ (ls : List Literal). matches ls (lows g cube) ≡ true) (sym its_path.3) least.holds;
          },
          its_path.2,
        );
        least = λ u law other.
            let d : Column = record { time = wanted; cube = other.0.0 } in
            let there = column_there paths xs (IsPermutation-refl xs) other.0 wanted other.1.stands other.2 in
            not_before_transitive g order (lows g cube) (lows g other.0.0) u
            (ap₂ is_below (sym (lows_are_key g few other.0.0 (tidy_at d there).met order all))
            (sym (lows_are_key g few cube (tidy_at column here).met order all)) ∙
            none_before wanted g order xs stand cube first d there refl)
            ((lows-least g few other.0.0 (tidy_at d there).cube (tidy_at d there).met order).least u law
            other.1.matched);
      }
