-- What the tree of a row says about the columns that match.
use Rattle.std.proofs.Common.{Bor, ℕ, ◌<◌, ◌≡◌, Bool, true, false, List, [], Option, None, Some, Contains, length}
use Rattle.std.proofs.Common.{get_or, map, take, arith, refl, sym, ap, ◌∙◌, subst}
use Rattle.std.specs.List.{list_any}
use Rattle.std.specs.Prelude.{IfSome}
use Rattle.std.proofs.lemmas.List.{get_or-map, get_or-take, get_or_default, length-map, length-take}
use Rattle.cpg_base.proofs.Lists.{list_any_false}
use Rattle.cpg_base.specs.Graph.{Graph, item_count}
use Rattle.cpg_base.specs.Scenario.{Scenario, IsScenario}
use Rattle.cpg_cube.specs.Cube.{matches}
use Rattle.cpg_cube.specs.declared.literal.Literal.{Literal}
use Rattle.cpg_cube.specs.declared.column.Column.{Column}
use Rattle.cpg_cube.specs.Column.{column_at}
use Rattle.cpg_table.specs.Table.{NodeTable, columns_of}
use Rattle.cpg_tree.proofs.OnePath.{scenario_few}
use Rattle.cpg_row_trees.specs.PlacesState.{PlacesState}
use Rattle.cpg_tree.specs.Space.{HasAtMostFaults}
use Rattle.cpg_row_trees.specs.Places.{IsMatched, cube_at, place_at, IsPlaceOfMatch}
use Rattle.cpg_row_trees.specs.Trees.{AreRowTrees, IsRowTree}

-- the cubes of columns
abbrev cubes_in : List Column → List (List Literal)
cubes_in columns = map (λ (c : Column). c.cube) columns

-- given: references to the cubes of columns
module _ (lent : List (Bor (List Literal))) (columns : List Column)
    (same : map (λ (b : Bor (List Literal)). b.now) lent ≡ cubes_in columns) where
  -- there are as many references as columns
  pub as_long : length lent ≡ length columns
  as_long = sym (length-map lent (λ (b : Bor (List Literal)). b.now)) ∙ ap length same
      ∙ length-map columns (λ (c : Column). c.cube)

  -- the tree of the references' cubes is the tree of the row
  pub row_tree_of : (g : Graph) (k : ℕ) (o : Option PlacesState) → k ≡ g.faults
      → IfSome o (λ t. (s : Scenario) → HasAtMostFaults k s →
      IsPlaceOfMatch (map (λ (b : Bor (List Literal)). b.now) lent) (place_at t s) s) →
      IfSome o (IsRowTree g columns)
  row_tree_of g k None is if_some = tt
  row_tree_of g k (Some t) is if_some = record {
    found = λ s law. subst (λ cubes. IsPlaceOfMatch cubes (place_at t s) s) same
        (if_some s (subst (λ k. HasAtMostFaults k s) (sym is) (scenario_few g s law)));
  }

-- the column at a place matches exactly if the cube at that place is matched
module _ (columns : List Column) (s : Scenario) (i : ℕ) where
  -- the cube at a place is that of the column there
  cube_here : i < length columns → cube_at (cubes_in columns) i ≡ (column_at columns i).cube
  cube_here within = get_or-map (λ (c : Column). c.cube) columns i (record { time = 0; cube = [] }) [] within

  -- a column that matches is matched as the cube at its place
  pub matched_at : i < length columns → matches (column_at columns i).cube s ≡ true → IsMatched (cubes_in columns) s i
  matched_at within it_matches = record {
    there = omega (arith, within, length-map columns (λ (c : Column). c.cube));
    matched = ap (λ c. matches c s) (cube_here within) ∙ it_matches;
  }

  -- a cube that is matched is at the place of a column
  pub there_at : IsMatched (cubes_in columns) s i → i < length columns
  there_at matched = omega (arith, matched.there, length-map columns (λ (c : Column). c.cube))

  -- a cube that is matched is that of a column that matches
  pub matches_at : IsMatched (cubes_in columns) s i → matches (column_at columns i).cube s ≡ true
  matches_at matched = sym (ap (λ c. matches c s) (cube_here (there_at matched))) ∙ matched.matched

-- given: the tree of a row, and a scenario of the graph
module _ {g : Graph} {columns : List Column} {tree : PlacesState} (is : IsRowTree g columns tree) (s : Scenario)
    (law : IsScenario g s) where
  -- what the tree finds is the place of a match
  found_as : (o : Option ℕ) → place_at tree s ≡ o → IsPlaceOfMatch (cubes_in columns) o s
  found_as o same = subst (λ p. IsPlaceOfMatch (cubes_in columns) p s) same (is.found s law)

  -- if there is no place, no column matches
  pub none_matches : place_at tree s ≡ None → (d : Column) → Contains columns d → matches d.cube s ≡ true → ⊥
  none_matches same d there it_matches = found_as None same there.0
      (matched_at columns s there.0 there.1 (ap (λ (d : Column). matches d.cube s)
      (get_or_default columns there.0 (record { time = 0; cube = [] }) d there.1 ∙ there.2) ∙ it_matches))

  -- the place is one of the row's
  pub place_there : (i : ℕ) → place_at tree s ≡ Some i → i < length columns
  place_there i same = there_at columns s i (found_as (Some i) same).0

  -- the column at a scenario's place matches it
  pub place_matches : (i : ℕ) → place_at tree s ≡ Some i → matches (column_at columns i).cube s ≡ true
  place_matches i same = matches_at columns s i (found_as (Some i) same).0

  -- a column that matches stands at the place
  pub place_only : (i j : ℕ) → place_at tree s ≡ Some i → j < length columns →
      matches (column_at columns j).cube s ≡ true → j ≡ i
  place_only i j same within it_matches = (found_as (Some i) same).1 j (matched_at columns s j within it_matches)

  -- columns that match the same scenario are at the same place
  pub one_place : (i j : ℕ) → i < length columns → j < length columns → matches (column_at columns i).cube s ≡ true →
      matches (column_at columns j).cube s ≡ true → i ≡ j
  one_place i j within inside it_matches n = go (place_at tree s) refl
    where
      -- by what the tree finds: not None, since the column at i matches; and if a place, both i and j are it
      go : (o : Option ℕ) → place_at tree s ≡ o → i ≡ j
      go None same = absurd (found_as None same i (matched_at columns s i within it_matches))
      go (Some p) same = place_only p i same within it_matches ∙ sym (place_only p j same inside n)

  -- two columns of the row that match the same scenario are equal
  pub same_column : (c d : Column) → Contains columns c → Contains columns d → matches c.cube s ≡ true →
      matches d.cube s ≡ true → c ≡ d
  same_column c d there among it_matches n =
      let at_c : column_at columns there.0 ≡ c = get_or_default columns there.0
      (record { time = 0; cube = [] }) c there.1 ∙ there.2 in
      let at_d : column_at columns among.0 ≡ d = get_or_default columns among.0
      (record { time = 0; cube = [] }) d among.1 ∙ among.2 in
      sym at_c ∙ ap (column_at columns)
      (one_place there.0 among.0 there.1 among.1 (ap (λ (x : Column). matches x.cube s) at_c ∙ it_matches)
      (ap (λ (x : Column). matches x.cube s) at_d ∙ n)) ∙ at_d

-- given: the tree of a row, and a column that matches a scenario of the graph
module _ {g : Graph} {columns : List Column} {tree : PlacesState} (is : IsRowTree g columns tree) (s : Scenario)
    (law : IsScenario g s) (i : ℕ) (there : i < length columns)
    (m : matches (column_at columns i).cube s ≡ true) where
  -- no earlier column matches if one does
  pub none_earlier : list_any (λ (d : Column). matches d.cube s) (take i columns) ≡ false
  none_earlier = list_any_false (λ (d : Column). matches d.cube s) (take i columns)
      (λ d here. false_unless (matches d.cube s) (λ it_matches. apart d here it_matches))
    where
      -- what can't be true is false
      false_unless : (b : Bool) → (b ≡ true → ⊥) → b ≡ false
      false_unless true never = absurd (never refl)
      false_unless false never = refl

      -- two columns that match are one by the tree, but the places are different
      apart : (d : Column) → Contains (take i columns) d → matches d.cube s ≡ true → ⊥
      apart d among it_matches =
          let less : among.0 < i = omega (arith, among.1, length-take i columns) in
          let at : column_at columns among.0 ≡ d =
          get_or_default columns among.0 (record { time = 0; cube = [] }) d (omega (arith, less, there))
          ∙ sym (get_or-take i columns among.0 d less) ∙ among.2 in
          omega (
            arith,
            less,
            one_place is s law among.0 i (omega (arith, less, there)) there
                (ap (λ (x : Column). matches x.cube s) at ∙ it_matches) m,
          )

-- the tree of an item's row, if it has one
pub tree_of_row : (g : Graph) (tables : List NodeTable) (trees : List (Option PlacesState)) (x : ℕ) →
    AreRowTrees g tables trees → x < item_count g → (o : Option PlacesState) →
    o ≡ get_or trees x o →
    IfSome o (IsRowTree g (columns_of tables x))
tree_of_row g tables trees x are within o is =
    subst (λ (p : Option PlacesState). IfSome p (IsRowTree g (columns_of tables x)))
    (get_or_default trees x None o (omega (arith, within, are.count)) ∙ sym is)
    (are.each x within)
