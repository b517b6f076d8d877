-- If the forks of a tree stand along an order, its columns stand by their least scenarios, from left to right. In the
-- lemmas x is a path, and c and d are columns.
use Rattle.std.proofs.Common.{ℕ, ◌<◌, ◌≤◌, ◌≡◌, ◌≢◌, false, Option, None, Some, List, [], ◌∷◌, get_or, Contains, arith}
use Rattle.std.proofs.Common.{sym, ap, ap₂, ◌∙◌, subst, inl, inr}
use Rattle.std.specs.List.{AllPairs}
use Rattle.std.proofs.lemmas.Bool.{cases_eq}
use Rattle.std.proofs.lemmas.List.Elements.{Contains-append_cases, Contains-append_left, Contains-append_right}
use Rattle.cpg_base.specs.Graph.{Graph}
use Rattle.cpg_base.specs.Numbers.{is_below}
use Rattle.cpg_base.specs.Variable.{top}
use Rattle.cpg_base.proofs.Lists.{Contains-cases, Contains-nil}
use Rattle.cpg_base.proofs.Pairs.{AllPairs-nil, AllPairs-cons_by, AllPairs-append, AllPairs-flat_map_in}
use Rattle.cpg_cube.specs.declared.literal.Literal.{Literal}
use Rattle.cpg_cube.specs.declared.column.Column.{Column}
use Rattle.cpg_cube.specs.Cube.{IsRising, low_in, high_in}
use Rattle.cpg_cube.specs.Narrow.{narrowed_by}
use Rattle.cpg_cube.specs.Keys.{AreByLows, ArePlaces, lows_along, variables_along}
use Rattle.cpg_cube.proofs.KeyPlaces.{first_differ}
use Rattle.cpg_cube.proofs.Narrow.{rising-narrowed}
use Rattle.cpg_cube.proofs.Narrowed.{low-other, low-same, high-other, high-same}
use Rattle.cpg_tree.specs.TreeNode.{TreeNode, Leaf, Fork}
use Rattle.cpg_tree_columns.specs.Along.{AreForksAlong}
use Rattle.cpg_tree_columns.specs.Columns.{column_of, columns_of_paths}
use Rattle.cpg_tree.specs.Decision.{HasCuts, IsGood}
use Rattle.cpg_tree.specs.Paths.{up_to, above, paths_from, paths_of}
use Rattle.cpg_tree.specs.Tree.{Path}
use Rattle.cpg_tree.proofs.PathLaws.{good_cuts}
use Rattle.cpg_tree.proofs.Tidy.{tidy_of}
use Rattle.cpg_tree_columns.proofs.TidyColumns.{of_column}

-- a leaf has one path, whose cube is the one it is entered with
only : {T : Type 0} (cube : List Literal) (y : T) (x : Path T) → Contains ((cube, y) ∷ []) x → x.0 ≡ cube
only {T} cube y x listed = elim (Contains-cases (cube, y) [] x listed) [
  | inl is_it ↦ ap (λ (z : Path T). z.0) (sym is_it)
  | inr none ↦ absurd (Contains-nil x none)
]

-- ---- ranges only shrink on the way down

-- no path of a tree has a low under that of the cube with which the tree is entered
rises : {T : Type 0} (k : ℕ) (node : TreeNode T) (cube : List Literal) → IsRising cube → (x : Path T) →
    Contains (paths_from k cube node) x → (u : ℕ) →
    low_in cube u ≤ low_in x.0 u
-- By induction on the tree. A fork's sides are entered with a narrowed cube, and narrowing lowers no low: that of its
-- own variable rises or stays, and the others stay.
rises k (Leaf y) cube rising x listed u = omega (arith, ap (λ z. low_in z u) (only cube y x listed))
rises k (Fork v cut below upper) cube rising x listed u =
    elim (Contains-append_cases (paths_from k (narrowed_by (up_to v cut) cube) below)
    (paths_from k (narrowed_by (above k v cut) cube) upper) x listed) [
      | inl in_first ↦ omega (
        arith,
        step (up_to v cut),
        rises k below (narrowed_by (up_to v cut) cube) (rising-narrowed (up_to v cut) cube rising) x in_first u,
      )
      | inr in_second ↦ omega (
        arith,
        step (above k v cut),
        rises k upper (narrowed_by (above k v cut) cube) (rising-narrowed (above k v cut) cube rising) x in_second u,
      )
    ]
  where
    -- narrowing by a literal lowers no low: on the literal's variable the low is the greater one, and others stay
    step : (l : Literal) → low_in cube u ≤ low_in (narrowed_by l cube) u
    step l = elim (cases_eq l.variable u) [
      | inl same ↦ subst (λ w. low_in cube w ≤ low_in (narrowed_by l cube) w) same
          (omega (arith, low-same k l cube rising))
      | inr other ↦ omega (arith, low-other k l cube u other)
    ]

-- no path of a tree has a high above that of the cube with which the tree is entered
falls : {T : Type 0} (k : ℕ) (node : TreeNode T) (cube : List Literal) → IsRising cube → HasCuts k node → (x : Path T) →
    Contains (paths_from k cube node) x → (u : ℕ) →
    high_in k x.0 u ≤ high_in k cube u
-- by induction on the tree, as `rises`; a cut is under its variable's greatest number
falls k (Leaf y) cube rising cuts x listed u = omega (arith, ap (λ z. high_in k z u) (only cube y x listed))
falls k (Fork v cut below upper) cube rising cuts x listed u =
    elim (Contains-append_cases (paths_from k (narrowed_by (up_to v cut) cube) below)
    (paths_from k (narrowed_by (above k v cut) cube) upper) x listed) [
      | inl in_first ↦ omega (
        arith,
        step (up_to v cut) (omega (arith, cuts.1)),
        falls k below (narrowed_by (up_to v cut) cube) (rising-narrowed (up_to v cut) cube rising) cuts.2 x in_first u,
      )
      | inr in_second ↦ omega (
        arith,
        step (above k v cut) (omega arith),
        falls k upper (narrowed_by (above k v cut) cube) (rising-narrowed (above k v cut) cube rising) cuts.3 x
            in_second u,
      )
    ]
  where
    -- narrowing by a literal raises no high: on the literal's variable the high is the lesser one, and others stay
    step : (l : Literal) → l.high ≤ top k l.variable → high_in k (narrowed_by l cube) u ≤ high_in k cube u
    step l within = elim (cases_eq l.variable u) [
      | inl same ↦ subst (λ w. high_in k (narrowed_by l cube) w ≤ high_in k cube w) same
          (omega (arith, high-same k l cube rising within))
      | inr other ↦ omega (arith, high-other k l cube u other)
    ]

-- ---- the lows of variables that stand before all forks stay

-- given: how many places of the order are left at each variable, more at earlier ones
module _ (places : List ℕ) where
  -- A variable that stands before all forks of a tree, so has more places left than `left`, keeps the low that it has
  -- where the tree is entered.
  stays : {T : Type 0} (k left : ℕ) (node : TreeNode T) (cube : List Literal) → AreForksAlong places left node →
      (x : Path T) → Contains (paths_from k cube node) x → (u : ℕ)
      → left < get_or places u 0 →
      low_in x.0 u ≡ low_in cube u
  -- by induction on the tree: a fork narrows only its own variable, which is another one, as fewer places are left at
  -- it
  stays k left (Leaf y) cube along x listed u before = ap (λ z. low_in z u) (only cube y x listed)
  stays k left (Fork v cut below upper) cube along x listed u before =
      let other : v ≢ u = λ equal. omega (arith, along.0, before, ap (λ w. get_or places w 0) equal) in
      elim (Contains-append_cases (paths_from k (narrowed_by (up_to v cut) cube) below)
      (paths_from k (narrowed_by (above k v cut) cube) upper) x listed) [
        | inl in_first ↦
            stays k (get_or places v 0) below (narrowed_by (up_to v cut) cube) along.2 x in_first u
            (omega (arith, along.0, before))
            ∙ low-other k (up_to v cut) cube u other
        | inr in_second ↦ stays k (get_or places v 0) upper (narrowed_by (above k v cut) cube) along.3 x in_second u
            (omega (arith, along.0, before)) ∙ low-other k (above k v cut) cube u other
      ]

-- ---- so the first fork that parts two paths decides which stands first

-- given: how many places of the order are left at each variable
module _ (g : Graph) (order places : List ℕ) (are : ArePlaces (variables_along g order) places) (k : ℕ) where
  -- the lows of cube b, taken along the order, aren't before those of cube a
  abbrev Stands : List Literal → List Literal → Type 0
  Stands a b = is_below (lows_along g order (low_in b)) (lows_along g order (low_in a)) ≡ false

  -- no path's range of any variable is empty
  abbrev HasNumbers : {T : Type 0} → List (Path T) → Type 0
  HasNumbers {T} paths = (x : Path T) → Contains paths x → (u : ℕ) → u < 256 → low_in x.0 u ≤ high_in k x.0 u

  -- if the forks of a tree stand along the order, each path stands before those to its right
  sorted_paths : {T : Type 0} (left : ℕ) (node : TreeNode T) (cube : List Literal) → IsRising cube → HasCuts k node →
      AreForksAlong places left node →
      HasNumbers (paths_from k cube node) →
      AllPairs (λ (x y : Path T). Stands x.0 y.0) (paths_from k cube node)
  -- By induction on the tree. Two paths of one side stand in order by the hypothesis. For one of each side the fork's
  -- variable decides: variables before it have the same lows on both, and below the cut its low is less.
  sorted_paths {T} left (Leaf y) cube rising cuts along numbers =
      AllPairs-cons_by (λ (x z : Path T). Stands x.0 z.0) (cube, y) [] (λ z c. absurd (Contains-nil z c))
      (AllPairs-nil (λ (x z : Path T). Stands x.0 z.0))
  sorted_paths {T} left (Fork v cut below upper) cube rising cuts along numbers =
      let lower = narrowed_by (up_to v cut) cube in
      let higher = narrowed_by (above k v cut) cube in
      let xs = paths_from k lower below in
      let ys = paths_from k higher upper in
      let rising_low = rising-narrowed (up_to v cut) cube rising in
      let rising_high = rising-narrowed (above k v cut) cube rising in
      AllPairs-append (λ (x y : Path T). Stands x.0 y.0) xs ys
      (sorted_paths (get_or places v 0) below lower rising_low cuts.2 along.2
      (λ x listed. numbers x (Contains-append_left xs ys x listed)))
      (sorted_paths (get_or places v 0) upper higher rising_high cuts.3 along.3
      (λ x listed. numbers x (Contains-append_right xs ys x listed)))
      (λ x y x_listed y_listed. first_differ g order places are x.0 y.0 v along.1
      (λ u earlier.
      let other : v ≢ u = λ equal. omega (arith, earlier, ap (λ w. get_or places w 0) equal) in
      stays places k (get_or places v 0) below lower along.2 x x_listed u earlier
      ∙ low-other k (up_to v cut) cube u other
      ∙ sym (low-other k (above k v cut) cube u other)
      ∙ sym (stays places k (get_or places v 0) upper higher along.3 y y_listed u earlier))
      (omega (
        arith,
        numbers x (Contains-append_left xs ys x x_listed) v cuts.0,
        falls k below lower rising_low cuts.2 x x_listed v,
        high-same k (up_to v cut) cube rising (omega (arith, cuts.1)),
        rises k upper higher rising_high y y_listed v,
        low-same k (above k v cut) cube rising,
      )))

  -- if paths stand in order, so do their columns: a path has one column with its cube, or none
  columns_stand : (paths : List (Path (Option ℕ))) → AllPairs (λ (x y : Path (Option ℕ)). Stands x.0 y.0) paths →
      AreByLows (λ (c : Column). c.cube) g order (columns_of_paths paths)
  columns_stand paths stand = AllPairs-flat_map_in (λ (x y : Path (Option ℕ)). Stands x.0 y.0)
      (λ (c d : Column). Stands c.cube d.cube) (λ (p : Path (Option ℕ)). column_of p.0 p.1) paths
      (λ x c. alone x.0 x.1)
      (λ x y c d i j xy_stand of_x of_y. ap₂
      (λ a b. is_below (lows_along g order (low_in b)) (lows_along g order (low_in a)))
      (sym (of_column x.0 x.1 c of_x)) (sym (of_column y.0 y.1 d of_y)) ∙ xy_stand)
      stand
    where
      -- the column of one path, if it has one, is alone, so it stands in order
      alone : (cube : List Literal) (x : Option ℕ) →
          AllPairs (λ (c d : Column). Stands c.cube d.cube) (column_of cube x)
      alone cube None = AllPairs-nil (λ (c d : Column). Stands c.cube d.cube)
      alone cube (Some t) = AllPairs-cons_by (λ (c d : Column). Stands c.cube d.cube)
          (record { time = t; cube = cube }) [] (λ z c. absurd (Contains-nil z c))
          (AllPairs-nil (λ (c d : Column). Stands c.cube d.cube))

  -- the whole: in a good tree whose forks stand along the order, the columns of the paths stand by their least
  -- scenarios
  pub sorted_columns : (node : TreeNode (Option ℕ)) → IsGood k node → AreForksAlong places 256 node →
      AreByLows (λ (c : Column). c.cube) g order (columns_of_paths (paths_of k node))
  sorted_columns node good along = columns_stand (paths_of k node)
      (sorted_paths 256 node [] (λ i j d i_below j_below. absurd (omega (arith, j_below))) (good_cuts k node good) along
      (λ x listed u small. let covers = tidy_of k node good x listed in
      omega (arith, covers.covers.low u small, covers.is.opens u small, covers.covers.high u small)))
