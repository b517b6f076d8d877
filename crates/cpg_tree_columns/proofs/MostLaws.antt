-- The greatest number of a tree, and the least scenario of a number, which is that of the tree of this number alone. In
-- the lemmas p is a path, m the greatest number, and k the most faults.
use Rattle.std.proofs.Common.{ℕ, ◌≤◌, ◌≡◌, ◌≢◌, ◌⊎◌, ◌==◌, max, List, [], length, filter, get_or, Option, Some, None}
use Rattle.std.proofs.Common.{unwrap_or, All, Contains, arith, refl, sym, ap, ◌∙◌, subst, inl, inr, eq-eqb}
use Rattle.std.proofs.Common.{ne_eqb}
use Rattle.std.specs.Option.{IfNone, IfSome}
use Rattle.std.proofs.lemmas.Bool.{cases_eq, cases_lt, cond-true, cond-false}
use Rattle.std.proofs.lemmas.List.Elements.{All-contains, Contains-append_left, Contains-append_right}
use Rattle.std.proofs.lemmas.List.Elements.{Contains-append_cases, Contains-get_or}
use Rattle.std.proofs.lemmas.Option.{none-some}
use Rattle.std.proofs.lemmas.List.Sorted.{IsPermutation-refl}
use Rattle.cpg_base.specs.Graph.{Graph, process_count}
use Rattle.cpg_base.proofs.Lists.{Contains-first, Contains-cases, Contains-nil, Contains-flat_map}
use Rattle.cpg_base.specs.Scenario.{Scenario, IsScenario, IsLeast}
use Rattle.cpg_cube.specs.declared.literal.Literal.{Literal}
use Rattle.cpg_cube.specs.Narrow.{narrowed_by}
use Rattle.cpg_cube.specs.Fit.{IsKnown, lows}
use Rattle.cpg_cube.proofs.CubeLows.{lows-least}
use Rattle.cpg_tree.specs.TreeNode.{TreeNode, Leaf, Fork}
use Rattle.cpg_tree.specs.Decision.{IsGood}
use Rattle.cpg_tree.specs.Paths.{up_to, above, paths_from, paths_of}
use Rattle.cpg_tree_columns.specs.Columns.{column_of, columns_of_paths, IsTidyColumn}
use Rattle.cpg_tree.specs.Space.{HasAtMostFaults}
use Rattle.cpg_tree.specs.Tree.{Path, TreeState, is_on, IsOnPath, IsMap, HasOnePathEach}
use Rattle.cpg_tree_columns.specs.Greatest.{IsGreatestOf, HasNumberAt, HasValueAt, IsGreatestNumber, IsNumberReached}
use Rattle.cpg_tree_columns.specs.Greatest.{greater, most_of, if_wanted}
use Rattle.cpg_tree.proofs.OnePath.{scenario_few, the_path}
use Rattle.cpg_tree.proofs.PathLaws.{one_path}
use Rattle.cpg_tree_columns.proofs.TidyColumns.{tidy_columns}

-- n is at most the bound; there is a bound
abbrev IsUnder : Option ℕ → ℕ → Type 0
IsUnder None n = ⊥
IsUnder (Some m) n = n ≤ m

-- what is at most the first of two numbers is at most the greater
under_left : (a b : Option ℕ) (n : ℕ) → IsUnder a n → IsUnder (greater a b) n
under_left None b n under = absurd under
under_left (Some x) None n under = under
under_left (Some x) (Some y) n under = omega (arith, under)

-- what is at most the second of two numbers is at most the greater
under_right : (a b : Option ℕ) (n : ℕ) → IsUnder b n → IsUnder (greater a b) n
under_right None b n under = under
under_right (Some x) None n under = absurd under
under_right (Some x) (Some y) n under = omega (arith, under)

-- the greater is one of the two
greater_cases : (a b : Option ℕ) (m : ℕ) → greater a b ≡ Some m → (a ≡ Some m) ⊎ (b ≡ Some m)
greater_cases None b m is_m = inr is_m
greater_cases (Some x) None m is_m = inl is_m
greater_cases (Some x) (Some y) m is_m =
    let is : max x y ≡ m = ap (λ o. unwrap_or o 0) is_m in
    elim (cases_lt x y) [
      | inl less ↦ inr (ap Some (let same : y ≡ m = omega (arith, is, less) in same))
      | inr not_less ↦ inl (ap Some (let same : x ≡ m = omega (arith, is, not_less) in same))
    ]

-- ---- the numbers of paths

-- no path has a greater number than the greatest of the leaves
under_most : (k : ℕ) (node : TreeNode (Option ℕ)) (cube : List Literal) (p : Path (Option ℕ)) (n : ℕ) →
    Contains (paths_from k cube node) p → p.1 ≡ Some n →
    IsUnder (most_of node) n
-- by induction on the tree: a path of a fork is one of a side, and the greater of two numbers is no less than either
under_most k (Leaf x) cube p n listed has_n = elim (Contains-cases (cube, x) [] p listed) [
  | inl same ↦ subst (λ o. IsUnder o n) (sym (ap (λ (q : Path (Option ℕ)). q.1) same ∙ has_n)) (omega arith)
  | inr none ↦ absurd (Contains-nil p none)
]
under_most k (Fork v cut below upper) cube p n listed has_n =
    elim (Contains-append_cases (paths_from k (narrowed_by (up_to v cut) cube) below)
    (paths_from k (narrowed_by (above k v cut) cube) upper) p listed) [
      | inl in_below ↦
          under_left (most_of below) (most_of upper) n
          (under_most k below (narrowed_by (up_to v cut) cube) p n in_below has_n)
      | inr in_upper ↦
          under_right (most_of below) (most_of upper) n
          (under_most k upper (narrowed_by (above k v cut) cube) p n in_upper has_n)
    ]

-- if the leaves have a greatest number, some path has it
most_there : (k : ℕ) (node : TreeNode (Option ℕ)) (cube : List Literal) (m : ℕ) → most_of node ≡ Some m →
    (p : Path (Option ℕ)) × Contains (paths_from k cube node) p × (p.1 ≡ Some m)
-- by induction on the tree: the greater of the two sides' numbers is that of one side
most_there k (Leaf x) cube m is_m = ((cube, x), Contains-first (cube, x) [], is_m)
most_there k (Fork v cut below upper) cube m is_m =
    let lower = paths_from k (narrowed_by (up_to v cut) cube) below in
    let higher = paths_from k (narrowed_by (above k v cut) cube) upper in
    elim (greater_cases (most_of below) (most_of upper) m is_m) [
      | inl in_below ↦ let found = most_there k below (narrowed_by (up_to v cut) cube) m in_below in
          (found.0, Contains-append_left lower higher found.0 found.1, found.2)
      | inr in_upper ↦ let found = most_there k upper (narrowed_by (above k v cut) cube) m in_upper in
          (found.0, Contains-append_right lower higher found.0 found.1, found.2)
    ]

-- if a tree has no greatest number, no path has a number
pub no_most : (k : ℕ) (node : TreeNode (Option ℕ)) → most_of node ≡ None → (p : Path (Option ℕ)) →
    Contains (paths_from k [] node) p → p.1 ≡ None
no_most k node none p listed = by_value p.1 refl
  where
    -- a number of the path would be under the tree's greatest one, and there is none
    by_value : (o : Option ℕ) → p.1 ≡ o → o ≡ None
    by_value None is_o = refl
    by_value (Some n) is_o = absurd (subst (λ o. IsUnder o n) none (under_most k node [] p n listed is_o))

-- some scenario of the graph has the number of a path, since the path's column is tidy and so matches one
path_reached : (g : Graph) (node : TreeNode (Option ℕ)) → IsGood g.faults node → (m : ℕ) → process_count g ≤ 128 →
    All (λ p. IsKnown g p.0) (paths_of g.faults node) →
    (p : Path (Option ℕ)) →
    Contains (paths_of g.faults node) p → p.1 ≡ Some m → IsNumberReached g (paths_of g.faults node) m
path_reached g node good m processes known p there is =
    let paths = paths_of g.faults node in
    let column : Contains (columns_of_paths paths) (record { time = m; cube = p.0 }) =
    Contains-flat_map (λ (p : Path (Option ℕ)). column_of p.0 p.1) paths p (record { time = m; cube = p.0 }) there
    (subst (λ o. Contains (column_of p.0 o) (record { time = m; cube = p.0 })) (sym is)
    (Contains-first (record { time = m; cube = p.0 }) [])) in
    let tidy = All-contains (IsTidyColumn g) (columns_of_paths paths) (record { time = m; cube = p.0 })
    (tidy_columns g processes node good known (columns_of_paths paths) (IsPermutation-refl (columns_of_paths paths)))
    column in
    let least = lows-least g processes p.0 tidy.cube tidy.met [] in
    record {
      scenario = lows g p.0;
      lawful = least.lawful;
      has = (p, record { stands = there; matched = least.holds }, is);
    }

-- some scenario of the graph has the greatest number
most_reached : (g : Graph) (node : TreeNode (Option ℕ)) → IsGood g.faults node → (m : ℕ) → most_of node ≡ Some m →
    process_count g ≤ 128 →
    All (λ p. IsKnown g p.0) (paths_of g.faults node) →
    IsNumberReached g (paths_of g.faults node) m
most_reached g node good m most processes known =
    let found = most_there g.faults node [] m most in
    path_reached g node good m processes known found.0 found.1 found.2

-- the greatest number of the leaves is that of the tree as callers see it
most_is : (k : ℕ) (node : TreeNode (Option ℕ)) → IsGood k node → (m : ℕ) → most_of node ≡ Some m →
    IsGreatestNumber (record { faults = k; paths = paths_of k node }) m
most_is k node good m most = record {
  above = λ p n listed has_n. subst (λ o. IsUnder o n) most (under_most k node [] p n listed has_n);
  there = most_there k node [] m most;
  reached = λ g processes same known.
      subst (λ n. IsNumberReached g (paths_of n node) m) (sym same)
      (most_reached g node (subst (λ n. IsGood n node) same good) m most processes
      (subst (λ n. All (λ p. IsKnown g p.0) (paths_of n node)) same known));
}

-- ---- as what a call answers

-- if no greatest number is answered, no path has a number
pub most_none : (k : ℕ) (node : TreeNode (Option ℕ)) (o : Option ℕ) → o ≡ most_of node →
    IfNone o (All (λ (p : Path (Option ℕ)). p.1 ≡ None) (paths_of k node))
most_none k node None is_most =
    λ i d below. no_most k node (sym is_most) (get_or (paths_of k node) i d)
    (Contains-get_or (paths_of k node) i d below)
most_none k node (Some m) is_most = tt

-- the number that is answered is the greatest of the tree
pub most_some : (k : ℕ) (node : TreeNode (Option ℕ)) → IsGood k node → (o : Option ℕ) → o ≡ most_of node →
    IfSome o (IsGreatestNumber (record { faults = k; paths = paths_of k node }))
most_some k node good None e = tt
most_some k node good (Some m) e = most_is k node good m (sym e)

-- ---- the greatest with its least scenario

-- if a tree has a greatest number, some path has it
pub not_without : (k : ℕ) (node : TreeNode (Option ℕ)) (m : ℕ) → most_of node ≡ Some m →
    All (λ (p : Path (Option ℕ)). p.1 ≢ Some m) (paths_of k node) → ⊥
not_without k node m most none =
    let found = most_there k node [] m most in
    All-contains (λ (p : Path (Option ℕ)). p.1 ≢ Some m) (paths_of k node) found.0 none found.1 found.2

-- a greatest number and the least scenario that has it are what `IsGreatestOf` asks for
pub greatest_of : (g : Graph) (order : List ℕ) (k : ℕ) (node : TreeNode (Option ℕ)) (m : ℕ) → most_of node ≡ Some m →
    (s : Scenario) →
    IsLeast g order (HasValueAt (paths_of k node) (Some m)) s →
    IsGreatestOf g order (paths_of k node) m s
greatest_of g order k node m most s least =
    record {
      most = λ p n listed has_n. subst (λ o. IsUnder o n) most (under_most k node [] p n listed has_n);
      least = least;
    }

-- ---- the tree of one number alone

-- the wanted number is kept
if_wanted_same : (m : ℕ) → if_wanted m (Some m) ≡ Some m
if_wanted_same m = cond-true (m == m) (Some m) None (eq-eqb m m refl)

-- if a value is kept, it is the wanted number
if_wanted_is : (m : ℕ) (o : Option ℕ) (n : ℕ) → if_wanted m o ≡ Some n → (o ≡ Some m) × (n ≡ m)
if_wanted_is m None n is_n = absurd (none-some n is_n)
if_wanted_is m (Some x) n is_n = elim (cases_eq x m) [
  | inl same ↦
      let is : Some x ≡ Some n = sym (cond-true (x == m) (Some x) None (eq-eqb x m same)) ∙ is_n in
      (ap Some same, omega (arith, same, ap (λ o. unwrap_or o 0) is))
  | inr differs ↦ absurd (none-some n (sym (cond-false (x == m) (Some x) None (ne_eqb x m differs)) ∙ is_n))
]

-- given: a good tree `all`, and the tree `only` of the number m alone
module _ (g : Graph) (node : TreeNode (Option ℕ)) (good : IsGood g.faults node) (m : ℕ)
    (all only : TreeState (Option ℕ)) (is : record {
      faults = g.faults;
      paths = paths_of g.faults node;
    } ≡ all)
    (each : HasOnePathEach g.faults only.paths) (map : IsMap (λ x z. z ≡ if_wanted m x) all only) where
  -- a scenario of the graph has few enough faults
  few : (s : Scenario) → IsScenario g s → HasAtMostFaults all.faults s
  few s law = subst (λ n. HasAtMostFaults n s) (ap (λ (t : TreeState (Option ℕ)). t.faults) is) (scenario_few g s law)

  -- each scenario of the graph is on a path
  path_of : (s : Scenario) → IsScenario g s → (x : Path (Option ℕ)) × IsOnPath all.paths s x
  path_of s law =
      the_path g.faults all.paths (λ u f. subst (λ (t : TreeState (Option ℕ)). length (filter (is_on u) t.paths) ≡ 1) is
      (one_path g.faults node good u f)) s (scenario_few g s law)

  -- a scenario that has the number in the tree has it in the tree of that number alone
  alone : (s : Scenario) → IsScenario g s → HasValueAt all.paths (Some m) s → HasValueAt only.paths (Some m) s
  alone s law has =
      let only_path = the_path g.faults only.paths each s (scenario_few g s law) in (
        only_path.0,
        only_path.1,
        map.value s has.0 only_path.0 (few s law) has.1 only_path.1 ∙ ap (if_wanted m) has.2
            ∙ if_wanted_same m,
      )

  -- the least scenario with a number in the tree of m alone is the least that has m in the whole tree
  least_alone : (order : List ℕ) (s : Scenario) → IsLeast g order (HasNumberAt only.paths) s →
      IsLeast g order (HasValueAt all.paths (Some m)) s
  -- it has m there, since only m is kept; an earlier scenario with m would have it in the tree of m alone too
  least_alone order s is_least =
      let only_path = is_least.holds.has in
      let all_path = path_of s is_least.lawful in
      let parts = if_wanted_is m all_path.0.1 is_least.holds.number
      (sym (map.value s all_path.0 only_path.0 (few s is_least.lawful) all_path.1 only_path.1) ∙ only_path.2) in
      record {
        lawful = is_least.lawful;
        holds = (all_path.0, all_path.1, parts.0);
        least = λ u law has. is_least.least u law (record { number = m; has = alone u law has });
      }

  -- if the tree of m alone has no number, no path of the whole tree has m: some scenario would have it in both
  none_alone : process_count g ≤ 128 → All (λ p. IsKnown g p.0) (paths_of g.faults node) →
      All (λ (p : Path (Option ℕ)). p.1 ≡ None) only.paths →
      All (λ (p : Path (Option ℕ)). p.1 ≢ Some m) all.paths
  -- a path with m is reached in some scenario, whose path in the tree of m alone would have m too
  none_alone processes known none i d inside is_m =
      let there = subst (λ (t : TreeState (Option ℕ)). Contains t.paths (get_or all.paths i d)) (sym is)
      (Contains-get_or all.paths i d inside) in
      let reached = path_reached g node good m processes known (get_or all.paths i d) there is_m in
      let in_only = alone reached.scenario reached.lawful
      (subst (λ (t : TreeState (Option ℕ)). HasValueAt t.paths (Some m) reached.scenario) is reached.has) in
      none-some m (sym (All-contains (λ (p : Path (Option ℕ)). p.1 ≡ None) only.paths in_only.0 none in_only.1.stands)
      ∙ in_only.2)

  -- ---- as what a call answers

  -- if the tree of the number alone has none, no path has the number
  pub listed_none : process_count g ≤ 128 → All (λ p. IsKnown g p.0) (paths_of g.faults node) → (o : Option Scenario) →
      IfNone o (All (λ (p : Path (Option ℕ)). p.1 ≡ None) only.paths) →
      IfNone o (All (λ (p : Path (Option ℕ)). p.1 ≢ Some m) all.paths)
  listed_none processes known None none_there = none_alone processes known none_there
  listed_none processes known (Some s) none_there = tt

  -- the least scenario of a number in the tree of it alone is the least that has it
  pub listed_some : (order : List ℕ) (o : Option Scenario) → IfSome o (IsLeast g order (HasNumberAt only.paths)) →
      IfSome o (IsLeast g order (HasValueAt all.paths (Some m)))
  listed_some order None is_least = tt
  listed_some order (Some s) is_least = least_alone order s is_least
