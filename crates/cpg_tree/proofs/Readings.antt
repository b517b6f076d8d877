-- A tree whose leaves are read as numbers has the ranges of the tree.
use Rattle.std.proofs.Common.{ℕ, ◌+◌, ◌≡◌, ◌==◌, max, min, Bool, true, false, if◌then◌else◌, List, [], ◌++◌, map}
use Rattle.std.proofs.Common.{length, filter, Option, All, arith, refl, sym, ap, ap₂, ◌∙◌, subst}
use Rattle.std.specs.Prelude.{nat_le, IsTrue}
use Rattle.std.proofs.lemmas.List.{length-map, map-append}
use Rattle.std.proofs.lemmas.List.Elements.{All-map}
use Rattle.cpg_base.proofs.Lists.{Contains-map_parts}
use Rattle.cpg_base.proofs.Sums.{filter-map}
use Rattle.cpg_base.specs.Scenario.{Scenario, number_of}
use Rattle.cpg_cube.specs.declared.literal.Literal.{Literal}
use Rattle.cpg_cube.specs.Narrow.{narrowed_by}
use Rattle.cpg_tree.specs.TreeNode.{TreeNode, Leaf, Fork}
use Rattle.cpg_tree.specs.Decision.{value_at, low_at, high_at, IsFit, IsGood, DoForksPass}
use Rattle.cpg_tree.specs.Later.{time_later}
use Rattle.cpg_tree.specs.Paths.{up_to, above, paths_from, paths_of}
use Rattle.cpg_tree.specs.Read.{read_by, later_path, later_by}
use Rattle.cpg_tree.specs.declared.item.TreeItem.{TreeItem}
use Rattle.cpg_tree.specs.Added.{AddsTree, IsFilled, IsRestricted, IsPartInSpace}
use Rattle.cpg_tree.specs.Results.{IsFillOf, IsTreeWithin}
use Rattle.cpg_tree.specs.Space.{Space, below_cut, above_cut}
use Rattle.cpg_tree.specs.Tree.{Path, TreeState, is_on, IsOnPath, IsMap, IsAsWide, HasOnePathEach, DoPathsPass}
use Rattle.cpg_tree.proofs.OnePath.{same_path}
use Rattle.cpg_tree.proofs.Publics.{state}

-- reading the chosen of two leaves is choosing between what they are read as
either : {T : Type 0} (number : T → ℕ) (b : Bool) (x y : T) (m n : ℕ) → m ≡ number x → n ≡ number y →
    (if b then m else n) ≡ number (if b then x else y)
either number true x y m n e f = e
either number false x y m n e f = f

-- given: how the values of a tree are read as numbers
module _ {T : Type 0} (number : T → ℕ) where
  -- the value that a scenario finds is the number of the one in the tree that is read
  pub value_read : (a : TreeNode T) (s : Scenario) → value_at (read_by number a) s ≡ number (value_at a s)
  -- by induction on the tree: a leaf, then a fork by its two sides
  value_read (Leaf x) s = refl
  value_read (Fork v cut below above) s =
      either number (nat_le (number_of s v) cut) (value_at below s) (value_at above s)
      (value_at (read_by number below) s) (value_at (read_by number above) s) (value_read below s)
      (value_read above s)

  -- a scenario finds the ranges of the tree that is read
  pub low_read : (a : TreeNode T) (s : Scenario) (u : ℕ) → low_at (read_by number a) s u ≡ low_at a s u
  -- by induction on the tree: a leaf, then a fork by its two sides
  low_read (Leaf x) s u = refl
  low_read (Fork v cut below above) s u =
      ap₂ (λ x y. if nat_le (number_of s v) cut then x else if v == u then max (cut + 1) y else y) (low_read below s u)
      (low_read above s u)

  -- reading the leaves changes no highs
  pub high_read : (k : ℕ) (a : TreeNode T) (s : Scenario) (u : ℕ) → high_at k (read_by number a) s u ≡ high_at k a s u
  -- by induction on the tree: a leaf, then a fork by its two sides
  high_read k (Leaf x) s u = refl
  high_read k (Fork v cut below above) s u =
      ap₂ (λ x y. if nat_le (number_of s v) cut then (if v == u then min cut x else x) else y) (high_read k below s u)
      (high_read k above s u)

  -- the forks pass the tests that they pass in the tree that is read
  pub pass_read : (test : ℕ → Bool) (a : TreeNode T) → DoForksPass test a → DoForksPass test (read_by number a)
  pass_read test (Leaf x) pass = tt
  pass_read test (Fork v cut below above) pass = (pass.0, pass_read test below pass.1, pass_read test above pass.2)

  -- a tree that fits a space fits it if its leaves are read
  fit_read : (space : Space) (a : TreeNode T) → IsFit space a → IsFit space (read_by number a)
  fit_read space (Leaf x) fit = tt
  fit_read space (Fork v cut below above) fit =
      (fit.0, fit.1, fit.2, fit_read (below_cut space v cut) below fit.3, fit_read (above_cut space v cut) above fit.4)

  -- a tree that is read from a good tree is good
  pub good_read : (k : ℕ) (a : TreeNode T) → IsGood k a → IsGood k (read_by number a)
  good_read k a good = (good.0, good.1, fit_read good.0 a good.2)

  -- its paths are those of the tree, with their values read
  paths_read : (k : ℕ) (cube : List Literal) (a : TreeNode T) →
      paths_from k cube (read_by number a) ≡ map (λ (p : Path T). (p.0, number p.1)) (paths_from k cube a)
  -- by induction on the tree: a leaf, then a fork by its two sides
  paths_read k cube (Leaf x) = refl
  paths_read k cube (Fork v cut lower upper) =
      ap₂ ◌++◌ (paths_read k (narrowed_by (up_to v cut) cube) lower)
      (paths_read k (narrowed_by (above k v cut) cube) upper)
      ∙ sym (map-append (λ (q : Path T). (q.0, number q.1)) (paths_from k (narrowed_by (up_to v cut) cube) lower)
      (paths_from k (narrowed_by (above k v cut) cube) upper))

  -- the part of a tree that a space comes to is, as it is read, such a part of the tree that is read
  pub within_read : (space : Space) (a part : TreeNode T) → IsTreeWithin space a part →
      IsTreeWithin space (read_by number a) (read_by number part)
  within_read space a part same = record {
    value = λ s inside. value_read part s ∙ ap number (same.value s inside) ∙ sym (value_read a s);
    lows = λ s u inside. omega (arith, low_read part s u, low_read a s u, same.lows s u inside);
    highs = λ k s u inside. omega (arith, high_read k part s u, high_read k a s u, same.highs k s u inside);
  }

  -- a tree of the greater of 0 and each leaf's number is the tree as it is read
  pub filled_read : (space : Space) (a : TreeNode T) (r : TreeNode ℕ) →
      IsFillOf (λ (x : ℕ) (y : T) (z : ℕ). z ≡ max x (number y)) space 0 a r →
      IsTreeWithin space (read_by number a) r
  filled_read space a r made = record {
    value = λ s inside. omega (arith, made.value s inside, value_read a s);
    lows = λ s u inside. omega (arith, low_read a s u, made.lows s u inside);
    highs = λ k s u inside. omega (arith, high_read k a s u, made.highs k s u inside);
  }

  -- if the forks of the tree that is read pass a test, so do those of the tree
  passes_read : (test : ℕ → Bool) (a : TreeNode T) → DoForksPass test (read_by number a) → DoForksPass test a
  passes_read test (Leaf x) pass = tt
  passes_read test (Fork v cut below above) pass =
      (pass.0, passes_read test below pass.1, passes_read test above pass.2)

  -- the part of a tree that a space comes to is a part as it is read, too
  pub part_read : (space : Space) (a part : TreeNode T) → IsPartInSpace space a part →
      IsPartInSpace space (read_by number a) (read_by number part)
  part_read space a part is = record {
    same = within_read space a part is.same;
    pass = λ test on. pass_read test part (is.pass test (passes_read test a on));
  }

  -- what is added as the greater of 0 and each leaf's number is the tree as it is read
  pub kept_read : (space : Space) (a : TreeNode T) (old new : List (TreeItem ℕ)) →
      AddsTree (IsFilled (λ (x : ℕ) (y : T) (z : ℕ). z ≡ max x (number y)) space 0 a) old new →
      AddsTree (IsRestricted space (read_by number a)) old new
  -- `added`: the tree that was added, how its list stands in the new one, and what is known of it, which carries over
  kept_read space a old new added = (
    added.0,
    added.1,
    record {
      made = filled_read space a added.0 added.2.made;
      fit = added.2.fit;
      pass = λ test on. added.2.pass test (passes_read test a on);
    },
  )

-- the tree that is read as times a delay later shows callers the times a delay later
pub state_read : (k delay : ℕ) (a : TreeNode (Option ℕ)) →
    state k (read_by (time_later delay) a) ≡ later_by delay (state k a)
state_read k delay a =
    ap (λ (paths : List (Path ℕ)). record { faults = k; paths = paths }) (paths_read (time_later delay) k [] a)

-- the paths of the later times are those of the tree that is read so
pub later_paths : (delay : ℕ) (t : TreeState (Option ℕ)) (a : TreeNode (Option ℕ)) → t.paths ≡ paths_of t.faults a →
    (later_by delay t).paths ≡ paths_of t.faults (read_by (time_later delay) a)
later_paths delay t a paths = ap (λ (ps : List (Path (Option ℕ))). map (later_path delay) ps) paths
    ∙ sym (ap (λ (u : TreeState ℕ). u.paths) (state_read t.faults delay a))

-- ---- the tree of later times

-- given: a delay, and a tree of times t
module _ (delay : ℕ) (t : TreeState (Option ℕ)) where
  -- the later tree has the forks of the first, so its variables pass the same tests
  pub later_pass : (test : ℕ → Bool) → DoPathsPass test t.paths → DoPathsPass test (later_by delay t).paths
  later_pass test pass =
      All-map (λ (p : Path ℕ). All (λ (l : Literal). test l.variable ≡ true) p.0) (later_path delay) t.paths pass

  -- given: each scenario is on one path of t
  module _ (each : HasOnePathEach t.faults t.paths) where
    -- each scenario is on one path of the later tree
    pub later_each : HasOnePathEach (later_by delay t).faults (later_by delay t).paths
    later_each s few =
        ap length (filter-map (is_on s) (later_path delay) t.paths)
        ∙ length-map (filter (λ (p : Path (Option ℕ)). is_on s p) t.paths) (later_path delay)
        ∙ each s few

    -- the later tree is made of the first by moving each time
    pub later_map : IsMap (λ x z. z ≡ time_later delay x) t (later_by delay t)
    -- a path z of the later tree is that of x put off, where x is the scenario's one path
    later_map = record {
      faults = refl;
      value = λ s x z few on_x on_z.
          let source = from_later s z on_z in
          subst (λ (w : Path ℕ). w.1 ≡ time_later delay x.1) source.2
          (ap (λ (y : Path (Option ℕ)). time_later delay y.1)
          (sym (same_path t.faults t.paths each s few x source.0 on_x source.1)));
      ranges = λ s x z few on_x on_z.
          let source = from_later s z on_z in
          subst (λ (w : Path ℕ). IsAsWide t.faults w.0 x.0) source.2
          (subst (λ (y : Path (Option ℕ)). IsAsWide t.faults y.0 x.0)
          (same_path t.faults t.paths each s few x source.0 on_x source.1)
          (record { low = λ v. omega arith; high = λ v. omega arith }));
    }
      where
        -- each path of the later tree that a scenario is on comes from a path of the first that it is on
        from_later : (s : Scenario) (z : Path ℕ) → IsOnPath (later_by delay t).paths s z →
            (x : Path (Option ℕ)) × IsOnPath t.paths s x × (later_path delay x ≡ z)
        from_later s z on =
            let source = Contains-map_parts (later_path delay) t.paths z on.stands in (
              source.0,
              record {
                stands = source.1;
                matched = subst (λ (w : Path ℕ). IsTrue (is_on s w)) (sym source.2) on.matched;
              },
              source.2,
            )
