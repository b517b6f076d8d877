-- What the operations make of decision trees, said of their paths. In the lemmas k is the most faults, and s a
-- scenario.
use Rattle.std.proofs.Common.{ℕ, ◌≡◌, min, Bool, true, false, List, if◌then◌else◌, arith, refl, sym, ap, ◌∙◌, subst}
use Rattle.cpg_base.specs.Scenario.{Scenario}
use Rattle.cpg_cube.specs.Cube.{low_in, high_in}
use Rattle.cpg_base.specs.Variable.{top}
use Rattle.cpg_tree.specs.TreeNode.{TreeNode}
use Rattle.cpg_tree.specs.Space.{Space, IsInSpace, HasAtMostFaults, IsWhole}
use Rattle.cpg_tree.specs.Decision.{value_at, low_at, high_at, IsGood, IsFit, DoForksPass}
use Rattle.cpg_tree.specs.Paths.{paths_of}
use Rattle.cpg_tree.specs.declared.item.TreeItem.{TreeItem}
use Rattle.cpg_tree.specs.Flat.{IsFlat, flat}
use Rattle.cpg_tree.specs.ReadBack.{IsGoodList, paths_in}
use Rattle.cpg_tree.specs.Added.{IsMapped, IsJoined, IsPicked}
use Rattle.cpg_tree.specs.Results.{IsMapOf, IsJoinOf, IsPickOf, picked}
use Rattle.cpg_tree.specs.Tree.{Path, TreeState, IsOnPath, IsMap, IsJoin, IsPick, IsValueAt, DoPathsPass}
use Rattle.cpg_tree.proofs.Flats.{flat-same, paths_in-flat}
use Rattle.cpg_tree.proofs.PathLaws.{found}
use Rattle.cpg_tree.proofs.Passing.{forks_of_paths, paths_of_forks}

-- the state of a tree
abbrev pub state : {T : Type 0} → ℕ → TreeNode T → TreeState T
state k node = record { faults = k; paths = paths_of k node }

-- what is known of a tree's list is known of what a reference to it shows, as a caller sees the tree
module _ {T : Type 0} (k : ℕ) (items shown : List (TreeItem T)) (same : shown ≡ items) (good : IsGoodList k items)
    (t : TreeState T) (seen : record {
      faults = k;
      paths = paths_in k items;
    } ≡ t) where
  -- what is shown is the list of a tree
  pub flat_shown : IsFlat shown
  flat_shown = (good.0, same ∙ good.1)

  -- given: a tree n whose list callers see
  module _ (n : TreeNode T) (are : shown ≡ flat n) where
    -- the tree is good
    pub good_shown : IsGood t.faults n
    good_shown = subst (λ (u : TreeState T). IsGood u.faults n) seen
        (subst (IsGood k) (flat-same good.0 n (sym good.1 ∙ sym same ∙ are)) good.2)

    -- the paths that callers see are those of the tree
    pub paths_shown : t.paths ≡ paths_of t.faults n
    paths_shown =
        subst (λ (u : TreeState T). u.paths ≡ paths_of u.faults n) seen (paths_in-flat k items n (sym same ∙ are))

-- a tree with the paths of a node is the node's
pub state_seen : {T : Type 0} (t : TreeState T) (a : TreeNode T) → t.paths ≡ paths_of t.faults a → state t.faults a ≡ t
state_seen {T} t a paths = ap (λ (ps : List (Path T)). record { faults = t.faults; paths = ps }) (sym paths)

-- given: a space in which all scenarios of at most k faults lie
module _ (k : ℕ) (space : Space) (all : (s : Scenario) → HasAtMostFaults k s → IsInSpace space s) where
  -- a tree of answers to the values of two trees is one in its paths too
  pub join_paths : {T U V : Type 0} (answers : T → U → V → Type 0) (a : TreeNode T) (b : TreeNode U) (r : TreeNode V) →
      IsGood k a → IsGood k b → IsGood k r →
      IsJoinOf answers space a b r →
      IsJoin answers (state k a) (state k b) (state k r)
  -- x, y and z are the scenario's paths in a, b and r; by `found` each has the value and the ranges that the scenario
  -- finds in its tree, of which `made` speaks
  join_paths answers a b r good_a good_b good_r made = record {
    faults = refl;
    value = λ s x y z few on_x on_y on_z.
        let found_x = found k a good_a s x on_x in
        let found_y = found k b good_b s y on_y in
        let found_z = found k r good_r s z on_z in
        subst (λ v. answers x.1 y.1 v) (sym found_z.value)
        (subst (λ v. answers x.1 v (value_at r s)) (sym found_y.value)
        (subst (λ v. answers v (value_at b s) (value_at r s)) (sym found_x.value) (made.value s (all s few))));
    ranges = λ s x y z few on_x on_y on_z.
        let found_x = found k a good_a s x on_x in
        let found_y = found k b good_b s y on_y in
        let found_z = found k r good_r s z on_z in
        record {
          low = λ v. omega (arith, found_x.low v, found_y.low v, found_z.low v, made.lows s v (all s few));
          high = λ v. omega (arith, found_x.high v, found_y.high v, found_z.high v, made.highs k s v (all s few));
        };
  }

  -- a tree of the values that a chooser picks is one in its paths too
  pub pick_paths : {T : Type 0} (chooser : TreeNode Bool) (on off r : TreeNode T) → IsGood k chooser → IsGood k on →
      IsGood k off → IsGood k r →
      IsPickOf space chooser on off r →
      IsPick (state k chooser) (state k on) (state k off) (state k r)
  -- c, x and z are the scenario's paths in the chooser, in the tree that it picks and in r; each has what the scenario
  -- finds in its tree
  pick_paths {T} chooser on off r good_c good_on good_off good_r made = record {
    faults = refl;
    value = λ s c x z few on_c on_x on_z.
        let found_c = found k chooser good_c s c on_c in
        let found_z = found k r good_r s z on_z in
        found_z.value ∙ made.value s (all s few) ∙ ap (λ (b : Bool). value_at (picked b on off) s) (sym found_c.value)
        ∙ sym (picked_value c.1 s x on_x);
    ranges = λ s c x z few on_c on_x on_z.
        let found_c = found k chooser good_c s c on_c in
        let found_z = found k r good_r s z on_z in
        record {
          low = λ v. omega (
            arith,
            found_c.low v,
            found_z.low v,
            made.lows s v (all s few),
            ap (λ (b : Bool). low_at (picked b on off) s v) found_c.value,
            picked_low c.1 s x on_x v,
          );
          high = λ v. omega (
            arith,
            found_c.high v,
            found_z.high v,
            made.highs k s v (all s few),
            ap (λ (b : Bool). high_at k (picked b on off) s v) found_c.value,
            picked_high c.1 s x on_x v,
          );
        };
  }
    where
      -- the path of the chosen tree has the value of what is picked
      picked_value : (b : Bool) (s : Scenario) (x : Path T) →
          IsOnPath (if b then paths_of k on else paths_of k off) s x →
          x.1 ≡ value_at (picked b on off) s
      picked_value true s x on_path = (found k on good_on s x on_path).value
      picked_value false s x on_path = (found k off good_off s x on_path).value

      -- the path of the chosen tree has the lows of what is picked
      picked_low : (b : Bool) (s : Scenario) (x : Path T) → IsOnPath (if b then paths_of k on else paths_of k off) s x →
          (v : ℕ) →
          low_in x.0 v ≡ low_at (picked b on off) s v
      picked_low true s x on_path v = (found k on good_on s x on_path).low v
      picked_low false s x on_path v = (found k off good_off s x on_path).low v

      -- the path of the chosen tree has the highs of what is picked
      picked_high : (b : Bool) (s : Scenario) (x : Path T) →
          IsOnPath (if b then paths_of k on else paths_of k off) s x → (v : ℕ) →
          high_in k x.0 v ≡ min (top k v) (high_at k (picked b on off) s v)
      picked_high true s x on_path v = (found k on good_on s x on_path).high v
      picked_high false s x on_path v = (found k off good_off s x on_path).high v

-- the value that a scenario comes to is that of its path
pub value_path : {T : Type 0} (k : ℕ) (node : TreeNode T) (good : IsGood k node) (s : Scenario) →
    IsValueAt (state k node) s (value_at node s)
value_path k node good s = record { of_path = λ x on. sym (found k node good s x on).value }

-- a tree of answers to the values of one tree is one in its paths too
pub map_paths : {T U : Type 0} (k : ℕ) (answers : T → U → Type 0) (a : TreeNode T) (r : TreeNode U) → IsGood k a →
    IsGood k r → IsMapOf answers a r →
    IsMap answers (state k a) (state k r)
-- x and z are the scenario's paths in a and r; each has what the scenario finds in its tree
map_paths k answers a r good_a good_r made = record {
  faults = refl;
  value = λ s x z few on_x on_z.
      let found_x = found k a good_a s x on_x in
      let found_z = found k r good_r s z on_z in
      subst (λ v. answers x.1 v) (sym found_z.value)
      (subst (λ v. answers v (value_at r s)) (sym found_x.value) (made.value s tt));
  ranges = λ s x z few on_x on_z.
      let found_x = found k a good_a s x on_x in
      let found_z = found k r good_r s z on_z in
      record {
        low = λ v. omega (arith, found_x.low v, found_z.low v, made.lows s v tt);
        high = λ v. omega (arith, found_x.high v, found_z.high v, made.highs k s v tt);
      };
}

-- given: two trees a and b, a tree r made of them, and what callers see of the two: `first` and `second`
module _ {T U V : Type 0} (k l : ℕ) (a : TreeNode T) (b : TreeNode U) (r : TreeNode V) (first : TreeState T)
    (second : TreeState U) (is_first : state k a ≡ first)
    (is_second : state l b ≡ second) where
  -- the tree made of two has the answers to the values that callers see in those
  pub joined_seen : (answers : T → U → V → Type 0) → first.faults ≡ second.faults → IsGood k a → IsGood l b →
      (space : Space) → IsWhole k space
      → ((s : Scenario) → HasAtMostFaults k s → IsInSpace space s) →
      IsFit space r → IsJoinOf answers space a b r →
      IsJoin answers first second (state k r)
  joined_seen answers same good_a good_b space whole all fit made =
      let equal : k ≡ l =
      ap (λ (t : TreeState T). t.faults) is_first ∙ same ∙ sym (ap (λ (t : TreeState U). t.faults) is_second) in
      subst (λ (x : TreeState T). IsJoin answers x second (state k r)) is_first
      (subst (λ (y : TreeState U). IsJoin answers (state k a) y (state k r))
      (ap (λ (m : ℕ). state m b) equal ∙ is_second)
      (join_paths k space all answers a b r good_a (subst (λ (m : ℕ). IsGood m b) (sym equal) good_b)
      (space, whole, fit) made))

  -- if the variables of both trees pass a test, so do those of the tree made of them
  pub joined_pass : (test : ℕ → Bool) → (DoForksPass test a → DoForksPass test b → DoForksPass test r) →
      DoPathsPass test first.paths → DoPathsPass test second.paths →
      DoPathsPass test (paths_of k r)
  joined_pass test pass on_first on_second = paths_of_forks test k r (pass
      (forks_of_paths test k a (subst (λ (x : TreeState T). DoPathsPass test x.paths) (sym is_first) on_first))
      (forks_of_paths test l b (subst (λ (x : TreeState U). DoPathsPass test x.paths) (sym is_second) on_second)))

-- ---- what is made of trees that callers see

-- a tree that fits the space of all scenarios has a good list
pub good_made : {T : Type 0} (k : ℕ) (space : Space) (r : TreeNode T) (items : List (TreeItem T)) → IsWhole k space →
    IsFit space r → items ≡ flat r →
    IsGoodList k items
good_made k space r items whole fit are = (r, are, (space, whole, fit))

-- given: a good tree n, which callers see as t, and the tree r of a function's answers to its values
module _ {T U : Type 0} (answers : T → U → Type 0) (t : TreeState T) (n : TreeNode T) (good : IsGood t.faults n)
    (paths : t.paths ≡ paths_of t.faults n) (k : ℕ) (same : k ≡ t.faults) (r : TreeNode U)
    (mapped : IsMapped answers n r) where
  -- the tree that is made is good
  pub good_mapped : IsGood k r
  good_mapped = subst (λ (m : ℕ). IsGood m r) (sym same) (good.0, good.1, mapped.fit good.0 good.2)

  -- given: what callers see of the tree made, r
  module _ (made : TreeState U) (is : made ≡ state k r) where
    -- callers see in it the answers to the values of the first
    pub map_shown : IsMap answers t made
    map_shown = subst (IsMap answers t) (ap (λ (m : ℕ). state m r) (sym same) ∙ sym is)
        (subst (λ (u : TreeState T). IsMap answers u (state t.faults r)) (state_seen t n paths)
        (map_paths t.faults answers n r good (good.0, good.1, mapped.fit good.0 good.2) mapped.made))

    -- if the variables of the first pass a test, so do its own
    pub map_passes : (test : ℕ → Bool) → DoPathsPass test t.paths → DoPathsPass test made.paths
    map_passes test on = subst (λ (u : TreeState U). DoPathsPass test u.paths) (sym is)
        (paths_of_forks test k r (mapped.pass test
        (forks_of_paths test t.faults n (subst (λ (ps : List (Path T)). DoPathsPass test ps) paths on))))

-- given: two good trees a and b, which callers see as `first` and `second`, and the tree r that is made of them
-- `good_..`: they are good; `paths_..`: callers see their paths; `same`, `is`: callers see r as `made`
module _ {T U V : Type 0} (first : TreeState T) (second : TreeState U) (a : TreeNode T) (b : TreeNode U)
    (good_a : IsGood first.faults a) (good_b : IsGood second.faults b)
    (paths_a : first.paths ≡ paths_of first.faults a) (paths_b : second.paths ≡ paths_of second.faults b) (k : ℕ)
    (same : k ≡ first.faults) (r : TreeNode V) (made : TreeState V)
    (is : made ≡ state k r) where
  -- callers see in the tree that is made the answers to the values of both
  pub join_shown : (answers : T → U → V → Type 0) → first.faults ≡ second.faults → (space : Space) → IsWhole k space →
      ((s : Scenario) → HasAtMostFaults k s → IsInSpace space s) →
      IsFit space r → IsJoinOf answers space a b r →
      IsJoin answers first second made
  join_shown answers equal space whole all fit joined =
      subst (IsJoin answers first second) (ap (λ (m : ℕ). state m r) (sym same) ∙ sym is)
      (joined_seen first.faults second.faults a b r first second (state_seen first a paths_a)
      (state_seen second b paths_b) answers equal good_a good_b space
      (subst (λ (m : ℕ). IsWhole m space) same whole)
      (λ s few. all s (subst (λ (m : ℕ). HasAtMostFaults m s) (sym same) few)) fit joined)

  -- if the variables of both pass a test, so do those of the tree that is made
  pub join_passes : (test : ℕ → Bool) → (DoForksPass test a → DoForksPass test b → DoForksPass test r) →
      DoPathsPass test first.paths → DoPathsPass test second.paths →
      DoPathsPass test made.paths
  join_passes test pass on_first on_second =
      subst (λ (u : TreeState V). DoPathsPass test u.paths) (ap (λ (m : ℕ). state m r) (sym same) ∙ sym is)
      (joined_pass first.faults second.faults a b r first second (state_seen first a paths_a)
      (state_seen second b paths_b) test pass on_first on_second)

-- given: a good chooser, two good trees, and the tree that is made of them
-- `good_..`: the lists are good; `paths_..`: callers see their paths; `same`, `is`: the tree made is seen as r
module _ {T : Type 0} (chooser : TreeState Bool) (first second : TreeState T) (c : TreeNode Bool) (a b : TreeNode T)
    (good_c : IsGood chooser.faults c) (good_a : IsGood first.faults a)
    (good_b : IsGood second.faults b) (paths_c : chooser.paths ≡ paths_of chooser.faults c)
    (paths_a : first.paths ≡ paths_of first.faults a) (paths_b : second.paths ≡ paths_of second.faults b)
    (k : ℕ)
    (same : k ≡ chooser.faults) (r : TreeNode T) (made : TreeState T) (is : made ≡ state k r) where
  -- callers see in the tree that is made the values that the chooser picks
  pub pick_shown : chooser.faults ≡ first.faults → chooser.faults ≡ second.faults → (space : Space) → IsWhole k space →
      ((s : Scenario) → HasAtMostFaults k s → IsInSpace space s) → IsFit space r →
      IsPickOf space c a b r →
      IsPick chooser first second made
  pick_shown one two space whole all fit picked =
      let most_faults : ℕ = chooser.faults in
      let equal_a : state most_faults a ≡ first = ap (λ (l : ℕ). state l a) one ∙ state_seen first a paths_a in
      let equal_b : state most_faults b ≡ second = ap (λ (l : ℕ). state l b) two ∙ state_seen second b paths_b in
      subst (IsPick chooser first second) (ap (λ (l : ℕ). state l r) (sym same) ∙ sym is)
      (subst (λ (x : TreeState Bool). IsPick x first second (state most_faults r)) (state_seen chooser c paths_c)
      (subst (λ (x : TreeState T). IsPick (state most_faults c) x second (state most_faults r)) equal_a
      (subst (λ (x : TreeState T). IsPick (state most_faults c) (state most_faults a) x (state most_faults r)) equal_b
      (pick_paths most_faults space (λ s few. all s (subst (λ (l : ℕ). HasAtMostFaults l s) (sym same) few)) c a b r
      good_c
      (subst (λ (l : ℕ). IsGood l a) (sym one) good_a) (subst (λ (l : ℕ). IsGood l b)
      (sym two) good_b)
      (space, subst (λ (l : ℕ). IsWhole l space) same whole, fit) picked))))

  -- if the variables of all three pass a test, so do those of the tree that is made
  pub pick_passes : (test : ℕ → Bool) →
      (DoForksPass test c → DoForksPass test a → DoForksPass test b → DoForksPass test r) →
      DoPathsPass test chooser.paths →
      DoPathsPass test first.paths →
      DoPathsPass test second.paths → DoPathsPass test made.paths
  pick_passes test pass on_c on_a on_b =
      subst (λ (u : TreeState T). DoPathsPass test u.paths) (sym is) (paths_of_forks test k r (pass
      (forks_of_paths test chooser.faults c (subst (DoPathsPass test) paths_c on_c))
      (forks_of_paths test first.faults a (subst (DoPathsPass test) paths_a on_a))
      (forks_of_paths test second.faults b (subst (DoPathsPass test) paths_b on_b))))
