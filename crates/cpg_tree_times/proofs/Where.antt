-- What is made of two trees where a chooser is true.
use Rattle.std.proofs.Common.{ℕ, ◌<◌, ◌≤◌, ◌≡◌, max, min, Bool, true, false, List, if◌then◌else◌, arith, refl, sym, ap}
use Rattle.std.proofs.Common.{◌∙◌, subst}
use Rattle.std.proofs.lemmas.Bool.{cond-true, cond-false}
use Rattle.cpg_base.specs.Scenario.{Scenario, number_of}
use Rattle.cpg_base.specs.Variable.{top}
use Rattle.cpg_tree.specs.TreeNode.{TreeNode, Leaf, Fork}
use Rattle.cpg_tree.specs.Space.{HasAtMostFaults, IsWhole, IsInSpace}
use Rattle.cpg_tree.specs.declared.space.Space.{Space}
use Rattle.cpg_tree.specs.Decision.{value_at, low_at, high_at, DoForksPass, IsFit, IsGood}
use Rattle.cpg_tree.specs.Paths.{paths_of}
use Rattle.cpg_tree.specs.Results.{IsForkOf, IsJoinIn, IsJoinWhereOf, HoldsIfChosen}
use Rattle.cpg_tree_times.specs.Asked.{SpacePair, IsInBothSpaces}
use Rattle.cpg_tree.specs.Tree.{Path, TreeState, DoPathsPass, IsJoinWhere}
use Rattle.cpg_tree.proofs.Forks.{two_below_of, two_above_of, two_fork_of, two_leaf_of}
use Rattle.cpg_tree.proofs.PathLaws.{found}
use Rattle.cpg_tree.proofs.Passing.{forks_of_paths, paths_of_forks}
use Rattle.cpg_tree.proofs.Publics.{state, state_seen}

-- given: two trees, a function of their values, and the value elsewhere
module _ {T U V : Type 0} (answers : T → U → V → Type 0) (none : V) (spaces : SpacePair) (a : TreeNode T)
    (b : TreeNode U) where
  -- the answer to both values if the chooser is true, and else the one value
  abbrev fact : Scenario → Bool → V → Type 0
  fact s x z = HoldsIfChosen x (answers (value_at a s) (value_at b s) z) none z

  -- the lows of both trees if the chooser is true, and 0 if not
  abbrev low : Scenario → Bool → ℕ → ℕ
  low s x v = if x then max (low_at a s v) (low_at b s v) else 0

  -- the highs of both trees if the chooser is true, and the top if not
  abbrev high : ℕ → Scenario → Bool → ℕ → ℕ
  high k s x v = if x then min (high_at k a s v) (high_at k b s v) else top k v

  -- if the chooser is true, the answers of the two trees are the result
  pub where_on : (n : TreeNode Bool) → n ≡ Leaf true → (r : TreeNode V) →
      IsJoinIn answers (IsInBothSpaces spaces) a b r →
      IsJoinWhereOf answers none (IsInBothSpaces spaces) n a b r
  where_on n is r made = two_leaf_of fact low high (IsInBothSpaces spaces) true n is r made

  -- if the chooser is false, the result is the value `none`
  pub where_off : (n : TreeNode Bool) → n ≡ Leaf false →
      IsJoinWhereOf answers none (IsInBothSpaces spaces) n a b (Leaf none)
  where_off n is = two_leaf_of fact low high (IsInBothSpaces spaces) false n is (Leaf none)
      (record { value = λ s inside. refl; lows = λ s u inside. omega arith; highs = λ k s u inside. omega arith })

  -- given: the chooser n is a fork, and r is the tree that is made
  module _ (v cut : ℕ) (below above n : TreeNode Bool) (is : n ≡ Fork v cut below above) (r : TreeNode V) where
    -- if all scenarios asked for go below the chooser's fork, a result for its side below is one for the whole chooser
    pub where_below : IsJoinWhereOf answers none (IsInBothSpaces spaces) below a b r →
        ((s : Scenario) → IsInSpace spaces.asked s → number_of s v ≤ cut)
        → IsJoinWhereOf answers none (IsInBothSpaces spaces) n a b r
    where_below made only =
        two_below_of fact low high (IsInBothSpaces spaces) v cut below above n is r made (λ s inside. only s inside.0)

    -- if all scenarios asked for go above the chooser's fork, a result for its side above is one for the whole chooser
    pub where_above : IsJoinWhereOf answers none (IsInBothSpaces spaces) above a b r →
        ((s : Scenario) → IsInSpace spaces.asked s → cut < number_of s v)
        → IsJoinWhereOf answers none (IsInBothSpaces spaces) n a b r
    where_above made only =
        two_above_of fact low high (IsInBothSpaces spaces) v cut below above n is r made (λ s inside. only s inside.0)

    -- a fork of the results for both sides of the chooser is the result for the chooser
    pub where_fork : (shut upper : SpacePair) (lo hi : TreeNode V) →
        IsJoinWhereOf answers none (IsInBothSpaces shut) below a b lo →
        IsJoinWhereOf answers none (IsInBothSpaces upper) above a b hi →
        IsForkOf v cut lo hi r →
        ((s : Scenario) → IsInBothSpaces spaces s → number_of s v ≤ cut → IsInBothSpaces shut s) →
        ((s : Scenario) → IsInBothSpaces spaces s → cut < number_of s v → IsInBothSpaces upper s) →
        IsJoinWhereOf answers none (IsInBothSpaces spaces) n a b r
    where_fork shut upper lo hi of_lo of_hi fork goes_shut goes_upper =
        two_fork_of fact low high (IsInBothSpaces spaces) v cut below above n is r (IsInBothSpaces shut)
        (IsInBothSpaces upper) lo hi of_lo of_hi fork goes_shut goes_upper

-- given: a domain with all scenarios of at most k faults, a chooser, two trees and the result
module _ {T U V : Type 0} (k : ℕ) (domain : Scenario → Type 0) (all : (s : Scenario) → HasAtMostFaults k s → domain s)
    (answers : T → U → V → Type 0) (none : V) (chooser : TreeNode Bool)
    (a : TreeNode T)
    (b : TreeNode U) (r : TreeNode V) where
  -- The paths of the result have the answers in the scenarios in which the chooser is true, and the one value in all
  -- others.
  pub where_paths : IsGood k chooser → IsGood k a → IsGood k b → IsGood k r →
      IsJoinWhereOf answers none domain chooser a b r →
      IsJoinWhere answers none (state k chooser) (state k a) (state k b) (state k r)
  -- By `found` each path has the value and the ranges that its scenario finds in the tree, of which `made` speaks.
  -- `in_chooser`, `in_a`, `in_b` and `in_result` are what is found for the paths c, x, y and z of the chooser, the two
  -- trees and the result.
  where_paths good_c good_a good_b good_r made = record {
    faults = refl;
    -- the values on the paths are those that the trees have in the scenario, so `made` answers for them
    on = λ s c x y z few on_c is on_x on_y on_z.
        let in_chooser = found k chooser good_c s c on_c in
        let in_a = found k a good_a s x on_x in
        let in_b = found k b good_b s y on_y in
        let in_result = found k r good_r s z on_z in
        subst (λ w. answers x.1 y.1 w) (sym in_result.value) (subst (λ w. answers x.1 w (value_at r s)) (sym in_b.value)
        (subst (λ w. answers w (value_at b s) (value_at r s)) (sym in_a.value)
        (subst
        (λ (w : Bool). HoldsIfChosen w (answers (value_at a s) (value_at b s) (value_at r s)) none (value_at r s))
        (sym in_chooser.value ∙ is) (made.value s (all s few)))));
    -- and so are the ranges: where the chooser is true, those of all three trees meet
    on_ranges = λ s c x y z few on_c is on_x on_y on_z.
        let in_chooser = found k chooser good_c s c on_c in
        let in_a = found k a good_a s x on_x in
        let in_b = found k b good_b s y on_y in
        let in_result = found k r good_r s z on_z in
        record {
          low = λ v. omega (
            arith,
            in_chooser.low v,
            in_a.low v,
            in_b.low v,
            in_result.low v,
            made.lows s v (all s few),
            low_on s (sym in_chooser.value ∙ is) v,
          );
          high = λ v. omega (
            arith,
            in_chooser.high v,
            in_a.high v,
            in_b.high v,
            in_result.high v,
            made.highs k s v (all s few),
            high_on s (sym in_chooser.value ∙ is) v,
          );
        };
    -- where the chooser is false, only the result and the chooser are looked at
    off = λ s c z few on_c is on_z.
        let in_chooser = found k chooser good_c s c on_c in
        let in_result = found k r good_r s z on_z in
        in_result.value ∙ subst
        (λ (w : Bool). HoldsIfChosen w (answers (value_at a s) (value_at b s) (value_at r s)) none (value_at r s))
        (sym in_chooser.value ∙ is) (made.value s (all s few));
    off_ranges = λ s c z few on_c is on_z.
        let in_chooser = found k chooser good_c s c on_c in
        let in_result = found k r good_r s z on_z in
        record {
          low = λ v. omega (
            arith,
            in_chooser.low v,
            in_result.low v,
            made.lows s v (all s few),
            low_off s (sym in_chooser.value ∙ is) v,
          );
          high =
              λ v. omega (
                arith,
                in_chooser.high v,
                in_result.high v,
                made.highs k s v (all s few),
                high_off s (sym in_chooser.value ∙ is) v,
              );
        };
  }
    where
      -- where the chooser is true, each low is the greater of the two trees' lows
      low_on : (s : Scenario) → value_at chooser s ≡ true → (v : ℕ) →
          (if value_at chooser s then max (low_at a s v) (low_at b s v) else 0) ≡ max (low_at a s v) (low_at b s v)
      low_on s chosen v = cond-true (value_at chooser s) _ _ chosen

      -- where the chooser is true, each high is the lesser of the two trees' highs
      high_on : (s : Scenario) → value_at chooser s ≡ true → (v : ℕ) →
          (if value_at chooser s then min (high_at k a s v) (high_at k b s v) else top k v)
          ≡ min (high_at k a s v) (high_at k b s v)
      high_on s chosen v = cond-true (value_at chooser s) _ _ chosen

      -- where the chooser is false, the lows are 0
      low_off : (s : Scenario) → value_at chooser s ≡ false → (v : ℕ) →
          (if value_at chooser s then max (low_at a s v) (low_at b s v) else 0) ≡ 0
      low_off s unchosen v = cond-false (value_at chooser s) _ _ unchosen

      -- where the chooser is false, the highs are the tops
      high_off : (s : Scenario) → value_at chooser s ≡ false → (v : ℕ) →
          (if value_at chooser s then min (high_at k a s v) (high_at k b s v) else top k v) ≡ top k v
      high_off s unchosen v = cond-false (value_at chooser s) _ _ unchosen

-- given: a chooser and two trees, and what callers see of them
module _ {T U V : Type 0} (chooser : TreeNode Bool) (a : TreeNode T) (b : TreeNode U) (r : TreeNode V)
    (first : TreeState Bool) (second : TreeState T) (third : TreeState U)
    (paths_c : first.paths ≡ paths_of first.faults chooser) (paths_a : second.paths ≡ paths_of second.faults a)
    (paths_b : third.paths ≡ paths_of third.faults b) (k : ℕ) where
  -- callers see in the tree that is made the answers if the chooser is true, and otherwise the one value
  pub where_seen : (answers : T → U → V → Type 0) (none : V) → k ≡ first.faults → first.faults ≡ second.faults →
      first.faults ≡ third.faults → IsGood first.faults chooser →
      IsGood second.faults a →
      IsGood third.faults b →
      (space : Space) → IsWhole k space → ((s : Scenario) → HasAtMostFaults k s → IsInSpace space s) → IsFit space r
      → IsJoinWhereOf answers none (IsInBothSpaces (record { asked = space; walked = space })) chooser a b r →
      IsJoinWhere answers none first second third (state k r)
  -- by `where_paths`, with the states that callers see put in place of those of the trees, one after another
  where_seen answers none is same_a same_b good_c good_a good_b space whole all fit made =
      subst (λ (x : TreeState Bool). IsJoinWhere answers none x second third (state k r))
      (ap (λ (m : ℕ). state m chooser) is ∙ state_seen first chooser paths_c)
      (subst (λ (x : TreeState T). IsJoinWhere answers none (state k chooser) x third (state k r))
      (ap (λ (m : ℕ). state m a) (is ∙ same_a) ∙ state_seen second a paths_a)
      (subst (λ (x : TreeState U). IsJoinWhere answers none (state k chooser) (state k a) x (state k r))
      (ap (λ (m : ℕ). state m b) (is ∙ same_b) ∙ state_seen third b paths_b)
      (where_paths k (IsInBothSpaces (record { asked = space; walked = space }))
      (λ s few. (all s few, all s few)) answers none chooser a b r
      (subst (λ (m : ℕ). IsGood m chooser) (sym is) good_c) (subst (λ (m : ℕ). IsGood m a) (sym (is ∙ same_a)) good_a)
      (subst (λ (m : ℕ). IsGood m b) (sym (is ∙ same_b)) good_b)
      (space, whole, fit) made)))

  -- if the variables of all three trees pass a test, so do those of the tree that is made
  pub where_pass : (test : ℕ → Bool) →
      (DoForksPass test chooser → DoForksPass test a → DoForksPass test b → DoForksPass test r) →
      DoPathsPass test first.paths →
      DoPathsPass test second.paths →
      DoPathsPass test third.paths →
      DoPathsPass test (paths_of k r)
  where_pass test pass on_c on_a on_b = paths_of_forks test k r (pass
      (forks_of_paths test first.faults chooser (subst (λ (ps : List (Path Bool)). DoPathsPass test ps) paths_c on_c))
      (forks_of_paths test second.faults a (subst (λ (ps : List (Path T)). DoPathsPass test ps) paths_a on_a))
      (forks_of_paths test third.faults b (subst (λ (ps : List (Path U)). DoPathsPass test ps) paths_b on_b)))
