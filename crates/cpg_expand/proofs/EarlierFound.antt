-- What the code finds of a node's processes between two places: whether one is between them, a cut, and trees of where
-- they test a condition.
use Rattle.std.proofs.Common.{ℕ, ◌+◌, ◌<◌, ◌≤◌, ◌≡◌, ◌==◌, ◌&&◌, nat_le, nat_lt, Bool, true, false, if◌then◌else◌, List}
use Rattle.std.proofs.Common.{arith, eq-eqb, eqb-true, lt-ltb, refl, sym, ap, ◌∙◌, subst, inl, inr}
use Rattle.std.proofs.lemmas.Bool.{and_from, and_parts, cases_lt, le-leb, leb-true, ltb-true}
use Rattle.cpg_base.specs.Graph.{Graph, process_count, node_of}
use Rattle.cpg_base.specs.Order.{place}
use Rattle.cpg_base.specs.Scenario.{Scenario}
use Rattle.cpg_rules.specs.Guards.{Guards, tree_of}
use Rattle.cpg_tree.specs.Space.{HasAtMostFaults}
use Rattle.cpg_tree.specs.Tree.{Path, TreeState, IsConstant, IsOnPath, IsPick}
use Rattle.cpg_tree.proofs.OnePath.{the_path}
use Rattle.cpg_tree.specs.GraphTrees.{IsTree}
use Rattle.cpg_expand.specs.Earlier.{IsAskedOf, IsAskedTree, IsBetween, IsBothTree, IsCut, is_always}
use Rattle.cpg_expand.specs.Guarded.{IsTestedOn, is_tested}
use Rattle.cpg_expand.proofs.AgreeingTrees.{agrees_constant}

-- true isn't false
apart : true ≡ false → ⊥
apart equal = cc

-- a tree of one value has it on each scenario's path
constant_there : {T : Type 0} (x : T) (k : ℕ) (t : TreeState T) → IsConstant x k t → (s : Scenario) (y : Path T) →
    IsOnPath t.paths s y → y.1 ≡ x
constant_there x k t is s y on = (agrees_constant s x k t (λ z. z ≡ x) refl is).value y on

-- given: a node, two places and a process
module _ (g : Graph) (order : List ℕ) (node from to q : ℕ) where
  -- a process that passes the code's test is between the two places
  pub between_from : q < process_count g →
      (node_of g q == node && (nat_le from (place order q) && nat_lt (place order q) to)) ≡ true →
      IsBetween g order node from to q
  -- part by part of the test
  between_from below passes =
      let both = and_parts (node_of g q == node) (nat_le from (place order q) && nat_lt (place order q) to) passes in
      let places = and_parts (nat_le from (place order q)) (nat_lt (place order q) to) both.1 in
      record {
        within = below;
        there = eqb-true (node_of g q) node both.0;
        after = leb-true from (place order q) places.0;
        sooner = ltb-true (place order q) to places.1;
      }

  -- a process that fails the code's test is not between the two places
  pub not_between : (node_of g q == node && (nat_le from (place order q) && nat_lt (place order q) to)) ≡ false →
      IsBetween g order node from to q → ⊥
  not_between fails between = apart (sym (and_from (node_of g q == node)
      (nat_le from (place order q) && nat_lt (place order q) to) (eq-eqb (node_of g q) node between.there)
      (and_from (nat_le from (place order q)) (nat_lt (place order q) to) (le-leb from (place order q) between.after)
      (lt-ltb (place order q) to between.sooner))) ∙ fails)

-- given: a node and a place
module _ (g : Graph) (order : List ℕ) (guards : Guards) (node to : ℕ) where
  -- the place 0 is a cut: nothing stands before it
  pub no_cut : IsCut g order guards node 0 to
  no_cut = inl refl

  -- the place of a process that is always active is a cut
  pub cut_there : (from process : ℕ) → IsBetween g order node from to process →
      is_always (tree_of guards process) ≡ true →
      IsCut g order guards node (place order process) to
  cut_there from process between always =
      inr (
        process,
        record { within = between.within; there = between.there; after = omega arith; sooner = between.sooner },
        always,
      )

-- given: a node, two places and a condition
module _ (g : Graph) (order : List ℕ) (guards : Guards) (node from to c : ℕ) where
  -- the tree is true just where the guard of one of the processes 0 .. k - 1, between the places, tests c
  abbrev Asked : ℕ → TreeState Bool → Type 0
  Asked k t = IsAskedTree g order guards node from to c k t

  -- what one of fewer processes tests is tested by one of more
  more : (k n : ℕ) (s : Scenario) → k ≤ n → IsAskedOf g order guards node from to c k s.values →
      IsAskedOf g order guards node from to c n s.values
  more k n s no_more asked =
      record {
        process = asked.process;
        below = omega (arith, asked.below, no_more);
        between = asked.between;
        tested = asked.tested;
      }

  -- if process q doesn't test c between the places, what one of the first q + 1 processes tests is tested by one of
  -- the first q
  less : (q : ℕ) (s : Scenario) →
      (IsBetween g order node from to q → is_tested (tree_of guards q) s.values c ≡ true → ⊥) →
      IsAskedOf g order guards node from to c (q + 1) s.values →
      IsAskedOf g order guards node from to c q s.values
  less q s not_tested asked = elim (cases_lt asked.process q) [
    | inl is_less ↦ record { process = asked.process; below = is_less; between = asked.between; tested = asked.tested }
    | inr not_less ↦ absurd (let is_last : asked.process ≡ q = omega (arith, asked.below, not_less) in
        not_tested (subst (IsBetween g order node from to) is_last asked.between)
        (subst (λ p. is_tested (tree_of guards p) s.values c ≡ true) is_last asked.tested))
  ]

  -- before any process is asked, the tree is false everywhere
  pub none_asked : (t : TreeState Bool) → IsConstant false g.faults t → Asked 0 t
  none_asked t is_false s few path on_path = (
    λ is_true. absurd (apart (sym is_true ∙ constant_there false g.faults t is_false s path on_path)),
    λ asked_of. absurd (let below_0 = asked_of.below in omega (arith, below_0)),
  )

  -- if the tree is true everywhere, it is right with more processes too
  pub asked_everywhere : (q n : ℕ) (t : TreeState Bool) → q ≤ n → IsConstant true t.faults t → Asked q t → Asked n t
  asked_everywhere q n t no_more is_true_everywhere asks s few path on_path = (
    λ is_true. more q n s no_more ((asks s few path on_path).0 is_true),
    λ asked_of. constant_there true t.faults t is_true_everywhere s path on_path,
  )

  -- a process that is not between the places asks nothing, so the tree stays
  pub asked_same : (q : ℕ) (t : TreeState Bool) → (IsBetween g order node from to q → ⊥) → Asked q t → Asked (q + 1) t
  asked_same q t off asks s few x on = (
    λ is_true. more q (q + 1) s (omega arith) ((asks s few x on).0 is_true),
    λ asked_of. (asks s few x on).1 (less q s (λ its_place tests_it. off its_place) asked_of),
  )

  -- the tree for one more process is true where its guard tests the condition, and elsewhere as it was
  pub asked_too : (q : ℕ) (tested always asked t : TreeState Bool) → IsBetween g order node from to q →
      IsTree g tested → IsTree g always →
      IsTree g asked →
      IsTestedOn g.faults (tree_of guards q) c tested → IsConstant true g.faults always → IsPick tested always asked t →
      Asked q asked → Asked (q + 1) t
  asked_too q tested always asked t between of_tested of_always of_asked tests is pick asks s few path on =
      by tested_path.0.1 refl
    where
      -- the path of the scenario in the tree of what q's guard tests
      tested_path : (x : Path Bool) × IsOnPath tested.paths s x
      tested_path = the_path g.faults tested.paths of_tested.each s few

      -- the scenario has at most that tree's faults
      few_there : HasAtMostFaults tested.faults s
      few_there = subst (λ k. HasAtMostFaults k s) (sym of_tested.faults) few

      -- its value there is whether q's guard tests c
      value : tested_path.0.1 ≡ is_tested (tree_of guards q) s.values c
      value = (tests s few).value tested_path.0 tested_path.1

      -- by whether the guard tests c: then the tree is true, and otherwise it is as it was
      by : (b : Bool) → tested_path.0.1 ≡ b →
          (path.1 ≡ true → IsAskedOf g order guards node from to c (q + 1) s.values) ×
          (IsAskedOf g order guards node from to c (q + 1) s.values → path.1 ≡ true)
      by true tested_true =
          let always_path = the_path g.faults always.paths of_always.each s few in
          let picked : path.1 ≡ always_path.0.1 = pick.value s tested_path.0 always_path.0 path few_there tested_path.1
          (subst (λ (b : Bool). IsOnPath (if b then always.paths else asked.paths) s always_path.0)
          (sym tested_true) always_path.1) on in (
            λ is_true. record { process = q; below = omega arith; between = between; tested = sym value ∙ tested_true },
            λ asked_of. picked ∙ constant_there true g.faults always is s always_path.0 always_path.1,
          )
      by false tested_false =
          let asked_path = the_path g.faults asked.paths of_asked.each s few in
          let picked : path.1 ≡ asked_path.0.1 = pick.value s tested_path.0 asked_path.0 path few_there tested_path.1
          (subst (λ (b : Bool). IsOnPath (if b then always.paths else asked.paths) s asked_path.0)
          (sym tested_false) asked_path.1) on in (
            λ is_true. more q (q + 1) s (omega arith) ((asks s few asked_path.0 asked_path.1).0 (sym picked ∙ is_true)),
            λ asked_of. picked ∙ (asks s few asked_path.0 asked_path.1).1
                (less q s (λ b tests_it. apart (sym (value ∙ tests_it) ∙ tested_false)) asked_of),
          )

-- the tree that has b's value where a is true, and false elsewhere, is true just where both are
pub both_true : (g : Graph) (a b never t : TreeState Bool) → IsTree g a → IsTree g never →
    IsConstant false g.faults never → IsPick a b never t →
    IsBothTree g.faults a b t
both_true g a b never t of_a of_never is pick s few a_path b_path t_path on_a on_b on_t = by a_path.1 refl
  where
    -- the scenario has at most the tree's faults
    few_there : HasAtMostFaults a.faults s
    few_there = subst (λ k. HasAtMostFaults k s) (sym of_a.faults) few

    -- by the value of the first tree: the second one's where that is true, and false elsewhere
    by : (d : Bool) → a_path.1 ≡ d → t_path.1 ≡ (a_path.1 && b_path.1)
    by true is_d = pick.value s a_path b_path t_path few_there on_a
        (subst (λ (d : Bool). IsOnPath (if d then b.paths else never.paths) s b_path) (sym is_d) on_b) on_t
        ∙ sym (ap (λ (d : Bool). d && b_path.1) is_d)
    by false is_d =
        let never_path = the_path g.faults never.paths of_never.each s few in
        pick.value s a_path never_path.0 t_path few_there on_a
        (subst (λ (d : Bool). IsOnPath (if d then b.paths else never.paths) s never_path.0) (sym is_d) never_path.1)
        on_t
        ∙ constant_there false g.faults never is s never_path.0 never_path.1 ∙
        sym (ap (λ (d : Bool). d && b_path.1) is_d)
