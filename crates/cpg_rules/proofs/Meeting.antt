-- What composed trees come to, in which order they test, and that they are reduced. In the lemmas t is a tree, x a test
-- or none, a the activation of a leaf, c a condition, and k a number that no rank in a tree is below.
use Rattle.std.proofs.Common.{ℕ, ◌+◌, ◌<◌, ◌≤◌, ◌≡◌, ◌≢◌, Bool, true, false, ◌&&◌, ◌==◌, if◌then◌else◌, List, length}
use Rattle.std.proofs.Common.{get_or, Option, Some, None, arith, refl, sym, ap, ◌∙◌, subst, eqb-true, ltb-true}
use Rattle.std.proofs.Common.{ltb-false}
use Rattle.std.specs.Bool.{nat_lt}
use Rattle.std.proofs.lemmas.Bool.{both_ways, eqb-false}
use Rattle.cpg_base.specs.declared.activation.Activation.{Activation}
use Rattle.cpg_base.specs.declared.activation.Activation.TheVariants.{Inactive}
use Rattle.cpg_base.specs.Activity.{is_active}
use Rattle.cpg_base.specs.Numbers.{same_bool}
use Rattle.cpg_order.specs.Guard.{Guard, Leaf, Test, outcome_at, IsReduced}
use Rattle.cpg_rules.specs.declared.edges.ValueTest.{ValueTest}
use Rattle.cpg_rules.specs.Guards.{is_passed}
use Rattle.cpg_rules.specs.Trees.{same_guard, tested}
use Rattle.cpg_rules.specs.Composing.{rank, passing, live_tree, settles, against, met}
use Rattle.cpg_rules.proofs.Equal.{same_guard-is, same_guard-refl}

-- ---- the activations that they give

-- the first activation if it settles the matter
abbrev pub first_settling : Bool → Activation → Activation → Activation
first_settling join a b = if settles join a then a else b

-- given: an outcome o, a value for each condition
module _ (o : List Bool) where
  -- a test gives the activation of the branch that the outcome takes
  tested_at : (c : ℕ) (off on : Guard) →
      outcome_at (tested c off on) o ≡ (if get_or o c false then outcome_at on o else outcome_at off o)
  tested_at c off on = go (same_guard off on) refl
    where
      -- with equal sides it doesn't matter which one is taken
      one_tree : off ≡ on → (v : Bool) → outcome_at off o ≡ (if v then outcome_at on o else outcome_at off o)
      one_tree same true = ap (λ t. outcome_at t o) same
      one_tree same false = refl

      -- by whether the sides are equal, so that no test is made
      go : (b : Bool) → same_guard off on ≡ b →
          outcome_at (if b then off else Test c off on) o
          ≡ (if get_or o c false then outcome_at on o else outcome_at off o)
      go true is = one_tree (same_guard-is off on is) (get_or o c false)
      go false is = refl

  -- the tree of a test gives the activation exactly if the test passes
  passing_at : (a : Activation) (x : Option ValueTest) →
      outcome_at (passing a x) o ≡ (if is_passed x o then a else Inactive)
  passing_at a None = refl
  passing_at a (Some t) = go t.value
    where
      -- the test for true passes exactly if the value is true
      yes_at : (v : Bool) → (if v then a else Inactive) ≡ (if same_bool true v then a else Inactive)
      yes_at true = refl
      yes_at false = refl

      -- a test for the value false chooses the other way around
      no_at : (v : Bool) → (if v then Inactive else a) ≡ (if same_bool false v then a else Inactive)
      no_at true = refl
      no_at false = refl

      -- by the value that the test asks for
      go : (w : Bool) →
          outcome_at (if w then tested t.condition (Leaf Inactive) (Leaf a)
          else tested t.condition (Leaf a) (Leaf Inactive)) o ≡
          (if same_bool w (get_or o t.condition false) then a else Inactive)
      go true = tested_at t.condition (Leaf Inactive) (Leaf a) ∙ yes_at (get_or o t.condition false)
      go false = tested_at t.condition (Leaf a) (Leaf Inactive) ∙ no_at (get_or o t.condition false)

  -- The tree of an input gives the activation exactly if the source is active and the test passes.
  -- By induction on the source's tree: a leaf is replaced, and a test goes on to the side of the outcome.
  pub live_tree_at : (a : Activation) (x : Option ValueTest) (t : Guard) →
      outcome_at (live_tree a x t) o ≡ (if is_active (outcome_at t o) && is_passed x o then a else Inactive)
  live_tree_at a x (Leaf b) = go (is_active b)
    where
      -- by whether the leaf is active
      go : (v : Bool) →
          outcome_at (if v then passing a x else Leaf Inactive) o ≡ (if v && is_passed x o then a else Inactive)
      go true = passing_at a x
      go false = refl
  live_tree_at a x (Test c off on) = tested_at c (live_tree a x off) (live_tree a x on)
      ∙ go (get_or o c false) (live_tree_at a x off) (live_tree_at a x on)
    where
      -- by the value of the condition in the outcome
      go : (v : Bool) →
          outcome_at (live_tree a x off) o ≡ (if is_active (outcome_at off o) && is_passed x o then a else Inactive)
          → outcome_at (live_tree a x on) o ≡ (if is_active (outcome_at on o) && is_passed x o then a else Inactive)
          → (if v then outcome_at (live_tree a x on) o else outcome_at (live_tree a x off) o)
          ≡ (if is_active (if v then outcome_at on o else outcome_at off o) && is_passed x o then a else Inactive)
      go true a_is k = k
      go false a_is k = a_is

  -- given: whether the trees are met for a join, and the ranks of the conditions
  module _ (join : Bool) (ranks : List ℕ) where
    -- given: a test of c at the top of the first tree: `at_off` and `at_on` say what its branches meet in, in the
    -- outcome o
    module _ (c : ℕ) (off on : Guard → Guard) (low high : Activation)
        (at_off : (t : Guard) → outcome_at (off t) o ≡ first_settling join low (outcome_at t o))
        (at_on : (t : Guard) → outcome_at (on t) o ≡ first_settling join high (outcome_at t o)) where
      -- the first tree's activation
      abbrev mine : Activation
      mine = if get_or o c false then high else low

      -- on the first tree's own condition, both sides come to what settles
      own : (t : Guard) → (v : Bool) →
          (if v then outcome_at (on t) o else outcome_at (off t) o)
          ≡ first_settling join (if v then high else low) (outcome_at t o)
      own t true = at_on t
      own t false = at_off t

      -- if both trees test the same condition, both sides come to what settles
      at_once : (d : ℕ) (s t : Guard) → c ≡ d → (v : Bool) → get_or o c false ≡ v
          → (if v then outcome_at (on t) o else outcome_at (off s) o) ≡ first_settling join (if v then high else low)
          (if get_or o d false then outcome_at t o else outcome_at s o)
      at_once d s t same true is =
          at_on t ∙ ap (λ w. first_settling join high (if w then outcome_at t o else outcome_at s o))
          (sym is ∙ ap (λ x. get_or o x false) same)
      at_once d s t same false is =
          at_off s ∙ ap (λ w. first_settling join low (if w then outcome_at t o else outcome_at s o))
          (sym is ∙ ap (λ x. get_or o x false) same)

      -- if both sides come to what settles, so does the value's
      sooner : (x y p q : Activation) → x ≡ first_settling join mine p → y ≡ first_settling join mine q → (w : Bool) →
          (if w then y else x) ≡ first_settling join mine (if w then q else p)
      sooner x y p q x_is y_is true = y_is
      sooner x y p q x_is y_is false = x_is

      -- A tree that goes against another comes to what settles of both.
      -- By induction on the second tree, in the three cases of `against`: the same condition, an earlier one, a later one.
      against_at : (t : Guard) → outcome_at (against ranks c off on t) o ≡ first_settling join mine (outcome_at t o)
      against_at (Leaf b) = tested_at c (off (Leaf b)) (on (Leaf b)) ∙ own (Leaf b) (get_or o c false)
      against_at (Test d s t) = go (c == d) (nat_lt (rank ranks d) (rank ranks c)) refl (against_at s) (against_at t)
        where
          -- by whether both test the same condition, and otherwise by which test is of the earlier one
          go : (a b : Bool) → (c == d) ≡ a →
              outcome_at (against ranks c off on s) o ≡ first_settling join mine (outcome_at s o) →
              outcome_at (against ranks c off on t) o ≡ first_settling join mine (outcome_at t o)
              → outcome_at (if a then tested c (off s) (on t) else (if b then tested d (against ranks c off on s)
              (against ranks c off on t) else tested c (off (Test d s t)) (on (Test d s t)))) o
              ≡ first_settling join mine (if get_or o d false then outcome_at t o else outcome_at s o)
          go true b c_is h k = tested_at c (off s) (on t) ∙ at_once d s t (eqb-true c d c_is) (get_or o c false) refl
          go false true c_is h k = tested_at d (against ranks c off on s) (against ranks c off on t)
              ∙ sooner (outcome_at (against ranks c off on s) o) (outcome_at (against ranks c off on t) o)
              (outcome_at s o) (outcome_at t o) h k (get_or o d false)
          go false false c_is h k = tested_at c (off (Test d s t)) (on (Test d s t)) ∙ own (Test d s t)
              (get_or o c false)

    -- Two trees that are walked down together give the first activation if it settles the matter, or else the second.
    -- By induction on the first tree: a leaf settles or doesn't, and a test goes against the second tree.
    pub met_at : (s t : Guard) →
        outcome_at (met join ranks s t) o ≡ first_settling join (outcome_at s o) (outcome_at t o)
    met_at (Leaf a) t = go (settles join a)
      where
        -- by whether the leaf settles the matter
        go : (v : Bool) → outcome_at (if v then Leaf a else t) o ≡ (if v then a else outcome_at t o)
        go true = refl
        go false = refl
    met_at (Test c off on) t = against_at c (met join ranks off) (met join ranks on) (outcome_at off o)
        (outcome_at on o) (λ u. met_at off u) (λ u. met_at on u) t

-- ---- the order of their tests

-- the tests are of conditions with ranks from one below another, greater ones further down
abbrev pub IsRanked : List ℕ → ℕ → ℕ → Guard → Type 0
IsRanked ranks k m (Leaf a) = Unit {0}
IsRanked ranks k m (Test c off on) = (c < length ranks) × (k ≤ rank ranks c) × (rank ranks c < m) ×
    IsRanked ranks (rank ranks c + 1) m off × IsRanked ranks (rank ranks c + 1) m on

-- given: the ranks of the conditions
module _ (ranks : List ℕ) where
  -- a tree with ranks from a number on has them from each lower number on
  ranked_from : (k l m : ℕ) (t : Guard) → k ≤ l → IsRanked ranks l m t → IsRanked ranks k m t
  ranked_from k l m (Leaf a) lower ranked = tt
  ranked_from k l m (Test c off on) lower ranked =
      (ranked.0, (let a = ranked.1 in omega arith), ranked.2, ranked.3, ranked.4)

  -- A tree with ranks below a bound has them below each greater bound.
  -- By induction on the tree.
  pub ranked_to : (k m n : ℕ) (t : Guard) → m ≤ n → IsRanked ranks k m t → IsRanked ranks k n t
  ranked_to k m n (Leaf a) no_more ranked = tt
  ranked_to k m n (Test c off on) no_more ranked = (
    ranked.0,
    ranked.1,
    (let below_m = ranked.2 in omega arith),
    ranked_to (rank ranks c + 1) m n off no_more ranked.3,
    ranked_to (rank ranks c + 1) m n on no_more ranked.4,
  )

  -- a test of trees with later ranks is ordered by rank
  tested_ranked : (k m c : ℕ) (off on : Guard) → c < length ranks → k ≤ rank ranks c → rank ranks c < m →
      IsRanked ranks (rank ranks c + 1) m off →
      IsRanked ranks (rank ranks c + 1) m on
      → IsRanked ranks k m (tested c off on)
  tested_ranked k m c off on within rank_from rank_below off_ranked on_ranked = go (same_guard off on)
    where
      -- by whether the sides are equal, so that no test is made
      go : (b : Bool) → IsRanked ranks k m (if b then off else Test c off on)
      go true = ranked_from k (rank ranks c + 1) m off (omega arith) off_ranked
      go false = (within, rank_from, rank_below, off_ranked, on_ranked)

  -- a test, if there is one, comes after the tests with ranks below m, and its rank is below n
  pub record IsRankedTest (m n : ℕ) (x : Option ValueTest) : Type 0 where
    -- it is of a condition that has a rank
    pub within : (t : ValueTest) → x ≡ Some t → t.condition < length ranks
    -- this rank is at least m
    pub from : (t : ValueTest) → x ≡ Some t → m ≤ rank ranks t.condition
    -- this rank is below n
    pub to : (t : ValueTest) → x ≡ Some t → rank ranks t.condition < n

  -- the tree of a test is ordered by rank
  passing_ranked : (k m n : ℕ) (a : Activation) (x : Option ValueTest) → IsRankedTest m n x → k ≤ m →
      IsRanked ranks k n (passing a x)
  passing_ranked k m n a None test_ranked at_most = tt
  passing_ranked k m n a (Some t) test_ranked at_most = go t.value
    where
      -- the rank of the test is at least k, since k is at most m
      low : k ≤ rank ranks t.condition
      low = let test_from = test_ranked.from t refl in omega arith

      -- by the value that the test asks for
      go : (w : Bool) →
          IsRanked ranks k n
          (if w then tested t.condition (Leaf Inactive) (Leaf a) else tested t.condition (Leaf a) (Leaf Inactive))
      go true = tested_ranked k n t.condition (Leaf Inactive) (Leaf a)
          (test_ranked.within t refl) low (test_ranked.to t refl) tt tt
      go false = tested_ranked k n t.condition (Leaf a) (Leaf Inactive)
          (test_ranked.within t refl) low (test_ranked.to t refl) tt tt

  -- The tree of an input is ordered by rank, if its test comes after those of the source.
  -- By induction on the source's tree: at a leaf stands the input's own test, with a rank above those on the way.
  pub live_tree_ranked : (k m n : ℕ) (a : Activation) (x : Option ValueTest) (t : Guard) → IsRankedTest m n x → k ≤ m →
      m ≤ n → IsRanked ranks k m t →
      IsRanked ranks k n (live_tree a x t)
  live_tree_ranked k m n a x (Leaf b) r k_at_most m_at_most ranked = go (is_active b)
    where
      -- by whether the leaf is active
      go : (v : Bool) → IsRanked ranks k n (if v then passing a x else Leaf Inactive)
      go true = passing_ranked k m n a x r k_at_most
      go false = tt
  live_tree_ranked k m n a x (Test c off on) r k_at_most m_at_most ranked =
      let below : rank ranks c < m = ranked.2 in
      tested_ranked k n c (live_tree a x off) (live_tree a x on) ranked.0 ranked.1 (omega arith)
      (live_tree_ranked (rank ranks c + 1) m n a x off r (omega arith) m_at_most ranked.3)
      (live_tree_ranked (rank ranks c + 1) m n a x on r (omega arith) m_at_most ranked.4)

  -- given: different conditions have different ranks (`apart`), and a number m below which ranks are to stay
  module _ (apart : (c d : ℕ) → c < length ranks → d < length ranks → rank ranks c ≡ rank ranks d → c ≡ d) (m : ℕ) where
    -- given: a test at the top of the first tree, whose branches keep trees ordered by rank
    -- `within`, `below`: c is a condition, with a rank below m. `of_off`, `of_on`: the branches keep the order by
    -- rank.
    module _ (c : ℕ) (within : c < length ranks) (below : rank ranks c < m) (off on : Guard → Guard)
        (of_off : (t : Guard) → IsRanked ranks (rank ranks c + 1) m t → IsRanked ranks (rank ranks c + 1) m (off t))
        (of_on : (t : Guard) → IsRanked ranks (rank ranks c + 1) m t → IsRanked ranks (rank ranks c + 1) m (on t)) where
      -- a tree that goes against another tests in the order of the ranks
      against_ranked : (k : ℕ) (t : Guard) → k ≤ rank ranks c → IsRanked ranks k m t →
          IsRanked ranks k m (against ranks c off on t)
      against_ranked k (Leaf b) rank_from ranked =
          tested_ranked k m c (off (Leaf b)) (on (Leaf b)) within rank_from below (of_off (Leaf b) tt)
          (of_on (Leaf b) tt)
      against_ranked k (Test d s t) rank_from ranked = go (c == d) (nat_lt (rank ranks d) (rank ranks c)) refl refl
          (λ l. against_ranked (rank ranks d + 1) s l ranked.3) (λ l. against_ranked (rank ranks d + 1) t l ranked.4)
        where
          -- by whether both test the same condition, and otherwise by which test is of the earlier one
          go : (a b : Bool) → (c == d) ≡ a → nat_lt (rank ranks d) (rank ranks c) ≡ b
              → (rank ranks d + 1 ≤ rank ranks c → IsRanked ranks (rank ranks d + 1) m (against ranks c off on s)) →
              (rank ranks d + 1 ≤ rank ranks c → IsRanked ranks (rank ranks d + 1) m (against ranks c off on t))
              → IsRanked ranks k m (if a then tested c (off s) (on t) else
              (if b then tested d (against ranks c off on s) (against ranks c off on t)
              else tested c (off (Test d s t)) (on (Test d s t))))
          go true b same_test which_first low high =
              let same = eqb-true c d same_test in
              tested_ranked k m c (off s) (on t) within rank_from below
              (of_off s (subst (λ x. IsRanked ranks (rank ranks x + 1) m s) (sym same) ranked.3))
              (of_on t (subst (λ x. IsRanked ranks (rank ranks x + 1) m t) (sym same) ranked.4))
          go false true same_test which_first low high =
              let rank_order : rank ranks d < rank ranks c = ltb-true (rank ranks d) (rank ranks c) which_first in
              tested_ranked k m d (against ranks c off on s) (against ranks c off on t) ranked.0 ranked.1 ranked.2
              (low (omega arith))
              (high (omega arith))
          go false false same_test which_first low high =
              let rank_order : rank ranks c ≤ rank ranks d = ltb-false (rank ranks d) (rank ranks c) which_first in
              let differ : rank ranks c ≢ rank ranks d = λ same. eqb-false c d same_test
              (apart c d within ranked.0 same) in
              let later : IsRanked ranks (rank ranks c + 1) m (Test d s t) =
              (ranked.0, omega (arith, differ), ranked.2, ranked.3, ranked.4) in
              tested_ranked k m c (off (Test d s t)) (on (Test d s t)) within rank_from below
              (of_off (Test d s t) later)
              (of_on (Test d s t) later)

    -- Two trees that are walked down together are ordered by rank.
    -- By induction on the first tree, since of two tests the one of lower rank comes first.
    pub met_ranked : (join : Bool) (k : ℕ) (s t : Guard) → IsRanked ranks k m s → IsRanked ranks k m t →
        IsRanked ranks k m (met join ranks s t)
    met_ranked join k (Leaf a) t k_ranked q = go (settles join a)
      where
        -- by whether the leaf settles the matter
        go : (v : Bool) → IsRanked ranks k m (if v then Leaf a else t)
        go true = tt
        go false = q
    met_ranked join k (Test c off on) t k_ranked q = against_ranked c k_ranked.0 k_ranked.2 (met join ranks off)
        (met join ranks on)
        (λ u h. met_ranked join (rank ranks c + 1) off u k_ranked.3 h)
        (λ u h. met_ranked join (rank ranks c + 1) on u k_ranked.4 h) k t k_ranked.1 q

-- ---- they are reduced

-- a test of reduced trees is reduced: if both are equal, there is no test
pub tested_reduced : (c : ℕ) (off on : Guard) → IsReduced off → IsReduced on → IsReduced (tested c off on)
tested_reduced c off on h j = go (same_guard off on) refl
  where
    -- by whether the sides are equal, so that no test is made
    go : (b : Bool) → same_guard off on ≡ b → IsReduced (if b then off else Test c off on)
    go true is = h
    go false is = (
      λ same. both_ways (same_guard off on) is (subst (λ t. same_guard off t ≡ true) same (same_guard-refl off)),
      h,
      j,
    )

-- the tree of an activation behind a test, if there is one, is reduced
passing_reduced : (a : Activation) (x : Option ValueTest) → IsReduced (passing a x)
passing_reduced a None = tt
passing_reduced a (Some t) = go t.value
  where
    -- by the value that the test asks for
    go : (w : Bool) →
        IsReduced (if w then tested t.condition (Leaf Inactive) (Leaf a)
        else tested t.condition (Leaf a) (Leaf Inactive))
    go true = tested_reduced t.condition (Leaf Inactive) (Leaf a) tt tt
    go false = tested_reduced t.condition (Leaf a) (Leaf Inactive) tt tt

-- The tree of an input is reduced.
-- By induction on the source's tree: each test is made by `tested`.
pub live_tree_reduced : (a : Activation) (x : Option ValueTest) (t : Guard) → IsReduced (live_tree a x t)
live_tree_reduced a x (Leaf b) = go (is_active b)
  where
    -- by whether the leaf is active
    go : (v : Bool) → IsReduced (if v then passing a x else Leaf Inactive)
    go true = passing_reduced a x
    go false = tt
live_tree_reduced a x (Test c off on) =
    tested_reduced c (live_tree a x off) (live_tree a x on) (live_tree_reduced a x off) (live_tree_reduced a x on)

-- given: a test of c at the top of the first tree, whose branches keep trees reduced: no test has two equal sides
module _ (ranks : List ℕ) (c : ℕ) (off on : Guard → Guard) (of_off : (t : Guard) → IsReduced t → IsReduced (off t))
    (of_on : (t : Guard) → IsReduced t → IsReduced (on t)) where
  -- a tree that goes against another is reduced
  against_reduced : (t : Guard) → IsReduced t → IsReduced (against ranks c off on t)
  against_reduced (Leaf b) r = tested_reduced c (off (Leaf b)) (on (Leaf b)) (of_off (Leaf b) tt) (of_on (Leaf b) tt)
  against_reduced (Test d s t) r =
      go (c == d) (nat_lt (rank ranks d) (rank ranks c)) (against_reduced s r.1) (against_reduced t r.2)
    where
      -- by whether both test the same condition, and otherwise by which test is of the earlier one
      go : (a b : Bool) → IsReduced (against ranks c off on s) → IsReduced (against ranks c off on t)
          → IsReduced (if a then tested c (off s) (on t) else (if b then tested d (against ranks c off on s)
          (against ranks c off on t) else tested c (off (Test d s t)) (on (Test d s t))))
      go true b h k = tested_reduced c (off s) (on t) (of_off s r.1) (of_on t r.2)
      go false true h k = tested_reduced d (against ranks c off on s) (against ranks c off on t) h k
      go false false h k =
          tested_reduced c (off (Test d s t)) (on (Test d s t)) (of_off (Test d s t) r) (of_on (Test d s t) r)

-- Two reduced trees that are walked down together make a reduced tree.
-- By induction on the first tree: each test is made by `tested`.
pub met_reduced : (join : Bool) (ranks : List ℕ) (s t : Guard) → IsReduced s → IsReduced t →
    IsReduced (met join ranks s t)
met_reduced join ranks (Leaf a) t r q = go (settles join a)
  where
    -- by whether the leaf settles the matter
    go : (v : Bool) → IsReduced (if v then Leaf a else t)
    go true = tt
    go false = q
met_reduced join ranks (Test c off on) t r q =
    against_reduced ranks c (met join ranks off) (met join ranks on) (λ u h. met_reduced join ranks off u r.1 h)
    (λ u h. met_reduced join ranks on u r.2 h) t q
