-- Trees of the number of one variable.
use Rattle.std.proofs.Common.{ℕ, ◌+◌, ◌-◌, ◌<◌, ◌≤◌, ◌≡◌, Bool, true, false, nat_lt, get_or, arith, refl, ap, ◌∙◌, inl}
use Rattle.std.proofs.Common.{inr, lt-ltb, le-ltb, cond, map, replicate, rules}
use Rattle.std.specs.Prelude.{nat_le}
use Rattle.std.proofs.lemmas.Bool.{cases_lt, cond-true, cond-false, le-leb, and_from, or_left, or_right}
use Rattle.std.proofs.lemmas.List.{get_or-set_same, get_or-replicate}
use Rattle.std.proofs.lemmas.List.FromFn.{length-map-range_with_len}
use Rattle.cpg_base.specs.Scenario.{number_of_value, Scenario, number_of}
use Rattle.cpg_base.specs.Numbers.{numbers_below}
use Rattle.cpg_base.proofs.Lists.{get_or-map-below}
use Rattle.cpg_tree.specs.TreeNode.{TreeNode, Leaf}
use Rattle.cpg_tree.specs.Space.{Space, HasAtMostFaults, IsWhole, is_open_below, is_open_above, above_cut}
use Rattle.cpg_tree.specs.Decision.{value_at, IsGood}
use Rattle.cpg_tree.specs.Results.{IsForkOf}
use Rattle.cpg_tree.specs.Tree.{IsNumber}
use Rattle.cpg_tree.specs.Variables.{ForksOnly, AreCountsFrom, LeavesCounts, IsValueNode}
use Rattle.cpg_tree.proofs.PathLaws.{found}
use Rattle.cpg_tree.proofs.Publics.{state}
use Rattle.cpg_tree.proofs.Spaces.{number_le_top}

-- a leaf has no forks on any variable
pub leaf_only : {T : Type 0} (v : ℕ) (x : T) → ForksOnly v (Leaf x)
leaf_only v x = record { low = λ s u other. omega arith; high = λ k s u other. omega arith }

-- a fork on a variable has no forks on others if its sides have none
fork_only : {T : Type 0} (v cut : ℕ) (below above r : TreeNode T) → ForksOnly v below → ForksOnly v above →
    IsForkOf v cut below above r → ForksOnly v r
-- a scenario finds for another variable what it finds on its side of the cut, which has no fork on it
fork_only v cut below above r one two fork = record {
  low = λ s u other. elim (cases_lt cut (number_of s v)) [
    | inl is_above ↦ omega (arith, fork.low_above s u is_above other, two.low s u other)
    | inr is_below ↦ omega (arith, fork.low_below s u is_below, one.low s u other)
  ];
  high = λ k s u other. elim (cases_lt cut (number_of s v)) [
    | inl is_above ↦ omega (arith, fork.high_above k s u is_above, two.high k s u other)
    | inr is_below ↦ omega (arith, fork.high_below k s u is_below other, one.high k s u other)
  ];
}

-- the last count of a process is a leaf
pub last_count : (p k : ℕ) → AreCountsFrom p k k (Leaf k)
last_count p k = record { value = λ s low high. omega (arith, low, high); only = leaf_only p k }

-- a fork at a count, with the higher counts above it, has all counts from this one on
pub more_counts : (p first k : ℕ) (above r : TreeNode ℕ) → AreCountsFrom p (first + 1) k above →
    IsForkOf p first (Leaf first) above r →
    AreCountsFrom p first k r
-- a scenario up to `first` finds `first`, and any other finds its count above; the forks of both sides are on p
more_counts p first k above r rest fork = record {
  value = λ s low high. elim (cases_lt first (number_of s p)) [
    | inl is_above ↦ fork.value_above s is_above ∙ rest.value s (omega (arith, is_above)) high
    | inr is_below ↦ fork.value_below s is_below ∙ omega (arith, low, is_below)
  ];
  only = fork_only p first (Leaf first) above r (leaf_only p first) rest.only fork;
}

-- given: a space that leaves the count p the numbers from `first` to k, of which there are several
module _ (space : Space) (p first k : ℕ) (count : p < 128) (leaves : LeavesCounts space p first k)
    (less : first < k) where
  -- the cut of the count at `first` is open below
  pub counts_open_below : is_open_below space p first ≡ true
  counts_open_below = le-leb (get_or space.low p 0) first (omega (arith, leaves.low))

  -- the cut of the count at `first` is open above
  pub counts_open_above : is_open_above space p first ≡ true
  counts_open_above = and_from _ _ (lt-ltb first (get_or space.high p 0) (omega (arith, leaves.high, less)))
      (or_right (nat_le 128 p) _
      (lt-ltb first (get_or space.low p 0 + space.left) (omega (arith, leaves.low, leaves.left, less))))

  -- closed below the first count, the space leaves the counts from the next one to k
  pub counts_above : LeavesCounts (above_cut space p first) p (first + 1) k
  -- the low rises by one, and so the faults left are one fewer
  counts_above = record {
    long = search rules;
    low = get_or-set_same space.low p (first + 1) 0 (omega (arith, leaves.long, count));
    high = leaves.high;
    left = omega (
      arith,
      leaves.left,
      less,
      leaves.low,
      cond-true (nat_lt p 128) (first + 1 - get_or space.low p 0) 0 (lt-ltb p 128 count),
    );
  }

-- in the space of all scenarios all counts of a process are left
pub whole_counts : (k : ℕ) (space : Space) (p : ℕ) → p < 128 → IsWhole k space → LeavesCounts space p 0 k
whole_counts k space p count whole = record {
  long = whole.long;
  low = whole.lows p (omega (arith, count));
  high = whole.counts p count;
  left = omega (arith, whole.left);
}

-- ---- values

-- a fork of false and true is the value of a condition
pub value_is : (v : ℕ) (r : TreeNode Bool) → IsForkOf v 0 (Leaf false) (Leaf true) r → IsValueNode v r
-- a scenario whose number of v is 1 finds true above the cut, and one whose number is 0 finds false below it
value_is v r fork = record {
  value = λ s few. elim (cases_lt 0 (number_of s v)) [
    | inl gt ↦ ap number_of_value (fork.value_above s gt) ∙ omega (arith, few, gt)
    | inr le ↦ ap number_of_value (fork.value_below s le) ∙ omega (arith, le)
  ];
  only = fork_only v 0 (Leaf false) (Leaf true) r (leaf_only v false) (leaf_only v true) fork;
}

-- given: the variable of a condition's value, in the space of all scenarios
module _ (k : ℕ) (space : Space) (whole : IsWhole k space) (v : ℕ) (value : 128 ≤ v) (there : v < 256) where
  -- the cut 0 of a value is open below
  pub value_open_below : is_open_below space v 0 ≡ true
  value_open_below = le-leb (get_or space.low v 0) 0 (omega (arith, whole.lows v there))

  -- the cut 0 of a value is open above
  pub value_open_above : is_open_above space v 0 ≡ true
  value_open_above = and_from _ _ (lt-ltb 0 (get_or space.high v 0) (omega (arith, whole.values v value there)))
      (or_left (nat_le 128 v) _ (le-leb 128 v value))

-- ---- said of paths

-- a good tree of the number of a variable is one in its paths too
pub number_paths : {T : Type 0} (v k : ℕ) (number : T → ℕ) (node : TreeNode T) → IsGood k node →
    ((s : Scenario) → HasAtMostFaults k s → number (value_at node s) ≡ number_of s v) →
    ForksOnly v node →
    IsNumber v k number (state k node)
number_paths v k number node good value only = record {
  faults = refl;
  value = λ s x few on. ap number (found k node good s x on).value ∙ value s few;
  low = λ s x u few on other. omega (arith, (found k node good s x on).low u, only.low s u other);
  high = λ s x u few on other. omega (arith, (found k node good s x on).high u, only.high k s u other);
}

-- ---- there is a space of all scenarios

-- there is a space of all scenarios of at most k faults
pub some_whole : (k : ℕ) → (space : Space) × IsWhole k space
-- lows of 0; highs of k for counts and 1 for values; k faults left
some_whole k = (
  record { low = replicate 256 0; high = map tops (numbers_below 256); left = k },
  record {
    long = search rules;
    high_long = length-map-range_with_len tops 0 256;
    lows = λ v below. get_or-replicate 256 v 0 0 below;
    counts = λ v below. get_or-map-below tops 256 v 0 (omega (arith, below))
        ∙ cond-true (nat_lt v 128) k 1 (lt-ltb v 128 below);
    values = λ v from below. get_or-map-below tops 256 v 0 below ∙ cond-false (nat_lt v 128) k 1 (le-ltb v 128 from);
    left = refl;
  },
)
  where
    -- the most that each variable can be in a scenario of k faults: k for a count, 1 for a value
    tops : ℕ → ℕ
    tops v = cond (nat_lt v 128) k 1

-- given: a scenario of at most k faults, and a variable
module _ (k : ℕ) (s : Scenario) (few : HasAtMostFaults k s) (v : ℕ) where
  -- a count of the scenario is at most k
  pub count_at_most : v < 128 → number_of s v ≤ k
  count_at_most below = omega (arith, number_le_top k s few v, cond-true (nat_lt v 128) k 1 (lt-ltb v 128 below))

  -- a value has the number 0 or 1
  pub value_at_most : 128 ≤ v → number_of s v ≤ 1
  value_at_most from = omega (arith, number_le_top k s few v, cond-false (nat_lt v 128) k 1 (le-ltb v 128 from))
