-- What the operations on decision trees answer, in terms of the trees that they are given.
use Rattle.std.specs.Prelude.{⊤, ℕ, ◌+◌, ◌≡◌, ◌≢◌, ◌≤◌, ◌<◌, max, min, Bool, true, false, if◌then◌else◌}
use Rattle.cpg_base.specs.Scenario.{Scenario, number_of}
use Rattle.cpg_base.specs.Variable.{top}
use Rattle.cpg_tree.specs.TreeNode.{TreeNode}
use Rattle.cpg_tree.specs.Space.{Space, IsInSpace}
use Rattle.cpg_tree.specs.Decision.{value_at, low_at, high_at}

-- r has the values of `below` if v is at most the cut and of `above` otherwise; its ranges are no narrower than those
-- of a fork
pub record IsForkOf {T : Type 0} (v cut : ℕ) (below above r : TreeNode T) : Type 0 where
  -- a scenario up to the cut has the value of the first tree, and one above the cut that of the second
  pub value_below : (s : Scenario) → number_of s v ≤ cut → value_at r s ≡ value_at below s
  pub value_above : (s : Scenario) → cut < number_of s v → value_at r s ≡ value_at above s
  -- each low of r is at most that of the side gone to; above the cut that of v may also be `cut + 1`
  pub low_below : (s : Scenario) (u : ℕ) → number_of s v ≤ cut → low_at r s u ≤ low_at below s u
  pub low_above : (s : Scenario) (u : ℕ) → cut < number_of s v → u ≢ v → low_at r s u ≤ low_at above s u
  pub low_here : (s : Scenario) → cut < number_of s v → low_at r s v ≤ max (cut + 1) (low_at above s v)
  -- each high of r is at least that of the side gone to; up to the cut that of v may also be the cut
  pub high_below : (k : ℕ) (s : Scenario) (u : ℕ) → number_of s v ≤ cut → u ≢ v → high_at k below s u ≤ high_at k r s u
  pub high_here : (k : ℕ) (s : Scenario) → number_of s v ≤ cut → min cut (high_at k below s v) ≤ high_at k r s v
  pub high_above : (k : ℕ) (s : Scenario) (u : ℕ) → cut < number_of s v → high_at k above s u ≤ high_at k r s u

-- in each scenario of a domain the fact holds of r's value, and r's range of each variable contains that from low to
-- high
pub record IsResultTree {T : Type 0} (domain : Scenario → Type 0) (fact : Scenario → T → Type 0)
    (low : Scenario → ℕ → ℕ)
    (high : ℕ → Scenario → ℕ → ℕ) (r : TreeNode T) : Type 0 where
  pub value : (s : Scenario) → domain s → fact s (value_at r s)
  -- the tree's range may be wider than the given one, but not narrower
  pub lows : (s : Scenario) (v : ℕ) → domain s → low_at r s v ≤ low s v
  pub highs : (k : ℕ) (s : Scenario) (v : ℕ) → domain s → high k s v ≤ high_at k r s v

-- in every scenario r's value is an answer to that of a, by ranges that contain those of a
abbrev pub IsMapOf : {T U : Type 0} → (T → U → Type 0) → TreeNode T → TreeNode U → Type 0
IsMapOf answers a r = IsResultTree (λ s. ⊤) (λ s z. answers (value_at a s) z) (low_at a) (λ k. high_at k a) r

-- in the scenarios of a space r has the values of a, by ranges that contain those of a
abbrev pub IsTreeWithin : {T : Type 0} → Space → TreeNode T → TreeNode T → Type 0
IsTreeWithin space a r = IsResultTree (IsInSpace space) (λ s z. z ≡ value_at a s) (low_at a) (λ k. high_at k a) r

-- in the scenarios of a space r's value is an answer to x and to that of b, by ranges that contain those of b
abbrev pub IsFillOf : {T U V : Type 0} → (T → U → V → Type 0) → Space → T → TreeNode U → TreeNode V → Type 0
IsFillOf answers space x b r =
    IsResultTree (IsInSpace space) (λ s z. answers x (value_at b s) z) (low_at b) (λ k. high_at k b) r

-- in the scenarios of a space r's value is an answer to those of a and b, by ranges that contain what a and b share
abbrev pub IsJoinOf : {T U V : Type 0} → (T → U → V → Type 0) → Space → TreeNode T → TreeNode U → TreeNode V → Type 0
IsJoinOf answers space a b r = IsResultTree (IsInSpace space) (λ s z. answers (value_at a s) (value_at b s) z)
    (λ s v. max (low_at a s v) (low_at b s v)) (λ k s v. min (high_at k a s v) (high_at k b s v)) r

-- in the scenarios of a domain r's value is an answer to those of a and b, by ranges that contain what a and b share
abbrev pub IsJoinIn : {T U V : Type 0} → (T → U → V → Type 0) → (Scenario → Type 0) → TreeNode T → TreeNode U →
    TreeNode V → Type 0
IsJoinIn answers domain a b r = IsResultTree domain (λ s z. answers (value_at a s) (value_at b s) z)
    (λ s v. max (low_at a s v) (low_at b s v)) (λ k s v. min (high_at k a s v) (high_at k b s v)) r

-- the fact holds if the chooser is true, and otherwise the value z is `none`
abbrev pub HoldsIfChosen : {V : Type 0} → Bool → Type 0 → V → V → Type 0
HoldsIfChosen true fact none z = fact
HoldsIfChosen false fact none z = z ≡ none

-- In the scenarios of a domain r's value is an answer to those of a and b if the chooser is true, and otherwise `none`.
-- Its ranges contain what those of the chooser and, if it is true, of a and b share.
abbrev pub IsJoinWhereOf : {T U V : Type 0} → (T → U → V → Type 0) → V → (Scenario → Type 0) → TreeNode Bool →
    TreeNode T → TreeNode U → TreeNode V → Type 0
IsJoinWhereOf answers none domain chooser a b r =
    IsResultTree domain (λ s z. HoldsIfChosen (value_at chooser s) (answers (value_at a s) (value_at b s) z) none z)
    (λ s v. max (low_at chooser s v) (if value_at chooser s then max (low_at a s v) (low_at b s v) else 0))
    (λ k s v.
    min (high_at k chooser s v) (if value_at chooser s then min (high_at k a s v) (high_at k b s v) else top k v)) r

-- `on` if the chooser is true, and otherwise `off`
abbrev pub picked : {T : Type 0} → Bool → TreeNode T → TreeNode T → TreeNode T
picked b on off = if b then on else off

-- In the scenarios of a space r has the value of the tree that the chooser picks there. Its ranges contain what those
-- of the chooser and of the tree picked share.
abbrev pub IsPickOf : {T : Type 0} → Space → TreeNode Bool → TreeNode T → TreeNode T → TreeNode T → Type 0
IsPickOf space chooser on off r =
    IsResultTree (IsInSpace space) (λ s z. z ≡ value_at (picked (value_at chooser s) on off) s)
    (λ s v. max (low_at chooser s v) (low_at (picked (value_at chooser s) on off) s v))
    (λ k s v. min (high_at k chooser s v) (high_at k (picked (value_at chooser s) on off) s v)) r
