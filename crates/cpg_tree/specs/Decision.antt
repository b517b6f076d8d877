-- Decision trees: a value, or a fork by the number of a variable; and what a scenario finds on its way down.
use Rattle.std.specs.Prelude.{ℕ, ◌+◌, ◌<◌, ◌≡◌, true, max, min, ◌==◌, nat_le, Bool, if◌then◌else◌}
use Rattle.cpg_base.specs.Scenario.{Scenario, number_of}
use Rattle.cpg_base.specs.Variable.{top}
use Rattle.cpg_tree.specs.Space.{Space, IsWhole, is_open_below, is_open_above, below_cut, above_cut}
use Rattle.cpg_tree.specs.TreeNode.{TreeNode, Leaf, Fork}

-- the value at the leaf that a scenario comes to: it goes below at a fork if its number is at most the cut, else above
abbrev pub value_at : {T : Type 0} → TreeNode T → Scenario → T
value_at (Leaf x) s = x
value_at (Fork v cut below above) s = if nat_le (number_of s v) cut then value_at below s else value_at above s

-- The least number of v with which a scenario still goes this way through the forks on v: one more than the greatest
-- cut that it passes above, or 0 if it passes above none.
abbrev pub low_at : {T : Type 0} → TreeNode T → Scenario → ℕ → ℕ
low_at (Leaf x) s v = 0
low_at (Fork u cut below above) s v = if nat_le (number_of s u) cut then low_at below s v else
    if u == v then max (cut + 1) (low_at above s v) else low_at above s v

-- The greatest number of v with which a scenario still goes this way through the forks on v: the least cut on v at
-- which it goes below, or, if there is none, the greatest number that v can have with at most k faults.
abbrev pub high_at : {T : Type 0} → ℕ → TreeNode T → Scenario → ℕ → ℕ
high_at k (Leaf x) s v = top k v
high_at k (Fork u cut below above) s v = if nat_le (number_of s u) cut
    then (if u == v then min cut (high_at k below s v) else high_at k below s v) else high_at k above s v

-- a tree fits a space if the part of the space that comes to each fork is open on both sides of its cut
abbrev pub IsFit : {T : Type 0} → Space → TreeNode T → Type 0
IsFit space (Leaf x) = Unit {0}
IsFit space (Fork v cut below above) =
    (v < 256) × (is_open_below space v cut ≡ true) × (is_open_above space v cut ≡ true) ×
    IsFit (below_cut space v cut) below × IsFit (above_cut space v cut) above

-- a tree fits the space of all scenarios of at most k faults, so that some of them come to each side of each fork
abbrev pub IsGood : {T : Type 0} → ℕ → TreeNode T → Type 0
IsGood k node = (space : Space) × IsWhole k space × IsFit space node

-- the variable of each fork passes the test
abbrev pub DoForksPass : {T : Type 0} → (ℕ → Bool) → TreeNode T → Type 0
DoForksPass test (Leaf x) = Unit {0}
DoForksPass test (Fork v cut below above) = (test v ≡ true) × DoForksPass test below × DoForksPass test above

-- each fork is on one of the 256 variables, and its cut is less than the greatest number that the variable can have
abbrev pub HasCuts : {T : Type 0} → ℕ → TreeNode T → Type 0
HasCuts k (Leaf x) = Unit {0}
HasCuts k (Fork v cut below above) = (v < 256) × (cut < top k v) × HasCuts k below × HasCuts k above
