-- Sizes, equality and making of guard trees.
use Rattle.std.specs.Prelude.{ℕ, ◌+◌, ◌<◌, Bool, false, ◌&&◌, ◌==◌, if◌then◌else◌}
use Rattle.cpg_base.specs.Activity.{same_activation}
use Rattle.cpg_order.specs.Guard.{Guard, Leaf, Test}

-- each test in a tree is of a condition below n
abbrev pub TestsBelow : ℕ → Guard → Type 0
TestsBelow n (Leaf a) = Unit {0}
TestsBelow n (Test c off on) = (c < n) × TestsBelow n off × TestsBelow n on

-- how many leaves and tests a tree has
abbrev pub size_of : Guard → ℕ
size_of (Leaf a) = 1
size_of (Test c off on) = size_of off + size_of on + 1

-- whether two trees are equal
abbrev pub same_guard : Guard → Guard → Bool
same_guard (Leaf a) (Leaf b) = same_activation a b
same_guard (Leaf a) (Test d low high) = false
same_guard (Test c off on) (Leaf b) = false
same_guard (Test c off on) (Test d low high) = (c == d) && (same_guard off low && same_guard on high)

-- the tree that tests c and goes on with one of two sides; if both are equal there is nothing to test
abbrev pub tested : ℕ → Guard → Guard → Guard
tested c off on = if same_guard off on then off else Test c off on
