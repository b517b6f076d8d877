-- The value of a sieve: places of columns, parted by the numbers of variables.
use Rattle.std.specs.Prelude.{ℕ, ◌+◌, List}

-- a leaf lists places of columns; `Cut v most below above` has the tree for scenarios in which variable `v` is at most
-- `most`, and the tree for the others
pub data Parted : Type 0 where
  Leaf : List ℕ → Parted
  Cut : ℕ → ℕ → Parted → Parted → Parted

-- how many leaves and cuts a tree has
abbrev pub size_of : Parted → ℕ
size_of (Leaf places) = 1
size_of (Cut v most below above) = size_of below + size_of above + 1
