-- Lists of variables whose order doesn't matter.
use Rattle.std.specs.Prelude.{ℕ, ◌≡◌, List}
use Rattle.cpg_order.specs.Reach.{is_in}

-- a variable is in one list exactly if it is in the other
abbrev pub SameElements : List ℕ → List ℕ → Type 0
SameElements xs ys = (v : ℕ) → is_in xs v ≡ is_in ys v
