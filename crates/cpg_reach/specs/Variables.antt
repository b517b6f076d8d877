-- Sets of variables: a list of marks, seen as the list of the numbers that are marked.
use Rattle.std.specs.Prelude.{ℕ, ◌≡◌, Bool, false, ◌||◌, List, filter, get_or, length}
use Rattle.cpg_base.specs.Numbers.{numbers_below}
use Rattle.cpg_order.specs.Reach.{is_in}

-- the numbers that are marked, the least first
abbrev pub members : List Bool → List ℕ
members marks = filter (λ v. get_or marks v false) (numbers_below (length marks))

-- `all` has the variables of `some` and of `more`, and no others
abbrev pub Adds : (some more all : List ℕ) → Type 0
Adds some more all = (v : ℕ) → is_in all v ≡ (is_in some v || is_in more v)
