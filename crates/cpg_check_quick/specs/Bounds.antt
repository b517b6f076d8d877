-- What a node has to hear of a literal: its low and its high, each as a literal whose range is open at the other end.
use Rattle.std.specs.Prelude.{ℕ, ◌==◌, nat_le, if◌then◌else◌, Bool, false, List, [], ◌∷◌, ◌++◌, get_or, max}
use Rattle.cpg_base.specs.Variable.{top}
use Rattle.cpg_cube.specs.declared.literal.Literal.{Literal}

-- the low, unless it is 0: the numbers from it up to the greatest that the variable has with at most `k` faults, or up
-- to the high if that is greater
abbrev pub low_of : ℕ → Literal → List Literal
low_of k l = if l.low == 0 then []
    else record { variable = l.variable; low = l.low; high = max l.high (top k l.variable) } ∷ []

-- the high, unless the variable can't be above it with at most `k` faults: the numbers from 0 up to it
abbrev pub high_of : ℕ → Literal → List Literal
high_of k l = if nat_le (top k l.variable) l.high then []
    else record { variable = l.variable; low = 0; high = l.high } ∷ []

-- the low and the high, as far as the node has to hear them
abbrev pub bounds_of : ℕ → Literal → List Literal
bounds_of k l = low_of k l ++ high_of k l

-- the bounds of a literal that the node has to hear; none if the literal's variable is marked as known
abbrev pub unknown_bounds : ℕ → List Bool → Literal → List Literal
unknown_bounds k known l = if get_or known l.variable false then [] else bounds_of k l
