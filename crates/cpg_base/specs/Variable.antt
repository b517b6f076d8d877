-- Which variable has a number, and the greatest value that it takes.
use Rattle.std.specs.Prelude.{ℕ, ◌+◌, ◌-◌, nat_lt, if◌then◌else◌}
use Rattle.cpg_base.specs.declared.variable.Variable.{Variable}
use Rattle.cpg_base.specs.declared.variable.Variable.TheVariants.{Count, Value}

-- the variable with this number: p is that of the fault count of process p, 128 + c that of the value of condition c
abbrev pub variable_at : ℕ → Variable
variable_at v = if nat_lt v 128 then Count v else Value (v - 128)

-- the number of a variable
abbrev pub number_of_variable : Variable → ℕ
number_of_variable (Count p) = p
number_of_variable (Value c) = 128 + c

-- the greatest value that a variable takes with at most k faults: k for a fault count, 1 for a condition's value
abbrev pub top_of : ℕ → Variable → ℕ
top_of k (Count p) = k
top_of k (Value c) = 1

-- the greatest value of the variable with this number: below 128 k, since it is a fault count, and from 128 on 1
abbrev pub top : ℕ → ℕ → ℕ
top k v = if nat_lt v 128 then k else 1
