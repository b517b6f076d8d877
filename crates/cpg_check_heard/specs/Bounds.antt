-- Bounds: a literal says that its variable is at least its low and at most its high. A node may hear each by itself.
use Rattle.std.specs.Prelude.{ℕ, Bool, ◌&&◌, ◌||◌, ◌==◌, nat_le, List}
use Rattle.std.specs.List.{list_any}
use Rattle.cpg_base.specs.Graph.{Graph}
use Rattle.cpg_base.specs.Scenario.{Scenario}
use Rattle.cpg_base.specs.Variable.{top}
use Rattle.cpg_cube.specs.declared.literal.Literal.{Literal}
use Rattle.cpg_table.specs.Table.{NodeTable}
use Rattle.cpg_table.specs.Heard.{facts}
use Rattle.cpg_check_heard.specs.declared.bound.LiteralBound.{LiteralBound}
use Rattle.cpg_check_heard.specs.declared.bound.LiteralBound.TheVariants.{Low, High}

-- the bound that the low of a literal sets
abbrev pub low_of : Literal → LiteralBound
low_of l = Low l.variable l.low

-- the bound that the high of a literal sets
abbrev pub high_of : Literal → LiteralBound
high_of l = High l.variable l.high

-- the variable that a bound is about
abbrev pub variable_of : LiteralBound → ℕ
variable_of (Low v least) = v
variable_of (High v most) = v

-- whether every number that a variable may have, with at most `k` faults, is within a bound
abbrev pub is_free : ℕ → LiteralBound → Bool
is_free k (Low v least) = least == 0
is_free k (High v most) = nat_le (top k v) most

-- whether literal `m` tells a bound: it is on the same variable, and its range is within the bound
abbrev pub tells : LiteralBound → Literal → Bool
tells (Low v least) m = (m.variable == v) && nat_le least m.low
tells (High v most) m = (m.variable == v) && nat_le m.high most

-- the numbers within a bound, up to the greatest that the variable may have with at most `k` faults
abbrev pub range_of : ℕ → LiteralBound → Literal
range_of k (Low v least) = record { variable = v; low = least; high = top k v }
range_of k (High v most) = record { variable = v; low = 0; high = most }

-- whether a node need not be told a bound, as every number is within it, or has been told it by `time`
abbrev pub is_told : Graph → List NodeTable → ℕ → ℕ → LiteralBound → Scenario → Bool
is_told g tables node time b s = is_free g.faults b || list_any (tells b) (facts g tables node s time)
