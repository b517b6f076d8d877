-- Kinds of columns. Columns that touch are of one kind and ask different amounts: they have one time and literals on
-- the same variables, and the later one has a greater low.
use Rattle.std.specs.Prelude.{ℕ, ◌%◌, ◌≡◌, ◌≢◌, Bool, false, List, length, get_or, sum_by, Contains}
use Rattle.cpg_cube.specs.declared.literal.Literal.{Literal}
use Rattle.cpg_cube.specs.declared.column.Column.{Column}
use Rattle.cpg_merging.specs.declared.kinds.ColumnKind.{ColumnKind}
use Rattle.cpg_merging.specs.Demands.{low_of}
use Rattle.cpg_merging.specs.Totals.{mixed, place_in, IsMarked}

-- the variable of a literal
abbrev pub variable_of : Literal → ℕ
variable_of l = l.variable

-- The kind of a column with this time and these literals: a number that mixes the time, how many literals there are
-- and the sum of their variables; and how much the column asks, the sum of their lows. Both sums are bytes.
abbrev pub kind_by : ℕ → List Literal → ColumnKind
kind_by time literals = record {
  number = mixed (mixed (mixed 0 time) (length literals)) (sum_by variable_of literals % 256);
  asked = sum_by low_of literals % 256;
}

-- the kind of a column, by its time and its literals
abbrev pub kind_of : Column → ColumnKind
kind_of c = kind_by c.time c.cube

-- `amounts` has an amount for each place, and `differing` says where columns of one place ask differently. If that
-- isn't noted at the place of this kind, the amount there is the one that the kind asks.
abbrev pub IsTold : List ℕ → List Bool → ColumnKind → Type 0
IsTold amounts differing kind = ¬ IsMarked differing (place_in (length amounts) kind.number) →
    get_or amounts (place_in (length amounts) kind.number) 0 ≡ kind.asked

-- what `amounts` and `differing` say is right for each of these kinds (`IsTold`)
abbrev pub AreTold : List ℕ → List Bool → List ColumnKind → Type 0
AreTold amounts differing kinds = (kind : ColumnKind) → Contains kinds kind → IsTold amounts differing kind

-- whether the place of the column's kind has columns that ask differently
abbrev pub is_candidate : List Bool → Column → Bool
is_candidate differing c = get_or differing (place_in (length differing) (kind_of c).number) false

-- any two columns with the same kind number that ask differently are both among the candidates
abbrev pub HoldCandidates : List Column → List Column → Type 0
HoldCandidates columns candidates =
    (c d : Column) → Contains columns c → Contains columns d → (kind_of c).number ≡ (kind_of d).number →
    (kind_of c).asked ≢ (kind_of d).asked → Contains candidates c × Contains candidates d
