-- How much a column asks: the sum of the lows of its literals, as a byte. If two columns touch, they have one time,
-- and the later one asks more, so their demands differ.
use Rattle.std.specs.Prelude.{ℕ, ◌+◌, ◌*◌, ◌/◌, ◌^◌, ◌%◌, ◌≡◌, List, sum_by, Contains}
use Rattle.cpg_cube.specs.declared.literal.Literal.{Literal}
use Rattle.cpg_cube.specs.declared.column.Column.{Column}

-- the least number of a literal's range
abbrev pub low_of : Literal → ℕ
low_of l = l.low

-- the demand of a column: its time times 256, plus how much it asks, in 64 bits
abbrev pub demand_of : Column → ℕ
demand_of c = (c.time * 256 % 2 ^ 64 + sum_by low_of c.cube % 256) % 2 ^ 64

-- demands of one time, which is a demand divided by 256, are equal
abbrev pub AgreeByTime : List ℕ → Type 0
AgreeByTime demands = (m n : ℕ) → Contains demands m → Contains demands n → m / 256 ≡ n / 256 → m ≡ n
