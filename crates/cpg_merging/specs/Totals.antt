-- Totals of columns: each is a sum over a column's time and literals. They show where no two columns touch: if d
-- follows c at a literal of d, then d's total with another number for this literal is the total of c.
use Rattle.std.specs.Prelude.{ℕ, ◌+◌, ◌-◌, ◌*◌, ◌/◌, ◌^◌, ◌%◌, ◌<◌, ◌≤◌, ◌≡◌, Bool, true, false, List, length, get_or}
use Rattle.std.specs.Prelude.{sum_by, Contains}
use Rattle.cpg_base.specs.Graph.{Graph, IsVariable}
use Rattle.cpg_cube.specs.declared.literal.Literal.{Literal}
use Rattle.cpg_cube.specs.declared.column.Column.{Column}
use Rattle.cpg_merging.specs.Merging.{IsSettledOn}

-- mixes one more number into a sum, and spreads the result over 64 bits by the multiplier of Knuth's generator
abbrev pub mixed : ℕ → ℕ → ℕ
mixed sum number = (sum + number) % 2 ^ 64 * 6364136223846793005 % 2 ^ 64

-- the number of a literal, in base 256: its variable, its low and its high, so that no two literals have one number
abbrev pub number_of : Literal → ℕ
number_of l = l.variable * 65536 + l.low * 256 + l.high

-- The hash of a number: the number spread, times its own upper half. Unlike the spread alone it isn't linear, so equal
-- sums of hashes come about by chance alone.
abbrev pub spread : ℕ → ℕ
spread n = mixed 1 n * (mixed 1 n / 4294967296) % 2 ^ 64

-- the hash of a literal
abbrev pub hash_of : Literal → ℕ
hash_of l = spread (number_of l)

-- the total of a time and literals, in 64 bits
abbrev pub total_by : ℕ → List Literal → ℕ
total_by time literals = (mixed 0 time + sum_by hash_of literals) % 2 ^ 64

-- the total of a column
abbrev pub total_of : Column → ℕ
total_of c = total_by c.time c.cube

-- the literal on l's variable that begins at `low` and ends right before l begins
abbrev pub ended : Literal → ℕ → Literal
ended l low = record { variable = l.variable; low = low; high = l.low - 1 }

-- No column with one of these totals is followed at literal l by a column that has this total. `rest` is that column's
-- total without l; with a literal that ends right before l instead, it isn't among the totals, whatever its low.
abbrev pub HasNoPartner : List ℕ → ℕ → Literal → Type 0
HasNoPartner totals total l = (low rest : ℕ) → low < l.low → (rest + hash_of l) % 2 ^ 64 ≡ total →
    Contains totals ((rest + hash_of (ended l low)) % 2 ^ 64) → ⊥

-- whether the number v is marked; a number past the end isn't
abbrev pub IsMarked : List Bool → ℕ → Type 0
IsMarked marks v = get_or marks v false ≡ true

-- at a literal whose variable isn't marked, none of the columns follows a column with one of these totals
abbrev pub AreMarkedBy : List ℕ → List Bool → List Column → Type 0
AreMarkedBy totals marks columns =
    (d : Column) (l : Literal) → Contains columns d → Contains d.cube l → ¬ IsMarked marks l.variable →
    HasNoPartner totals (total_of d) l

-- no two columns of one time touch at a variable of the graph that isn't marked
abbrev pub AreMarked : Graph → List Bool → List Column → Type 0
AreMarked g marks columns = (v : ℕ) → IsVariable g v → ¬ IsMarked marks v → IsSettledOn g.faults v columns

-- the numbers are sorted, the least first
abbrev pub DoNotFall : List ℕ → Type 0
DoNotFall ns = (i j : ℕ) → i ≤ j → j < length ns → get_or ns i 0 ≤ get_or ns j 0

-- the place in a sieve with `count` places where a number is marked: the upper half of its 64 bits, scaled to `count`
unfoldable pub place_in : ℕ → ℕ → ℕ
place_in count n = n / 4294967296 * count / 4294967296

-- the sieve has a mark at the place of each of the numbers
abbrev pub IsSieve : List Bool → List ℕ → Type 0
IsSieve sieve numbers = (n : ℕ) → Contains numbers n → IsMarked sieve (place_in (length sieve) n)

-- totals, the least first, with a sieve that marks each
pub record AreSums (sorted : List ℕ) (sieve : List Bool) : Type 0 where
  -- the totals are sorted
  pub up : DoNotFall sorted
  -- the sieve has at least one place
  pub some : 0 < length sieve
  -- each total is marked
  pub marked : IsSieve sieve sorted
