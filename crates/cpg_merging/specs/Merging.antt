-- How rows are merged. For one variable after another, the columns are sorted so that those which differ in it alone
-- stand side by side, and neighbours whose ranges of it touch are made one.
use Rattle.std.specs.Prelude.{ℕ, ◌+◌, ◌≡◌, ◌≢◌, ◌<◌, ◌≤◌, ◌⊎◌, Bool, true, false, not, ◌&&◌, ◌||◌, ◌==◌, if◌then◌else◌}
use Rattle.std.specs.Prelude.{List, [], ◌∷◌, map, filter, length, Contains, IsPermutation}
use Rattle.std.specs.declared.cmp.Ordering.{Ordering}
use Rattle.std.specs.Ordering.{nat_cmp, ordering_then, is_eq}
use Rattle.std.specs.Cmp.Lexicographic.{slice_cmp}
use Rattle.cpg_base.specs.Graph.{Graph, IsVariable}
use Rattle.cpg_base.specs.Scenario.{Scenario, IsScenario}
use Rattle.cpg_cube.specs.declared.literal.Literal.{Literal}
use Rattle.cpg_cube.specs.Cube.{low_in, high_in, is_whole}
use Rattle.cpg_cube.specs.declared.column.Column.{Column}
use Rattle.cpg_cube.specs.Column.{times_in}
use Rattle.cpg_cube.specs.declared.listing.Listing.{Listing}
use Rattle.cpg_merging.specs.Merged.{IsWider, AreMergeable, HaveNoWhole}

-- the literals except those that have the whole range of their variable
abbrev pub shorn : ℕ → List Literal → List Literal
shorn k cube = filter (λ l. not (is_whole k l)) cube

-- the literals on variables other than v
abbrev pub without : ℕ → List Literal → List Literal
without v cube = filter (λ l. not (l.variable == v)) cube

-- the cube with `high` as the end of the range of variable v; without a literal on v it stays
abbrev pub raised : ℕ → ℕ → List Literal → List Literal
raised v high cube =
    map (λ l. if l.variable == v then record { variable = l.variable; low = l.low; high = high } else l) cube

-- compares literals by variable, then by the low and the high of their ranges
abbrev pub literal_cmp : Literal → Literal → Ordering
literal_cmp l m =
    ordering_then (nat_cmp l.variable m.variable) (ordering_then (nat_cmp l.low m.low) (nat_cmp l.high m.high))

-- compares columns by time, then by their literals on variables other than v
abbrev pub beside_cmp : ℕ → Column → Column → Ordering
beside_cmp v c d = ordering_then (nat_cmp c.time d.time) (slice_cmp literal_cmp (without v c.cube) (without v d.cube))

-- compares columns by time, then by their literals on other variables, then by the low of v; columns that touch at v
-- stand side by side then
abbrev pub column_cmp : ℕ → Column → Column → Ordering
column_cmp v c d = ordering_then (beside_cmp v c d) (nat_cmp (low_in c.cube v) (low_in d.cube v))

-- whether d follows c at variable v: they have one time and the same literals on other variables, and d's range of v
-- begins right behind the end of c's
abbrev pub is_followed : ℕ → ℕ → Column → Column → Bool
-- `k` is the number of faults, which is the greatest count: a column without a literal on v has its whole range
is_followed k v c d = is_eq (beside_cmp v c d) && (high_in k c.cube v + 1 == low_in d.cube v)

-- c with d, which follows it at v: c's range of v goes on to the end of d's, and literals that have the whole range of
-- their variable are dropped
abbrev pub joined : ℕ → ℕ → Column → Column → Column
joined k v c d = record { time = c.time; cube = shorn k (raised v (high_in k d.cube v) c.cube) }

-- sorted columns with neighbours made one; c is the last column so far, joined with those that followed it
abbrev pub walked : ℕ → ℕ → Column → List Column → List Column
walked k v c [] = c ∷ []
walked k v c (d ∷ ds) = if is_followed k v c d then walked k v (joined k v c d) ds else c ∷ walked k v d ds

-- what the walk (`walked`) makes of any sorted columns, of which there may be none
abbrev pub walked_over : ℕ → ℕ → List Column → List Column
walked_over k v [] = []
walked_over k v (c ∷ cs) = walked k v c cs

-- whether some column of the list follows the one before it; c is the one before the first
abbrev pub is_any_followed_from : ℕ → ℕ → Column → List Column → Bool
is_any_followed_from k v c [] = false
is_any_followed_from k v c (d ∷ ds) = is_followed k v c d || is_any_followed_from k v d ds

-- whether some column of the list follows the one before it
abbrev pub is_any_followed : ℕ → ℕ → List Column → Bool
is_any_followed k v [] = false
is_any_followed k v (c ∷ cs) = is_any_followed_from k v c cs

-- the columns without literals that have the whole range of their variable
abbrev pub all_shorn : ℕ → List Column → List Column
all_shorn k columns = map (λ c. record { time = c.time; cube = shorn k c.cube }) columns

-- columns that may be merged, and of which no literal has the whole range of its variable
pub record IsShorn (g : Graph) (columns : List Column) : Type 0 where
  -- the columns may be merged: each matches some scenario, no scenario is matched by two, and all literals are the
  -- graph's
  pub good : AreMergeable g columns
  -- no literal of a column has the whole range of its variable
  pub not_whole : HaveNoWhole g.faults columns

-- `joins` gives each scenario the times that `columns` does, and each of `columns` lies within one of `joins`, as when
-- some of them are made one
pub record IsJoinOf (g : Graph) (columns joins : List Column) : Type 0 where
  -- the scenarios have the same times in both
  pub times : (s : Scenario) → IsScenario g s → times_in joins s ≡ times_in columns s
  -- each of the columns lies within one of `joins` with the same time
  pub held : (e : Column) → Contains columns e →
      (c : Column) × Contains joins c × (c.time ≡ e.time) × IsWider g.faults c.cube e.cube

-- cubes a and b have equal ranges of all variables but v, and b's range of v begins right behind the end of a's
pub record TouchAt (k : ℕ) (v : ℕ) (a b : List Literal) : Type 0 where
  -- any variable u other than v has equal ranges
  pub others : (u : ℕ) → u ≢ v → (low_in a u ≡ low_in b u) × (high_in k a u ≡ high_in k b u)
  -- b's range of v begins right behind the end of a's
  pub next : high_in k a v + 1 ≡ low_in b v

-- no two columns of one time touch at variable v
abbrev pub IsSettledOn : ℕ → ℕ → List Column → Type 0
IsSettledOn k v columns =
    (c d : Column) → Contains columns c → Contains columns d → c.time ≡ d.time → TouchAt k v c.cube d.cube → ⊥

-- `passed` is what going over the variables of which `over` holds makes of `columns`: fewer columns, or the same ones
-- in some order, of which none touch at any of these variables
pub record IsPassed (g : Graph) (over : ℕ → Type 0) (columns passed : List Column) : Type 0 where
  -- `passed` is a join of the columns
  pub joins : IsJoinOf g columns passed
  -- the columns of `passed` may be merged too, and no literal has a whole range
  pub good : IsShorn g passed
  -- either there are fewer columns, or the same ones in some order, of which none touch at the variables gone over
  pub fewer : (length passed < length columns) ⊎
      (IsPermutation columns passed × ((v : ℕ) → over v → IsSettledOn g.faults v passed))

-- v is at least `first` and below `end`
abbrev pub IsBetween : ℕ → ℕ → ℕ → Type 0
IsBetween first end v = (first ≤ v) × (v < end)

-- `made_one` is `columns`, joined until no two columns of one time touch at any variable of the graph
pub record AreSettled (g : Graph) (columns made_one : List Column) : Type 0 where
  -- `made_one` is a join of the columns
  pub joins : IsJoinOf g columns made_one
  -- the columns of `made_one` may be merged too, and no literal has a whole range
  pub good : IsShorn g made_one
  -- no two columns of one time touch at any variable of the graph
  pub settled : (v : ℕ) → IsVariable g v → IsSettledOn g.faults v made_one

-- if the listing `made` is known to be sorted, the listing that it is made of was, and has the same columns in the same
-- order
abbrev pub IsSortedAs : Listing → Listing → Type 0
IsSortedAs listing made =
    made.is_sorted ≡ true → (listing.is_sorted ≡ true) × (made.columns.items ≡ listing.columns.items)
