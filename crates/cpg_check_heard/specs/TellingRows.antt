-- What a row tells a node: by the ends of one of the node's processes, or by frames that the node hears.
use Rattle.std.specs.Prelude.{ℕ, ◌+◌, ◌≡◌, ◌<◌, Bool, ◌&&◌, ◌==◌, nat_le, nat_lt, List, ◌∷◌, ◌++◌, Option, None, Some}
use Rattle.std.specs.Prelude.{slice_get, false, length}
use Rattle.std.specs.List.{list_any}
use Rattle.cpg_base.specs.Graph.{Graph, process_count, item_at, home, condition_of, process_of_variable, value_variable}
use Rattle.cpg_base.specs.declared.item.Item.{Item}
use Rattle.cpg_base.specs.declared.item.Item.TheVariants.{Start, Message, Broadcast}
use Rattle.cpg_base.specs.Duration.{duration}
use Rattle.cpg_base.specs.Bus.{slot_length}
use Rattle.cpg_base.specs.Scenario.{Scenario, IsScenario, number_of}
use Rattle.cpg_cube.specs.Cube.{matches}
use Rattle.cpg_cube.specs.declared.literal.Literal.{Literal}
use Rattle.cpg_table.specs.Table.{NodeTable, columns_of}
use Rattle.cpg_cube.specs.declared.column.Column.{Column}
use Rattle.cpg_cube.specs.Column.{column_at}
use Rattle.cpg_table.specs.Heard.{exactly, value_fact}
use Rattle.cpg_violation.specs.SievedRows.{IsSievedRow}
use Rattle.cpg_check_heard.specs.declared.bound.LiteralBound.{LiteralBound}
use Rattle.cpg_check_heard.specs.declared.telling_rows.Means.{Means}
use Rattle.cpg_check_heard.specs.declared.telling_rows.Means.TheVariants.{End, Frame}
use Rattle.cpg_check_heard.specs.declared.telling_rows.TellingRow.{TellingRow}
use Rattle.cpg_check_heard.specs.Bounds.{tells, variable_of}

-- whether what column `c` begins has come by `time` and tells a bound: the end of process `p` tells its fault count and
-- its value, a frame the literals of its column and the value that it carries
abbrev pub column_tells : Graph → Means → ℕ → LiteralBound → Scenario → Column → Bool
column_tells g (End p) time b s c = nat_le (c.time + duration g p (number_of s p)) time
    && list_any (tells b) (exactly p (number_of s p) ∷ value_fact s (condition_of g p))
column_tells g (Frame delay condition) time b s c =
    nat_le (c.time + delay) time && list_any (tells b) (c.cube ++ value_fact s condition)

-- whether column `c` matches, and its end or frame tells a bound by `time`
abbrev pub is_telling : Graph → Means → ℕ → LiteralBound → Scenario → Column → Bool
is_telling g means time b s c = matches c.cube s && column_tells g means time b s c

-- whether there is a column at place `i`, it matches, and its end or frame tells a bound by `time`
abbrev pub is_telling_at : Graph → Means → ℕ → LiteralBound → List Column → Scenario → ℕ → Bool
is_telling_at g means time b columns s i =
    nat_lt i (length columns) && is_telling g means time b s (column_at columns i)

-- whether some column of a row matches, and its end or frame tells a bound by `time`
abbrev pub row_tells : Graph → Means → ℕ → LiteralBound → List Column → Scenario → Bool
row_tells g means time b columns s = list_any (is_telling g means time b s) columns

-- these means can tell bound `b`: an end only one on the count or the value of its own process, a frame any
abbrev pub CanTell : Graph → LiteralBound → Means → Type 0
CanTell g b (End p) = (p < process_count g) × (process_of_variable g (variable_of b) ≡ p)
CanTell g b (Frame delay condition) = Unit {0}

-- the condition whose value an item carries: a broadcast carries its own, a message none; a start isn't sent
abbrev pub carried : Item → Option ℕ
carried (Start p) = None
carried (Message e) = None
carried (Broadcast c) = Some c

-- whether variable `v` is the value of the condition; false if there is no condition
abbrev pub is_value : Option ℕ → ℕ → Bool
is_value None v = false
is_value (Some c) v = value_variable c == v

-- by what means item `x` tells: a start by ends of its process, a message or a broadcast by frames, each a slot after
-- its column's time
abbrev pub means_of_item : Graph → ℕ → Item → Means
means_of_item g x (Start p) = End p
means_of_item g x (Message e) = Frame (slot_length g (home g x)) None
means_of_item g x (Broadcast c) = Frame (slot_length g (home g x)) (Some c)

-- by what means the item with number `x` tells
abbrev pub means_of : Graph → ℕ → Means
means_of g x = means_of_item g x (item_at g x)

-- the cube matches in just the scenarios of the graph that pass a test; it is `None` only if none passes
abbrev pub IsPart : Graph → (Scenario → Bool) → Option (List Literal) → Type 0
IsPart g test None = (s : Scenario) → IsScenario g s → test s ≡ false
IsPart g test (Some cube) = (s : Scenario) → IsScenario g s → matches cube s ≡ test s

-- `t` has the row of item `x`, and the means by which it tells
pub record IsTellingRow (g : Graph) (tables : List NodeTable) (x : ℕ) (t : TellingRow) : Type 0 where
  -- the row has the columns of the item in the tables
  pub sieved : IsSievedRow (columns_of tables x) t.sieved.now
  -- the means are those of the item
  pub means : t.means ≡ means_of g x

-- `ts` has the rows of the first `items` items, by number
pub record AreTellingRows (g : Graph) (tables : List NodeTable) (items : ℕ) (ts : List TellingRow) : Type 0 where
  -- there is a row for each of the items
  pub count : length ts ≡ items
  -- the row at `x` is that of item `x`
  pub each : (x : ℕ) (t : TellingRow) → slice_get ts x ≡ Some t → IsTellingRow g tables x t
