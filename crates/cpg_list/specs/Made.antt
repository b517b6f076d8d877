-- What is made before the process at a place i of the order: the rows of earlier items, and by node and scenario the cubes
-- of what is carried on.
use Rattle.std.specs.Prelude.{ℕ, ◌≡◌, ◌<◌, ◌≤◌, ◌⊎◌, ◌&&◌, ◌==◌, nat_lt, true, List, [], Option, length, filter, take}
use Rattle.std.specs.Prelude.{get_or, slice_set, Contains}
use Rattle.std.specs.List.{flat_map}
use Rattle.cpg_base.specs.Numbers.{numbers_below}
use Rattle.cpg_base.specs.Activity.{active}
use Rattle.cpg_base.specs.Graph.{Graph, item_count, node_of, home, producer, is_sent}
use Rattle.cpg_base.specs.Order.{place}
use Rattle.cpg_base.specs.Scenario.{Scenario}
use Rattle.cpg_cube.specs.declared.literal.Literal.{Literal}
use Rattle.cpg_merging.specs.Merged.{IsMergeOf}
use Rattle.cpg_table.specs.Shape.{items_of}
use Rattle.cpg_table.specs.Table.{Row}
use Rattle.cpg_cube.specs.declared.column.Column.{Column}
use Rattle.cpg_bus.specs.Plan.{queue_of}
use Rattle.cpg_run.specs.Carried.{row_at, passed, queued, carried_at_end}
use Rattle.cpg_run.specs.Found.{columns_of_rows}
use Rattle.cpg_run.specs.Rows.{IsCubeOf, IsRowOf}

-- `cubes` has for each scenario, in order, the cube of its literals; k is the number of faults of the graph
pub record AreCubesOf (k : ℕ) (scenarios : List Scenario) (literals : Scenario → List Literal)
    (cubes : List (List Literal)) : Type 0 where
  -- there is a cube for each scenario
  pub count : length cubes ≡ length scenarios
  -- the default s of `get_or` is never used, as i is below the length
  pub each : (i : ℕ) (s : Scenario) → i < length scenarios →
      IsCubeOf k (literals (get_or scenarios i s)) (get_or cubes i [])

-- a loop over the scenarios has come to the n-th: `cubes` has for the first n the cubes of their literals, and for the
-- others those of their old literals; k is the number of faults of the graph
pub record AreCubesUpTo (k : ℕ) (scenarios : List Scenario) (literals_old literals : Scenario → List Literal) (n : ℕ)
    (cubes : List (List Literal)) : Type 0 where
  -- there is a cube for each scenario
  pub count : length cubes ≡ length scenarios
  -- the first n scenarios have the cubes of the new literals
  pub done : (i : ℕ) (s : Scenario) → i < n → i < length scenarios →
      IsCubeOf k (literals (get_or scenarios i s)) (get_or cubes i [])
  -- the others have the cubes of the old literals
  pub rest : (i : ℕ) (s : Scenario) → n ≤ i → i < length scenarios →
      IsCubeOf k (literals_old (get_or scenarios i s)) (get_or cubes i [])

-- what these processes leave to those after them on their node
abbrev pub passed_by : Graph → List (List Column) → List ℕ → Scenario → List Literal
passed_by g rows processes s = flat_map (passed g rows s) processes

-- what these items leave to those behind them in their node's queue
abbrev pub queued_by : Graph → List ℕ → List (List Column) → List ℕ → Scenario → List Literal
queued_by g order rows items s = flat_map (queued g order rows s) items

-- the processes of a node before the place i
abbrev pub node_before : Graph → List ℕ → ℕ → ℕ → List ℕ
node_before g order node i = filter (λ q. node_of g q == node) (take i order)

-- the items that a node sends for its processes before the place i, by number
abbrev pub sent_before : Graph → List ℕ → ℕ → ℕ → List ℕ
sent_before g order node i = filter (λ y. is_sent g y && (home g y == node) && nat_lt (place order (producer g y)) i)
    (numbers_below (item_count g))

-- `known` has for each node and scenario the cube of what its processes before the place i leave to those after them, and
-- `sent` the cube of what the items leave that it sends for them
pub record AreCarried (g : Graph) (order : List ℕ) (rows : List (List Column)) (scenarios : List Scenario) (i : ℕ)
    (known sent : List (List (List Literal))) : Type 0 where
  -- a list for each node
  pub known_count : length known ≡ length g.nodes
  pub sent_count : length sent ≡ length g.nodes
  -- what the processes of a node before the place leave
  pub carries : (node : ℕ) → node < length g.nodes →
      AreCubesOf g.faults scenarios (passed_by g rows (node_before g order node i)) (get_or known node [])
  -- what the items that a node sends for them leave
  pub queues : (node : ℕ) → node < length g.nodes →
      AreCubesOf g.faults scenarios (queued_by g order rows (sent_before g order node i)) (get_or sent node [])

-- the item x comes from a process before the place i
abbrev pub IsBefore : Graph → List ℕ → ℕ → ℕ → Type 0
IsBefore g order i x = place order (producer g x) < i

-- the item x comes from a process before p, or is the start of p
abbrev pub IsStarted : Graph → List ℕ → ℕ → ℕ → Type 0
IsStarted g order p x = IsBefore g order (place order p) x ⊎ (x ≡ p)

-- the item x comes from a process before p, is the start of p, or is one of the first n items that p sends
abbrev pub IsSent : Graph → List ℕ → ℕ → ℕ → ℕ → Type 0
IsSent g order p n x = IsStarted g order p x ⊎ Contains (take n (queue_of g p)) x

-- there is a row for each item; the items of the kind `made` have their rows, and the rows of the others have no column
-- yet
pub record AreMade (g : Graph) (urgency order : List ℕ) (frozen : List (Option ℕ)) (made : ℕ → Type 0)
    (rows : List Row) : Type 0 where
  -- the rows are of all items, in their order
  pub items : items_of rows ≡ numbers_below (item_count g)
  -- an item that is made has its row
  pub each : (x : ℕ) → x < item_count g → made x → IsRowOf g urgency order frozen (columns_of_rows rows) x
  -- an item that isn't made has no column
  pub none : (x : ℕ) → (made x → ⊥) → row_at (columns_of_rows rows) x ≡ []

-- from `rows_old` to `rows_new` the row of the item x is set to these entries, merged, and the other rows stay
pub record IsRowSet (g : Graph) (urgency : List ℕ) (x : ℕ) (entries : List Column) (rows_old rows_new : List Row) : Type 0 where
  -- the columns of the row: the merged entries
  pub columns : List Column
  pub merge : IsMergeOf g urgency entries columns
  -- the row of x has these columns, and no other row has changed
  pub set : rows_new ≡ slice_set rows_old x (record { item = x; columns = columns })

-- `cubes` has a cube for each scenario: that of what is carried at the end of the process p if p is active there, and any otherwise
pub record AreEndsOf (g : Graph) (order : List ℕ) (rows : List (List Column)) (scenarios : List Scenario) (p : ℕ)
    (cubes : List (List Literal)) : Type 0 where
  -- there is a cube for each scenario
  pub count : length cubes ≡ length scenarios
  -- an active p has the cube of what is carried at its end
  pub each : (i : ℕ) (s : Scenario) → i < length scenarios → active g (get_or scenarios i s).values p ≡ true →
      IsCubeOf g.faults (carried_at_end g order rows (get_or scenarios i s) p) (get_or cubes i [])
