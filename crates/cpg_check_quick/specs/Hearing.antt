-- Which literals of a column its node has heard by the column's time, and by what.
use Rattle.std.specs.Prelude.{ℕ, ◌≡◌, ◌<◌, ◌⊎◌, true, false, Bool, List, All, Contains, drop, get_or, length, take}
use Rattle.cpg_base.specs.Activity.{active}
use Rattle.cpg_base.specs.Graph.{Graph, IsVariable, home, node_of, process_count, process_of_variable}
use Rattle.cpg_base.specs.Scenario.{Scenario, IsScenario}
use Rattle.cpg_cube.specs.Cube.{matches}
use Rattle.cpg_cube.specs.declared.literal.Literal.{Literal}
use Rattle.cpg_table.specs.Heard.{facts, is_heard}
use Rattle.cpg_table.specs.Table.{NodeTable, columns_of}
use Rattle.cpg_cube.specs.declared.column.Column.{Column}
use Rattle.cpg_table.specs.Valid.{ends_of, is_by}
use Rattle.cpg_check_quick.specs.Order.{IsOverBy, execution}

-- wherever column `c` matches, the node has heard literal `l` by the column's time
abbrev pub IsHeardIn : Graph → List NodeTable → ℕ → Column → Literal → Type 0
IsHeardIn g tables node c l = (s : Scenario) → IsScenario g s → matches c.cube s ≡ true →
    is_heard g.faults (facts g tables node s c.time) l ≡ true

-- of the wanted literals, each that isn't left over has been heard by the column's time wherever the column matches
pub record AreLeft (g : Graph) (tables : List NodeTable) (node : ℕ) (c : Column)
    (wanted left : List Literal) : Type 0 where
  -- only wanted literals are left over
  pub among : (l : Literal) → Contains left l → Contains wanted l
  -- each wanted literal is left over, or has been heard
  pub heard : (l : Literal) → Contains wanted l → Contains left l ⊎ IsHeardIn g tables node c l

-- wherever column `c` matches, the node has heard all its literals by its time
abbrev pub IsAllHeard : Graph → List NodeTable → ℕ → Column → Type 0
IsAllHeard g tables node c = (l : Literal) → Contains c.cube l → IsHeardIn g tables node c l

-- variable `v` is one of the graph, and `p` is the process whose count or value it is
pub record IsOwner (g : Graph) (v p : ℕ) : Type 0 where
  -- the process is one of the graph
  pub within : p < process_count g
  -- the variable is one of the graph
  pub known : IsVariable g v
  -- it is about this process
  pub owner : process_of_variable g v ≡ p

-- wherever a column of item `x` matches and process `q` is active, `q` has ended by the column's time
abbrev pub IsEndedBy : Graph → List NodeTable → ℕ → ℕ → Type 0
IsEndedBy g tables q x =
    (s : Scenario) (c : Column) → IsScenario g s → Contains (columns_of tables x) c → matches c.cube s ≡ true →
    active g s.values q ≡ true → is_by c.time (ends_of g tables s q) ≡ true

-- variable `v` is of a process on the node of item `x` that has always ended by the item's columns
pub record IsOwnEnded (g : Graph) (tables : List NodeTable) (x v : ℕ) : Type 0 where
  -- the process of the variable
  pub process : ℕ
  pub owner : IsOwner g v process
  -- it is on the item's node, and has ended by the item's columns
  pub near : node_of g process ≡ home g x
  pub ended : IsEndedBy g tables process x

-- each variable that is marked is of a process on the node of item `x` that has always ended by the item's columns
abbrev pub AreOwnEnded : Graph → List NodeTable → ℕ → List Bool → Type 0
AreOwnEnded g tables x marks = (v : ℕ) → get_or marks v false ≡ true → IsOwnEnded g tables x v

-- `literals` begin with `others`, and all after these are on variables that are marked as known
pub record BeginsWith (known : List Bool) (literals others : List Literal) : Type 0 where
  -- the first literals are `others`, in their order
  pub first : take (length others) literals ≡ others
  -- the variables of all later literals are marked as known
  pub behind : All (λ l. get_or known l.variable false ≡ true) (drop (length others) literals)

-- in one scenario, the process of variable `v` is on the node and over by a time
pub record IsOwnOver (g : Graph) (tables : List NodeTable) (node v time : ℕ) (s : Scenario) : Type 0 where
  -- the process of the variable
  pub process : ℕ
  pub owner : IsOwner g v process
  -- it is on the node, and by whichever column it starts, its execution is over by the time
  pub near : node_of g process ≡ node
  pub over : IsOverBy tables (execution g process s) process time s
