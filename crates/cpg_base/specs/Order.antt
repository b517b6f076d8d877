-- An order of processes, the places in it, and an order as the code keeps it.
use Rattle.std.specs.Prelude.{ℕ, Bool, ◌==◌, List, filter, position, unwrap_or, take, ◌≡◌, ◌<◌, ◌≤◌, length, get_or}
use Rattle.std.specs.Prelude.{IsPermutation}
use Rattle.std.specs.List.{list_any}
use Rattle.cpg_base.specs.Graph.{Graph, node_of}
use Rattle.cpg_base.specs.Numbers.{numbers_below}

-- the first place of a process in an order, from 0; also 0 if the process isn't in it
abbrev pub place : List ℕ → ℕ → ℕ
place order p = unwrap_or (position (λ q. q == p) order) 0

-- the processes before one in an order; none if it isn't in it
abbrev pub before : List ℕ → ℕ → List ℕ
before order p = take (place order p) order

-- the processes before process p in an order that are on its node
abbrev pub before_on_node : Graph → List ℕ → ℕ → List ℕ
before_on_node g order p = filter (λ q. node_of g q == node_of g p) (before order p)

-- whether process p stands before process q in an order
abbrev pub comes_before : List ℕ → ℕ → ℕ → Bool
comes_before order p q = list_any (λ r. r == p) (before order q)

-- The list is an order of as many processes as it is long.
pub record IsOrder (order : List ℕ) : Type 0 where
  -- there are at most 128, the most processes that a graph may have
  pub few : length order ≤ 128
  -- each number below the length is in it once
  pub all : IsPermutation (numbers_below (length order)) order

-- an order, and at each process number the place at which the process stands
pub record ArePlaces (order places : List ℕ) : Type 0 where
  -- the list is an order
  pub lawful : IsOrder order
  -- there is a place for each process
  pub long : length places ≡ length order
  -- under each process number is the place of that process in the order
  pub there : (p : ℕ) → p < length order → get_or places p 0 ≡ place order p
