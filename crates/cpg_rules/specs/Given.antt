-- The order that a graph gives, and which process shows that it isn't topological.
use Rattle.std.specs.Prelude.{ℕ, ◌≡◌, ◌<◌, ◌⊎◌, Bool, true, false, List, Some, IfSome, ⊤}
use Rattle.std.specs.List.{list_any}
use Rattle.cpg_base.specs.Graph.{Graph, process_count, source, inputs}
use Rattle.cpg_base.specs.Order.{comes_before}
use Rattle.cpg_order.specs.Reach.{is_in}
use Rattle.cpg_order.specs.Urgency.{IsTopological}
use Rattle.cpg_rules.specs.declared.given.GivenFault.{GivenFault}
use Rattle.cpg_rules.specs.declared.given.GivenFault.TheVariants.{Bad, OutOfMemory}

-- the order that the graph gives, if it gives one, is topological
abbrev pub GivesTopological : Graph → Type 0
GivesTopological g = IfSome g.order (IsTopological g)

-- each process of the graph is in the list
abbrev pub LacksNone : Graph → List ℕ → Type 0
LacksNone g list = (p : ℕ) → p < process_count g → is_in list p ≡ true

-- p is the least process of the graph that is missing from a list
pub record IsLacking (g : Graph) (list : List ℕ) (p : ℕ) : Type 0 where
  -- p is a process of the graph
  pub within : p < process_count g
  -- the list lacks it, and no lesser one
  pub lacks : is_in list p ≡ false
  pub before : (q : ℕ) → q < p → is_in list q ≡ true

-- whether a process comes in a list before the source of one of its inputs
abbrev pub is_early : Graph → List ℕ → ℕ → Bool
is_early g list p = list_any (λ e. comes_before list p (source g e)) (inputs g p)

-- no process is missing, and p is the first in the list that comes before the source of one of its inputs
pub record IsFirstEarly (g : Graph) (list : List ℕ) (p : ℕ) : Type 0 where
  -- the list has each process of the graph, of which p is one
  pub all : LacksNone g list
  pub within : p < process_count g
  -- p is early, and no process before it in the list is
  pub early : is_early g list p ≡ true
  pub before : (q : ℕ) → comes_before list q p ≡ true → is_early g list q ≡ false

-- the graph gives an order that isn't topological: p is missing from it, or is the first that comes before a source
pub record IsBadOrder (g : Graph) (p : ℕ) : Type 0 where
  -- the order that the graph gives
  pub order : List ℕ
  pub given : g.order ≡ Some order
  -- p shows that it isn't topological
  pub bad : IsLacking g order p ⊎ IsFirstEarly g order p

-- what a fault of `given_order` means; memory that runs out means nothing about the order
abbrev pub ShowsGivenFault : Graph → GivenFault → Type 0
ShowsGivenFault g (Bad p) = IsBadOrder g p
ShowsGivenFault g OutOfMemory = ⊤
