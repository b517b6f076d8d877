-- The frozen items of a graph, in the order in which their times are found.
use Rattle.std.specs.Prelude.{ℕ, List, ◌∷◌, filter}
use Rattle.std.specs.List.{flat_map}
use Rattle.cpg_base.specs.Graph.{Graph, is_frozen}
use Rattle.cpg_bus.specs.Plan.{queue_of}

-- the frozen items of a process: its start and then what it sends, in the order of its queue
abbrev pub frozen_items_of : Graph → ℕ → List ℕ
frozen_items_of g p = filter (is_frozen g) (p ∷ queue_of g p)

-- the frozen items along an order
abbrev pub frozen_along : Graph → List ℕ → List ℕ
frozen_along g order = flat_map (frozen_items_of g) order
