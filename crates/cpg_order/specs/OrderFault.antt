-- What a fault of `urgency` shows.
use Rattle.std.specs.Prelude.{⊤}
use Rattle.cpg_base.specs.Graph.{Graph}
use Rattle.cpg_order.specs.declared.fault.OrderFault.{OrderFault}
use Rattle.cpg_order.specs.declared.fault.OrderFault.TheVariants.{Cycle, OutOfMemory}
use Rattle.cpg_order.specs.Cycle.{IsCycle}

-- a cycle that is reported is one of the graph; no cause is given if memory runs out
abbrev pub ShowsCycle : Graph → OrderFault → Type 0
ShowsCycle g (Cycle walk) = IsCycle g walk
ShowsCycle g OutOfMemory = ⊤
