-- The compile's order with its figures, and what is said of a graph without making its tables.
use Rattle.std.specs.Prelude.{ℕ, ◌<◌, List, Option, Some, None, IfSome, ⊤}
use Rattle.cpg_base.specs.Graph.{Graph}
use Rattle.cpg_order.specs.Urgency.{IsTopological, first_order}
use Rattle.cpg_reach.specs.Wide.{IsLeastWide, IsNarrow}
use Rattle.cpg_core.specs.Compilation.{ShowsCompileFault}
use Rattle.cpg_core.specs.Compiled.{IsCompileOrder, IsCompiled, IsHelpless, IsLateUnder, IsMeasured}
use Rattle.cpg_core.specs.declared.choosing.TakenOrder.{TakenOrder}
use Rattle.cpg_core.specs.declared.fault.CompileFault.{CompileFault}
use Rattle.cpg_core.specs.declared.fault.CompileFault.TheVariants.{TooWide, Late, OutOfMemory}

-- the order that is taken: the track order if one is given here, and otherwise the first order
abbrev pub order_taken : List ℕ → Option (List ℕ) → List ℕ
order_taken first None = first
order_taken first (Some order) = order

-- What is taken is the compile's order, with its greatest excess and greatest finish. `t.order` is None if it is the
-- first order.
pub record IsTaken (g : Graph) (urgency : List ℕ) (t : TakenOrder) : Type 0 where
  -- the order is the compile's
  pub taken : IsCompileOrder g urgency (order_taken (first_order g urgency) t.order)
  -- the figures are its greatest excess and its greatest finish
  pub measured : IsMeasured g urgency (order_taken (first_order g urgency) t.order) t.figures.excess t.figures.worst
  -- the track order, if it is taken, is topological
  pub topological : IfSome t.order (IsTopological g)
  -- no item is too wide by its views under it
  pub narrow : IfSome t.order (IsNarrow g)
  -- if it is late, the first order is too, and no track order helps
  pub late : 0 < t.figures.excess → IsLateUnder g urgency (first_order g urgency) × IsHelpless g urgency

-- The compile of the graph succeeds, with this greatest finish. What is made for a given order may still be too large.
pub record IsAccepted (g : Graph) (urgency : List ℕ) (worst : ℕ) : Type 0 where
  -- the order under which its tables are written
  pub order : List ℕ
  -- it is the compile's, and nothing is late under it
  pub compiled : IsCompiled g urgency order
  -- the greatest excess under it is 0, and this is the greatest finish
  pub measured : IsMeasured g urgency order 0 worst

-- Why a graph has no greatest finish: the first item that is too wide by its views under the first order; or there is
-- none, and the graph is late, as its compile shows.
abbrev pub ShowsNoFinish : Graph → List ℕ → CompileFault → Type 0
ShowsNoFinish g urgency (TooWide x) = IsLeastWide g (first_order g urgency) x
ShowsNoFinish g urgency (Late scenario process finish) =
    IsNarrow g (first_order g urgency) × ShowsCompileFault g urgency (CompileFault.Late scenario process finish)
ShowsNoFinish g urgency OutOfMemory = ⊤
