-- What is found under an order before its rows are made: trees, frozen times and measures.
use Rattle.std.specs.Prelude.{ℕ, ◌≡◌, List, Option, Some, None}
use Rattle.cpg_base.specs.Graph.{Graph, process_count}
use Rattle.cpg_reach.specs.Wide.{IsLeastWide, IsNarrow}
use Rattle.cpg_run.specs.Finish.{IsWorst, IsExcess}
use Rattle.cpg_run.specs.Frozen.{AreFrozenTimes}
use Rattle.cpg_expand.specs.Grown.{IsGrown}
use Rattle.cpg_core.specs.declared.expanding.Grown.{Grown}

-- `None` says that no item is too wide by its views under the order; an item says that it is the least that is too wide
abbrev pub IsWidth : Graph → List ℕ → Option ℕ → Type 0
IsWidth g order None = IsNarrow g order
IsWidth g order (Some x) = IsLeastWide g order x

-- `grown` is what is found under the order: its trees, frozen times and measures are right
pub record IsGrownFor (g : Graph) (urgency order : List ℕ) (grown : Grown) : Type 0 where
  -- it is of this order
  pub same : grown.order ≡ order
  -- the least item that is too wide by its views, or `None` if none is
  pub wide : IsWidth g order grown.wide
  -- the trees and the frozen times are those of all processes
  pub trees : IsGrown g order (process_count g) grown.trees.frozen grown.trees.forest
  pub frozen : AreFrozenTimes g order grown.trees.frozen
  -- `worst` is the greatest finish and `excess` the greatest excess, each with the least scenario that has it and the
  -- least process that has it there; an excess of 0 has no process
  pub worst : IsWorst g urgency order grown.trees.frozen grown.worst.time grown.worst.scenario grown.worst.process
  pub excess : IsExcess g urgency order grown.trees.frozen grown.excess.time grown.excess.scenario grown.excess.process
