-- Loops of `Sequences::untold`: those of these items of a node that aren't known to be apart from another by the
-- sequence of the node's items.
use Rattle.std.proofs.Common.{ℕ, ◌⊎◌, List, All, Contains, take}
use Rattle.cpg_base.specs.Graph.{Graph}
use Rattle.cpg_base.specs.Scenario.{Scenario}
use Rattle.cpg_table.specs.Table.{NodeTable}
use Rattle.cpg_check_quick.specs.Order.{IsApart}
use Rattle.cpg_check_quick.specs.Sequences.{AreSequences}
use Rattle.cpg_check_quick.proofs.sequences.Sequences.untold.Given as goal

-- each item so far is in the list of those that are left, or is apart from the other one
abbrev pub invariant-loop-item : goal.invariant-loop-item
invariant-loop-item l =
    (g : Graph) (tables : List NodeTable) (lasts : ℕ → Scenario → ℕ) → AreSequences lasts g tables l.self →
    All (λ y. Contains l.left.items y ⊎ IsApart lasts g tables y l.other) (take l.item-index l.items)
