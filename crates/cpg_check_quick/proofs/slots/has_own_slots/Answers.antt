-- Proof of `has_own_slots`: whether V7 is known to hold at an item: it isn't sent, or each of its sends is at the start
-- of a slot that no item of a lower number shares.
use Rattle.std.proofs.Common.{◌≡◌, ◌∙◌, All, true}
use Rattle.std.proofs.lemmas.Bool.{OnTrue_at}
use Rattle.cpg_base.specs.Bus.{next_slot}
use Rattle.cpg_base.specs.Graph.{home}
use Rattle.cpg_base.specs.Scenario.{Scenario, IsScenario}
use Rattle.cpg_cube.specs.Cube.{matches}
use Rattle.cpg_table.specs.Table.{columns_of}
use Rattle.cpg_cube.specs.declared.column.Column.{Column}
use Rattle.cpg_tree.proofs.Passes.{of_true}
use Rattle.cpg_check_quick.specs.Order.{sending}
use Rattle.cpg_check_quick.proofs.ClashLaws.{sure_own_slots}
use Rattle.cpg_check_quick.proofs.slots.has_own_slots.Goals as goal

-- each column that matches is at the start of a slot, and the sends are apart from those of lower items, so the item
-- keeps V7
pub returns : goal.returns
returns c =
    let graph = c.args.admitted.now.graph in
    let tables = c.args.tables.now.nodes in
    let starts : All (λ (d : Column). (s : Scenario) → IsScenario graph s → matches d.cube s ≡ true →
    next_slot graph (home graph c.args.item) d.time ≡ d.time) (columns_of tables c.args.item) =
    rw (← c.problem-problem.ensures.problem, ← c.home-node.ensures.home, ← c.columns_of.ensures.columns)
    (OnTrue_at c.if-not-are_in_slots.false c.are_in_slots.ensures) in
    of_true c.in_ok-is_alone.is_alone c.in_ok-is_alone.ensures (λ all.
    sure_own_slots graph tables c.args.item c.as_slice.result.now (c.as_slice.ensures.value
    ∙ rw c.problem-problem.ensures.problem at c.in_ok-lower.ensures) starts
    (all graph tables sending c.requires.sequences))
