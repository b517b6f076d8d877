-- Proof of `are_lawful`: whether for each of these columns an item and the processes of the column's literals are all
-- active wherever the column matches.
use Rattle.std.proofs.Common.{ℕ, ◌≡◌, true, false}
use Rattle.std.proofs.lemmas.Bool.{OnTrue_at}
use Rattle.cpg_base.specs.Graph.{Graph}
use Rattle.cpg_base.specs.Scenario.{Scenario, IsScenario}
use Rattle.cpg_cube.specs.Cube.{matches}
use Rattle.cpg_cube.specs.declared.column.Column.{Column}
use Rattle.cpg_table.specs.Valid.{breaks_activity}
use Rattle.cpg_violation.proofs.SureLaws.{each_all, each_more}
use Rattle.cpg_check_rows.proofs.quick_activity.are_lawful.Goals as goal

-- column `d` of item `x` breaks V1 in no scenario that it matches
abbrev IsLawful : Graph → ℕ → Column → Type 0
IsLawful g x d = (s : Scenario) → IsScenario g s → matches d.cube s ≡ true → breaks_activity g s x d ≡ false

-- the next column breaks V1 in no scenario that it matches, either
pub loop-column-preserved : goal.loop-column-preserved
loop-column-preserved c = each_more (IsLawful c.args.admitted.now.graph c.args.item) c.args.columns.now
    c.loop-column.column-index c.column-item.result c.loop-column-test.true c.column-item.is
    c.loop-column.invariant
    (OnTrue_at c.if-not-is_lawful.false c.is_lawful.ensures)

-- the loop has gone over all columns, so none breaks V1 in a scenario that it matches
pub returns : goal.returns
returns c = each_all (IsLawful c.args.admitted.now.graph c.args.item) c.args.columns.now c.loop-column.column-index
    c.loop-column-test.false c.loop-column.invariant
