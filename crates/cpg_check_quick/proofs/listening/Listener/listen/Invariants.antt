-- Loops of `Listener::listen`: keeps those of the wanted literals that no heard row is found to tell by a column's time
-- wherever that matches.
use Rattle.std.proofs.Common.{◌≡◌, List, All, true}
use Rattle.cpg_base.specs.Graph.{Graph}
use Rattle.cpg_base.specs.Scenario.{Scenario, IsScenario}
use Rattle.cpg_cube.specs.Cube.{matches}
use Rattle.cpg_table.specs.Table.{NodeTable}
use Rattle.cpg_tree.specs.Space.{IsInSpace}
use Rattle.cpg_check_quick.specs.Hearing.{AreLeft}
use Rattle.cpg_check_quick.specs.HeardRows.{AreToldIn, IsHeardRow}
use Rattle.cpg_check_quick.proofs.listening.Listener.listen.Given as goal

-- after each heard row, `wanted` has the literals that are left: the node has heard each of the others by the column's
-- time
abbrev pub invariant-loop-heard_row : goal.invariant-loop-heard_row
invariant-loop-heard_row l = (g : Graph) (tables : List NodeTable) →
    All (IsHeardRow g tables l.self.node) l.self.heard_rows.items → AreToldIn l.column.cube l.fn.wanted.items →
    ((s : Scenario) → IsScenario g s → matches l.column.cube s ≡ true → IsInSpace l.space s) →
    AreLeft g tables l.self.node l.column l.fn.wanted.items l.wanted.items
