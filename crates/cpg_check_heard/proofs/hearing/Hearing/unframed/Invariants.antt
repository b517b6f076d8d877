-- Loops of `Hearing::unframed`: those of some bounds that no single frame is found to tell by a column's time wherever
-- the column matches.
use Rattle.std.proofs.Common.{◌≡◌, true, All}
use Rattle.cpg_base.specs.Graph.{IsVariable}
use Rattle.cpg_base.specs.Scenario.{Scenario, IsScenario}
use Rattle.cpg_cube.specs.Cube.{matches}
use Rattle.cpg_check_heard.specs.declared.bound.LiteralBound.{LiteralBound}
use Rattle.cpg_check_heard.specs.Bounds.{variable_of}
use Rattle.cpg_check_heard.specs.Unheard.{is_one_untold}
use Rattle.cpg_check_heard.proofs.hearing.Hearing.unframed.Given as goal

-- After each rank. `known`: each bound that is left is of a variable of the graph. `untold`: where the column matches,
-- one that is left is untold exactly if one of those at first is.
abbrev pub invariant-loop-rank : goal.invariant-loop-rank
invariant-loop-rank l = record {
  known : All (λ (b : LiteralBound). IsVariable l.self.admitted.now.graph (variable_of b)) l.left.items;
  untold : (s : Scenario) → IsScenario l.self.admitted.now.graph s → matches l.column.cube s ≡ true →
      is_one_untold l.self.admitted.now.graph l.self.tables.now.nodes l.node l.column.time l.left.items s
      ≡ is_one_untold l.self.admitted.now.graph l.self.tables.now.nodes l.node l.column.time l.fn.bounds.items s;
}
