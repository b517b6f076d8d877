-- Loops of `Hearing::open_bounds`: the bounds of a column's literals that the node's own ends leave open where the
-- column matches, at its time.
use Rattle.std.proofs.Common.{◌≡◌, true, All, take}
use Rattle.std.specs.List.{list_any}
use Rattle.cpg_base.specs.Graph.{IsVariable}
use Rattle.cpg_base.specs.Scenario.{Scenario, IsScenario}
use Rattle.cpg_cube.specs.Cube.{matches}
use Rattle.cpg_check_heard.specs.declared.bound.LiteralBound.{LiteralBound}
use Rattle.cpg_check_heard.specs.Bounds.{variable_of}
use Rattle.cpg_check_heard.specs.Unheard.{is_literal_unheard, is_one_untold}
use Rattle.cpg_check_heard.proofs.hearing.Hearing.open_bounds.Given as goal

-- After each literal. `known`: each bound is of a variable of the graph. `unheard`: where the column matches, one of
-- the bounds is untold exactly if one of the literals so far is unheard.
abbrev pub invariant-loop-literal : goal.invariant-loop-literal
invariant-loop-literal l = record {
  known : All (λ (b : LiteralBound). IsVariable l.self.admitted.now.graph (variable_of b)) l.bounds.items;
  unheard : (s : Scenario) → IsScenario l.self.admitted.now.graph s → matches l.column.cube s ≡ true →
      is_one_untold l.self.admitted.now.graph l.self.tables.now.nodes l.node l.column.time l.bounds.items s
      ≡ list_any (is_literal_unheard l.self.admitted.now.graph l.self.tables.now.nodes l.node l.column.time s)
      (take l.literal-index l.column.cube);
}
