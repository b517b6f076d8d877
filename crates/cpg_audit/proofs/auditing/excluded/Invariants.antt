-- Loops of `excluded`: the cubes of those columns of all items whose times a log excludes.
use Rattle.std.proofs.Common.{◌≡◌, All, flat_map, map, take}
use Rattle.std.specs.List.{list_any}
use Rattle.cpg_base.specs.Scenario.{Scenario}
use Rattle.cpg_cube.specs.Cube.{matches}
use Rattle.cpg_cube.specs.Fit.{IsKnown}
use Rattle.cpg_tree.specs.Space.{IsInSpace}
use Rattle.cpg_audit.specs.Excluded.{excluded_of}
use Rattle.cpg_audit.specs.Narrowing.{Leaves}
use Rattle.cpg_audit.proofs.auditing.excluded.Given as goal

-- After each item. `same`: in the scenarios of the space as it was at first, a kept cube matches exactly where an
-- excluded one of the items so far does. `left`: those of them that no kept cube matches lie in the space that is left.
-- `known`: the kept cubes are on variables of the graph.
abbrev pub invariant-loop-timed : goal.invariant-loop-timed
invariant-loop-timed l = record {
  same : (s : Scenario) → IsInSpace l.fn.space s →
      list_any (λ b. matches b.now s) l.kept.items ≡ list_any (λ b. matches b s)
      (flat_map (excluded_of l.tables.nodes l.log) (map (λ t. t.item) (take l.timed-index l.timed-items)));
  left : (s : Scenario) → IsInSpace l.fn.space s → Leaves l.space l.kept.items s;
  known : All (λ b. IsKnown l.problem b.now) l.kept.items;
}
