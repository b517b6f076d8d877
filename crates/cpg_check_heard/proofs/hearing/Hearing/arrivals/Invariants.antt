-- Loops of `Hearing::arrivals`: the columns of these items' rows that may match together with a cube, and whose frames
-- may have come by a time.
use Rattle.std.proofs.Common.{◌≡◌, true, All, take}
use Rattle.std.specs.List.{list_any}
use Rattle.cpg_base.specs.Scenario.{Scenario}
use Rattle.cpg_cube.specs.Cube.{matches}
use Rattle.cpg_check_heard.specs.declared.bound.LiteralBound.{LiteralBound}
use Rattle.cpg_check_heard.specs.Arrivals.{IsArrival, do_tell}
use Rattle.cpg_check_heard.specs.Untold.{item_tells}
use Rattle.cpg_check_heard.proofs.hearing.Hearing.arrivals.Given as goal

-- After each item. `each`: each arrival is on variables of the graph, and can tell each bound. `told`: where the cube
-- matches, an arrival tells a bound by the time exactly if the row of one of the items so far does.
abbrev pub invariant-loop-item : goal.invariant-loop-item
invariant-loop-item l = record {
  each : All (IsArrival l.self.admitted.now.graph) l.arrivals.items;
  told : (b : LiteralBound) (s : Scenario) → matches l.cube s ≡ true →
      do_tell l.self.admitted.now.graph l.time b l.arrivals.items s ≡ list_any
      (item_tells l.self.admitted.now.graph l.self.tables.now.nodes l.time b s) (take l.item-index l.items);
}
