-- Loops of `add_row`: adds to `arrivals` the columns of a row that may match together with a cube, and whose ends or
-- frames may have come by a time.
use Rattle.std.proofs.Common.{◌≡◌, ◌||◌, All, take}
use Rattle.std.specs.List.{list_any}
use Rattle.cpg_base.specs.Graph.{Graph}
use Rattle.cpg_base.specs.Scenario.{Scenario}
use Rattle.cpg_cube.specs.Fit.{IsKnown}
use Rattle.cpg_cube.specs.declared.column.Column.{Column}
use Rattle.cpg_check_heard.specs.declared.bound.LiteralBound.{LiteralBound}
use Rattle.cpg_check_heard.specs.Arrivals.{IsArrival, do_tell}
use Rattle.cpg_check_heard.specs.TellingRows.{CanTell, is_telling_at}
use Rattle.cpg_check_heard.proofs.arrivals.add_row.Given as goal

-- After each place. `each`: if the row's columns are on variables of a graph, its means can tell each bound, and the
-- arrivals before are lawful, all arrivals are. `told`: an arrival tells a bound by the time exactly if one before
-- does, or the column at one of the places so far.
abbrev pub invariant-loop-place : goal.invariant-loop-place
invariant-loop-place l = record {
  each : (g : Graph) → All (λ (c : Column). IsKnown g c.cube) l.row.sieved.now.columns.now →
      ((b : LiteralBound) → CanTell g b l.row.means) →
      All (IsArrival g) l.fn.arrivals.items →
      All (IsArrival g) l.arrivals.items;
  told : (g : Graph) (b : LiteralBound) (s : Scenario) → do_tell g l.time b l.arrivals.items s ≡
      (do_tell g l.time b l.fn.arrivals.items s
      || list_any (is_telling_at g l.row.means l.time b l.row.sieved.now.columns.now s)
      (take l.place-index l.place-items));
}
