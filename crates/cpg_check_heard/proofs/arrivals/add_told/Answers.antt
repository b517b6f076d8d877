-- Proof of `add_told`: adds to `told` for each of these columns the part of its cube in which it tells a bound by a
-- time, if there is one.
use Rattle.std.proofs.Common.{◌||◌, ◌∙◌, ap, sym, subst}
use Rattle.std.specs.List.{list_any}
use Rattle.cpg_cube.specs.Cube.{matches}
use Rattle.cpg_check_heard.specs.declared.arrivals.Arrival.{Arrival}
use Rattle.cpg_check_heard.specs.Arrivals.{IsArrival}
use Rattle.cpg_check_heard.specs.TellingRows.{is_telling}
use Rattle.cpg_check_heard.proofs.PartLaws.{told_add, known_add, row_more}
use Rattle.cpg_check_heard.proofs.arrivals.add_told.Goals as goal

-- the next column may tell the bound
pub part_of-requires-clause-can : goal.part_of-requires-clause-can
part_of-requires-clause-can c =
    let is = subst (IsArrival c.args.problem.now) (sym c.arrival-item.is)
    (c.requires.arrivals c.loop-arrival.arrival-index c.arrival-item.result c.loop-arrival-test.true) in
    is.can c.args.bound

-- its cube has variables of the graph alone
pub part_of-requires-clause-cube : goal.part_of-requires-clause-cube
part_of-requires-clause-cube c =
    let is = subst (IsArrival c.args.problem.now) (sym c.arrival-item.is)
    (c.requires.arrivals c.loop-arrival.arrival-index c.arrival-item.result c.loop-arrival-test.true) in
    is.known

-- with the next column's part, the cubes match where one column more tells the bound
pub loop-arrival-preserved : goal.loop-arrival-preserved
loop-arrival-preserved c =
    let graph = c.args.problem.now in
    let arrival = c.arrival-item.result in
    record {
      known = rw c.in_ok-add.ensures (known_add graph c.loop-arrival.told.items c.in_ok-part.part
          c.loop-arrival.invariant.known c.in_ok-part.ensures.known);
      -- the cubes match where one of the columns so far, or this one, tells the bound
      told = λ s lawful. row_more (λ (a : Arrival). is_telling graph a.means c.args.time c.args.bound s a.column.now)
          c.args.arrivals.now c.loop-arrival.arrival-index arrival c.loop-arrival-test.true
          (list_any (λ b. matches b s) c.args.told.now.items) (list_any (λ b. matches b s) c.loop-arrival.told.items)
          (list_any (λ b. matches b s) c.add.new.told.items)
          (c.loop-arrival.invariant.told s lawful)
          (ap (list_any (λ b. matches b s)) c.in_ok-add.ensures
          ∙ told_add graph (λ t. is_telling graph arrival.means c.args.time c.args.bound t arrival.column.now)
          c.loop-arrival.told.items
          c.in_ok-part.part c.in_ok-part.ensures.part s lawful
          ∙ ap (λ (a : Arrival). list_any (λ b. matches b s) c.loop-arrival.told.items
          || is_telling graph a.means c.args.time c.args.bound s a.column.now) c.arrival-item.is);
    }
