-- Proof of `FrozenItemsTimeJudge::least`: the least scenario that a column of an item matches, if its time isn't the
-- one that the item has to have.
use Rattle.std.proofs.Common.{◌∙◌, arith, sym, ap, length}
use Rattle.std.proofs.lemmas.List.FromFn.{length-map-range_with_len}
use Rattle.cpg_base.specs.Graph.{item_count}
use Rattle.cpg_base.specs.First.{IsFirst}
use Rattle.cpg_cube.specs.Cube.{matches}
use Rattle.cpg_check_time.specs.Frozen.{frozen_time}
use Rattle.cpg_check_time.proofs.FrozenLaws.{frozen_none, frozen_same, frozen_first, time_at}
use Rattle.cpg_check_time.proofs.frozen.FrozenItemsTimeJudge.least.Goals as goal

-- there is a time for each item
pub index-requires : goal.index-requires
index-requires c = omega (
  arith,
  c.requires.item,
  ap length c.requires.suits,
  length-map-range_with_len (frozen_time c.args.admitted.now.graph c.args.tables.now.nodes) 0
      (item_count c.args.admitted.now.graph),
)

-- without a frozen time the column never breaks V8
pub returns-in_default : goal.returns-in_default
returns-in_default c =
    let at = c.index.ensures ∙ time_at c.args.admitted.now.graph c.args.tables.now.nodes c.args.self.now.times.items
    c.args.item c.index.result.now c.requires.suits c.requires.item in
    λ s _. frozen_none c.args.admitted.now.graph c.args.admitted.now.order c.args.tables.now.nodes c.args.item
    c.args.column.now (sym at ∙ c.in_default.is) s

-- a column at the frozen time never breaks V8
pub returns-then-time-column : goal.returns-then-time-column
returns-then-time-column c =
    let at = c.index.ensures ∙ time_at c.args.admitted.now.graph c.args.tables.now.nodes c.args.self.now.times.items
    c.args.item c.index.result.now c.requires.suits c.requires.item in
    λ s _. frozen_same c.args.admitted.now.graph c.args.admitted.now.order c.args.tables.now.nodes c.args.item
    c.args.column.now c.in-Some.time (sym at ∙ c.in-Some.is) c.if-time-column.true s

-- the item's time is another than the column's, so the column breaks V8 wherever it matches
pub returns : goal.returns
returns c =
    let at = c.index.ensures ∙ time_at c.args.admitted.now.graph c.args.tables.now.nodes c.args.self.now.times.items
    c.args.item c.index.result.now c.requires.suits c.requires.item in
    let first : IsFirst c.args.admitted.now.graph c.args.admitted.now.order
    (matches c.args.column.now.cube) c.in_ok-least.least =
    rw (← c.problem.ensures.problem) (c.in_ok-least.ensures.first c.args.admitted.now.order) in
    frozen_first c.args.admitted.now.graph c.args.admitted.now.order c.args.tables.now.nodes c.args.item
    c.args.column.now c.in-Some.time
    (sym at ∙ c.in-Some.is) c.if-time-column.false c.in_ok-least.least first
