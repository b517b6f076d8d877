-- Proof of `deciding`: the conditions that decide a process in a scenario.
use Rattle.std.proofs.Common.{◌≡◌, sym, subst}
use Rattle.cpg_base.specs.Graph.{condition_count}
use Rattle.cpg_base.specs.Numbers.{numbers_below}
use Rattle.cpg_base.proofs.Lists.{Contains-filter, Contains-filter_parts, Contains-numbers, numbers-Contains}
use Rattle.cpg_order.specs.Counting.{conditions_along}
use Rattle.cpg_order.specs.Deciding.{decides}
use Rattle.cpg_order.specs.Guard.{deciding_along}
use Rattle.cpg_order.proofs.Along.{from_along, Contains-along}
use Rattle.cpg_rules.specs.Guards.{AreGuardsOf}
use Rattle.cpg_list.specs.Learning.{AreDeciding}
use Rattle.cpg_list.proofs.learning.deciding.Goals as goal

-- the guards list the conditions that decide the process in the urgency order; these are the same as in the order of their
-- numbers
pub returns : goal.returns
returns c =
    let admitted = c.args.admitted.now in
    let graph = admitted.graph in
    let order = admitted.order in
    let is = c.order-order.ensures.admitted in
    let test = decides graph c.args.scenario.now.values c.args.process in
    -- what is listed is the conditions that decide, along the order
    let along : c.in_ok-conditions.conditions.items
    ≡ deciding_along graph order c.args.scenario.now.values c.args.process =
    c.in_ok-conditions.ensures.deciding graph order is.urgency is.topological
    (subst (AreGuardsOf graph order) (sym c.guards-guards.ensures.guards) is.guards) in
    -- each listed condition decides the process, and each that does is listed
    subst (AreDeciding graph c.args.scenario.now c.args.process) (sym along) (record {
      each = λ condition there.
          let parts = Contains-filter_parts test (conditions_along graph order) condition there in
          Contains-filter test (numbers_below (condition_count graph)) condition parts.1
          (Contains-numbers (condition_count graph) condition (from_along graph order condition parts.0).0);
      all = λ condition there.
          let parts = Contains-filter_parts test (numbers_below (condition_count graph)) condition there in
          Contains-filter test (conditions_along graph order) condition parts.1
          (Contains-along graph order is.topological condition
          (numbers-Contains (condition_count graph) condition parts.0));
    })
