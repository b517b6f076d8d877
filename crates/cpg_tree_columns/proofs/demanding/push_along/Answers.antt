-- Proof of `push_along`, which adds the demands of the leaves from right to left and returns true if the forks stand
-- along the order; `places` has how many places are left at each variable.
use Rattle.std.proofs.Common.{◌≡◌, ◌∙◌, ◌++◌, [], ◌∷◌, rules, ap}
use Rattle.std.proofs.lemmas.List.{nil_from_length}
use Rattle.cpg_tree.specs.declared.item.TreeItem.TheVariants.{Value}
use Rattle.cpg_tree_columns.proofs.SidesAlong.{walked_all}
use Rattle.cpg_tree_columns.proofs.demanding.push_along.Goals as goal

-- nothing waits behind this leaf, so the walk is over: all forks stand along the order
pub returns-in_default-pop-clause-along : goal.returns-in_default-pop-clause-along
returns-in_default-pop-clause-along c n are =
    (walked_all c.args.places.now c.args.items.now c.loop-last.unread.now c.in-Some.others.now c.in-Value.time
    c.loop-last.side c.loop-last.later.items c.args.demands.now.items c.loop-last.demands.items
    c.push_demand.new.demands.items c.loop-last.invariant (rw c.in-Value.is at c.in-Some.ensures.cases.0)
    (nil_from_length c.loop-last.later.items (search rules)) c.in_ok-push_demand-in-Value.ensures n are).0

-- nothing waits behind this leaf, so the walk is over: the demands found are those of all leaves
pub returns-in_default-pop-clause-demands : goal.returns-in_default-pop-clause-demands
returns-in_default-pop-clause-demands c n are =
    (walked_all c.args.places.now c.args.items.now c.loop-last.unread.now c.in-Some.others.now c.in-Value.time
    c.loop-last.side c.loop-last.later.items c.args.demands.now.items c.loop-last.demands.items
    c.push_demand.new.demands.items c.loop-last.invariant (rw c.in-Value.is at c.in-Some.ensures.cases.0)
    (nil_from_length c.loop-last.later.items (search rules)) c.in_ok-push_demand-in-Value.ensures n are).1
