-- Proof of `Counter::views`, which returns how many views a set of variables has; `most` if there are more.
use Rattle.std.proofs.Common.{◌∙◌, ap, min}
use Rattle.cpg_reach.proofs.Counted.{along_within, all_views}
use Rattle.cpg_reach.proofs.counting.Counter.views.Goals as goal

-- the conditions along the order are those of the graph
pub views_from-requires-clause-conditions : goal.views_from-requires-clause-conditions
views_from-requires-clause-conditions c = along_within c.args.admitted.now.graph c.args.order.now c.as_slice.result.now
    (c.as_slice.ensures.value ∙ c.requires.counter.conditions)

-- choosing all conditions from no value true counts all views
pub returns-clause-views : goal.returns-clause-views
returns-clause-views c = c.views_from.ensures.views ∙
    ap (min c.args.most) (all_views c.args.admitted.now.graph c.args.order.now c.requires.order c.requires.few
    c.args.reached.now c.as_slice.result.now c.args.self.now.scenario.values
    (c.as_slice.ensures.value ∙ c.requires.counter.conditions) c.requires.counter.values)
