-- Proof of `add`, which adds an item that a process sends: to the forest its times, and from when on the slots of its
-- node are free after it, and to `frozen` its frozen time if it is frozen and ever goes. `active` says where the
-- process is active.
use Rattle.std.proofs.Common.{◌∙◌}
use Rattle.cpg_expand.proofs.FreeRead.{has_put}
use Rattle.cpg_expand.proofs.SentTrees.{sent_count, item_added}
use Rattle.cpg_expand.proofs.sending.add.Goals as goal

-- the two trees that are put are of the graph, so there is a tree for each item and node still
pub returns-clause-trees : goal.returns-clause-trees
returns-clause-trees c = has_put c.args.course.now.problem.now c.args.forest.now c.put.new.forest c.args.item
    c.home.result c.in_ok-sent.sent c.in_ok-free.free c.requires.forest
    c.in_ok-sent.ensures.tree c.in_ok-free.ensures.tree c.put.ensures

-- the item's times and when its node's slots are free are put, so the item is added
pub returns-clause-added : goal.returns-clause-added
returns-clause-added c =
    item_added c.args.course.now.problem.now c.args.course.now.order.now c.args.active.now c.args.item c.home.result
    c.home.ensures.home
    c.args.forest.now c.put.new.forest c.args.frozen.now c.sent_of.new.frozen c.in_ok-goes.goes
    c.in_ok-goes.ensures.tree c.in_ok-goes.ensures.goes
    c.in_ok-sent.sent c.in_ok-sent.ensures.tree c.in_ok-sent.ensures.sent c.in_ok-free.free c.in_ok-free.ensures.tree
    c.in_ok-free.ensures.free c.put.ensures

-- there are as many frozen times as before
pub returns-clause-count : goal.returns-clause-count
returns-clause-count c =
    sent_count c.args.course.now.problem.now c.args.course.now.order.now c.in_ok-goes.goes c.args.item c.args.forest.now
    c.args.frozen.now c.sent_of.new.frozen c.in_ok-sent.sent
    c.in_ok-sent.ensures.sent ∙ c.requires.frozen
