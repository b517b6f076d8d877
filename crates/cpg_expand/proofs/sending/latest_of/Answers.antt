-- Proof of `latest_of`, which returns the latest time at which a frozen item would be sent if it weren't frozen. `goes`
-- says where it goes; `None` exactly if its producer has no end there.
use Rattle.std.proofs.Common.{◌∙◌, ap, arith}
use Rattle.cpg_base.specs.Graph.{home, producer}
use Rattle.cpg_bus.specs.Share.{share_of}
use Rattle.cpg_expand.specs.Forest.{ForestState, ends_of}
use Rattle.cpg_expand.proofs.SentTrees.{latest_read}
use Rattle.cpg_expand.proofs.GuardTrees.{ends_read}
use Rattle.cpg_expand.proofs.sending.latest_of.Goals as goal

-- the latest time by the trees that are read from the forest is that of the item
pub returns : goal.returns
returns c =
    let g = c.args.course.now.problem.now in
    let f = c.args.forest.now in
    let x = c.args.item in
    -- the forest as the code reads it, list by list
    let inside : ForestState = record {
      times = c.forest.inside.times.items;
      ends = c.forest.inside.ends.items;
      ready = c.forest.inside.ready.items;
      free = c.forest.inside.free.items;
      wide = c.forest.inside.wide;
    } in
    latest_read g c.args.course.now.order.now f c.share-share.result (share_of g (home g x)) c.args.goes.now
    c.index-end.result.now (ends_of g f (producer g x)) x c.latest_send.result
    (c.share-share.ensures ∙ ap (share_of g) c.home.ensures.home)
    (ends_read g f c.requires.forest inside c.forest.view_is c.index-end.result.now c.producer.result
    (producer g x) c.index-end.ensures c.producer.ensures.producer
    (omega (arith, c.producer.ensures.producer, c.producer.ensures.within)))
    c.latest_send.ensures
