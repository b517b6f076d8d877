-- Proof of `unfrozen_times_of`, which returns a tree with the times of an item that isn't frozen: the first free slot
-- of its node at its producer's end or later where `goes` is true, and no time elsewhere.
use Rattle.std.proofs.Common.{◌∙◌, ap, arith, refl}
use Rattle.cpg_base.specs.Graph.{home, producer}
use Rattle.cpg_bus.specs.Share.{share_of}
use Rattle.cpg_expand.specs.Forest.{ForestState, ends_of}
use Rattle.cpg_expand.specs.Waiting.{free_of}
use Rattle.cpg_expand.proofs.FreeRead.{free_read}
use Rattle.cpg_expand.proofs.SentTrees.{slots_read}
use Rattle.cpg_expand.proofs.GuardTrees.{ends_read}
use Rattle.cpg_expand.proofs.sending.unfrozen_times_of.Goals as goal

-- the slots by the trees that are read from the forest are those of the item
pub returns-clause-slots : goal.returns-clause-slots
returns-clause-slots c =
    let g = c.args.problem.now in
    let f = c.args.forest.now in
    let x = c.args.item in
    -- the forest as the code reads it, list by list
    let inside : ForestState = record {
      times = c.forest.inside.times.items;
      ends = c.forest.inside.ends.items;
      ready = c.forest.inside.ready.items;
      free = c.forest.inside.free.items;
      wide = c.forest.inside.wide;
    } in
    -- the tree is made of the producer's ends and the node's free slots, as the forest has them
    slots_read g.faults g.faults c.share-share.result (share_of g (home g x)) c.args.goes.now c.index-end.result.now
    (ends_of g f (producer g x)) c.index-free.result.now
    (free_of g f (home g x)) c.in_ok-sent.sent
    refl (c.share-share.ensures ∙ ap (share_of g) c.home-node.ensures.home)
    (ends_read g f c.requires.forest inside c.forest.view_is c.index-end.result.now c.producer.result
    (producer g x) c.index-end.ensures c.producer.ensures.producer
    (omega (arith, c.producer.ensures.producer, c.producer.ensures.within)))
    (free_read g f c.requires.forest inside c.forest.view_is c.index-free.result.now c.home-node.result
    (home g x) c.index-free.ensures c.home-node.ensures.home
    (omega (arith, c.home-node.ensures.home, c.home-node.ensures.within)))
    c.in_ok-sent.ensures.sent
