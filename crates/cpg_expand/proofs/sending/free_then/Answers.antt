-- Proof of `free_then`, which returns from when on the slots of an item's node are free after it, if some item that
-- isn't frozen waits for that; otherwise any tree. `goes` says where the item goes, and `sent` has its times.
use Rattle.std.proofs.Common.{arith, refl}
use Rattle.cpg_base.specs.Bus.{round}
use Rattle.cpg_base.specs.Graph.{home}
use Rattle.cpg_expand.specs.Forest.{ForestState}
use Rattle.cpg_expand.specs.Waiting.{free_of}
use Rattle.cpg_expand.proofs.FreeRead.{free_read}
use Rattle.cpg_expand.proofs.SentTrees.{free_then_read}
use Rattle.cpg_expand.proofs.sending.free_then.Goals as goal

-- the forest's tree of the node's free slots is read, and the slots are free a round after what is sent
pub returns-clause-free : goal.returns-clause-free
returns-clause-free c queued =
    let g = c.args.problem.now in
    let f = c.args.forest.now in
    let x = c.args.item in
    -- the forest as the code reads it, list by list
    let inside : ForestState = record {
      times = c.forest.inside.times.items;
      ends = c.forest.inside.ends.items;
      ready = c.forest.inside.ready.items;
      free = c.forest.inside.free.items;
      wide = c.forest.inside.wide;
    } in
    free_then_read g.faults g.faults c.round.result (round g) c.args.goes.now c.args.sent.now c.index-free.result.now
    (free_of g f (home g x)) c.in_ok-freed.freed refl c.round.ensures
    (free_read g f c.requires.forest inside c.forest.view_is c.index-free.result.now c.home.result
    (home g x) c.index-free.ensures c.home.ensures.home
    (omega (arith, c.home.ensures.home, c.home.ensures.within)))
    (c.in_ok-freed.ensures.free queued)
