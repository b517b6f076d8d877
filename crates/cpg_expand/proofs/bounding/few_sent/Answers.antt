-- Proof of `few_sent`, which answers `TooWide` of the forest's item if the tree of an item that the process sends has
-- too many leaves.
use Rattle.std.proofs.Common.{◌≡◌, ◌∙◌, ℕ, ◌<◌, List, length, get_or, Contains, ap, subst, arith, refl, sym, Option}
use Rattle.std.proofs.lemmas.List.Elements.{Contains-get_or}
use Rattle.cpg_bus.specs.Plan.{queue_of}
use Rattle.cpg_bus.proofs.Queued.{in_queue}
use Rattle.cpg_tree.specs.Tree.{TreeState}
use Rattle.cpg_expand.specs.Forest.{ForestState, times_of}
use Rattle.cpg_expand.specs.Large.{HasLargeSend, IsLarge}
use Rattle.cpg_expand.proofs.LargeShown.{handed_as, named_as}
use Rattle.cpg_expand.proofs.GuardTrees.{times_read}
use Rattle.cpg_expand.proofs.bounding.few_sent.Goals as goal

-- the item that is looked at is one of those that the process sends
item_queued : (xs qs : List ℕ) (k : ℕ) → k < length xs → xs ≡ qs → Contains qs (get_or xs k 0)
item_queued xs qs k l is = subst (λ ys. Contains ys (get_or xs k 0)) is (Contains-get_or xs k 0 l)

-- the item at this place of the queue is one of the graph, so it has a tree
pub index-requires : goal.index-requires
index-requires c =
    let g = c.args.problem.now in
    let is = c.queue-item-items.ensures in
    let within = (in_queue g c.args.process (get_or c.queue-item-items.result.now c.loop-item.item-index 0)
    (item_queued c.queue-item-items.result.now
    (queue_of g c.args.process) c.loop-item.item-index c.loop-item-test.true is)).within in
    omega (arith, within, c.requires.forest.times, ap (λ (f : ForestState). length f.times) c.forest.view_is)

-- the item stands in the process's queue, so it is one that it sends, and its tree has too many leaves
pub returns-in_err-few : goal.returns-in_err-few
returns-in_err-few c =
    let g = c.args.problem.now in
    let f = c.args.forest.now in
    let p = c.args.process in
    let item = get_or c.queue-item-items.result.now c.loop-item.item-index 0 in
    let queued = item_queued c.queue-item-items.result.now
    (queue_of g p) c.loop-item.item-index c.loop-item-test.true c.queue-item-items.ensures in
    -- the forest as the code reads it, list by list
    let inside : ForestState = record {
      times = c.forest.inside.times.items;
      ends = c.forest.inside.ends.items;
      ready = c.forest.inside.ready.items;
      free = c.forest.inside.free.items;
      wide = c.forest.inside.wide;
    } in
    let tree : TreeState (Option ℕ) = c.index.result.now in
    -- the tree that is read is that of the item's times in the forest
    let same : tree ≡ times_of g f item = times_read g f c.requires.forest inside c.forest.view_is tree item item
    c.index.ensures refl (in_queue g p item queued).within in
    handed_as (IsLarge tree)
    (HasLargeSend g p f) f.wide c.from_residual.result c.in_err-few.field-0.0 c.from_residual.ensures.1
    (λ x. record { item = item; sent = queued; large = subst (λ (t : TreeState (Option ℕ)). IsLarge t) same x })
    (named_as (IsLarge tree) c.forest.inside.wide f.wide c.in_err-few.field-0.0
    (ap (λ (x : ForestState). x.wide) c.forest.view_is) c.in_err-few.ensures)
