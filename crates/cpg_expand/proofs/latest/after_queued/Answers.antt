-- Proof of `after_queued`, which returns `latest`, raised to a round after the latest time of item `other` in a
-- scenario in which `sent` goes. If `other` doesn't stand before `sent` in the queue of its node, `latest` stays.
use Rattle.std.proofs.Common.{ℕ, ◌≡◌, ◌∙◌, Option, refl, sym, subst}
use Rattle.cpg_tree.specs.Tree.{TreeState}
use Rattle.cpg_base.specs.Bus.{round}
use Rattle.cpg_expand.specs.Forest.{ForestState, times_of}
use Rattle.cpg_expand.specs.Latest.{HasLater, IsRaised, or_later}
use Rattle.cpg_expand.proofs.LatestFound.{later_raised, one_queued}
use Rattle.cpg_expand.proofs.GuardTrees.{times_read}
use Rattle.cpg_expand.proofs.latest.after_queued.Goals as goal

-- the item stands before this one in the queue, so the latest time is raised to a round after it
pub returns : goal.returns
returns c =
    let g = c.args.problem.now in
    let f = c.args.forest.now in
    let sent = c.args.sent.now in
    let goes = sent.goes.now in
    let y = c.args.other in
    -- the forest as the code reads it, list by list
    let inside : ForestState = record {
      times = c.forest.inside.times.items;
      ends = c.forest.inside.ends.items;
      ready = c.forest.inside.ready.items;
      free = c.forest.inside.free.items;
      wide = c.forest.inside.wide;
    } in
    -- the tree that is read is that of the item's times in the forest
    let tree : c.index.result.now ≡ times_of g f y = times_read g f c.requires.forest inside c.forest.view_is
    c.index.result.now y y c.index.ensures refl c.requires.other in
    one_queued g c.args.order.now f goes sent.item y c.args.latest c.or_later.result
    (sym c.stands_before.ensures ∙ c.if-not-stands_before.false)
    (subst (IsRaised g (HasLater (times_of g f y) goes (round g)) c.args.latest) (sym c.or_later.ensures)
    (subst (λ n. IsRaised g (HasLater (times_of g f y) goes n) c.args.latest
    (or_later c.args.latest sent.round c.most_where-time.result)) c.requires.round
    (subst (λ (t : TreeState (Option ℕ)). IsRaised g (HasLater t goes sent.round) c.args.latest
    (or_later c.args.latest sent.round c.most_where-time.result)) tree
    (later_raised g c.index.result.now goes c.args.latest sent.round c.most_where-time.result
    c.most_where-time.ensures))))
