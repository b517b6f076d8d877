-- Proof of `after_frame`, which returns `latest`, raised to the latest arrival of an item's frame in a scenario in
-- which `wanted` is true; `latest` if there is none.
use Rattle.std.proofs.Common.{ℕ, ◌≡◌, ◌∙◌, Option, refl, ap, sym, subst}
use Rattle.cpg_base.specs.Bus.{slot_length}
use Rattle.cpg_base.specs.Graph.{home}
use Rattle.cpg_expand.specs.Forest.{ForestState, times_of}
use Rattle.cpg_expand.specs.Latest.{HasLater, IsRaised, or_later}
use Rattle.cpg_expand.proofs.LatestFound.{later_raised}
use Rattle.cpg_expand.proofs.GuardTrees.{times_read}
use Rattle.cpg_tree.specs.Tree.{TreeState}
use Rattle.cpg_expand.proofs.latest.after_frame.Goals as goal

-- the forest's tree of the frame's times is read, and the latest time is raised to the end of the latest frame
pub returns : goal.returns
returns c =
    let g = c.args.problem.now in
    let f = c.args.forest.now in
    -- the forest as the code reads it, list by list
    let inside : ForestState = record {
      times = c.forest.inside.times.items;
      ends = c.forest.inside.ends.items;
      ready = c.forest.inside.ready.items;
      free = c.forest.inside.free.items;
      wide = c.forest.inside.wide;
    } in
    -- the tree that is read is that of the item's times in the forest
    let tree : c.index.result.now ≡ times_of g f c.args.item = times_read g f c.requires.forest inside c.forest.view_is
    c.index.result.now c.args.item c.args.item c.index.ensures refl
    c.requires.item in
    let delay : c.slot_length.result ≡ slot_length g (home g c.args.item) =
    c.slot_length.ensures ∙ ap (slot_length g) c.home.ensures.home in
    subst (IsRaised g (HasLater (times_of g f c.args.item) c.args.wanted.now (slot_length g (home g c.args.item)))
    c.args.latest) (sym c.or_later.ensures)
    (subst (λ n. IsRaised g (HasLater (times_of g f c.args.item) c.args.wanted.now n) c.args.latest
    (or_later c.args.latest c.slot_length.result c.most_where-time.result)) delay
    (subst (λ (t : TreeState (Option ℕ)). IsRaised g (HasLater t c.args.wanted.now c.slot_length.result) c.args.latest
    (or_later c.args.latest c.slot_length.result c.most_where-time.result)) tree
    (later_raised g c.index.result.now c.args.wanted.now c.args.latest c.slot_length.result c.most_where-time.result
    c.most_where-time.ensures)))
