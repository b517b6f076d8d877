-- Proof of `after_end`, which returns `latest`, raised to the latest end of a process in a scenario in which `wanted`
-- is true; `latest` if there is none.
use Rattle.std.proofs.Common.{ℕ, ◌≡◌, Option, refl, sym, subst}
use Rattle.cpg_expand.specs.Forest.{ForestState, ends_of}
use Rattle.cpg_expand.specs.Latest.{HasLater, IsRaised, or_later}
use Rattle.cpg_expand.proofs.LatestFound.{later_raised}
use Rattle.cpg_expand.proofs.GuardTrees.{ends_read}
use Rattle.cpg_tree.specs.Tree.{TreeState}
use Rattle.cpg_expand.proofs.latest.after_end.Goals as goal

-- the forest's tree of the process's ends is read, and the latest time is raised to its greatest end
pub returns : goal.returns
returns c =
    let g = c.args.problem.now in
    let f = c.args.forest.now in
    -- the forest as the code reads it, list by list
    let inside : ForestState = record {
      times = c.forest.inside.times.items;
      ends = c.forest.inside.ends.items;
      ready = c.forest.inside.ready.items;
      free = c.forest.inside.free.items;
      wide = c.forest.inside.wide;
    } in
    -- the tree that is read is that of the process's ends in the forest
    let tree : c.index.result.now ≡ ends_of g f c.args.process = ends_read g f c.requires.forest inside c.forest.view_is
    c.index.result.now c.args.process c.args.process c.index.ensures refl
    c.requires.process in
    subst (IsRaised g (HasLater (ends_of g f c.args.process) c.args.wanted.now 0) c.args.latest)
    (sym c.or_later.ensures)
    (subst (λ (t : TreeState (Option ℕ)). IsRaised g (HasLater t c.args.wanted.now 0) c.args.latest
    (or_later c.args.latest 0 c.most_where-time.result)) tree
    (later_raised g c.index.result.now c.args.wanted.now c.args.latest 0 c.most_where-time.result
    c.most_where-time.ensures))
