-- Proof of `Forest::started_by_frame_where`, which returns the starts of a process where `active` is true, and no time
-- elsewhere. It starts at `release` or later, once its node is ready, which `ready` says, and the frame of an item has
-- arrived. Where the item isn't sent, its frame isn't waited for.
use Rattle.std.proofs.Common.{◌<◌, ◌≡◌, ◌∙◌, refl, sym, ap, subst}
use Rattle.cpg_base.specs.Bus.{slot_length}
use Rattle.cpg_base.specs.Graph.{home, process_count}
use Rattle.cpg_tree.specs.Read.{later_by}
use Rattle.cpg_tree.specs.Variables.{is_variable}
use Rattle.cpg_tree.specs.GraphTrees.{IsTree}
use Rattle.cpg_expand.specs.Forest.{ForestState, IsWait, ends_of, ready_by, times_of}
use Rattle.cpg_expand.specs.Later.{IsReleasedWhere}
use Rattle.cpg_expand.specs.declared.forest.Ready.{Ready}
use Rattle.cpg_expand.proofs.StartsWhere.{ends_where, read_where}
use Rattle.cpg_expand.proofs.GuardTrees.{ends_read, ends_tree, times_read, times_tree}
use Rattle.cpg_tree.proofs.GraphTrees.{same_tree}
use Rattle.cpg_expand.proofs.forest.Forest.started_by_frame_where.Goals as goal

-- the node is ready after the ends of a process: where the process is active, the starts are the latest of these, the
-- frame's end and the release
pub returns-in_ok-start-in-After : goal.returns-in_ok-start-in-After
returns-in_ok-start-in-After c =
    let g = c.args.problem.now in
    let f = c.args.self.now in
    let x = c.args.item in
    let p = c.in-After.process in
    let times = c.index-times.result.now in
    let end = c.index-end.result.now in
    let start = c.in_ok-start-in-After.start in
    let delay = c.slot_length-delay.result in
    let l : p < process_count g = subst (IsWait g) c.in-After.is c.requires.ready in
    -- the forest as the code reads it, list by list
    let inside : ForestState = record {
      times = c.self.inside.times.items;
      ends = c.self.inside.ends.items;
      ready = c.self.inside.ready.items;
      free = c.self.inside.free.items;
      wide = c.self.inside.wide;
    } in
    -- the tree that is read is that of the item's times in the forest
    let same : times ≡ times_of g f x =
    times_read g f c.requires.forest inside c.self.view_is times x x c.index-times.ensures refl c.requires.item in
    -- the tree that is read is that of the process's ends in the forest
    let same_end : end ≡ ends_of g f p =
    ends_read g f c.requires.forest inside c.self.view_is end p p c.index-end.ensures refl l in
    -- so the item's tree is one of the graph
    let of_times : IsTree g times = subst (IsTree g) (sym same) (times_tree g f c.requires.forest x c.requires.item) in
    -- so the process's tree is one of the graph
    let of_end : IsTree g end = subst (IsTree g) (sym same_end) (ends_tree g f c.requires.forest p l) in
    record {
      tree = same_tree g c.args.active.now start c.requires.active.faults c.in_ok-start-in-After.ensures.is.faults
          c.in_ok-start-in-After.ensures.each
          (c.in_ok-start-in-After.ensures.pass (is_variable g) c.requires.active.known of_times.known of_end.known);
      start = subst (λ (r : Ready). IsReleasedWhere g.faults c.args.active.now (ready_by g f r)
          (later_by (slot_length g (home g x)) (times_of g f x)) c.args.release start) (sym c.in-After.is)
          (ends_where g c.args.release delay (slot_length g (home g x))
          (c.slot_length-delay.ensures ∙ ap (slot_length g) c.home.ensures.home) times
          (times_of g f x) same of_times c.args.active.now c.requires.active end
          (ends_of g f p) start same_end of_end c.in_ok-start-in-After.ensures.is);
    }

-- the node is ready by a tree: where the process is active, the starts are the latest of its times, the frame's end
-- and the release
pub returns-in_ok-start-in-At : goal.returns-in_ok-start-in-At
returns-in_ok-start-in-At c =
    let g = c.args.problem.now in
    let f = c.args.self.now in
    let x = c.args.item in
    let times = c.index-times.result.now in
    let ready = c.in-At.tree in
    let start = c.in_ok-start-in-At.start in
    let delay = c.slot_length-delay.result in
    let of : IsTree g ready = subst (IsWait g) c.in-At.is c.requires.ready in
    -- the forest as the code reads it, list by list
    let inside : ForestState = record {
      times = c.self.inside.times.items;
      ends = c.self.inside.ends.items;
      ready = c.self.inside.ready.items;
      free = c.self.inside.free.items;
      wide = c.self.inside.wide;
    } in
    -- the tree that is read is that of the item's times in the forest
    let same : times ≡ times_of g f x =
    times_read g f c.requires.forest inside c.self.view_is times x x c.index-times.ensures refl c.requires.item in
    -- so the item's tree is one of the graph
    let of_times : IsTree g times = subst (IsTree g) (sym same) (times_tree g f c.requires.forest x c.requires.item) in
    record {
      tree = same_tree g c.args.active.now start c.requires.active.faults c.in_ok-start-in-At.ensures.is.faults
          c.in_ok-start-in-At.ensures.each
          (c.in_ok-start-in-At.ensures.pass (is_variable g) c.requires.active.known of.known of_times.known);
      start = subst (λ (r : Ready). IsReleasedWhere g.faults c.args.active.now (ready_by g f r)
          (later_by (slot_length g (home g x)) (times_of g f x)) c.args.release start) (sym c.in-At.is)
          (read_where g c.args.release delay (slot_length g (home g x))
          (c.slot_length-delay.ensures ∙ ap (slot_length g) c.home.ensures.home) times
          (times_of g f x) same of_times c.args.active.now c.requires.active ready start of
          c.in_ok-start-in-At.ensures.is);
    }
