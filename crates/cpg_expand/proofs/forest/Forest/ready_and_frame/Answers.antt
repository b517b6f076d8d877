-- Proof of `Forest::ready_and_frame`, which returns from when on a node is ready, which `ready` says, and the frame of
-- an item has arrived. Where the item isn't sent, the node's being ready alone counts.
use Rattle.std.proofs.Common.{ℕ, ◌<◌, ◌≡◌, ◌∙◌, Option, refl, sym, ap, subst}
use Rattle.cpg_base.specs.Bus.{slot_length}
use Rattle.cpg_base.specs.Graph.{home, process_count}
use Rattle.cpg_tree.specs.Read.{later_by}
use Rattle.cpg_tree.specs.Variables.{is_variable}
use Rattle.cpg_tree.specs.GraphTrees.{IsTree}
use Rattle.cpg_expand.specs.Forest.{ForestState, IsWait, ends_of, ready_by, times_of}
use Rattle.cpg_expand.specs.Later.{IsLatest}
use Rattle.cpg_expand.specs.declared.forest.Ready.{Ready}
use Rattle.cpg_expand.proofs.GuardTrees.{ends_and_read, ends_read, ends_tree, times_read, times_tree}
use Rattle.cpg_tree.proofs.GraphTrees.{same_tree}
use Rattle.cpg_expand.proofs.GuardTrees.{valued_and_read}
use Rattle.cpg_expand.proofs.forest.Forest.ready_and_frame.Goals as goal

-- the node is ready after the ends of a process: the later of these and of the frame's end is taken
pub returns-in_ok-both-in-After : goal.returns-in_ok-both-in-After
returns-in_ok-both-in-After c =
    let g = c.args.problem.now in
    let f = c.args.self.now in
    let x = c.args.item in
    let p = c.in-After.process in
    let times = c.index-times.result.now in
    let end = c.index.result.now in
    let both = c.in_ok-both-in-After.both in
    let delay = c.slot_length-delay.result in
    let l : p < process_count g = subst (IsWait g) c.in-After.is c.requires.ready in
    -- the forest as the code reads it, list by list
    let inside : ForestState = record {
      times = c.self.inside.times.items;
      ends = c.self.inside.ends.items;
      ready = c.self.inside.ready.items;
      free = c.self.inside.free.items;
      wide = c.self.inside.wide;
    } in
    -- the tree that is read is that of the item's times in the forest
    let same : times ≡ times_of g f x =
    times_read g f c.requires.forest inside c.self.view_is times x x c.index-times.ensures refl c.requires.item in
    -- the tree that is read is that of the process's ends in the forest
    let same_end : end ≡ ends_of g f p =
    ends_read g f c.requires.forest inside c.self.view_is end p p c.index.ensures refl l in
    -- so the item's tree is one of the graph
    let of_times : IsTree g times = subst (IsTree g) (sym same) (times_tree g f c.requires.forest x c.requires.item) in
    -- so the process's tree is one of the graph
    let of_end : IsTree g end = subst (IsTree g) (sym same_end) (ends_tree g f c.requires.forest p l) in
    record {
      tree = same_tree g times both of_times.faults c.in_ok-both-in-After.ensures.is.faults
          c.in_ok-both-in-After.ensures.each
          (c.in_ok-both-in-After.ensures.pass (is_variable g) of_times.known of_end.known);
      both = subst (λ (r : Ready). IsLatest g.faults (ready_by g f r)
          (later_by (slot_length g (home g x)) (times_of g f x)) both) (sym c.in-After.is)
          (ends_and_read g (λ n. n) delay (slot_length g (home g x)) (c.slot_length-delay.ensures
          ∙ ap (slot_length g) c.home.ensures.home) times (times_of g f x) same of_times end
          (ends_of g f p) both same_end of_end c.in_ok-both-in-After.ensures.is);
    }

-- the node is ready by a tree: the later of that and of the frame's end is taken
pub returns-in_ok-both-in-At : goal.returns-in_ok-both-in-At
returns-in_ok-both-in-At c =
    let g = c.args.problem.now in
    let f = c.args.self.now in
    let x = c.args.item in
    let times = c.index-times.result.now in
    let ready = c.in-At.tree in
    let both = c.in_ok-both-in-At.both in
    let delay = c.slot_length-delay.result in
    let of : IsTree g ready = subst (IsWait g) c.in-At.is c.requires.ready in
    -- the forest as the code reads it, list by list
    let inside : ForestState = record {
      times = c.self.inside.times.items;
      ends = c.self.inside.ends.items;
      ready = c.self.inside.ready.items;
      free = c.self.inside.free.items;
      wide = c.self.inside.wide;
    } in
    -- the tree that is read is that of the item's times in the forest
    let same : times ≡ times_of g f x =
    times_read g f c.requires.forest inside c.self.view_is times x x c.index-times.ensures refl c.requires.item in
    -- so the item's tree is one of the graph
    let of_times : IsTree g times = subst (IsTree g) (sym same) (times_tree g f c.requires.forest x c.requires.item) in
    record {
      tree = same_tree g ready both of.faults c.in_ok-both-in-At.ensures.is.faults c.in_ok-both-in-At.ensures.each
          (c.in_ok-both-in-At.ensures.pass (is_variable g) of.known of_times.known);
      both = subst (λ (r : Ready). IsLatest g.faults (ready_by g f r)
          (later_by (slot_length g (home g x)) (times_of g f x)) both) (sym c.in-At.is)
          (valued_and_read g (λ n. n) delay (slot_length g (home g x))
          (c.slot_length-delay.ensures ∙ ap (slot_length g) c.home.ensures.home) times
          (times_of g f x) same of_times ready both of c.in_ok-both-in-At.ensures.is);
    }
