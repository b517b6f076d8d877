-- Proof of `Forest::heard_and`, which returns the later of two times in each scenario: from when on a node has heard a
-- condition, and `further`. Where the condition isn't told, that is `further`.
use Rattle.std.proofs.Common.{◌≡◌, ◌∙◌, refl, sym, ap, subst}
use Rattle.cpg_base.specs.Bus.{slot_length}
use Rattle.cpg_base.specs.Graph.{home, node_of}
use Rattle.cpg_tree.specs.Read.{later_by}
use Rattle.cpg_tree.specs.Variables.{is_variable}
use Rattle.cpg_tree.specs.GraphTrees.{IsTree}
use Rattle.cpg_expand.specs.Forest.{ForestState, ends_of, later_tree, times_of}
use Rattle.cpg_expand.specs.Later.{IsLatest}
use Rattle.cpg_expand.proofs.GuardTrees.{ends_read, ends_tree, heard_other, heard_own, read_and_valued}
use Rattle.cpg_tree.proofs.GraphTrees.{same_tree}
use Rattle.cpg_expand.proofs.GuardTrees.{times_read, times_tree}
use Rattle.cpg_expand.proofs.forest.Forest.heard_and.Goals as goal

-- the condition's process is on the node, so the node hears it by that process's end
pub returns-in_ok-both : goal.returns-in_ok-both
returns-in_ok-both c =
    let g = c.args.problem.now in
    let f = c.args.self.now in
    let p = c.process_of-process.result in
    let end = c.index.result.now in
    let further = c.args.further.now in
    let both = c.in_ok-both.both in
    -- the forest as the code reads it, list by list
    let inside : ForestState = record {
      times = c.self.inside.times.items;
      ends = c.self.inside.ends.items;
      ready = c.self.inside.ready.items;
      free = c.self.inside.free.items;
      wide = c.self.inside.wide;
    } in
    -- the tree that is read is that of the process's ends in the forest
    let same : end ≡ ends_of g f p = ends_read g f c.requires.forest inside c.self.view_is end p p c.index.ensures refl
    c.process_of-process.ensures.within in
    -- so the process's tree is one of the graph
    let of_end : IsTree g end =
    subst (IsTree g) (sym same) (ends_tree g f c.requires.forest p c.process_of-process.ensures.within) in
    record {
      tree = same_tree g end both of_end.faults c.in_ok-both.ensures.is.faults c.in_ok-both.ensures.each
          (c.in_ok-both.ensures.pass (is_variable g) of_end.known c.requires.further.known);
      both = heard_own g f c.args.node c.args.condition further both (ap (node_of g)
          (sym c.process_of-process.ensures.process) ∙ sym c.node_of.ensures.node ∙ c.if-node_of-node.true)
          (subst (λ q. IsLatest g.faults (later_tree (ends_of g f q)) further both) c.process_of-process.ensures.process
          (read_and_valued g (λ n. n) 0 0 refl end
          (ends_of g f p) same of_end further both c.requires.further c.in_ok-both.ensures.is));
    }

-- the condition's process is on another node, so the node hears it by the end of its broadcast frame
pub returns-in_ok-both-2 : goal.returns-in_ok-both-2
returns-in_ok-both-2 c =
    let g = c.args.problem.now in
    let f = c.args.self.now in
    let x = c.broadcast_item-item.result in
    let times = c.index-else-node_of-node.result.now in
    let further = c.args.further.now in
    let both = c.in_ok-both-2.both in
    let delay = c.slot_length-delay.result in
    -- the forest as the code reads it, list by list
    let inside : ForestState = record {
      times = c.self.inside.times.items;
      ends = c.self.inside.ends.items;
      ready = c.self.inside.ready.items;
      free = c.self.inside.free.items;
      wide = c.self.inside.wide;
    } in
    -- the tree that is read is that of the item's times in the forest
    let same : times ≡ times_of g f x = times_read g f c.requires.forest inside c.self.view_is times x x
    c.index-else-node_of-node.ensures refl c.broadcast_item-item.ensures.within in
    -- so the item's tree is one of the graph
    let of_times : IsTree g times =
    subst (IsTree g) (sym same) (times_tree g f c.requires.forest x c.broadcast_item-item.ensures.within) in
    record {
      tree = same_tree g times both of_times.faults c.in_ok-both-2.ensures.is.faults c.in_ok-both-2.ensures.each
          (c.in_ok-both-2.ensures.pass (is_variable g) of_times.known c.requires.further.known);
      both = heard_other g f c.args.node c.args.condition further both (λ e.
          c.if-node_of-node.false (c.node_of.ensures.node ∙ ap (node_of g) c.process_of-process.ensures.process ∙ e))
          (subst (λ y. IsLatest g.faults (later_by (slot_length g (home g y)) (times_of g f y)) further both)
          c.broadcast_item-item.ensures.item
          (read_and_valued g (λ n. n) delay (slot_length g (home g x))
          (c.slot_length-delay.ensures ∙ ap (slot_length g) c.home.ensures.home) times
          (times_of g f x) same of_times further both c.requires.further c.in_ok-both-2.ensures.is));
    }
