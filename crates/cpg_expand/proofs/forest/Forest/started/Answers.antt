-- Proof of `Forest::started`, which returns the starts of a process at `release` or later, once its node is ready,
-- which `ready` says.
use Rattle.std.proofs.Common.{◌<◌, ◌≡◌, [], refl, sym, subst}
use Rattle.cpg_base.specs.Graph.{process_count}
use Rattle.cpg_tree.specs.Tree.{TreeState}
use Rattle.cpg_tree.specs.Variables.{is_variable}
use Rattle.cpg_tree.specs.GraphTrees.{IsTree}
use Rattle.cpg_expand.specs.Forest.{ForestState, IsWait, ends_of, ready_by, later_tree}
use Rattle.cpg_expand.specs.Guarded.{IsStartAfter}
use Rattle.cpg_expand.specs.declared.forest.Ready.{Ready}
use Rattle.cpg_expand.proofs.GuardTrees.{ends_read, ends_tree, start_valued, start_after_ends}
use Rattle.cpg_tree.proofs.GraphTrees.{same_tree}
use Rattle.cpg_expand.proofs.forest.Forest.started.Goals as goal

-- the node is ready after the ends of a process: the starts are these, or the release if that is later
pub returns-in_ok-start-in-After : goal.returns-in_ok-start-in-After
returns-in_ok-start-in-After c =
    let g = c.args.problem.now in
    let f = c.args.self.now in
    let p = c.in-After.process in
    let end = c.index.result.now in
    let t = c.in_ok-start-in-After.start in
    let l : p < process_count g = subst (IsWait g) c.in-After.is c.requires.ready in
    -- the forest as the code reads it, list by list
    let inside : ForestState = record {
      times = c.self.inside.times.items;
      ends = c.self.inside.ends.items;
      ready = c.self.inside.ready.items;
      free = c.self.inside.free.items;
      wide = c.self.inside.wide;
    } in
    -- the tree that is read is that of the process's ends in the forest
    let same : end ≡ ends_of g f p =
    ends_read g f c.requires.forest inside c.self.view_is end p p c.index.ensures refl l in
    let of : IsTree g end = subst (IsTree g) (sym same) (ends_tree g f c.requires.forest p l) in
    record {
      tree = same_tree g end t of.faults c.in_ok-start-in-After.ensures.is.faults c.in_ok-start-in-After.ensures.each
          (c.in_ok-start-in-After.ensures.pass (is_variable g) of.known);
      start = subst (λ (r : Ready). IsStartAfter g f (ready_by g f r) c.args.release [] t) (sym c.in-After.is)
          (subst (λ (tree : TreeState _). IsStartAfter g f (later_tree tree) c.args.release [] t) same
          (start_after_ends g f end t c.args.release of c.in_ok-start-in-After.ensures.is));
    }

-- the node is ready by a tree: the starts are its times, or the release if that is later
pub returns-in_ok-start-in-At : goal.returns-in_ok-start-in-At
returns-in_ok-start-in-At c =
    let g = c.args.problem.now in
    let f = c.args.self.now in
    let wait = c.in-At.tree in
    let t = c.in_ok-start-in-At.start in
    let of : IsTree g wait = subst (IsWait g) c.in-At.is c.requires.ready in
    record {
      tree = same_tree g wait t of.faults c.in_ok-start-in-At.ensures.is.faults c.in_ok-start-in-At.ensures.each
          (c.in_ok-start-in-At.ensures.pass (is_variable g) of.known);
      start = subst (λ (r : Ready). IsStartAfter g f (ready_by g f r) c.args.release [] t) (sym c.in-At.is)
          (start_valued g f wait t c.args.release of c.in_ok-start-in-At.ensures.is);
    }
