-- Proof of `Forest::ready_and`, which returns the later of two times in each scenario: from when on a node is ready,
-- which `ready` says, and `there`.
use Rattle.std.proofs.Common.{◌<◌, ◌≡◌, refl, sym, subst}
use Rattle.cpg_base.specs.Graph.{process_count}
use Rattle.cpg_tree.specs.Tree.{TreeState}
use Rattle.cpg_tree.specs.Variables.{is_variable}
use Rattle.cpg_tree.specs.GraphTrees.{IsTree}
use Rattle.cpg_expand.specs.Forest.{ForestState, IsWait, ends_of, later_tree, ready_by}
use Rattle.cpg_expand.specs.Later.{IsLatest}
use Rattle.cpg_expand.specs.declared.forest.Ready.{Ready}
use Rattle.cpg_expand.proofs.GuardTrees.{ends_read, ends_tree, latest_valued, latest_ends}
use Rattle.cpg_tree.proofs.GraphTrees.{same_tree}
use Rattle.cpg_expand.proofs.forest.Forest.ready_and.Goals as goal

-- the node is ready after the ends of a process: these are read from the forest and joined with the other tree
pub returns-in_ok-both-in-After : goal.returns-in_ok-both-in-After
returns-in_ok-both-in-After c =
    let g = c.args.problem.now in
    let f = c.args.self.now in
    let p = c.in-After.process in
    let end = c.index.result.now in
    let there = c.args.there.now in
    let both = c.in_ok-both-in-After.both in
    let l : p < process_count g = subst (IsWait g) c.in-After.is c.requires.ready in
    -- the forest as the code reads it, list by list
    let inside : ForestState = record {
      times = c.self.inside.times.items;
      ends = c.self.inside.ends.items;
      ready = c.self.inside.ready.items;
      free = c.self.inside.free.items;
      wide = c.self.inside.wide;
    } in
    -- the tree that is read is that of the process's ends in the forest
    let same : end ≡ ends_of g f p =
    ends_read g f c.requires.forest inside c.self.view_is end p p c.index.ensures refl l in
    let of : IsTree g end = subst (IsTree g) (sym same) (ends_tree g f c.requires.forest p l) in
    record {
      tree = same_tree g there both c.requires.there.faults c.in_ok-both-in-After.ensures.is.faults
          c.in_ok-both-in-After.ensures.each
          (c.in_ok-both-in-After.ensures.pass (is_variable g) c.requires.there.known of.known);
      both = subst (λ (r : Ready). IsLatest g.faults (ready_by g f r) there both) (sym c.in-After.is)
          (subst (λ (tree : TreeState _). IsLatest g.faults (later_tree tree) there both) same
          (latest_ends g end there both of c.requires.there c.in_ok-both-in-After.ensures.is));
    }

-- the joined tree has the faults and variables of the graph, as both of its parts have
pub returns-in_ok-both-in-At-clause-tree : goal.returns-in_ok-both-in-At-clause-tree
returns-in_ok-both-in-At-clause-tree c =
    let g = c.args.problem.now in
    let of : IsTree g c.in-At.tree = subst (IsWait g) c.in-At.is c.requires.ready in
    same_tree g c.in-At.tree c.in_ok-both-in-At.both of.faults c.in_ok-both-in-At.ensures.is.faults
    c.in_ok-both-in-At.ensures.each
    (c.in_ok-both-in-At.ensures.pass (is_variable g) of.known c.requires.there.known)

-- the node is ready by a tree: the later of that and of the other tree is taken
pub returns-in_ok-both-in-At-clause-both : goal.returns-in_ok-both-in-At-clause-both
returns-in_ok-both-in-At-clause-both c =
    let g = c.args.problem.now in
    let f = c.args.self.now in
    let of : IsTree g c.in-At.tree = subst (IsWait g) c.in-At.is c.requires.ready in
    subst (λ (r : Ready). IsLatest g.faults (ready_by g f r) c.args.there.now c.in_ok-both-in-At.both) (sym c.in-At.is)
    (latest_valued g c.in-At.tree c.args.there.now c.in_ok-both-in-At.both of c.requires.there
    c.in_ok-both-in-At.ensures.is)
