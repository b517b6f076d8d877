-- Proof of `Forest::started_where`, which returns the starts of a process where `active` is true, and no time
-- elsewhere. It starts at `release` or later, once its node is ready, which `ready` says.
use Rattle.cpg_tree.specs.Variables.{is_variable}
use Rattle.cpg_expand.specs.Forest.{ready_by}
use Rattle.cpg_expand.proofs.StartsWhere.{picked_where}
use Rattle.cpg_tree.proofs.GraphTrees.{same_tree}
use Rattle.cpg_expand.proofs.forest.Forest.started_where.Goals as goal

-- the starts are picked where the process is active, and elsewhere there is no time
pub returns : goal.returns
returns c =
    let g = c.args.problem.now in
    let f = c.args.self.now in
    let active = c.args.active.now in
    record {
      tree = same_tree g active c.in_ok-there.there c.requires.active.faults c.in_ok-there.ensures.is.faults
          c.in_ok-there.ensures.each
          (c.in_ok-there.ensures.pass (is_variable g) c.requires.active.known c.in_ok-start.ensures.tree.known
          c.in_ok-never.ensures.tree.known);
      start = picked_where g f active (ready_by g f c.args.ready.now) c.in_ok-there.there c.args.release
          c.in_ok-start.start c.in_ok-never.never c.requires.active c.in_ok-start.ensures.tree
          c.in_ok-never.ensures.tree c.in_ok-start.ensures.start c.in_ok-never.ensures.none
          c.in_ok-there.ensures.is;
    }
