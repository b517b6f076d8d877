-- Proof of `Forest::end_there`, which returns the ends of a process, with 0 where it isn't active.
use Rattle.std.proofs.Common.{refl}
use Rattle.cpg_expand.specs.Forest.{ForestState, ends_of}
use Rattle.cpg_expand.proofs.GuardTrees.{ends_read, ends_tree, read_end}
use Rattle.cpg_expand.proofs.forest.Forest.end_there.Goals as goal

-- the forest's tree of the process's ends is read, and each end is taken as a time
pub returns : goal.returns
returns c =
    let g = c.args.problem.now in
    let f = c.args.self.now in
    -- the forest as the code reads it, list by list
    let inside : ForestState = record {
      times = c.self.inside.times.items;
      ends = c.self.inside.ends.items;
      ready = c.self.inside.ready.items;
      free = c.self.inside.free.items;
      wide = c.self.inside.wide;
    } in
    let tree_and_times = read_end g c.index.result.now (ends_of g f c.args.process) c.in_ok-there.there
    (ends_read g f c.requires.forest inside c.self.view_is c.index.result.now c.args.process c.args.process
    c.index.ensures refl c.requires.process)
    (ends_tree g f c.requires.forest c.args.process c.requires.process) c.in_ok-there.ensures.is
    c.in_ok-there.ensures.each c.in_ok-there.ensures.pass in
    record { tree = tree_and_times.0; later = tree_and_times.1 }
