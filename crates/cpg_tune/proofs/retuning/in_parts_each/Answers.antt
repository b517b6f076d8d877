-- Proof of `in_parts_each`: returns a copy of each process that is cut into the number of parts at its place in
-- `parts`.
use Rattle.std.proofs.lemmas.Slice.Zip.{either_empty_from_Zip}
use Rattle.std.specs.Slice.Iter.{iter_rest}
use Rattle.cpg_tune.specs.Retuned.{in_parts_each}
use Rattle.cpg_tune.proofs.AsBefore.{each_whole}
use Rattle.cpg_tune.proofs.retuning.in_parts_each.Goals as goal

-- the processes or the parts are used up, so all copies are made
pub returns : goal.returns
returns c =
    each_whole (iter_rest c.loop-process.process-iterator.a) (iter_rest c.loop-process.process-iterator.b)
    (in_parts_each c.args.processes.now c.args.parts.now) c.loop-process.copies.items c.loop-process.invariant
    (either_empty_from_Zip c.loop-process.process-iterator c.next.new.self _ c.in-None.is c.next.ensures.steps)
