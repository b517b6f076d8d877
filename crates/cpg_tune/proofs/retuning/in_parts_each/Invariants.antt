-- Loops of `in_parts_each`: returns a copy of each process that is cut into the number of parts at its place in
-- `parts`.
use Rattle.std.proofs.Common.{◌≡◌, ◌++◌}
use Rattle.std.specs.Slice.Iter.{iter_rest}
use Rattle.cpg_tune.specs.Retuned.{in_parts_each}
use Rattle.cpg_tune.proofs.retuning.in_parts_each.Given as goal

-- the copies so far and those of the processes still to come are the copies of all processes
abbrev pub invariant-loop-process : goal.invariant-loop-process
invariant-loop-process l =
    in_parts_each l.fn.processes l.fn.parts ≡ l.copies.items
    ++ in_parts_each (iter_rest l.process-iterator.a) (iter_rest l.process-iterator.b)
