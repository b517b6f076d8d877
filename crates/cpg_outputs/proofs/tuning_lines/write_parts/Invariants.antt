-- Loops of `write_parts`: writes the best number of parts of each process.
use Rattle.std.proofs.Common.{◌≡◌, ◌++◌, string_bytes}
use Rattle.std.specs.Slice.Iter.{iter_rest}
use Rattle.cpg_outputs.specs.Tunes.{parts_lines}
use Rattle.cpg_outputs.proofs.tuning_lines.write_parts.Given as goal

-- what is written and then the lines of what is left of both lists are what was written before and then the lines of all
abbrev pub invariant-loop-process : goal.invariant-loop-process
invariant-loop-process l =
    string_bytes l.fn.out ++ parts_lines l.fn.problem.processes l.fn.parts ≡ string_bytes l.out
    ++ parts_lines (iter_rest l.process-iterator.a) (iter_rest l.process-iterator.b)
