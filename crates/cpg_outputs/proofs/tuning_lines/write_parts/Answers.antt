-- Proof of `write_parts`: writes the best number of parts of each process.
use Rattle.std.proofs.Common.{◌++◌, string_bytes}
use Rattle.std.proofs.lemmas.Slice.Zip.{either_empty_from_Zip}
use Rattle.std.specs.Slice.Iter.{iter_rest}
use Rattle.cpg_outputs.specs.Tunes.{parts_lines}
use Rattle.cpg_outputs.proofs.TunedLines.{parts_whole}
use Rattle.cpg_outputs.proofs.tuning_lines.write_parts.Goals as goal

-- the loop ends when one of the two lists is used up; then no lines are left, so all are written
pub returns : goal.returns
returns c =
    parts_whole (iter_rest c.loop-process.process-iterator.a) (iter_rest c.loop-process.process-iterator.b)
    (string_bytes c.args.out.now ++ parts_lines c.args.problem.now.processes c.args.parts.now)
    (string_bytes c.loop-process.out) c.loop-process.invariant
    (either_empty_from_Zip c.loop-process.process-iterator c.next.new.self _ c.in-None.is c.next.ensures.steps)
