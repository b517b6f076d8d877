-- Loops of `write_rows`: writes the answer for each fault number.
use Rattle.std.proofs.Common.{◌≡◌, ◌++◌, drop, string_bytes}
use Rattle.cpg_outputs.specs.Tunes.{row_lines}
use Rattle.cpg_outputs.proofs.tuning_lines.write_rows.Given as goal

-- what is written and the lines of the rows left are together what was written before and the lines of all rows
abbrev pub invariant-loop-faults : goal.invariant-loop-faults
invariant-loop-faults l = string_bytes l.fn.out ++ row_lines l.problem 0 l.rows ≡ string_bytes l.out
    ++ row_lines l.problem l.faults (drop l.faults l.rows)
