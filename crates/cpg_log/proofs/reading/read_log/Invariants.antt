-- Loops of `read_log`: the log that a file spells, or the number of the first line that makes it none.
use Rattle.std.proofs.Common.{◌≡◌, ◌++◌, length}
use Rattle.cpg_log.specs.Lines.{lines}
use Rattle.cpg_log.specs.Log.{IsLog, log_lines}
use Rattle.cpg_log.proofs.reading.read_log.Given as goal

-- `lawful`: the log so far is one of the graph. `spelled`: the lines of the bytes are those of the log so far,
-- followed by the lines of the rest.
abbrev pub invariant-loop-rest : goal.invariant-loop-rest
invariant-loop-rest l = record {
  lawful : IsLog l.problem l.log;
  spelled : lines l.bytes ≡ log_lines l.problem l.log ++ lines l.rest;
}

-- each turn takes a line from the rest
abbrev pub decreases-loop-rest : goal.decreases-loop-rest
decreases-loop-rest l = length l.rest
