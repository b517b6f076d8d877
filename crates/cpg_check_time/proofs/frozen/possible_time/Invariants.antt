-- Loops of `possible_time`: the time of the first column that matches in some scenario; `None` exactly if none does.
use Rattle.std.proofs.Common.{◌≡◌, drop}
use Rattle.cpg_check_time.specs.Frozen.{possible_time}
use Rattle.cpg_check_time.proofs.frozen.possible_time.Given as goal

-- no column so far is possible, so the possible time is that of the columns left
abbrev pub invariant-loop-column : goal.invariant-loop-column
invariant-loop-column l = possible_time l.problem l.columns ≡ possible_time l.problem (drop l.column-index l.columns)
