-- Loops of `last_time`: the greatest time of these columns; 0 if there are none.
use Rattle.std.proofs.Common.{◌≡◌, ◌≤◌, All, take, drop, max}
use Rattle.std.specs.List.{fold}
use Rattle.cpg_violation.specs.SievedRows.{last_time}
use Rattle.cpg_violation.proofs.sieved_rows.last_time.Given as goal

-- no column so far is after `last`, and the last time of all is that of `last` and the columns still to come
abbrev pub invariant-loop-column : goal.invariant-loop-column
invariant-loop-column l = record {
  last : fold (λ time d. max time d.time) l.last (drop l.column-index l.columns) ≡ last_time l.columns;
  all : All (λ d. d.time ≤ l.last) (take l.column-index l.columns);
}
