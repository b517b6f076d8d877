-- Loops of `first_time`: the least time of these columns; the greatest number of 64 bits if there are none.
use Rattle.std.proofs.Common.{◌≡◌, ◌≤◌, All, take, drop, min}
use Rattle.std.specs.List.{fold}
use Rattle.cpg_violation.specs.SievedRows.{first_time}
use Rattle.cpg_violation.proofs.sieved_rows.first_time.Given as goal

-- no column so far is before `first`, and the first time of all is that of `first` and the columns still to come
abbrev pub invariant-loop-column : goal.invariant-loop-column
invariant-loop-column l = record {
  first : fold (λ time d. min time d.time) l.first (drop l.column-index l.columns) ≡ first_time l.columns;
  all : All (λ d. l.first ≤ d.time) (take l.column-index l.columns);
}
