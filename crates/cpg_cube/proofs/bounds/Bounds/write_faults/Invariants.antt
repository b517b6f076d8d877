-- Loops of `Bounds::write_faults`, which writes the low of each process's variable to `least`, as its fault count.
use Rattle.std.proofs.Common.{◌≡◌, ◌<◌, ℕ, get_or, length}
use Rattle.cpg_cube.proofs.bounds.Bounds.write_faults.Given as goal

-- the processes so far have the lows as their faults; the values are as before
abbrev pub invariant-loop-process : goal.invariant-loop-process
invariant-loop-process l = record {
  values : l.least.values ≡ l.fn.least.values;
  long : length l.least.faults ≡ l.processes;
  written : (p : ℕ) → p < l.process → get_or l.least.faults p 0 ≡ get_or l.self.low p 0;
}
