-- Loops of `write_all`: writes all of the bytes, in as many writes as the sink needs.
use Rattle.std.proofs.Common.{length, ◌≡◌, ◌-◌, ◌≤◌, take}
use Rattle.cpg_io.specs.Sink.{Took}
use Rattle.cpg_io.proofs.writing.write_all.Given as goal

-- `within`: `at` isn't past the end. `taken`: the sink has taken the bytes before `at`, and no others. `kept`: its count of
-- faults is as at the start.
abbrev pub invariant-loop-at : goal.invariant-loop-at
invariant-loop-at g l = record {
  within : l.at ≤ length l.bytes;
  taken : Took (g.O.Sink.state l.fn.sink).taken (g.O.Sink.state l.sink).taken (take l.at l.bytes);
  kept : (g.O.Sink.state l.sink).faults ≡ (g.O.Sink.state l.fn.sink).faults;
}

-- each turn writes at least one byte, so fewer are left
abbrev pub decreases-loop-at : goal.decreases-loop-at
decreases-loop-at g l = length l.bytes - l.at
