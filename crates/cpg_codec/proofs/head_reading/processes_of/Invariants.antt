-- Loops of `processes_of`: reads `count` processes and what version 2 says of them, and returns them with the bytes
-- after them.
use Rattle.std.proofs.Common.{◌≡◌, ◌-◌, ◌≤◌, ◌+◌, ◌==◌, if◌then◌else◌, ℕ, length}
use Rattle.cpg_codec.specs.Reading.{read_each, down}
use Rattle.cpg_codec.specs.Spelling.{Written, bit, written_by}
use Rattle.cpg_codec.specs.Grammar.{read_process, read_processes}
use Rattle.cpg_codec.proofs.Loop.{with_front}
use Rattle.cpg_codec.proofs.head_reading.processes_of.Given as goal

-- `so_far`: the processes so far, in front of what reading the others gives, are what reading all of them gives.
-- `few`: at most each process so far has a condition. `kept`: version 2 has an extra for each process, and another
-- version has none.
abbrev pub invariant-loop : goal.invariant-loop
invariant-loop l = record {
  so_far : with_front (written_by l.processes.items l.extras.items)
      (read_each (λ (ones : ℕ) (w : Written). ones + bit w.process.condition)
      (λ (left : ℕ) ones. read_process l.fn.version l.fn.faults l.fn.nodes ones)
      (down (l.fn.count - l.counter)) l.ones l.rest)
      ≡ read_processes l.fn.version l.fn.faults l.fn.nodes l.fn.count l.fn.bytes;
  few : l.ones ≤ l.counter;
  kept : length l.extras.items ≡ (if l.fn.version == 2 then length l.processes.items else 0);
}
