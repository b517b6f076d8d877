-- Loops of `times_of`: reads `count` times, and returns them with the bytes after them.
use Rattle.std.proofs.Common.{◌≡◌}
use Rattle.cpg_codec.specs.Reading.{read_repeated}
use Rattle.cpg_codec.specs.Grammar.{read_time}
use Rattle.cpg_codec.proofs.Loop.{with_front, left_of}
use Rattle.cpg_codec.proofs.field_reading.times_of.Given as goal

-- the times so far, in front of what reading the other times gives, are what reading all `count` times gives
abbrev pub invariant-loop : goal.invariant-loop
invariant-loop l =
    with_front l.times.items (left_of read_time l.count l.counter l.rest) ≡ read_repeated read_time l.count l.bytes
