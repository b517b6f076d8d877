-- Loops of `names_of`: reads `count` names, and returns them with the bytes after them.
use Rattle.std.proofs.Common.{◌≡◌}
use Rattle.cpg_codec.specs.Reading.{read_repeated}
use Rattle.cpg_codec.specs.Grammar.{read_name}
use Rattle.cpg_codec.proofs.Loop.{with_front, left_of}
use Rattle.cpg_codec.proofs.head_reading.names_of.Given as goal

-- the names so far, in front of what reading the other names gives, are what reading all `count` names gives
abbrev pub invariant-loop : goal.invariant-loop
invariant-loop l = with_front l.names.items (left_of read_name l.fn.count l.counter l.rest)
    ≡ read_repeated read_name l.fn.count l.fn.bytes
