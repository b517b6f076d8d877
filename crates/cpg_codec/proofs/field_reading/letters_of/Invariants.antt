-- Loops of `letters_of`: reads `count` letters of a name, and returns them with the bytes after them.
use Rattle.std.proofs.Common.{◌≡◌}
use Rattle.cpg_codec.specs.Reading.{read_repeated, byte_by}
use Rattle.cpg_base.specs.Name.{is_name_byte}
use Rattle.cpg_codec.proofs.Loop.{with_front, left_of}
use Rattle.cpg_codec.proofs.field_reading.letters_of.Given as goal

-- the letters so far, in front of what reading the other letters gives, are what reading all `count` letters gives
abbrev pub invariant-loop : goal.invariant-loop
invariant-loop l = with_front l.letters.items (left_of (byte_by is_name_byte) l.count l.counter l.rest)
    ≡ read_repeated (byte_by is_name_byte) l.count l.bytes
