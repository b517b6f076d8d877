-- Loops of `edges_of`: reads `count` edges, and returns them with the bytes after them.
use Rattle.std.proofs.Common.{◌≡◌}
use Rattle.cpg_codec.specs.Reading.{read_repeated}
use Rattle.cpg_codec.specs.Grammar.{read_edge}
use Rattle.cpg_codec.proofs.Loop.{with_front, left_of}
use Rattle.cpg_codec.proofs.head_reading.edges_of.Given as goal

-- the edges so far, in front of what reading the other edges gives, are what reading all `count` edges gives
abbrev pub invariant-loop : goal.invariant-loop
invariant-loop l = with_front l.edges.items (left_of (read_edge l.fn.processes) l.fn.count l.counter l.rest)
    ≡ read_repeated (read_edge l.fn.processes) l.fn.count l.fn.bytes
