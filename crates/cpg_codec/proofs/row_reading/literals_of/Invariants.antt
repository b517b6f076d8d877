-- Loops of `literals_of`: reads `count` literals, and returns them with the bytes after them.
use Rattle.std.proofs.Common.{◌≡◌, ◌-◌, ℕ, suc}
use Rattle.cpg_cube.specs.declared.literal.Literal.{Literal}
use Rattle.cpg_codec.specs.Reading.{read_each, down}
use Rattle.cpg_codec.specs.Grammar.{read_literal, read_literals}
use Rattle.cpg_codec.proofs.Loop.{with_front}
use Rattle.cpg_codec.proofs.row_reading.literals_of.Given as goal

-- the literals so far, in front of what reading the others gives, are what reading all of them gives; `least` is the
-- least variable that the next literal may have
abbrev pub invariant-loop-done : goal.invariant-loop-done
invariant-loop-done l =
    with_front l.literals.items (read_each (λ (least : ℕ) (x : Literal). suc x.variable) (read_literal l.fn.space)
    (down (l.fn.count - l.done)) l.least l.rest)
    ≡ read_literals l.fn.space l.fn.count l.fn.bytes
