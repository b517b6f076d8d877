-- Loops of `Live::take_bytes`: takes bytes, one after another.
use Rattle.std.proofs.Common.{◌≡◌, drop}
use Rattle.cpg_live.specs.Feeding.{take_bytes}
use Rattle.cpg_live.proofs.live.Live.take_bytes.Given as goal

-- the bytes that are left lead from here to where the whole piece leads from the start
abbrev pub invariant-loop-byte : goal.invariant-loop-byte
invariant-loop-byte l = take_bytes l.fn.self l.piece ≡ take_bytes l.self (drop l.byte-index l.piece)
