-- Loops of `rests`: returns how far each key is from the greatest 64-bit number.
use Rattle.cpg_tracks.specs.Rests.{AreRestsUpTo}
use Rattle.cpg_tracks.proofs.order.rests.Given as goal

-- the list says for each key so far how far it is below the greatest number of 64 bits
abbrev pub invariant-loop-key : goal.invariant-loop-key
invariant-loop-key l = AreRestsUpTo l.keys l.key-index l.rests.items
