-- Loops of `skip_each`, which does what `skip_eights` does, but literal by literal.
use Rattle.cpg_codec.specs.Fronts.{HasFront}
use Rattle.cpg_codec.proofs.row_taking.skip_each.Given as goal

-- the bytes begin with the literals of the list so far, and `rest` comes after them
abbrev pub invariant-loop-count : goal.invariant-loop-count
invariant-loop-count l = HasFront l.fn.literals l.fn.bytes l.fn.most l.count l.rest
