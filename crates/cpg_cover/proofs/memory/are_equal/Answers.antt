-- Proof of `are_equal`: whether two lists of literals are equal.
use Rattle.std.proofs.Common.{rules, arith}
use Rattle.std.proofs.lemmas.List.{take_more_same}
use Rattle.cpg_cube.specs.declared.literal.Literal.{Literal}
use Rattle.cpg_cover.proofs.memory.are_equal.Goals as goal

-- the literals at this place are the same too
pub loop-place-preserved : goal.loop-place-preserved
loop-place-preserved c =
    let blank : Literal = record { variable = 0; low = 0; high = 0 } in
    take_more_same c.args.literals.now c.args.others.now c.loop-place.place blank (omega arith)
    (omega arith) c.loop-place.invariant (search rules)
