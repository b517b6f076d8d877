-- Proof of `are_same`: whether two lists of cubes are equal.
use Rattle.std.proofs.Common.{rules, ◌≡◌, arith}
use Rattle.std.proofs.lemmas.List.{take_more_same}
use Rattle.cpg_cover.proofs.memory.are_same.Goals as goal

-- the cubes at this place are the same too
pub loop-place-preserved : goal.loop-place-preserved
loop-place-preserved c =
    let same : c.literals.result.now ≡ c.literals-in-loop-place.result.now = search rules in
    take_more_same c.args.cubes.now c.args.others.now c.loop-place.place c.literals.result.now (omega arith)
    (omega arith) c.loop-place.invariant (search rules)
