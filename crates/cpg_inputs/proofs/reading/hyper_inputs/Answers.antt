-- Proof of `hyper_inputs`, which reads the graphs of `hyper`.
use Rattle.std.proofs.Common.{arith}
use Rattle.cpg_inputs.proofs.PartsRead.{periods_length}
use Rattle.cpg_inputs.proofs.reading.hyper_inputs.Goals as goal

-- there is a part for each pair, and there is some pair
pub new-requires-clause-some : goal.new-requires-clause-some
new-requires-clause-some g c =
    let same = periods_length c.args.pairs.now c.in_ok-parts.parts.items c.in_ok-parts.ensures.periods in
    omega (arith, same, c.requires.some)

-- there is a part for each pair, and the pairs are few
pub new-requires-clause-few : goal.new-requires-clause-few
new-requires-clause-few g c =
    let same = periods_length c.args.pairs.now c.in_ok-parts.parts.items c.in_ok-parts.ensures.periods in
    omega (arith, same, c.requires.few)
