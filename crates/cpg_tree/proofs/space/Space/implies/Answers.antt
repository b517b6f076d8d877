-- Proof of `Space::implies`: whether a literal holds in the whole space; true only if it does.
use Rattle.std.proofs.Common.{arith, rules}
use Rattle.std.specs.Prelude.{nat_le}
use Rattle.std.proofs.lemmas.Bool.{OnTrue_from, leb-true}
use Rattle.cpg_cube.proofs.CubeLows.{holds-from}
use Rattle.cpg_tree.proofs.space.Space.implies.Goals as goal

-- the low and the high of the variable both lie in the literal's range, and so does each number between them
pub returns-then-self-literal-2 : goal.returns-then-self-literal-2
returns-then-self-literal-2 c s lies = holds-from s c.args.literal.now
    (omega (arith, c.if-self-literal.false, lies.low c.args.literal.now.variable (search rules)))
    (omega (arith, c.if-self-literal-2.true, lies.high c.args.literal.now.variable (search rules)))

-- all numbers of the space are within the literal's range, so it holds in the whole space
pub returns : goal.returns
returns c = OnTrue_from (nat_le c.most.result c.args.literal.now.high) _
    (λ e s lies. holds-from s c.args.literal.now
    (omega (arith, c.if-self-literal.false, lies.low c.args.literal.now.variable (search rules)))
    (omega (arith, c.most.ensures s lies, leb-true c.most.result c.args.literal.now.high e)))
