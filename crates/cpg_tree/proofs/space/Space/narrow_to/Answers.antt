-- Proof of `Space::narrow_to`, which narrows the space to the scenarios that literals match.
use Rattle.cpg_cube.specs.Cube.{matches}
use Rattle.std.proofs.lemmas.Bool.{both_ways, false_from_ne_true}
use Rattle.cpg_tree.proofs.Forks.{from_false, from_true}
use Rattle.cpg_tree.proofs.Holding.{unmatched, each_holds}
use Rattle.cpg_tree.proofs.space.Space.narrow_to.Goals as goal

-- the literal at this place holds in no scenario of the space, so no scenario matches all
pub returns-then-not-narrow-clause-none : goal.returns-then-not-narrow-clause-none
returns-then-not-narrow-clause-none c s few = false_from_ne_true (matches c.args.literals.now s)
    (λ all. both_ways (matches c.args.literals.now s)
    (unmatched s c.args.literals.now c.loop-literal.literal-index
    (record { variable = 0; low = 0; high = 0 }) c.loop-literal-test.true
    (from_false c.narrow.result c.if-not-narrow.true c.narrow.ensures.none s (c.loop-literal.invariant s few all))) all)

-- a scenario that matches all literals also meets the one at this place, so it stays in the space
pub loop-literal-preserved : goal.loop-literal-preserved
loop-literal-preserved c s few all =
    from_true c.narrow.result c.if-not-narrow.false c.narrow.ensures.lies s (c.loop-literal.invariant s few all)
    (each_holds s c.args.literals.now c.loop-literal.literal-index
    (record { variable = 0; low = 0; high = 0 }) c.loop-literal-test.true all)
