-- Proof of `Space::narrow`, which narrows the space to the scenarios in which a literal holds.
use Rattle.std.proofs.Common.{inl, inr}
use Rattle.std.proofs.lemmas.Bool.{cases_lt}
use Rattle.cpg_base.specs.Scenario.{number_of}
use Rattle.cpg_cube.proofs.CubeLows.{holds-low, holds-high}
use Rattle.cpg_tree.proofs.Forks.{from_false, from_true}
use Rattle.cpg_tree.proofs.Holding.{below_low, above_high}
use Rattle.cpg_tree.proofs.Passes.{of_true, of_false}
use Rattle.cpg_tree.proofs.space.Space.narrow.Goals as goal

-- no number from the literal's low on is left, so the literal holds in no scenario of the space
pub returns-then-not-lift-clause-none : goal.returns-then-not-lift-clause-none
returns-then-not-lift-clause-none c s lies =
    below_low s c.args.literal (from_false c.lift.result c.if-not-lift.true c.lift.ensures.none s lies)

-- a scenario in which the literal holds has a number from its low on and up to its high, so it stays in the space
pub returns-clause-lies : goal.returns-clause-lies
returns-clause-lies c = of_true c.lower.result c.lower.ensures.lies
    (λ after s lies h.
    after s (from_true c.lift.result c.if-not-lift.false c.lift.ensures.lies s lies (holds-low s c.args.literal h))
    (holds-high s c.args.literal h))

-- A scenario in which the literal holds would be left by the narrowing to the low, and have a number up to the high; but none
-- is left up to that.
pub returns-clause-none : goal.returns-clause-none
returns-clause-none c = of_false c.lower.result c.lower.ensures.none
    (λ after s lies. elim (cases_lt (number_of s c.args.literal.variable) c.args.literal.low) [
      | inl h ↦ below_low s c.args.literal h
      | inr h ↦
          above_high s c.args.literal
          (after s (from_true c.lift.result c.if-not-lift.false c.lift.ensures.lies s lies h))
    ])
