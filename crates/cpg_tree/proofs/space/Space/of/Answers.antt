-- Proof of `Space::of`, which returns the space of the scenarios of at most `k` faults that literals match; `None` only
-- if there are none.
use Rattle.cpg_tree.proofs.Forks.{from_false, from_true}
use Rattle.cpg_tree.proofs.space.Space.of.Goals as goal

-- narrowing the whole space found no scenario that the literals match
pub returns-then-not-narrow_to-clause-none : goal.returns-then-not-narrow_to-clause-none
returns-then-not-narrow_to-clause-none c s few =
    from_false c.narrow_to.result c.if-not-narrow_to.true c.narrow_to.ensures.none s (c.whole-space.ensures.lies s few)

-- a scenario of at most `k` faults that the literals match lies in the space
pub returns-clause-lies : goal.returns-clause-lies
returns-clause-lies c s few m = from_true c.narrow_to.result c.if-not-narrow_to.false c.narrow_to.ensures.lies s
    (c.whole-space.ensures.lies s few) m
