-- Proof of `top_behind`, which returns the top of the tree of a space whose first cube has these literals, if the first
-- `depth` of them say which scenarios are in the space.
use Rattle.std.proofs.Common.{arith, take}
use Rattle.cpg_row_trees.proofs.ListedLaws.{own_on, own_more, own_all}
use Rattle.cpg_row_trees.proofs.listed.top_behind.Goals as goal

-- the next literal holds in the whole space too, so those before it still say which scenarios are in the space
pub loop-at-preserved : goal.loop-at-preserved
loop-at-preserved c = own_more c.args.k c.args.space.now c.args.literals.now c.loop-at.at
    (record { variable = 0; low = 0; high = 0 }) c.loop-at-test.true
    (own_on c.args.k c.args.space.now _ _ c.loop-at.invariant) c.in-Known.ensures

-- the next literal parts the space: the literals before it say which scenarios are in the space
pub returns-in-Parts : goal.returns-in-Parts
returns-in-Parts c = (
  c.in-Parts.ensures.0,
  own_on c.args.k c.args.space.now (take c.loop-at.at c.args.literals.now) c.in-Parts.cut.variable
      c.loop-at.invariant,
)

-- at the end all literals say which scenarios are in the space
pub returns : goal.returns
returns c = own_all c.args.k c.args.space.now c.args.literals.now c.loop-at.at
    (omega (arith, c.loop-at-test.false)) c.loop-at.invariant
