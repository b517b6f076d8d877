-- Proof of `top_on`, which returns the top of the tree of a space that is a side of a fork and whose first cube has
-- these literals, if those before the fork's variable, and the space's range of that, say which scenarios are in the
-- space.
use Rattle.std.proofs.Common.{arith}
use Rattle.cpg_row_trees.proofs.ListedLaws.{own_next}
use Rattle.cpg_row_trees.proofs.listed.top_on.Goals as goal

-- the first literals and the one on the variable, which are one more, say which scenarios are in the space
pub top_behind-requires-clause-own : goal.top_behind-requires-clause-own
top_behind-requires-clause-own c =
    -- the cube that was looked up is the one at its place in the list
    let look = c.in-Some.ensures.lookup in
    own_next c.args.k c.args.space.now c.args.literals.now c.args.part.depth c.in-Some.literal.now
    c.args.part.cut.variable look.3.0 look.1
    (omega (arith, c.if-literal-part.false)) c.requires c.in-Known.ensures
