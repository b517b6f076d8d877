-- Proof of `do_hold`: whether all literals hold in the whole space; true only if they do.
use Rattle.std.proofs.Common.{◌≡◌, true, subst}
use Rattle.std.proofs.lemmas.List.{take_all}
use Rattle.cpg_cube.specs.Cube.{matches}
use Rattle.cpg_tree.proofs.Forks.{from_true}
use Rattle.cpg_row_trees.proofs.Holding.{matches_more}
use Rattle.cpg_row_trees.proofs.places.do_hold.Goals as goal

-- the next literal holds in the whole space too
pub loop-literal-preserved : goal.loop-literal-preserved
loop-literal-preserved c s lies = matches_more s c.args.literals.now c.loop-literal.literal-index
    (record { variable = 0; low = 0; high = 0 }) c.loop-literal-test.true
    (c.loop-literal.invariant s lies) (from_true c.implies.result c.if-not-implies.false c.implies.ensures s lies)

-- at the end all literals hold
pub returns : goal.returns
returns c = λ s lies. subst (λ xs. matches xs s ≡ true) (take_all c.loop-literal.literal-index c.args.literals.now
    c.loop-literal-test.false) (c.loop-literal.invariant s lies)
