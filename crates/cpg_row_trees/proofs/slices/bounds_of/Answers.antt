-- Proof of `bounds_of`, which returns how many of the literals are on narrow variables; `None` if one doesn't hold in
-- the whole space or has a number outside its range.
use Rattle.std.proofs.Common.{List, arith, subst}
use Rattle.std.proofs.lemmas.List.{take_all}
use Rattle.cpg_cube.specs.declared.literal.Literal.{Literal}
use Rattle.cpg_tree.proofs.Forks.{from_true}
use Rattle.cpg_row_trees.specs.Slices.{AreSpaceBounds}
use Rattle.cpg_row_trees.proofs.SliceLaws.{bounds_more}
use Rattle.cpg_row_trees.proofs.slices.bounds_of.Goals as goal

-- the next literal holds in the whole space and lies inside it, and counts if its variable is narrow
pub loop-literal-preserved : goal.loop-literal-preserved
loop-literal-preserved c =
    bounds_more c.args.k c.args.space.now c.args.literals.now c.loop-literal.literal-index c.loop-literal.found
    (record { variable = 0; low = 0; high = 0 }) c.loop-literal-test.true c.loop-literal.invariant
    (λ s lies. from_true c.is_bound.result c.if-not-is_bound.false c.is_bound.ensures.hold s lies)
    (from_true c.is_bound.result c.if-not-is_bound.false c.is_bound.ensures.inside)
    c.saturating_add-found.result
    (omega (arith, c.saturating_add-found.ensures, c.narrowed.ensures))

-- at the end all literals hold in the whole space and lie inside it
pub returns : goal.returns
returns c = subst (λ (ls : List Literal). AreSpaceBounds c.args.k c.args.space.now ls c.loop-literal.found)
    (take_all c.loop-literal.literal-index c.args.literals.now c.loop-literal-test.false) c.loop-literal.invariant
