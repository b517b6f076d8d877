-- Proof of `is_their_own`: whether the scenarios of at most `k` faults in a space are those that literals match; true
-- only if they are.
use Rattle.std.proofs.Common.{Option, ℕ, subst}
use Rattle.std.specs.Prelude.{IfSome, nat_le}
use Rattle.std.proofs.lemmas.Bool.{OnTrue_from, leb-true}
use Rattle.cpg_row_trees.specs.Slices.{AreSpaceBounds}
use Rattle.cpg_row_trees.proofs.SliceLaws.{own}
use Rattle.cpg_row_trees.proofs.slices.is_their_own.Goals as goal

-- the literals are on as many narrow variables as the space has, so they say which scenarios are in it
pub returns-in-Some : goal.returns-in-Some
returns-in-Some c =
    let bounds : AreSpaceBounds c.args.k c.args.space.now c.args.literals.now c.in-Some.found = subst
    (λ (o : Option ℕ). IfSome o (AreSpaceBounds c.args.k c.args.space.now c.args.literals.now)) c.in-Some.is
    c.bounds_of.ensures in
    OnTrue_from (nat_le c.args.narrow c.in-Some.found) _
    (λ e. own c.args.k c.args.space.now c.args.literals.now c.args.narrow c.in-Some.found c.requires.rising
    c.requires.reached bounds (leb-true c.args.narrow c.in-Some.found e))
