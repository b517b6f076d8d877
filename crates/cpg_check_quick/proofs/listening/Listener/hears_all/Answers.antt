-- Proof of `Listener::hears_all`: whether the node has heard all literals of each of these columns of the item by its
-- time, wherever it matches.
use Rattle.std.proofs.Common.{Contains, List, subst, sym}
use Rattle.std.proofs.lemmas.Bool.{OnTrue_at}
use Rattle.cpg_cube.specs.declared.column.Column.{Column}
use Rattle.cpg_check_quick.specs.Hearing.{IsAllHeard}
use Rattle.cpg_violation.proofs.SureLaws.{each_all, each_more}
use Rattle.cpg_check_quick.proofs.listening.Listener.hears_all.Goals as goal

-- the literals of the next column are heard, too
pub loop-column-preserved : goal.loop-column-preserved
loop-column-preserved c =
    λ tables x is rules all. each_more (IsAllHeard c.args.self.now.admitted.now.graph tables c.args.self.now.node)
    c.args.columns.now c.loop-column.column-index
    c.column-item.result c.loop-column-test.true c.column-item.is (c.loop-column.invariant tables x is rules all)
    (OnTrue_at c.if-not-heard.false c.in_ok-heard.ensures tables x is rules
    (subst (λ (cs : List Column). Contains cs c.column-item.result) all
    (c.loop-column.column-index, c.loop-column-test.true, sym c.column-item.is)))

-- the loop has gone over all columns, so what its invariant says of those so far holds of each
pub returns : goal.returns
returns c =
    λ tables x is rules all. each_all (IsAllHeard c.args.self.now.admitted.now.graph tables c.args.self.now.node)
    c.args.columns.now c.loop-column.column-index c.loop-column-test.false
    (c.loop-column.invariant tables x is rules all)
