-- Proof of `all_idle`: columns that match just in the scenarios in which some item of these acts isn't active.
use Rattle.std.proofs.Common.{All, sym, ap, ◌∙◌, subst}
use Rattle.std.specs.List.{list_any}
use Rattle.std.proofs.lemmas.List.Elements.{All-append}
use Rattle.cpg_cube.specs.Cube.{matches}
use Rattle.cpg_cube.specs.declared.column.Column.{Column}
use Rattle.cpg_cube.specs.Fit.{IsKnown}
use Rattle.cpg_audit.proofs.IdleLaws.{idle_more}
use Rattle.cpg_audit.proofs.idle.all_idle.Goals as goal

-- the columns that are added match where the item of the next act is inactive, and are on variables of the graph
pub loop-act-preserved : goal.loop-act-preserved
loop-act-preserved c =
    let g = c.args.admitted.now.graph in
    let old = c.loop-act.all.items in
    let columns = c.in_ok-columns.columns.items in
    record {
      known = subst (All (λ (d : Column). IsKnown g d.cube)) (sym c.in_ok-append.ensures.items)
          (All-append (λ (d : Column). IsKnown g d.cube) old columns c.loop-act.invariant.known
          c.in_ok-columns.ensures.known);
      idle = λ s law. ap (list_any (λ (d : Column). matches d.cube s)) c.in_ok-append.ensures.items
          ∙ idle_more g s c.args.acts.now c.loop-act.act-index _ c.loop-act-test.true old columns
          (c.loop-act.invariant.idle s law) (c.in_ok-columns.ensures.idle s law);
    }
