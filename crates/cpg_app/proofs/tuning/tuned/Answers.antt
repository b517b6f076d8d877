-- Proof of `tuned`, which returns the tuning of an admitted graph by compiles.
use Rattle.std.proofs.Common.{All, sym, subst}
use Rattle.std.specs.Prelude.{IfOk}
use Rattle.cpg_base.specs.Graph.{Graph}
use Rattle.cpg_tune.specs.Asked.{MayAskRows}
use Rattle.cpg_tune.specs.Tuned.{IsTuning}
use Rattle.cpg_tune.specs.RetunedLaws.{ShowsNoFault}
use Rattle.cpg_tune.proofs.Kept.{tuned_no_fault}
use Rattle.cpg_outputs.specs.Tunes.{IsNamedRow}
use Rattle.cpg_app.specs.Tunes.{IsJudged}
use Rattle.cpg_app.proofs.Worked.{if_ok}
use Rattle.cpg_app.proofs.TunedRows.{rows_named}
use Rattle.cpg_app.proofs.tuning.tuned.Goals as goal

-- the graph may be asked for with each number of faults: none of them shows a fault
pub tune-requires : goal.tune-requires
tune-requires c =
    let admitted = c.args.admitted.now in
    subst (MayAskRows ShowsNoFault) (sym c.problem.ensures.problem)
    (λ faults few. tuned_no_fault admitted.graph admitted.order admitted.guards c.problem.ensures.admitted faults)

-- if a row names an item, the graph has it
pub returns-clause-named : goal.returns-clause-named
returns-clause-named c =
    let graph : Graph = c.args.admitted.now.graph in
    if_ok {P = IsTuning IsJudged graph} {Q = λ t. All (IsNamedRow graph) t.rows} c.tune.result (rows_named graph)
    (subst (λ (h : Graph). IfOk c.tune.result (IsTuning IsJudged h)) c.problem.ensures.problem c.tune.ensures.tuned)
