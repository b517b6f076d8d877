-- Proof of `idle_columns`: columns that match just in the scenarios in which an item isn't active.
use Rattle.std.proofs.Common.{subst}
use Rattle.std.proofs.lemmas.List.Elements.{All-weaker}
use Rattle.cpg_base.specs.Graph.{Graph}
use Rattle.cpg_cube.specs.declared.column.Column.{Column}
use Rattle.cpg_cube.specs.Fit.{IsKnown}
use Rattle.cpg_tree_columns.specs.Columns.{IsTidyColumn}
use Rattle.cpg_tree.specs.Variables.{is_variable}
use Rattle.cpg_tree.proofs.Passing.{known_from}
use Rattle.cpg_audit.proofs.IdleLaws.{idle_columns}
use Rattle.cpg_audit.proofs.idle.idle_columns.Goals as goal

-- the idle tree is mapped from the tree of the activity, so it tests variables of the graph alone
pub columns-requires-clause-known : goal.columns-requires-clause-known
columns-requires-clause-known c =
    let g = c.args.admitted.now.graph in
    rw c.problem.ensures.problem (known_from g c.in_ok-idle.idle.paths
    (c.in_ok-idle.ensures.pass (is_variable g) c.in_ok-active.ensures.tree.known))

-- a tidy column is on variables of the graph
pub returns-clause-known : goal.returns-clause-known
returns-clause-known c =
    let g = c.args.admitted.now.graph in
    All-weaker (IsTidyColumn c.problem.result.now) (λ (column : Column). IsKnown g column.cube)
    (λ column tidy. subst (λ (h : Graph). IsKnown h column.cube) c.problem.ensures.problem tidy.cube.known)
    c.in_ok-columns.columns.items c.in_ok-columns.ensures.tidy

-- a column of the idle tree matches exactly where the item isn't active
pub returns-clause-idle : goal.returns-clause-idle
returns-clause-idle c = idle_columns c.args.admitted.now.graph c.args.item c.in_ok-active.active
    c.in_ok-active.ensures.tree c.in_ok-active.ensures.active c.in_ok-idle.idle c.in_ok-idle.ensures.is
    c.in_ok-idle.ensures.each
    c.in_ok-columns.columns.items c.in_ok-columns.ensures.all
