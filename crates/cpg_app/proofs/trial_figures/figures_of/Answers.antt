-- Proof of `figures_of`, which checks the tables of a generated graph, plays them, and returns the figures.
use Rattle.std.proofs.Common.{length, refl, ap, ◌∙◌}
use Rattle.std.proofs.lemmas.Bool.{both_ways}
use Rattle.cpg_base.specs.Graph.{condition_count, edge_count, process_count}
use Rattle.cpg_app.proofs.Figures.{compiled_valid, reaches_worst}
use Rattle.cpg_app.proofs.trial_figures.figures_of.Goals as goal

-- the tables are valid, so the check doesn't say no
pub unreachable-requires : goal.unreachable-requires
unreachable-requires c = both_ways c.in_ok-are_valid.field-0 c.if-not-branch.true
    (c.in_ok-are_valid.ensures.1
    (compiled_valid c.args.admitted.now.graph c.args.admitted.now.order c.args.compiled.now c.requires.compilation))

-- the figures are the counts of the graph and its tables, and the play of the worst case reaches the greatest finish
pub returns : goal.returns
returns c = record {
  processes = ap (λ ps. length ps) c.processes.ensures.processes ∙ ap process_count c.problem-problem.ensures.problem;
  edges = ap (λ es. length es) c.edges.ensures.edges ∙ ap edge_count c.problem-problem.ensures.problem;
  conditions = c.conditions.ensures.count ∙ ap condition_count c.problem-problem.ensures.problem;
  columns = c.column_total.ensures;
  worst = refl;
  plays = c.in_ok-endings.ensures;
  reached = reaches_worst c.args.admitted.now.graph c.problem-problem.ensures.admitted.well_formed
      c.args.admitted.now.order c.args.compiled.now c.requires.compilation c.args.number
      c.in_ok-endings.endings.worst_case c.in_ok-endings.ensures.worst_case;
}
