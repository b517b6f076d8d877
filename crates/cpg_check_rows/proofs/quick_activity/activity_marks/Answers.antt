-- Proof of `activity_marks`: a mark for each item, by number: whether V1 is known to hold there.
use Rattle.std.proofs.Common.{◌≡◌, ◌∙◌, ap, arith, false, get_or, length, subst, true}
use Rattle.cpg_base.specs.Graph.{Graph, process_count}
use Rattle.cpg_tree.proofs.Passes.{of_true}
use Rattle.cpg_violation.proofs.SpaceLaws.{few_of}
use Rattle.cpg_check_rows.proofs.quick_activity.activity_marks.Goals as goal

-- the space of all scenarios has each scenario of the graph
pub marks_of-requires-clause-everywhere : goal.marks_of-requires-clause-everywhere
marks_of-requires-clause-everywhere c s law =
    let graph = c.args.admitted.now.graph in
    let faults : c.faults.result ≡ graph.faults =
    c.faults.ensures.faults ∙ ap (λ (h : Graph). h.faults) c.problem-2.ensures.problem in
    c.whole-everywhere.ensures.lies s (few_of graph c.faults.result faults s law)

-- if each process is marked, each is active in every scenario
pub marks_of-requires-clause-all : goal.marks_of-requires-clause-all
marks_of-requires-clause-all c = of_true c.are_all-all.result c.are_all-all.ensures
    (λ all p l. c.in_ok-always.ensures p l (subst (λ marks. get_or marks p false ≡ true) c.as_slice.ensures.value
    (all p (omega (arith, l, ap length c.processes.ensures.processes, ap process_count c.problem.ensures.problem)))))
