-- Proof of `late`: returns the fault `Late` of a graph that is late under its first order: the least scenario with the
-- greatest excess, the least process that has this excess there, and its end.
use Rattle.std.proofs.Common.{◌≡◌, ◌<◌, ◌∙◌, ◌+◌, ap, sym, subst, arith, Some}
use Rattle.cpg_base.specs.Graph.{process_count}
use Rattle.cpg_base.specs.Duration.{due}
use Rattle.cpg_order.specs.Urgency.{first_order}
use Rattle.cpg_run.specs.Finish.{IsExcess}
use Rattle.cpg_core.proofs.Compilations.{late_times, late_run, late_end, late_process, late_small, late_under}
use Rattle.cpg_core.proofs.Compilations.{some_shown}
use Rattle.cpg_core.proofs.compiling.late.Goals as goal

-- an excess above 0 has a process to show
pub unreachable-requires : goal.unreachable-requires
unreachable-requires c = some_shown c.args.admitted.now.graph c.args.admitted.now.order
    (first_order c.args.admitted.now.graph c.args.admitted.now.order) c.args.first c.requires.grown c.requires.late
    c.in_default.is

-- the process that is late is one of the graph
pub due-requires : goal.due-requires
due-requires c =
    let g = c.args.admitted.now.graph in
    let urgency = c.args.admitted.now.order in
    subst (λ h. c.in-Some.process < process_count h) (sym c.problem-problem.ensures.problem)
    (late_process g urgency (first_order g urgency) c.args.first c.requires.grown c.in-Some.process c.in-Some.is)

-- the end is the due and the excess, which is no later than the greatest finish
pub end_past-requires : goal.end_past-requires
end_past-requires c =
    let g = c.args.admitted.now.graph in
    let urgency = c.args.admitted.now.order in
    -- the due that is read is that of the process
    let due_is : c.due.result ≡ due g c.in-Some.process =
    c.due.ensures ∙ ap (λ h. due h c.in-Some.process) c.problem-problem.ensures.problem in
    omega (
      arith,
      due_is,
      late_small g urgency (first_order g urgency) c.args.first c.requires.grown c.in-Some.process c.in-Some.is,
    )

-- the excess is above 0, so a process is late, and its end in the scenario of the excess is shown
pub returns : goal.returns
returns c =
    let g = c.args.admitted.now.graph in
    let urgency = c.args.admitted.now.order in
    let order = first_order g urgency in
    let found = c.args.first in
    -- the end that is shown is the due and the excess
    let due_is : c.due.result ≡ due g c.in-Some.process =
    c.due.ensures ∙ ap (λ h. due h c.in-Some.process) c.problem-problem.ensures.problem in (
      -- the graph is late
      record {
        narrow = c.requires.narrow;
        late = late_under g urgency order found c.requires.grown c.requires.late;
        helpless = c.requires.helpless;
      },
      -- what is shown: the frozen times, the excess with its scenario and process, and the run in which that ends so
      record {
        frozen = found.trees.frozen;
        frozen_times = c.requires.grown.frozen;
        excess = found.excess.time;
        is_excess = subst (IsExcess g urgency order found.trees.frozen found.excess.time found.excess.scenario)
            c.in-Some.is c.requires.grown.excess;
        times = late_times g urgency order found c.requires.grown c.in-Some.process c.in-Some.is;
        run = late_run g urgency order found c.requires.grown c.in-Some.process c.in-Some.is;
        ends = late_end g urgency order found c.requires.grown c.in-Some.process c.in-Some.is
            ∙ ap (λ n. Some n) (sym (c.end_past.ensures ∙ ap (λ n. n + found.excess.time) due_is));
      },
    )
