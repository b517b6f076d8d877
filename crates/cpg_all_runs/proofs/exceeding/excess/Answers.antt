-- Proof of `excess`: the greatest excess over all scenarios of a graph, given all of them and the run of each: how far
-- an end is past its due at most.
use Rattle.std.proofs.Common.{◌∙◌, map, length, sym, ap, subst, arith}
use Rattle.std.proofs.lemmas.List.{get_or_default, length-map}
use Rattle.cpg_base.specs.Graph.{process_count}
use Rattle.cpg_base.proofs.Places.{length_order}
use Rattle.cpg_run.specs.Finish.{excess_in_run, IsLeastExceeding, IsExcess}
use Rattle.cpg_all_runs.specs.Peaks.{IsFirstGreatest}
use Rattle.cpg_all_runs.proofs.Listed.{some_listed}
use Rattle.cpg_all_runs.proofs.Ends.{is_excess}
use Rattle.cpg_all_runs.proofs.exceeding.excess.Goals as goal

-- the urgency order has as many places as the graph has processes
pub first_greatest-at-requires-clause-urgency : goal.first_greatest-at-requires-clause-urgency
first_greatest-at-requires-clause-urgency c =
    let g = c.args.admitted.now.graph in
    ap length c.order.ensures.order
    ∙ length_order (process_count g) c.args.admitted.now.order c.problem-2.ensures.admitted.urgency.all
    ∙ sym (ap process_count c.problem-2.ensures.problem)

-- a graph has at least one scenario, that without faults and with every value false
pub first_greatest-at-requires-clause-some : goal.first_greatest-at-requires-clause-some
first_greatest-at-requires-clause-some c =
    some_listed c.args.admitted.now.graph c.args.scenarios.now c.requires.scenarios

-- the place that was found is that of the greatest excess, so its scenario and process are the least ones
pub returns : goal.returns
returns c = λ order frozen topological are.
    let g = c.args.admitted.now.graph in
    let urgency = c.args.admitted.now.order in
    let scenarios = c.args.scenarios.now in
    let runs = c.args.runs.now in
    let numbers = c.in_ok-numbers.numbers.items in
    -- the place as the search found it, said of the graph, its urgency order and the list of excesses
    let at = c.first_greatest-at.result in
    let is_first : IsFirstGreatest g urgency (length scenarios) scenarios numbers at =
    subst (λ ns. IsFirstGreatest g urgency (length scenarios) scenarios ns at) c.as_slice.ensures.value
    (subst (λ u. IsFirstGreatest g u (length scenarios) scenarios c.as_slice.result.now at) c.order.ensures.order
    (subst (λ h. IsFirstGreatest h c.order.result.now (length scenarios) scenarios c.as_slice.result.now at)
    c.problem-2.ensures.problem c.first_greatest-at.ensures)) in
    -- the run at that place, and the process that exceeds by most in it
    let t = c.index-runs-at.result in
    let by = c.most_exceeding-process.result in
    let read = c.in_ok-numbers.ensures ∙ ap (λ h. map (excess_in_run h) runs) c.problem.ensures.problem in
    -- the excess at that place is the greatest, its scenario and process the least that have it
    subst (λ n. IsExcess g urgency order frozen n c.in_ok-scenario.scenario by)
    (sym (c.index.ensures ∙ get_or_default numbers at c.index.result.now 0
    (omega (arith, is_first.there, ap length read, length-map runs (excess_in_run g), c.requires.count))))
    (is_excess g order topological urgency frozen scenarios c.requires.scenarios runs are numbers at is_first
    c.in_ok-scenario.scenario t
    (λ d. c.in_ok-scenario.ensures ∙ c.index-scenarios-at.is
    ∙ get_or_default scenarios at c.index-scenarios-at.result d is_first.there)
    (λ d. c.index-runs-at.is ∙ get_or_default runs at t d (omega (arith, is_first.there, c.requires.count)))
    by read
    (subst (λ h. IsLeastExceeding h t (excess_in_run h t) by) c.problem-3.ensures.problem
    c.most_exceeding-process.ensures))
