-- Proof of `settle`: settles all processes that can be settled, each after the sources of its inputs.
use Rattle.std.proofs.Common.{ℕ, ◌+◌, ◌<◌, ◌≤◌, ◌==◌, ◌∙◌, sym, ap, subst, length, get_or, Contains, arith}
use Rattle.std.proofs.lemmas.List.{get_or_default}
use Rattle.std.proofs.lemmas.List.FromFn.{length-map-range_with_len}
use Rattle.cpg_base.specs.Graph.{process_count, inputs, outputs, target}
use Rattle.cpg_base.proofs.Lists.{get_or-map-below}
use Rattle.cpg_base.proofs.Inputs.{outputs_parts}
use Rattle.cpg_order.specs.Settling.{AreReady}
use Rattle.cpg_order.proofs.Readiness.{passing, settled_first, enough, settled_more, ready-le, ready_within}
use Rattle.cpg_order.proofs.settling.settle.Goals as goal

-- there are no more counts than processes, at most 128
pub ready-requires : goal.ready-requires
ready-requires c =
    let long = ap length c.in_ok-waiting.ensures.counts
    ∙ length-map-range_with_len (λ p. length (inputs c.args.problem.now p)) 0 (process_count c.args.problem.now) in
    let same = ap length c.as_slice.ensures.value in
    omega (arith, c.in_ok-waiting.ensures.within.few_processes)

-- at the start no process is settled, and each waits for all its inputs
pub loop-settled-init : goal.loop-settled-init
loop-settled-init c =
    let count : ℕ → ℕ = λ p. length (inputs c.args.problem.now p) in
    settled_first c.args.problem.now c.in_ok-waiting.waiting.items c.in_ok-ready.ready.items
    (ap length c.in_ok-waiting.ensures.counts ∙ length-map-range_with_len count 0 (process_count c.args.problem.now))
    (λ p inside. ap (λ xs. get_or xs p 0) c.in_ok-waiting.ensures.counts
    ∙ get_or-map-below count (process_count c.args.problem.now) p 0 inside)
    (subst (λ xs. AreReady xs c.in_ok-ready.ready.items) c.as_slice.ensures.value c.in_ok-ready.ensures)

-- the next ready process is one of the graph, so the links have its outputs
pub outputs-requires : goal.outputs-requires
outputs-requires c =
    let more : c.loop-settled.settled < length c.loop-settled.ready.items = omega arith in
    let at = c.index-process.ensures
    ∙ get_or_default c.loop-settled.ready.items c.loop-settled.settled c.index-process.result.now 0 more in
    let inside = ready_within c.args.problem.now c.loop-settled.waiting.items c.loop-settled.ready.items
    c.loop-settled.settled c.loop-settled.settled c.loop-settled.invariant more in
    subst (λ k. c.index-process.result.now < k.count) (sym c.requires) (omega arith)

-- an output of a process is an edge of the graph
pub release_all-requires-clause-edges : goal.release_all-requires-clause-edges
release_all-requires-clause-edges c e is_output =
    (outputs_parts c.args.problem.now c.index-process.result.now e
    (subst (λ xs. Contains xs e) (c.outputs.ensures.of_graph c.args.problem.now c.requires) is_output)).0

-- the next process isn't settled yet, so each of its targets still waits for the inputs from it
pub release_all-requires-clause-wait : goal.release_all-requires-clause-wait
release_all-requires-clause-wait c p =
    let more : c.loop-settled.settled < length c.loop-settled.ready.items = omega arith in
    let at = c.index-process.ensures
    ∙ get_or_default c.loop-settled.ready.items c.loop-settled.settled c.index-process.result.now 0 more in
    rw (c.outputs.ensures.of_graph c.args.problem.now c.requires)
    (subst (λ q. passing (λ e. target c.args.problem.now e == p) (outputs c.args.problem.now q)
    ≤ get_or c.loop-settled.waiting.items p 0) (sym at)
    (enough c.args.problem.now c.loop-settled.waiting.items c.loop-settled.settled c.loop-settled.ready.items
    c.loop-settled.invariant more
    (λ e inside. (c.in_ok-waiting.ensures.within.edges e _ inside).to) p))

-- one more process is settled, and there are no more of them than processes
pub loop-settled-smaller : goal.loop-settled-smaller
loop-settled-smaller c =
    let few = ready-le c.args.problem.now c.loop-settled.waiting.items c.loop-settled.ready.items c.loop-settled.settled
    c.loop-settled.invariant in
    omega arith

-- one more process is settled
pub loop-settled-preserved : goal.loop-settled-preserved
loop-settled-preserved c =
    let more : c.loop-settled.settled < length c.loop-settled.ready.items = omega arith in
    let at = c.index-process.ensures
    ∙ get_or_default c.loop-settled.ready.items c.loop-settled.settled c.index-process.result.now 0 more in
    settled_more c.args.problem.now c.loop-settled.waiting.items c.loop-settled.settled c.loop-settled.ready.items
    c.loop-settled.invariant more
    c.release_all.new.waiting.items c.release_all.new.ready.items c.in_ok-release_all.ensures.longer.0
    c.in_ok-release_all.ensures.longer.1 c.in_ok-release_all.ensures.long
    c.in_ok-release_all.ensures.ready
    (λ q. ap (λ xs. get_or c.release_all.new.waiting.items q 0 + passing (λ e. target c.args.problem.now e == q) xs)
    (sym (c.outputs.ensures.of_graph c.args.problem.now c.requires ∙ ap (outputs c.args.problem.now) at))
    ∙ c.in_ok-release_all.ensures.waiting q)
