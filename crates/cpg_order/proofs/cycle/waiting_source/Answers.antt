-- Proof of `waiting_source`: returns the source of the first input of a waiting process that comes from a waiting
-- process.
use Rattle.std.proofs.Common.{◌<◌, ◌≡◌, ◌∙◌, sym, ap, subst, get_or, length, Contains, true, arith}
use Rattle.std.proofs.lemmas.List.{get_or_default}
use Rattle.std.proofs.lemmas.List.Elements.{Contains-get_or}
use Rattle.cpg_base.specs.Graph.{source, inputs}
use Rattle.cpg_base.proofs.Inputs.{inputs_parts}
use Rattle.cpg_order.specs.Cycle.{has_edge}
use Rattle.cpg_order.proofs.Cycles.{has_edge_of_input}
use Rattle.cpg_order.proofs.cycle.waiting_source.Goals as goal

-- an input of the process is an edge of the graph
pub source-source-requires : goal.source-source-requires
source-source-requires c =
    let is = c.inputs-edge-items.ensures.of_graph c.args.problem.now c.requires.links in
    (inputs_parts c.args.problem.now c.args.process (get_or c.inputs-edge-items.result.now c.loop-edge.edge-index 0)
    (subst (λ xs. Contains xs (get_or c.inputs-edge-items.result.now c.loop-edge.edge-index 0)) is
    (Contains-get_or c.inputs-edge-items.result.now c.loop-edge.edge-index 0 c.loop-edge-test.true))).0

-- an input of the process is an edge from its source
pub returns-then-waiting-source-gt0-clause-edge : goal.returns-then-waiting-source-gt0-clause-edge
returns-then-waiting-source-gt0-clause-edge c =
    let is = c.inputs-edge-items.ensures.of_graph c.args.problem.now c.requires.links in
    subst (λ p. has_edge c.args.problem.now p c.args.process ≡ true) (sym c.source-source.ensures.source)
    (has_edge_of_input c.args.problem.now c.args.process
    (get_or c.inputs-edge-items.result.now c.loop-edge.edge-index 0)
    (subst (λ xs. Contains xs (get_or c.inputs-edge-items.result.now c.loop-edge.edge-index 0)) is
    (Contains-get_or c.inputs-edge-items.result.now c.loop-edge.edge-index 0 c.loop-edge-test.true)))

-- a stuck process has an input from a process that waits, so the loop has found one
pub unreachable-requires : goal.unreachable-requires
unreachable-requires c =
    -- an input whose source waits, and its place among the inputs
    let found = c.requires.stuck.each c.args.process c.requires.within c.requires.waits in
    let is = c.inputs-edge-items.ensures.of_graph c.args.problem.now c.requires.links in
    let position = found.1.0 in
    let passed : position < c.loop-edge.edge-index = omega (arith, found.1.1, ap length is) in
    let at : get_or (inputs c.args.problem.now c.args.process) position 0 ≡ found.0 =
    get_or_default (inputs c.args.problem.now c.args.process) position 0 found.0 found.1.1 ∙ found.1.2 in
    -- the loop has passed this input, so its source would not wait, but it does
    let none = c.loop-edge.invariant position passed in
    let some = found.2 in
    omega (arith, ap (λ e. get_or c.args.waiting.now (source c.args.problem.now e) 0) at)
