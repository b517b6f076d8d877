-- Proof of `narrow_by_sending`: narrows a cube by what decides a process, and by the value that decides whether an item
-- is sent once it has ended.
use Rattle.std.proofs.Common.{Contains, sym, subst}
use Rattle.cpg_base.specs.Graph.{Graph}
use Rattle.cpg_bus.specs.Plan.{queue_of}
use Rattle.cpg_run.specs.Carried.{decided, sent_by_value}
use Rattle.cpg_list.specs.Narrowing.{IsNarrowed}
use Rattle.cpg_list.proofs.CodeCubes.{narrowed_then}
use Rattle.cpg_list.proofs.sends.narrow_by_sending.Goals as goal

-- the item is in the queue of the process, and the problem is the admitted graph
pub narrow_by_sent_value-requires-clause-item : goal.narrow_by_sent_value-requires-clause-item
narrow_by_sent_value-requires-clause-item c = subst (λ (h : Graph). Contains (queue_of h c.args.process) c.args.item)
    (sym c.problem-problem.ensures.problem) c.requires.item

-- the cube is narrowed by what decides the process, and then by what decides the sending
pub returns : goal.returns
returns c =
    let graph = c.args.admitted.now.graph in
    let scenario = c.args.scenario.now in
    let same_graph = c.problem-problem.ensures.problem in
    let by_decided = subst
    (λ (h : Graph). IsNarrowed h.faults (decided h scenario c.args.process) c.args.cube.now
    c.narrow_by_decided.new.cube) same_graph
    c.in_ok-narrow_by_decided.ensures in
    let by_value = subst (λ (h : Graph). IsNarrowed h.faults (sent_by_value h scenario c.args.item)
    c.narrow_by_decided.new.cube
    c.narrow_by_sent_value.new.cube) same_graph c.in_ok-narrow_by_sent_value.ensures in
    narrowed_then graph.faults (decided graph scenario c.args.process)
    (sent_by_value graph scenario c.args.item) c.args.cube.now
    c.narrow_by_decided.new.cube c.narrow_by_sent_value.new.cube by_decided by_value
