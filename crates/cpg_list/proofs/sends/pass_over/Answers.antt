-- Proof of `pass_over`: narrows the cube of what the queue leaves by what decides that an item isn't sent in the
-- scenario.
use Rattle.std.proofs.Common.{◌≡◌, ◌∙◌, true, false, is_some, [], sym, ap, subst}
use Rattle.cpg_base.specs.Graph.{Graph}
use Rattle.cpg_base.specs.Activity.{active}
use Rattle.cpg_run.specs.Carried.{decided}
use Rattle.cpg_list.specs.Narrowing.{IsNarrowed}
use Rattle.cpg_list.proofs.CodeStarts.{process_active}
use Rattle.cpg_list.proofs.CodeSends.{queue_by, left_idle, left_skipped}
use Rattle.cpg_list.proofs.sends.pass_over.Goals as goal

-- the producer is inactive, so the item leaves only what decides it
pub returns-in_default : goal.returns-in_default
returns-in_default c ends =
    let graph = c.args.admitted.now.graph in
    let scenario = c.args.scenario.now in
    let process = c.args.process in
    -- the run has no time for the process, so it is inactive
    let off : active graph scenario.values process ≡ false =
    sym (process_active graph [] scenario process c.requires.process c.args.times.now c.requires.active)
    ∙ ap is_some (sym c.time.ensures ∙ c.in_default.is) in
    subst (λ ls. IsNarrowed graph.faults ls c.args.queue.now c.narrow_by_decided.new.cube)
    (sym (left_idle graph scenario process c.args.item (queue_by graph process c.args.item c.requires.item)
    ends off c.requires.idle))
    (subst (λ (h : Graph). IsNarrowed h.faults (decided h scenario process) c.args.queue.now
    c.narrow_by_decided.new.cube)
    c.problem.ensures.problem c.in_ok-narrow_by_decided.ensures)

-- the producer is active and the item isn't, so it also leaves the value that decides the sending
pub returns : goal.returns
returns c ends =
    let graph = c.args.admitted.now.graph in
    let scenario = c.args.scenario.now in
    let process = c.args.process in
    let on : active graph scenario.values process ≡ true =
    sym (process_active graph [] scenario process c.requires.process c.args.times.now c.requires.active)
    ∙ ap is_some (sym c.time.ensures ∙ c.in-Some.is) in
    subst (λ ls. IsNarrowed graph.faults ls c.args.queue.now c.narrow_by_sending.new.cube)
    (sym (left_skipped graph scenario process c.args.item (queue_by graph process c.args.item c.requires.item)
    ends on c.requires.idle))
    c.in_ok-narrow_by_sending.ensures
