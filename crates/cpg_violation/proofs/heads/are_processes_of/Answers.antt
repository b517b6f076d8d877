-- Proof of `are_processes_of`: whether a head says of the processes what the graph does.
use Rattle.std.proofs.Common.{length, ap, sym, refl, ◌∙◌}
use Rattle.std.proofs.lemmas.List.FromFn.{length-map-range_with_len}
use Rattle.cpg_base.specs.Graph.{process_count}
use Rattle.cpg_head.specs.GraphHead.{head_process}
use Rattle.cpg_head.specs.Head.{Head}
use Rattle.cpg_violation.proofs.heads.are_processes_of.Goals as goal

-- the head has as many processes as the graph, as its processes are those of the graph's own head
pub are_same_extras-requires : goal.are_same_extras-requires
are_same_extras-requires c = ap length (sym c.processes.ensures.processes ∙ c.if-not-are_same_processes.ensures.0 refl
    ∙ c.processes-2.ensures.processes ∙ ap (λ (h : Head). h.processes) c.requires)
    ∙ length-map-range_with_len (head_process c.args.problem.now) 0 (process_count c.args.problem.now)
