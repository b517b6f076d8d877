-- Proof of `problem_of`, which returns the graph that a document within the limits says.
use Rattle.std.proofs.Common.{◌≡◌, length, rules}
use Rattle.cpg_base.specs.Limits.{IsOrderWithin}
use Rattle.cpg_base.specs.Natural.{natural}
use Rattle.cpg_reader.specs.Shape.{raw_view}
use Rattle.cpg_reader.proofs.Within.{graph-within, unordered-within, of_mapped}
use Rattle.cpg_reader.proofs.building.problem_of.Goals as goal

-- the graph of a document within the limits is within the limits, and so is the graph without its order
pub of-problem-requires : goal.of-problem-requires
of-problem-requires c =
    let deadline : c.natural-deadline.result ≡ natural c.args.raw.deadline = search rules in
    rw (c.faults_of-faults.ensures, deadline)
    (unordered-within _ (graph-within (raw_view c.args.raw) _ c.requires c.in_ok-parts.ensures))

-- the order of the document has only numbers of the graph's processes
pub with_order-requires : goal.with_order-requires
with_order-requires c =
    rw c.of-problem.ensures
    (of_mapped (λ v. v.items) (IsOrderWithin (length c.in_ok-parts.parts.processes.items)) c.in_ok-parts.parts.order
    (graph-within (raw_view c.args.raw) _ c.requires c.in_ok-parts.ensures).order)
