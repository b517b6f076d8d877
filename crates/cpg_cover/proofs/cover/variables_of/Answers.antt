-- Proof of `variables_of`, which returns the variables on which some cube has a literal, in the order of the processes.
use Rattle.std.proofs.Common.{◌<◌, All, sym, subst, arith}
use Rattle.std.proofs.lemmas.List.Elements.{All-push}
use Rattle.cpg_base.specs.Graph.{IsVariable, process_count}
use Rattle.cpg_cube.proofs.KeyOrder.{within_order}
use Rattle.cpg_cover.proofs.Known.{variables_known}
use Rattle.cpg_cover.proofs.cover.variables_of.Goals as goal
use Rattle.cpg_cover.proofs.cover.variables_of.Goals.{then-marks-variable+in_ok-push, else-marks-variable}

-- the processes of the order are those of the graph
pub variables_along-requires : goal.variables_along-requires
variables_along-requires c =
    let count = process_count c.args.problem.now in
    record {
      order = subst (All (λ p. p < count)) (sym c.processes.ensures.processes)
          (within_order count c.args.order.now (rw c.requires at c.processes.ensures.order.all));
    }

-- the next variable along the order is one of the graph, whether it is marked or not
pub loop-variable-preserved : goal.loop-variable-preserved
loop-variable-preserved c =
    let graph = c.args.problem.now in
    let count = process_count graph in
    -- the order has processes of the graph only, so the variables along it are the graph's
    let within : All (λ p. p < count) c.processes.result.now =
    subst (All (λ p. p < count)) (sym c.processes.ensures.processes)
    (within_order count c.args.order.now (rw c.requires at c.processes.ensures.order.all)) in
    let all : All (IsVariable graph) c.as_slice-variable-items.result.now =
    rw (c.as_slice-variable-items.ensures.value, c.in_ok-all.ensures)
    (variables_known graph c.processes.result.now within) in
    elim c.if-marks-variable.branch [
      -- the variable is marked, and is added; or it isn't, and the list stays
      | then-marks-variable+in_ok-push w ↦ rw (w.variables-is, w.in_ok-push.ensures.items)
          (All-push (IsVariable graph) c.loop-variable.variables.items _ c.loop-variable.invariant
          (all c.loop-variable.variable-index 0 (omega arith)))
      | else-marks-variable w ↦ rw w.variables-is c.loop-variable.invariant
    ]
