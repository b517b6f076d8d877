-- Proof of `lower_on_node`: the processes with lower numbers on the node of a process, by number.
use Rattle.std.proofs.Common.{◌==◌, ◌∙◌, ap, eq-eqb, sym}
use Rattle.std.proofs.lemmas.Bool.{ne_eqb}
use Rattle.cpg_base.specs.Graph.{node_of}
use Rattle.cpg_base.proofs.Lists.{filter_below_skips, filter_below_takes}
use Rattle.cpg_check_quick.proofs.processor.lower_on_node.Goals as goal
use Rattle.cpg_check_quick.proofs.processor.lower_on_node.Goals.{then-node_of-node+in_ok-push, else-node_of-node}

-- the next process is added exactly if it is on the node of the given one
pub loop-other-preserved : goal.loop-other-preserved
loop-other-preserved c =
    let graph = c.args.problem.now in
    elim c.if-node_of-node.branch [
      -- it is on the node
      | then-node_of-node+in_ok-push w ↦ filter_below_takes (λ q. node_of graph q == node_of graph c.args.process)
          c.loop-other.lower.items c.if-node_of-node.lower.items c.loop-other.other
          c.loop-other.invariant
          (eq-eqb (node_of graph c.loop-other.other) (node_of graph c.args.process)
          (sym c.node_of.ensures.node ∙ w.if-node_of-node.true ∙ c.node_of-node.ensures.node))
          (ap (λ v. v.items) w.lower-is ∙ w.in_ok-push.ensures.items)
      -- it isn't
      | else-node_of-node w ↦ ap (λ v. v.items) w.lower-is
          ∙ filter_below_skips (λ q. node_of graph q == node_of graph c.args.process) c.loop-other.lower.items
          c.loop-other.other c.loop-other.invariant
          (ne_eqb (node_of graph c.loop-other.other) (node_of graph c.args.process)
          (λ e. w.if-node_of-node.false (c.node_of.ensures.node ∙ e ∙ sym c.node_of-node.ensures.node)))
    ]
