-- Proof of `Listener::is_own_over`: whether the process of a variable is on the node, and over by a time in the
-- scenarios of a space.
use Rattle.std.proofs.Common.{ap, sym, ◌∙◌}
use Rattle.cpg_base.specs.Graph.{node_of}
use Rattle.cpg_tree.proofs.Passes.{of_true}
use Rattle.cpg_check_quick.proofs.listening.Listener.is_own_over.Goals as goal

-- the variable's owner is on the listener's node, and over by the time
pub returns : goal.returns
returns c = of_true c.is_over.result c.is_over.ensures (λ over tables s sequences law lies. record {
  process = c.in-Some.process;
  owner = rw c.problem-problem.ensures.problem at c.in-Some.ensures;
  near = sym (c.node_of-home.ensures.node ∙ ap (λ h. node_of h c.in-Some.process) c.problem-problem.ensures.problem)
      ∙ c.if-home-node.false;
  over = over tables s sequences law lies;
})
