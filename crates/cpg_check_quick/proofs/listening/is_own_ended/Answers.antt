-- Proof of `is_own_ended`: whether a variable's process is on an item's node and is known to have ended by the item's
-- columns.
use Rattle.std.proofs.Common.{ap, sym, ◌∙◌}
use Rattle.cpg_base.specs.Graph.{home, node_of}
use Rattle.cpg_tree.proofs.Passes.{of_true}
use Rattle.cpg_check_quick.proofs.listening.is_own_ended.Goals as goal

-- the variable's owner is on the item's node and has always ended by the item's columns
pub returns : goal.returns
returns c = of_true c.has_ended.result c.has_ended.ensures (λ ended tables sequences rules sent. record {
  process = c.in-Some.process;
  owner = rw c.problem-problem.ensures.problem at c.in-Some.ensures;
  near = sym (c.node_of.ensures.node ∙ ap (λ h. node_of h c.in-Some.process) c.problem-problem.ensures.problem)
      ∙ c.if-node_of-home.false ∙ c.home.ensures.home ∙
      ap (λ h. home h c.args.item) c.problem-problem.ensures.problem;
  ended = ended tables sequences rules sent;
})
