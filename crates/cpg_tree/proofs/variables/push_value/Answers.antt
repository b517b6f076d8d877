-- Proof of `push_value`, which adds the tree of the value of a condition: false below a fork at 0, and true above.
use Rattle.std.proofs.Common.{◌+◌, ◌∙◌, arith}
use Rattle.cpg_tree.proofs.Forks.{of_answer}
use Rattle.cpg_tree.proofs.VariableLaws.{adds_value}
use Rattle.cpg_tree.proofs.variables.push_value.Goals as goal

-- false and true are added, and then a fork of the two
pub returns : goal.returns
returns c =
    of_answer c.plain_fork.result _ _ c.plain_fork.ensures.made
    (λ u forks. adds_value c.len-start.result c.len-middle.result (128 + c.args.condition) c.args.out.now.items
    c.push.new.self.items c.push-2.new.self.items c.plain_fork.new.out.items
    (omega arith) (omega (arith, c.requires)) c.in_ok-push.ensures.items c.in_ok-push-2.ensures.items
    (c.len-start.ensures ∙ c.args.out.now.ok.0) (c.len-middle.ensures ∙ c.push.new.self.ok.0) forks)
