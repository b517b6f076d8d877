-- Proof of `seeds`: returns a list of `count` roots, all of them the number of the part that is inactive in every outcome.
use Rattle.std.proofs.Common.{rules}
use Rattle.cpg_base.specs.declared.activation.Activation.TheVariants.{Inactive}
use Rattle.cpg_order.specs.Guard.{Leaf}
use Rattle.cpg_rules.proofs.SharedSteps.{seeded}
use Rattle.cpg_rules.proofs.composing.seeds.Goals as goal

-- each process has the part of one leaf, which is inactive
pub returns-clause-trees : goal.returns-clause-trees
returns-clause-trees c = seeded c.leaf.new.self.parts c.args.count c.in_ok-leaf.leaf c.in_ok-roots.roots.items
    (Leaf Inactive) (search rules) c.in_ok-leaf.ensures.is
