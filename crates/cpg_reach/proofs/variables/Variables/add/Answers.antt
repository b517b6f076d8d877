-- Proof of `Variables::add`, which adds the variables of another set.
use Rattle.std.proofs.Common.{◌∙◌, ◌||◌, ap₂}
use Rattle.cpg_order.specs.Reach.{is_in}
use Rattle.cpg_reach.proofs.Members.{unite_adds}
use Rattle.cpg_reach.proofs.variables.Variables.add.Goals as goal

-- the united marks are those of both sets
pub returns : goal.returns
returns c v = unite_adds c.self.inside.marks c.others.inside.marks c.unite.new.marks c.unite.ensures v
    ∙ ap₂ (λ xs ys. is_in xs v || is_in ys v) c.self.view_is c.others.view_is
