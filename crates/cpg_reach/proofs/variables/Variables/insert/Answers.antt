-- Proof of `Variables::insert`, which adds a variable.
use Rattle.std.proofs.Common.{◌∙◌, ◌||◌, ◌==◌, false, ap, arith}
use Rattle.cpg_order.specs.Reach.{is_in}
use Rattle.cpg_reach.proofs.Members.{set_adds}
use Rattle.cpg_reach.proofs.variables.Variables.insert.Goals as goal

-- the marks are the old ones and that of the variable
pub returns : goal.returns
returns c v = set_adds c.self.inside.marks c.args.variable (omega arith) v
    ∙ ap (λ xs. is_in xs v || ((c.args.variable == v) || false)) c.self.view_is
