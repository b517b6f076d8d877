-- Proof of `Variables::has`, which says whether a variable is in the set.
use Rattle.std.proofs.Common.{◌∙◌, sym, ap}
use Rattle.cpg_order.specs.Reach.{is_in}
use Rattle.cpg_reach.proofs.Members.{is_in_members}
use Rattle.cpg_reach.proofs.variables.Variables.has.Goals as goal

-- a variable is in the set if its mark is set
pub returns : goal.returns
returns c = sym (is_in_members c.self.inside.marks c.args.variable) ∙ ap (λ xs. is_in xs c.args.variable) c.self.view_is
