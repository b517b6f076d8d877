-- Proof of `put_last`, which adds a literal behind all others, whose variables are less, and returns that step.
use Rattle.std.proofs.Common.{◌∙◌, sym}
use Rattle.cpg_cube.proofs.Above.{narrowed_above}
use Rattle.cpg_tree_columns.proofs.path.put_last.Goals as goal

-- narrowing puts a literal that is above all others last, as the code does
pub returns-clause-narrowed : goal.returns-clause-narrowed
returns-clause-narrowed c =
    c.push_reserved.ensures.items ∙ sym (narrowed_above c.args.literal c.args.literals.now.items c.requires.above)
