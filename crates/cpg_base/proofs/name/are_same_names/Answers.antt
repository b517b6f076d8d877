-- Proof of `are_same_names`: whether two lists of names are equal.
use Rattle.std.proofs.Common.{sym, ◌∙◌}
use Rattle.std.specs.Cmp.Lexicographic.{bytes_decides, pointwise_decides}
use Rattle.cpg_base.proofs.name.are_same_names.Goals as goal

-- the comparison goes name by name, and decides whether two names have the same bytes
pub returns : goal.returns
returns c =
    let decides = pointwise_decides bytes_decides c.args.names.now c.args.others.now in
    (λ same. decides.0 (sym c.eq.ensures ∙ same), λ is. c.eq.ensures ∙ decides.1 is)
