-- Proof of `write_alternatives`: writes that a join has two live inputs, and in which scenario.
use Rattle.std.proofs.Common.{◌++◌, ◌∙◌, ap, codes, string_bytes}
use Rattle.std.proofs.lemmas.List.{append_assoc}
use Rattle.cpg_refusal.specs.Lines.{case_text}
use Rattle.cpg_refusal.proofs.refusals.write_alternatives.Goals as goal

-- the words come first, and then the case, both behind the old text
pub returns : goal.returns
returns c =
    let rest = case_text c.args.problem.now c.args.process c.args.scenario.now in
    c.in_ok-write_case.ensures ∙ ap (λ b. b ++ rest) c.in_ok-push_str.ensures.bytes
    ∙ append_assoc (string_bytes c.args.out.now) (codes "7 alternatives ") rest
