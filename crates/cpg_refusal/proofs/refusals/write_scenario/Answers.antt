-- Proof of `write_scenario`: writes that a scenario file is none, and why.
use Rattle.std.proofs.Common.{◌≡◌, ◌++◌, codes, string_bytes, subst}
use Rattle.std.specs.Prelude.{OnOk}
use Rattle.cpg_refusal.proofs.refusals.write_scenario.Goals as goal

-- the words and the text of the cause come behind the old text
pub returns : goal.returns
returns c = subst (λ t. OnOk c.write_cause.result (string_bytes c.write_cause.new.out ≡ string_bytes c.args.out.now
    ++ (codes "12 scenario " ++ t))) c.cause_text.ensures c.write_cause.ensures
