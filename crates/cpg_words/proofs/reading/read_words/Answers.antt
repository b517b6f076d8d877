-- Proof of `read_words`, which returns the command that the words ask for, by the rule of this crate.
use Rattle.std.proofs.Common.{◌∙◌, ap, sym}
use Rattle.cpg_words.specs.Matches.{command_at}
use Rattle.cpg_words.proofs.Asks.{answered, answered_bad, answers_as, entered_rows}
use Rattle.cpg_words.proofs.reading.read_words.Goals as goal

-- the subcommand and its rows ask for what the words ask for
pub returns-in-Some : goal.returns-in-Some
returns-in-Some c =
    let asked = answers_as _ _ c.asked.result
    (ap command_at (sym (entered_rows _ c.in-Some.name.now _ c.in-Some.ensures.name c.in-Some.ensures.rows))
    ∙ sym c.in_ok-matches.ensures.ok)
    c.asked.ensures in
    record { command = answered _ _ asked; bad = answered_bad _ _ asked }
