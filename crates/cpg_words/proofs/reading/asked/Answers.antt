-- Proof of `asked`, which returns the command that a subcommand found by `clap` asks for; `Bad` only if it has other
-- words than its form.
use Rattle.std.proofs.Common.{List, ap₂, codes, refl}
use Rattle.clap.specs.Words.{found_of}
use Rattle.cpg_words.specs.Parts.{Text}
use Rattle.cpg_words.specs.Forms.{command_named, forms}
use Rattle.cpg_words.proofs.Asks.{answers_as, values_got}
use Rattle.cpg_words.proofs.reading.asked.Goals as goal

-- the words and the values that were found are those of the rule
pub returns : goal.returns
returns c = answers_as _ _ c.command.result
    (ap₂ (λ (ps ts : List Text). command_named forms c.args.name.now (record { positionals = ps; turns = ts }))
    (values_got (found_of c.args.found.now)
    (codes "words") c.get_strs.result _ c.unwrap_or-words.result c.unwrap_or-words.ensures refl c.get_strs.ensures)
    (values_got (found_of c.args.found.now) (codes "turns") c.get_strs-2.result _ c.unwrap_or-turns.result
    c.unwrap_or-turns.ensures refl c.get_strs-2.ensures))
    c.command.ensures
