-- Which command a parse by `clap` asks for.
use Rattle.std.specs.Prelude.{codes, List, [], Option, Some, None, unwrap_or}
use Rattle.clap.specs.Walk.{Row, all_of}
use Rattle.cpg_words.specs.Parts.{Text}
use Rattle.cpg_words.specs.Forms.{command_named, forms}
use Rattle.cpg_words.specs.declared.command.Command.{Command}

-- The values of the argument `id` among the rows of a parse, or none if it isn't there.
abbrev pub values_in : Text → List Row → List Text
values_in id rows = unwrap_or (all_of id rows) []

-- The command that the subcommand of a parse asks for, given by its name and its rows; None without a subcommand.
abbrev pub command_at : Option (Text × List Row) → Option Command
command_at None = None
command_at (Some p) =
    command_named forms p.0
    (record { positionals = values_in (codes "words") p.1; turns = values_in (codes "turns") p.1 })
