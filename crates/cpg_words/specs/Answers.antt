-- What an answer to a list of words says, given the command that they ask for, if they ask for one.
use Rattle.std.specs.Prelude.{⊤, ◌≡◌, Option, Some, None, Result, Ok, Err}
use Rattle.cpg_words.specs.declared.command.Command.{Command}
use Rattle.cpg_words.specs.declared.fault.WordsFault.{WordsFault}
use Rattle.cpg_words.specs.declared.fault.WordsFault.TheVariants.{Bad, OutOfMemory}

-- A command that is answered is the one asked for. `Bad` comes only if none is asked for, and `OutOfMemory` says nothing.
abbrev pub Answers : Option Command → Result Command WordsFault → Type 0
Answers asked (Ok command) = asked ≡ Some command
Answers asked (Err Bad) = asked ≡ None
Answers asked (Err OutOfMemory) = ⊤
