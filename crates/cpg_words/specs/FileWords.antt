-- Which words of a command name files.
use Rattle.std.specs.Prelude.{List, [], ◌∷◌, map, Option, Some, None}
use Rattle.cpg_words.specs.declared.command.Command.{Command}
use Rattle.cpg_words.specs.declared.command.Command.TheVariants.{Show, Compile, Check, Play, Node, Trial, Live, Hyper}
use Rattle.cpg_words.specs.declared.command.Command.TheVariants.{Tune, Audit}
use Rattle.cpg_words.specs.Parts.{Text}
use Rattle.cpg_words.specs.Forms.{command_of}

-- The files of a command, in the order in which they are read.
abbrev pub file_words : Command → List Text
file_words (Show graph) = graph ∷ []
file_words (Compile graph) = graph ∷ []
file_words (Check graph pack) = graph ∷ pack ∷ []
file_words (Play graph pack scenario turns) = graph ∷ pack ∷ scenario ∷ []
file_words (Node pack name) = pack ∷ []
file_words (Trial number) = []
file_words (Live pack name stream) = pack ∷ stream ∷ []
file_words (Hyper parts) = map (λ part. part.graph) parts
file_words (Tune graph) = graph ∷ []
file_words (Audit graph pack log) = graph ∷ pack ∷ log ∷ []

-- The files of a command, or none if there is no command.
abbrev pub file_words_if : Option Command → List Text
file_words_if None = []
file_words_if (Some command) = file_words command

-- The files of the command that the words ask for, or none if they form no command.
abbrev pub file_words_of : List Text → List Text
file_words_of words = file_words_if (command_of words)
