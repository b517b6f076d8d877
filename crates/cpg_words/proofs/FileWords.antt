-- The files of the command that was read are those that the words name.
use Rattle.std.proofs.Common.{◌≡◌, List, Some, ap}
use Rattle.cpg_words.specs.declared.command.Command.{Command}
use Rattle.cpg_words.specs.Parts.{Text}
use Rattle.cpg_words.specs.Forms.{command_of}
use Rattle.cpg_words.specs.FileWords.{file_words, file_words_if, file_words_of}

-- the files that the words name are those of the command that they ask for
pub file_words_of-command : (words : List Text) (c : Command) → command_of words ≡ Some c →
    file_words_of words ≡ file_words c
file_words_of-command words c asked = ap file_words_if asked
