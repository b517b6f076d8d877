-- Loops of `with_forms`, which returns the line with these subcommands added.
use Rattle.std.proofs.Common.{◌≡◌, drop, fold, map}
use Rattle.clap.specs.Words.{app_of}
use Rattle.cpg_words.specs.Line.{with_command}
use Rattle.cpg_words.proofs.line.with_forms.Given as goal

-- the line so far, with the commands still to come, is the first line with all of the commands
abbrev pub invariant-loop-name : goal.invariant-loop-name
invariant-loop-name l = fold with_command (app_of l.line) (map (λ name. name.now) (drop l.name-index l.names))
    ≡ fold with_command (app_of l.fn.line) (map (λ name. name.now) l.names)
