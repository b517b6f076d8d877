-- The command line as `clap` sees it: each command takes positionals and values of `--turns`, both any number of times.
use Rattle.std.specs.Prelude.{List, codes, Some, true, fold, map}
use Rattle.clap.specs.Words.{App, Rule, new_app, new_rule, with_rule, with_subcommand}
use Rattle.clap.specs.declared.builder.ArgAction.TheVariants.{Append}
use Rattle.cpg_words.specs.Parts.{Text}
use Rattle.cpg_words.specs.Forms.{forms}

-- The argument `words`, which takes all positionals.
abbrev pub positionals_rule : Rule
positionals_rule = record (new_rule (codes "words")) { action = Some Append }

-- The option `--turns`, which takes a value each time.
abbrev pub turns_rule : Rule
turns_rule = record (new_rule (codes "turns")) { long = Some (codes "turns"); action = Some Append }

-- A command without the flags for help and version, which `clap` would add.
abbrev pub plain_app : Text → App
plain_app name = record (new_app name)
    { top = record ((new_app name).top) { disable_help_flag = true; disable_version_flag = true } }

-- A command with its positionals and `--turns`.
abbrev pub sub_app : Text → App
sub_app name = with_rule (with_rule (plain_app name) positionals_rule) turns_rule

-- The command line before its commands are added: its first word is the name of a command, and one is required.
abbrev pub top_app : App
top_app = record (plain_app (codes "cpgc")) {
  top = record ((plain_app (codes "cpgc")).top)
      { no_binary_name = true; disable_help_subcommand = true; subcommand_required = true };
}

-- The command line with one more command.
abbrev pub with_command : App → Text → App
with_command a name = with_subcommand a (sub_app name).top

-- The command line with commands of these names.
abbrev pub line_app_of : List Text → App
line_app_of names = fold with_command top_app names

-- The command line with all commands.
abbrev pub line_app : App
line_app = line_app_of (map (λ f. f.0) forms)
