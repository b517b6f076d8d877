-- The rule on words: which lists of words form a command, and which one.
use Rattle.std.specs.Prelude.{ℕ, ◌&&◌, List, [], ◌∷◌, length, codes, Option, Some, None, option_map, option_and_then}
use Rattle.std.specs.Prelude.{if◌then◌else◌, nat_le, nat_lt, find}
use Rattle.std.specs.Str.{bytes_eq}
use Rattle.cpg_words.specs.declared.command.Pair.{Pair}
use Rattle.cpg_words.specs.declared.command.Command.{Command}
use Rattle.cpg_words.specs.declared.command.Command.TheVariants.{Show, Compile, Check, Play, Node, Trial, Live, Hyper}
use Rattle.cpg_words.specs.declared.command.Command.TheVariants.{Tune, Audit}
use Rattle.cpg_words.specs.Number.{number}
use Rattle.cpg_words.specs.Parts.{Text, Parts, parts_of}

-- How a command's words are read: from the positionals and the values of `--turns` comes the command, or None if they
-- don't form it.
abbrev pub Reads : Type 0
Reads = List Text → List Text → Option Command

-- Reads exactly one positional and no `--turns`.
abbrev pub one_word : (Text → Command) → Reads
one_word make (a ∷ []) [] = Some (make a)
one_word make _ _ = None

-- Reads exactly two positionals and no `--turns`.
abbrev pub two_words : (Text → Text → Command) → Reads
two_words make (a ∷ b ∷ []) [] = Some (make a b)
two_words make _ _ = None

-- Reads exactly three positionals and no `--turns`.
abbrev pub three_words : (Text → Text → Text → Command) → Reads
three_words make (a ∷ b ∷ c ∷ []) [] = Some (make a b c)
three_words make _ _ = None

-- Reads `play`: GRAPH PACK SCENARIO, and exactly one `--turns N`.
abbrev pub play_of : Reads
play_of (graph ∷ pack ∷ scenario ∷ []) (turns ∷ []) = option_map (Play graph pack scenario) (number turns)
play_of _ _ = None

-- Reads `trial`: one number N.
abbrev pub trial_of : Reads
trial_of (n ∷ []) [] = option_map Trial (number n)
trial_of _ _ = None

-- The pair of a period and the file of a graph in front of further pairs; None if the period is no number, or if these
-- aren't pairs.
abbrev pub with_pair : Option ℕ → Text → Option (List Pair) → Option (List Pair)
with_pair (Some period) graph (Some rest) = Some (record { period = period; graph = graph } ∷ rest)
with_pair _ graph _ = None

-- The positionals two by two, N GRAPH N GRAPH and so on; None if one is left over, or if an N is no number.
abbrev pub pairs_of : List Text → Option (List Pair)
pairs_of [] = Some []
pairs_of (n ∷ []) = None
pairs_of (n ∷ graph ∷ rest) = with_pair (number n) graph (pairs_of rest)

-- The pairs, or None if there are none or more than four.
abbrev pub one_to_four : List Pair → Option (List Pair)
one_to_four pairs = if nat_lt 0 (length pairs) && nat_le (length pairs) 4 then Some pairs else None

-- Reads `hyper`: one to four times N GRAPH.
abbrev pub hyper_of : Reads
hyper_of words [] = option_map Hyper (option_and_then one_to_four (pairs_of words))
hyper_of words (turns ∷ rest) = None

-- A command's name (part 0), and how the words behind it are read (part 1).
abbrev pub Form : Type 0
Form = Text × Reads

-- The forms of all commands.
abbrev pub forms : List Form
forms = (codes "show", one_word Show)
    ∷ (codes "compile", one_word Compile)
    ∷ (codes "check", two_words Check)
    ∷ (codes "play", play_of)
    ∷ (codes "node", two_words Node)
    ∷ (codes "trial", trial_of)
    ∷ (codes "live", three_words Live)
    ∷ (codes "hyper", hyper_of)
    ∷ (codes "tune", one_word Tune)
    ∷ (codes "audit", three_words Audit)
    ∷ []

-- The command that a form reads from the parts; None without a form.
abbrev pub in_form : Parts → Option Form → Option Command
in_form p None = None
in_form p (Some form) = form.1 p.positionals p.turns

-- The command that the form of this name reads from the parts, or None if no form has the name.
abbrev pub command_named : List Form → Text → Parts → Option Command
command_named fs name p = in_form p (find (λ f. bytes_eq f.0 name) fs)

-- The command that a list of words asks for under these forms: the first word is its name, and the others are split into
-- parts. None if there is no word.
abbrev pub command_in : List Form → List Text → Option Command
command_in fs [] = None
command_in fs (name ∷ words) = option_and_then (command_named fs name) (parts_of words)

-- The command that the words ask for, or None if they form none.
abbrev pub command_of : List Text → Option Command
command_of words = command_in forms words
