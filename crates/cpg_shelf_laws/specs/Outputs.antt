-- What a command puts out, in terms of what the shelf reports for its files. The shelf reports the bytes of a file, or
-- `None`, of which nothing is required.
use Rattle.std.specs.Prelude.{ℕ, ◌≡◌, ◌≤◌, List, Option, None, Some, ⊤}
use Rattle.cpg_base.specs.Graph.{Graph}
use Rattle.cpg_words.specs.Parts.{Text}
use Rattle.cpg_words.specs.Forms.{command_of}
use Rattle.cpg_words.specs.declared.command.Pair.{Pair}
use Rattle.cpg_words.specs.declared.command.Command.{Command}
use Rattle.cpg_words.specs.declared.command.Command.TheVariants.{Show, Compile, Check, Play, Node, Trial, Live, Hyper}
use Rattle.cpg_words.specs.declared.command.Command.TheVariants.{Tune, Audit}
use Rattle.cpg_rules.specs.Admission.{Admission}
use Rattle.cpg_table.specs.Lawful.{Tables}
use Rattle.cpg_table.specs.Table.{table_at}
use Rattle.cpg_hyper.specs.declared.part.Part.{Part}
use Rattle.cpg_core.specs.declared.compiling.Compiled.{Compiled}
use Rattle.cpg_log.specs.Log.{Log, IsLog}
use Rattle.cpg_scenario.specs.File.{IsPlayed}
use Rattle.cpg_scenario.specs.declared.reading.Played.{Played}
use Rattle.cpg_live.specs.declared.following.TheConstants.{STREAM_LIMIT}
use Rattle.cpg_app.specs.Causes.{first_named}
use Rattle.cpg_app.specs.Outputs.{AreJudgedSafe, IsAuditText, IsMadeOf, IsNodeText, IsSafeText, IsTrialText}
use Rattle.cpg_app.specs.Outputs.{IsUnrolledText, packed, shown}
use Rattle.cpg_app.specs.Plays.{IsPlayText, world_of}
use Rattle.cpg_app.specs.Tunes.{IsTuningText}
use Rattle.cpg_shelf_laws.specs.Causes.{Seen, Admits, AreSaid, SaysPlayed, Spells, SaysLog, GRAPH_LIMIT, SCENARIO_LIMIT}
use Rattle.cpg_shelf_laws.specs.Causes.{LOG_LIMIT, PACK_LIMIT}
use Rattle.cpg_shelf_laws.specs.Streams.{IsClosed}

-- the bytes are those that `spell` gives for a compilation of the graph that a file says
abbrev pub IsMade : Option Text → (Graph → Compiled → Text) → Text → Type 0
IsMade told spell bytes = (a : Admission) × Admits told a × IsMadeOf a spell bytes

-- the fact holds of the tables that a pack spells
abbrev pub IsSpelled : Option Text → (Tables → Type 0) → Type 0
IsSpelled told fact = (t : Tables) × Spells told t × fact t

-- the text is that of the table of the first node that has this name in the tables of a pack
abbrev pub IsNodeOf : Option Text → Text → Text → Type 0
IsNodeOf told name text = IsSpelled told (λ t. IsNodeText t name text)

-- the text has all lines of a stream that the first node with this name follows to its close
pub record IsFollowed (t : Tables) (name : Text) (stream : Option Text) (text : Text) : Type 0 where
  pub node : ℕ
  -- the first node of this name
  pub named : first_named t.head name ≡ Some node
  pub closed : IsClosed t.head (table_at t.nodes node) stream text

-- the same for the tables of a pack
abbrev pub IsFollowedOf : Option Text → Text → Option Text → Text → Type 0
IsFollowedOf pack name stream text = IsSpelled pack (λ t. IsFollowed t name stream text)

-- the text says that the tables of a pack are safe for the graph of a file
abbrev pub IsChecked : Option Text → Option Text → Text → Type 0
IsChecked graph pack text = (a : Admission) × Admits graph a × IsSpelled pack (λ t. IsSafeText a t text)

-- the text is that of the play of a scenario file by safe tables
pub record IsPlayedText (told : Option Text) (a : Admission) (t : Tables) (number : ℕ) (text : Text) : Type 0 where
  pub judged : AreJudgedSafe a t
  pub played : Played
  -- the scenario file says what is played
  pub says : SaysPlayed told a.graph played
  pub lawful : IsPlayed a.graph played
  pub played_text : IsPlayText a.graph t.nodes (world_of played) number text

-- the same, with the graph of a file and the tables of a pack
abbrev pub IsPlayOf : Option Text → Option Text → Option Text → ℕ → Text → Type 0
IsPlayOf graph pack scenario number text =
    (a : Admission) × Admits graph a × IsSpelled pack (λ t. IsPlayedText scenario a t number text)

-- the text is that of the audit of a log by safe tables
pub record IsAuditedText (told : Option Text) (a : Admission) (t : Tables) (text : Text) : Type 0 where
  pub judged : AreJudgedSafe a t
  pub log : Log
  -- the log file has this log
  pub says : SaysLog told a.graph log
  pub lawful : IsLog a.graph log
  pub audited : IsAuditText a.graph a.order t.nodes log text

-- the same, with the graph of a file and the tables of a pack
abbrev pub IsAuditOf : Option Text → Option Text → Option Text → Text → Type 0
IsAuditOf graph pack log text = (a : Admission) × Admits graph a × IsSpelled pack (λ t. IsAuditedText log a t text)

-- the text is that of the unrolled parts that the words and their files say
abbrev pub IsUnrolledOf : (Text → Option Text) → List Pair → Text → Type 0
IsUnrolledOf stands pairs text = (parts : List Part) × AreSaid stands pairs parts × IsUnrolledText parts text

-- the text is that of the tuning of a file's graph
abbrev pub IsTunedOf : Option Text → Text → Type 0
IsTunedOf told text = (a : Admission) × Admits told a × IsTuningText a.graph text

-- a command, one of ten, puts out this text, in terms of what the shelf reports for its files
abbrev pub IsOutputOf : Seen → Command → Text → Type 0
IsOutputOf seen (Show graph) text = IsMade (seen.stands graph) shown text
IsOutputOf seen (Compile graph) text = IsMade (seen.stands graph) packed text
IsOutputOf seen (Check graph pack) text = IsChecked (seen.stands graph) (seen.stands pack) text
IsOutputOf seen (Play graph pack scenario turns) text =
    IsPlayOf (seen.stands graph) (seen.stands pack) (seen.stands scenario) turns text
IsOutputOf seen (Node pack name) text = IsNodeOf (seen.stands pack) name text
IsOutputOf seen (Trial number) text = IsTrialText number text
IsOutputOf seen (Live pack name stream) text = IsFollowedOf (seen.stands pack) name (seen.stands stream) text
IsOutputOf seen (Hyper parts) text = IsUnrolledOf seen.stands parts text
IsOutputOf seen (Tune graph) text = IsTunedOf (seen.stands graph) text
IsOutputOf seen (Audit graph pack log) text = IsAuditOf (seen.stands graph) (seen.stands pack) (seen.stands log) text

-- `given`, the number of bytes that the file gave which the command reads last, is within the file's limit; `trial`
-- reads none
abbrev pub ReadsWithin : Command → ℕ → Type 0
ReadsWithin (Show graph) given = given ≤ GRAPH_LIMIT
ReadsWithin (Compile graph) given = given ≤ GRAPH_LIMIT
ReadsWithin (Check graph pack) given = given ≤ PACK_LIMIT
ReadsWithin (Play graph pack scenario turns) given = given ≤ SCENARIO_LIMIT
ReadsWithin (Node pack name) given = given ≤ PACK_LIMIT
ReadsWithin (Trial number) given = ⊤
ReadsWithin (Live pack name stream) given = given ≤ STREAM_LIMIT
ReadsWithin (Hyper parts) given = given ≤ GRAPH_LIMIT
ReadsWithin (Tune graph) given = given ≤ GRAPH_LIMIT
ReadsWithin (Audit graph pack log) given = given ≤ LOG_LIMIT

-- The command prints the text, and the file that it reads last gave no more bytes than its limit. This holds even if
-- the shelf reports nothing of that file.
pub record CommandPrints (seen : Seen) (command : Command) (text : Text) : Type 0 where
  -- given what the shelf reports, the text is the command's output
  pub output : IsOutputOf seen command text
  pub within : ReadsWithin command seen.given

-- the command, if the words form one, puts out the text
abbrev pub PrintsAsked : Seen → Option Command → Text → Type 0
PrintsAsked seen None text = ⊥
PrintsAsked seen (Some command) text = CommandPrints seen command text

-- a run of the words puts out the text
abbrev pub Prints : Seen → List Text → Text → Type 0
Prints seen words text = PrintsAsked seen (command_of words) text
