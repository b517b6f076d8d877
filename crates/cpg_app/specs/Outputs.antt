-- What a command puts out, given what its files say.
use Rattle.std.specs.Prelude.{ℕ, ◌≡◌, ◌<◌, ◌≤◌, ◌++◌, List, Option, Some, None, IfNone, IfSome, Ok, codes, length}
use Rattle.std.specs.Prelude.{string_bytes}
use Rattle.cpg_base.specs.Graph.{Graph}
use Rattle.cpg_base.specs.Scenario.{Scenario, IsScenario, IsLeast}
use Rattle.cpg_words.specs.Parts.{Text}
use Rattle.cpg_words.specs.declared.command.Command.{Command}
use Rattle.cpg_words.specs.declared.command.Command.TheVariants.{Show, Compile, Check, Play, Node, Trial, Live, Hyper}
use Rattle.cpg_words.specs.declared.command.Command.TheVariants.{Tune, Audit}
use Rattle.cpg_reader.specs.Document.{problem_of}
use Rattle.cpg_rules.specs.Admission.{Admission}
use Rattle.cpg_head.specs.GraphHead.{head_of}
use Rattle.cpg_table.specs.Lawful.{Tables}
use Rattle.cpg_table.specs.Table.{NodeTable, table_at}
use Rattle.cpg_table.specs.Valid.{IsValid}
use Rattle.cpg_table.specs.Writing.{AreWritable}
use Rattle.cpg_violation.specs.Heads.{IsHeadFor}
use Rattle.cpg_codec.specs.Packs.{AreLawful}
use Rattle.cpg_codec.specs.Spelling.{spelling}
use Rattle.cpg_hyper.specs.declared.part.Part.{Part}
use Rattle.cpg_hyper.specs.Refusals.{ShowsUnrolled}
use Rattle.cpg_scenario.specs.Text.{scenario_text}
use Rattle.cpg_scenario.specs.declared.reading.Played.{Played}
use Rattle.cpg_core.specs.declared.built_rows.BuiltRows.{BuiltRows}
use Rattle.cpg_core.specs.declared.compiling.Compiled.{Compiled}
use Rattle.cpg_core.specs.Compilation.{IsCompilation}
use Rattle.cpg_cluster.specs.Correct.{IsCorrect, IsLively, IsSteady, EndsAsPlanned}
use Rattle.cpg_packing.specs.PackBytes.{pack_bytes}
use Rattle.cpg_show.specs.TableText.{table_text, text_of_rows}
use Rattle.cpg_show.specs.NodeText.{node_text}
use Rattle.cpg_log.specs.Log.{Log}
use Rattle.cpg_audit.specs.Gives.{Gives}
use Rattle.cpg_live.specs.Follower.{Follower, open_follower}
use Rattle.cpg_inputs.specs.declared.kind.FileKind.TheVariants.{PackFile}
use Rattle.cpg_inputs.specs.Files.{limit_of}
use Rattle.cpg_inputs.specs.Says.{Value}
use Rattle.cpg_inputs.specs.Shapes.{OnGraph, OnJudged, OnLogged, OnParts, OnPlayed, OnTables}
use Rattle.cpg_outputs.specs.declared.figures.Trial.{Trial as Figures}
use Rattle.cpg_app.specs.declared.output.Output.{Output}
use Rattle.cpg_app.specs.declared.output.Output.TheVariants.{Lines, Table as Shown, NodeTable as OfNode, Pack, Stream}
use Rattle.cpg_app.specs.Causes.{first_named}
use Rattle.cpg_app.specs.Plays.{IsPlayText, world_of}
use Rattle.cpg_app.specs.Trial.{IsTrial}
use Rattle.cpg_outputs.specs.Trials.{trial_text}
use Rattle.cpg_app.specs.Tunes.{IsTuningText}

-- tables that keep the ten rules, and what follows in every scenario, for all lengths of executions and all orders of
-- turns
pub record AreSafe (g : Graph) (tables : List NodeTable) : Type 0 where
  -- they keep the ten rules
  pub valid : IsValid g tables
  -- each node starts and sends just what is due, in order and in time
  pub correct : IsCorrect g tables
  -- a play can always go on
  pub lively : IsLively g tables
  -- what nodes do doesn't depend on how early an execution ends
  pub steady : IsSteady g tables
  -- nodes reach the planned ends
  pub planned : EndsAsPlanned g tables

-- tables that can be written as a pack of the graph and read again
pub record ArePackOf (g : Graph) (t : Tables) : Type 0 where
  -- their head is the graph's
  pub head : t.head ≡ head_of g
  -- Their head allows each row: its cubes have lawful literals with rising variables, none of them whole, and its times
  -- are below 2^60.
  pub lawful : AreLawful t
  -- their spelling is no longer than a file of a pack may be
  pub short : length (spelling t) ≤ limit_of PackFile

-- the bytes are those that `spell` gives for a compilation of an admitted graph, whose tables are safe
pub record IsMadeOf (a : Admission) (spell : Graph → Compiled → Text) (bytes : Text) : Type 0 where
  pub compiled : Compiled
  -- it is a compilation of the graph
  pub compilation : IsCompilation a.graph a.order compiled
  -- its tables can be written as a pack and read again
  pub pack : ArePackOf a.graph compiled.built.tables
  -- they are safe
  pub safe : AreSafe a.graph compiled.built.tables.nodes
  -- the bytes are those that `spell` gives for it
  pub spelled : bytes ≡ spell a.graph compiled

-- the text of a compilation's tables
abbrev pub shown : Graph → Compiled → Text
shown g c = table_text g c.order c.built.tables.nodes c.built.worst

-- the text of a compilation's tables, by their rows
abbrev pub shown_by : Graph → BuiltRows → Text
shown_by g r = text_of_rows g r.order r.rows.items r.worst.time

-- the pack of a compilation's tables, by their rows
abbrev pub packed_by : Graph → BuiltRows → Text
packed_by g r = pack_bytes g r.rows.items

-- the pack of a compilation's tables
abbrev pub packed : Graph → Compiled → Text
packed g c = spelling c.built.tables

-- the text is that of the table of the first node that has this name
pub record IsNodeText (t : Tables) (name text : Text) : Type 0 where
  pub node : ℕ
  -- the first node that has the name
  pub named : first_named t.head name ≡ Some node
  pub spelled : text ≡ node_text t node

-- the tables have the graph's head and are safe
pub record AreJudgedSafe (a : Admission) (t : Tables) : Type 0 where
  pub head : IsHeadFor a.graph t.head
  pub safe : AreSafe a.graph t.nodes

-- the tables have the graph's head and are safe, and the text says so
abbrev pub IsSafeText : Admission → Tables → Text → Type 0
IsSafeText a t text = AreJudgedSafe a t × (text ≡ codes "safe\n")

-- the tables that were played have the graph's head and are safe, and the text is that of the play
pub record IsPlayedText (a : Admission) (t : Tables) (played : Played) (turns : ℕ) (text : Text) : Type 0 where
  pub judged : AreJudgedSafe a t
  -- the scenario is played with these lengths of executions, and the number drives the play
  pub play : IsPlayText a.graph t.nodes (world_of played) turns text

-- the text of the scenario that gives a log or, if there is none, the text that says so
abbrev pub given_text : Graph → Option Scenario → Text
given_text g None = codes "impossible\n"
given_text g (Some s) = codes "scenario " ++ scenario_text g s ++ codes "\n"

-- the text says the least scenario that gives a log or, if none gives it, that there is none
pub record IsAuditText (g : Graph) (order : List ℕ) (tables : List NodeTable) (log : Log) (text : Text) : Type 0 where
  -- the scenario that the text says, or `None` if it says that there is none
  pub found : Option Scenario
  -- what is found is the least scenario, along the urgency order, that gives the log
  pub least : IfSome found (IsLeast g order (Gives g tables log))
  -- if nothing is found, no scenario gives the log
  pub none : IfNone found ((s : Scenario) → IsScenario g s → ¬ Gives g tables log s)
  -- the text says what is found
  pub spelled : text ≡ given_text g found

-- the tables have the graph's head and are safe, and the text is that of the audit by them
pub record IsAuditedText (a : Admission) (t : Tables) (log : Log) (text : Text) : Type 0 where
  pub judged : AreJudgedSafe a t
  pub audited : IsAuditText a.graph a.order t.nodes log text

-- the text is read as the graph of all instances of the parts
abbrev pub IsUnrolledText : List Part → Text → Type 0
IsUnrolledText parts text = (g : Graph) × ShowsUnrolled parts (Ok g) × (problem_of text ≡ Ok g)

-- the text is that of the figures of the number's trial, and the tables of its graph are safe
pub record IsTrialText (number : ℕ) (text : Text) : Type 0 where
  -- the figures, which are those of the number's trial
  pub trial : Figures
  pub is : IsTrial number trial
  -- the tables of the compile are safe
  pub safe : AreSafe is.admission.graph is.compiled.built.tables.nodes
  -- the text is that of the figures
  pub spelled : text ≡ trial_text number trial

-- the follower is the first node that has this name, before its stream
pub record IsFollower (t : Tables) (name : Text) (f : Follower) : Type 0 where
  pub node : ℕ
  -- the first node that has the name
  pub named : first_named t.head name ≡ Some node
  -- the follower has its table, and has been fed nothing
  pub opened : f ≡ open_follower t.head (table_at t.nodes node)

-- a command puts out this text, given what its files say; `live` writes as it goes, and so has no such text
abbrev pub PutsOut : Command → List Value → Text → Type 0
PutsOut (Show graph) values text = OnGraph values (λ a. IsMadeOf a shown text)
PutsOut (Compile graph) values text = OnGraph values (λ a. IsMadeOf a packed text)
PutsOut (Check graph pack) values text = OnJudged values (λ a t. IsSafeText a t text)
PutsOut (Play graph pack scenario turns) values text = OnPlayed values (λ a t p. IsPlayedText a t p turns text)
PutsOut (Node pack name) values text = OnTables values (λ t. IsNodeText t name text)
PutsOut (Trial number) values text = IsTrialText number text
PutsOut (Live pack name stream) values text = ⊥
PutsOut (Hyper pairs) values text = OnParts pairs values (λ parts. IsUnrolledText parts text)
PutsOut (Tune graph) values text = OnGraph values (λ a. IsTuningText a.graph text)
PutsOut (Audit graph pack log) values text = OnLogged values (λ a t l. IsAuditedText a t l text)

-- The fact holds for what is put out as a text or a pack. For a node's table, the tables have that node too; for a
-- pack, its rows can be written. What a node does on a stream isn't such an output.
abbrev pub Puts : Output → (Text → Type 0) → Type 0
Puts (Lines text) Is = Is (string_bytes text)
Puts (Shown made) Is = Is (shown_by made.admitted.graph made.rows)
Puts (OfNode tables node) Is = (node < length tables.head.nodes) × Is (node_text tables node)
Puts (Pack made) Is =
    AreWritable made.admitted.graph made.rows.rows.items × Is (packed_by made.admitted.graph made.rows)
Puts (Stream follower path) Is = ⊥

-- the output is that the first node that has this name is to follow the stream
abbrev pub Opens : Tables → Text → Text → Output → Type 0
Opens t name stream (Stream follower path) = IsFollower t name follower × (path ≡ stream)
Opens t name stream output = ⊥

-- this output answers the command, given what its files say
abbrev pub Answers : Command → List Value → Output → Type 0
Answers (Live pack name stream) values output = OnTables values (λ t. Opens t name stream output)
Answers command values output = Puts output (PutsOut command values)
