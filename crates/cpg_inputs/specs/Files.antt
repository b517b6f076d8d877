-- The files that a command reads before its work, in the order of the words: the name of each, and the kind that it is
-- read as.
use Rattle.std.specs.Prelude.{ℕ, List, [], ◌∷◌}
use Rattle.cpg_words.specs.Parts.{Text}
use Rattle.cpg_words.specs.declared.command.Pair.{Pair}
use Rattle.cpg_words.specs.declared.command.Command.{Command}
use Rattle.cpg_words.specs.declared.command.Command.TheVariants.{Show, Compile, Check, Play, Node, Trial, Live, Hyper}
use Rattle.cpg_words.specs.declared.command.Command.TheVariants.{Tune, Audit}
use Rattle.cpg_refusal.specs.declared.halt.Refusal.{Refusal}
use Rattle.cpg_refusal.specs.declared.halt.Refusal.TheVariants.{LongGraph, LongPack, LongScenario, LongLog}
use Rattle.cpg_inputs.specs.declared.kind.FileKind.{FileKind}
use Rattle.cpg_inputs.specs.declared.kind.FileKind.TheVariants.{GraphFile, PartFile, PackFile, ScenarioFile, LogFile}
use Rattle.cpg_inputs.specs.declared.kind.TheConstants.{GRAPH_LIMIT, SCENARIO_LIMIT, LOG_LIMIT, PACK_LIMIT}

-- a file: the kind that it is read as, and its name
pub record File : Type 0 where
  -- what it is read as
  pub kind : FileKind
  -- the word that names it
  pub name : Text

-- the file of a kind and a name
abbrev pub file : FileKind → Text → File
file kind name = record { kind = kind; name = name }

-- the graph files of parts, in the order of the words
abbrev pub part_files : List Pair → List File
part_files [] = []
part_files (pair ∷ pairs) = file PartFile pair.graph ∷ part_files pairs

-- A command's files. The stream of `live` isn't one of them: the node follows it after they are read.
abbrev pub files_of : Command → List File
files_of (Show graph) = file GraphFile graph ∷ []
files_of (Compile graph) = file GraphFile graph ∷ []
files_of (Check graph pack) = file GraphFile graph ∷ file PackFile pack ∷ []
files_of (Play graph pack scenario turns) = file GraphFile graph ∷ file PackFile pack ∷ file ScenarioFile scenario ∷ []
files_of (Node pack name) = file PackFile pack ∷ []
files_of (Trial number) = []
files_of (Live pack name stream) = file PackFile pack ∷ []
files_of (Hyper pairs) = part_files pairs
files_of (Tune graph) = file GraphFile graph ∷ []
files_of (Audit graph pack log) = file GraphFile graph ∷ file PackFile pack ∷ file LogFile log ∷ []

-- the most bytes that a file of this kind may have
abbrev pub limit_of : FileKind → ℕ
limit_of GraphFile = GRAPH_LIMIT
limit_of PartFile = GRAPH_LIMIT
limit_of PackFile = PACK_LIMIT
limit_of ScenarioFile = SCENARIO_LIMIT
limit_of LogFile = LOG_LIMIT

-- the refusal of a file that has more bytes
abbrev pub long_of : FileKind → Refusal
long_of GraphFile = LongGraph
long_of PartFile = LongGraph
long_of PackFile = LongPack
long_of ScenarioFile = LongScenario
long_of LogFile = LongLog
