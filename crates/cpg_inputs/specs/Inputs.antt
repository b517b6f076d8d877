-- What the files of a command say, as one value.
use Rattle.std.specs.Prelude.{◌≡◌, List, [], ◌∷◌, None, Result, Ok, Err, ⊤}
use Rattle.cpg_history.specs.Fetch.{Fetch}
use Rattle.cpg_io.specs.State.{ShelfState}
use Rattle.cpg_words.specs.Parts.{Text}
use Rattle.cpg_words.specs.declared.command.Pair.{Pair}
use Rattle.cpg_words.specs.declared.command.Command.{Command}
use Rattle.cpg_words.specs.declared.command.Command.TheVariants.{Show, Compile, Check, Play, Node, Trial, Live, Hyper}
use Rattle.cpg_words.specs.declared.command.Command.TheVariants.{Tune, Audit}
use Rattle.cpg_scenario.specs.File.{IsPlayed}
use Rattle.cpg_log.specs.Log.{IsLog}
use Rattle.cpg_refusal.specs.declared.halt.Halt.{Halt}
use Rattle.cpg_inputs.specs.declared.inputs.Inputs.{Inputs}
use Rattle.cpg_inputs.specs.declared.inputs.Purpose.{Purpose}
use Rattle.cpg_inputs.specs.Files.{files_of}
use Rattle.cpg_inputs.specs.Says.{Value, graph_value, tables_value, played_value, log_value}
use Rattle.cpg_inputs.specs.Reading.{Reads, StopsReading}
use Rattle.cpg_inputs.specs.Shapes.{HavePeriods, part_values}

-- the command that makes this of a graph file, and reads nothing else
abbrev pub command_with : Purpose → Text → Command
command_with Purpose.Show graph = Show graph
command_with Purpose.Compile graph = Compile graph
command_with Purpose.Tune graph = Tune graph

-- these are the inputs of a command whose files say these values; they keep the words that name no file read before
abbrev pub AreInputs : Command → List Value → Inputs → Type 0
AreInputs command values (Inputs.Graph a purpose) =
    (graph : Text) × (command ≡ command_with purpose graph) × (values ≡ graph_value a ∷ [])
AreInputs command values (Inputs.Check a t) =
    (graph : Text) × (pack : Text) × (command ≡ Check graph pack) × (values ≡ graph_value a ∷ tables_value t ∷ [])
AreInputs command values (Inputs.Play a t p turns) = (graph : Text) × (pack : Text) × (scenario : Text) ×
    (command ≡ Play graph pack scenario turns) × (values ≡ graph_value a ∷ tables_value t ∷ played_value p ∷ [])
AreInputs command values (Inputs.Audit a t l) =
    (graph : Text) × (pack : Text) × (log : Text) × (command ≡ Audit graph pack log) ×
    (values ≡ graph_value a ∷ tables_value t ∷ log_value l ∷ [])
AreInputs command values (Inputs.Node t name) =
    (pack : Text) × (command ≡ Node pack name) × (values ≡ tables_value t ∷ [])
AreInputs command values (Inputs.Live t name stream) =
    (pack : Text) × (command ≡ Live pack name stream) × (values ≡ tables_value t ∷ [])
AreInputs command values (Inputs.Hyper parts) =
    (pairs : List Pair) × (command ≡ Hyper pairs) × (values ≡ part_values parts) × HavePeriods pairs parts
AreInputs command values (Inputs.Trial number) = (command ≡ Trial number) × (values ≡ [])

-- the files of a command were read from one history to a later one, and the inputs are what they say
pub record HasInputs (command : Command) (past now : List Fetch) (inputs : Inputs) : Type 0 where
  -- what the files say, in the order in which the command reads them
  pub values : List Value
  -- the fetches from the one history to the other are those of its files, in order, and give the values
  pub reads : Reads None (files_of command) past now values
  -- the inputs are made of these
  pub are : AreInputs command values inputs

-- the result of reading a command's files: inputs if all were read, or the halt by the file that stopped the run
abbrev pub ReadsInputs : Command → ShelfState → ShelfState → Result Inputs Halt → Type 0
ReadsInputs command old new (Ok inputs) = HasInputs command old.history new.history inputs
ReadsInputs command old new (Err halt) = StopsReading None (files_of command) old.history new.history halt

-- the scenario that is to be played, or the log that is to be audited, fits the graph; other inputs have neither
abbrev pub AreFit : Inputs → Type 0
AreFit (Inputs.Play a t p turns) = IsPlayed a.graph p
AreFit (Inputs.Audit a t l) = IsLog a.graph l
AreFit inputs = ⊤
