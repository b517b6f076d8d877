-- How a run ends: either its output or its line is taken whole, or a sink meets a fault. A run that follows a stream
-- has endings of its own.
use Rattle.std.specs.Prelude.{ℕ, ◌≡◌, ◌⊎◌, List, ◌∷◌, Some, None, All}
use Rattle.cpg_history.specs.Fetch.{Fetch}
use Rattle.cpg_io.specs.State.{ShelfState}
use Rattle.cpg_words.specs.Parts.{Text}
use Rattle.cpg_words.specs.FileWords.{file_words}
use Rattle.cpg_words.specs.Forms.{command_of}
use Rattle.cpg_words.specs.declared.command.Command.{Command}
use Rattle.cpg_words.specs.declared.command.Command.TheVariants.{Live}
use Rattle.cpg_table.specs.Table.{NodeTable, table_at}
use Rattle.cpg_table.specs.Lawful.{Tables}
use Rattle.cpg_refusal.specs.declared.halt.Halt.{Halt}
use Rattle.cpg_refusal.specs.declared.halt.Halt.TheVariants.{Words, Memory}
use Rattle.cpg_refusal.specs.Lines.{line_of, status_of, write_fault_line}
use Rattle.cpg_inputs.specs.declared.kind.FileKind.TheVariants.{PackFile}
use Rattle.cpg_inputs.specs.Files.{file, files_of}
use Rattle.cpg_inputs.specs.declared.inputs.Inputs.{Inputs}
use Rattle.cpg_inputs.specs.Inputs.{AreInputs, HasInputs}
use Rattle.cpg_inputs.specs.Says.{Value, tables_value}
use Rattle.cpg_inputs.specs.Reading.{IsRead, Reads, StopsReading}
use Rattle.cpg_live.specs.declared.following.Broken.{Broken}
use Rattle.cpg_live.specs.Following.{Breaks, Completes, Stream}
use Rattle.cpg_app.specs.Causes.{OrMemory, StopsWork, first_named}
use Rattle.cpg_app.specs.Outputs.{PutsOut}
use Rattle.cpg_outputs.specs.Said.{IsSaid, streamed}
use Rattle.cpg_outputs.specs.Told.{SinkSeen, Whole, Untouched, Part}

-- the state of a run's shelf before the run and after it
pub record ShelfSeen : Type 0 where
  pub old : ShelfState
  pub new : ShelfState

-- these two states of a shelf, as one record
abbrev pub seen : ShelfState → ShelfState → ShelfSeen
seen old new = record { old = old; new = new }

-- all that can be seen of a run
pub record Ran : Type 0 where
  -- the words after the program's name
  pub words : List Text
  -- the shelf, before and after
  pub shelf : ShelfSeen
  -- the sinks for the output and for the line that reports a stop, before and after
  pub out : SinkSeen
  pub err : SinkSeen
  -- the exit status
  pub status : ℕ

-- ---- what a run read

-- the run's words are this command, and its files were read, one after the other, and say these values
pub record Has (r : Ran) (command : Command) (values : List Value) : Type 0 where
  -- the words form the command
  pub words : command_of r.words ≡ Some command
  -- the fetches of the files are those between the two histories of the shelf
  pub reads : Reads None (files_of command) r.shelf.old.history r.shelf.new.history values

-- the words are a command, and its files were read between two states of a shelf and say these inputs
pub record HasAt (asked : List Text) (old new : ShelfState) (inputs : Inputs) : Type 0 where
  pub command : Command
  pub words : command_of asked ≡ Some command
  -- the fetches between the two states read the files, and these are the inputs
  pub has : HasInputs command old.history new.history inputs

-- some command has these inputs, and each of its files is one that may be fetched
pub record MayRun (may : Text → Type 0) (inputs : Inputs) : Type 0 where
  pub command : Command
  -- what its files say
  pub values : List Value
  -- together they make the inputs
  pub are : AreInputs command values inputs
  pub files : All may (file_words command)

-- the run stops before its files: nothing was fetched, and the words form no command or memory ran out
pub record StopsInWords (r : Ran) (halt : Halt) : Type 0 where
  -- nothing was fetched
  pub unread : r.shelf.new.history ≡ r.shelf.old.history
  pub cause : ((halt ≡ Words) × (command_of r.words ≡ None)) ⊎ (halt ≡ Memory)

-- one of its files stops the run: every earlier file was read, and none was fetched after it
pub record StopsInFiles (r : Ran) (halt : Halt) : Type 0 where
  pub command : Command
  pub words : command_of r.words ≡ Some command
  -- the fetches before the last one read files, and the last one stops the run
  pub stops : StopsReading None (files_of command) r.shelf.old.history r.shelf.new.history halt

-- all files were read, and the work on what they say stops the run
pub record StopsInWork (r : Ran) (halt : Halt) : Type 0 where
  pub command : Command
  -- what the files say
  pub values : List Value
  pub has : Has r command values
  -- memory ran out, or the work has this reason to stop
  pub stops : OrMemory (StopsWork command values) halt

-- a run stops with this halt: in its words, in its files or in its work
abbrev pub Stops : Ran → Halt → Type 0
Stops r halt = StopsInWords r halt ⊎ (StopsInFiles r halt ⊎ StopsInWork r halt)

-- the run has this output: its files were read, and it is what the command puts out by them
pub record Prints (r : Ran) (text : Text) : Type 0 where
  pub command : Command
  -- what the files say
  pub values : List Value
  pub has : Has r command values
  -- the text is the output of the command for these values
  pub puts : PutsOut command values text

-- ---- how a run ends

-- the output was taken whole, and nothing was written to `err`
pub record IsPrinted (r : Ran) (text : Text) : Type 0 where
  -- the status is 0
  pub status : r.status ≡ 0
  -- `out` took the whole text
  pub out : Whole r.out text
  -- `err` took nothing
  pub err : Untouched r.err

-- `out` met a fault before it had taken the whole output, and `err` took the line that reports it, whole or in part
pub record IsCut (r : Ran) (text : Text) : Type 0 where
  -- the status is that of a fault of a sink
  pub status : r.status ≡ 3
  -- `out` met a fault before it had taken the whole text
  pub out : Part r.out text
  -- `err` took the line of a write fault, whole or in part
  pub err : Whole r.err write_fault_line ⊎ Part r.err write_fault_line

-- the line that says why the run stops was taken whole, and nothing was written to `out`
pub record IsTold (r : Ran) (halt : Halt) : Type 0 where
  -- the status is the halt's
  pub status : r.status ≡ status_of halt
  -- `out` took nothing
  pub out : Untouched r.out
  -- `err` took the whole line
  pub err : Whole r.err (line_of halt)

-- `err` met a fault before it had taken that whole line, and nothing was written to `out`
pub record IsMuted (r : Ran) (halt : Halt) : Type 0 where
  -- the status is that of a fault of a sink
  pub status : r.status ≡ 3
  -- `out` took nothing
  pub out : Untouched r.out
  -- `err` met a fault before it had taken the whole line
  pub err : Part r.err (line_of halt)

-- a run has this output, and it was taken whole or cut
pub record EndsWith (r : Ran) (text : Text) : Type 0 where
  pub prints : Prints r text
  pub ending : IsPrinted r text ⊎ IsCut r text

-- a run stops with this halt and without an output, and its line was taken whole or not
pub record EndsBy (r : Ran) (halt : Halt) : Type 0 where
  pub stops : Stops r halt
  pub ending : IsTold r halt ⊎ IsMuted r halt

-- A run in which a node follows a stream: the first node of the given name in the tables of a pack. The pack was read,
-- then the stream was fetched, and nothing else was.
pub record Follows (r : Ran) : Type 0 where
  -- the words: the file of the pack, the name of the node and the file of the stream
  pub pack : Text
  pub name : Text
  pub stream : Text
  pub words : command_of r.words ≡ Some (Live pack name stream)
  -- the pack was read first, and has these tables
  pub read : Fetch
  pub tables : Tables
  pub spelled : IsRead None (file PackFile pack) read (tables_value tables)
  -- the first node that has the name
  pub node : ℕ
  pub named : first_named tables.head name ≡ Some node
  -- then the stream was fetched, and nothing else
  pub fetch : Fetch
  pub of : fetch.name ≡ stream
  pub history : r.shelf.new.history ≡ fetch ∷ read ∷ r.shelf.old.history

-- the table of the run's node
abbrev pub table_of : {r : Ran} → Follows r → NodeTable
table_of f = table_at f.tables.nodes f.node

-- the run's stream, with what was written for it
abbrev pub stream_of : (r : Ran) → Follows r → Stream
stream_of r f = streamed f.fetch r.out

-- a run follows its stream to the close and has written all lines
pub record EndsAtClose (r : Ran) : Type 0 where
  pub follows : Follows r
  -- `out` took all lines of the stream, up to that of the close
  pub completes : Completes follows.tables.head (table_of follows) (stream_of r follows)
  -- the run succeeds, and `err` took nothing
  pub status : r.status ≡ 0
  pub err : Untouched r.err

-- a run follows its stream, but not to the close: it is broken off, and the run says why
pub record EndsInStream (r : Ran) : Type 0 where
  pub follows : Follows r
  -- why the run ends before the close
  pub broken : Broken
  -- this did break the stream off
  pub breaks : Breaks follows.tables.head (table_of follows) (stream_of r follows) broken
  -- `err` and the status report it
  pub said : IsSaid r.err r.status broken

-- how any run ends: it has an output, or a reason to stop, or follows a stream
abbrev pub Ends : Ran → Type 0
Ends r = ((text : Text) × EndsWith r text) ⊎ (((halt : Halt) × EndsBy r halt) ⊎ (EndsAtClose r ⊎ EndsInStream r))
