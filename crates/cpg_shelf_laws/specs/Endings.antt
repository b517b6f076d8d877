-- How a run ends, by the earlier contract: either its output or its line is taken whole, or a sink meets a fault. A
-- run that follows a stream has endings of its own.
use Rattle.std.specs.Prelude.{ℕ, ◌≡◌, ◌⊎◌, List, Some}
use Rattle.cpg_words.specs.Parts.{Text}
use Rattle.cpg_words.specs.Forms.{command_of}
use Rattle.cpg_words.specs.declared.command.Command.TheVariants.{Live}
use Rattle.cpg_table.specs.Table.{NodeTable, table_at}
use Rattle.cpg_table.specs.Lawful.{Tables}
use Rattle.cpg_refusal.specs.declared.halt.Halt.{Halt}
use Rattle.cpg_refusal.specs.declared.halt.Halt.TheVariants.{Read}
use Rattle.cpg_live.specs.declared.following.Broken.{Broken}
use Rattle.cpg_app.specs.Causes.{first_named}
use Rattle.cpg_shelf_laws.specs.Causes.{Seen, Spells, Stops}
use Rattle.cpg_shelf_laws.specs.Streams.{Breaks, Stream}
use Rattle.cpg_refusal.specs.Lines.{line_of, status_of, write_fault_line}
use Rattle.cpg_shelf_laws.specs.Outputs.{Prints}
use Rattle.cpg_live.specs.Streams.{fault_line}
use Rattle.cpg_shelf_laws.specs.Sinks.{SinkSeen, Sent, Whole, Untouched, Part}

-- all that can be seen of a run, as the earlier contract sees it
pub record Ran : Type 0 where
  -- the words after the program's name
  pub words : List Text
  -- what it saw of its shelf, and of the sinks for the output and for the line that reports a stop
  pub shelf : Seen
  pub out : SinkSeen
  pub err : SinkSeen
  -- the exit status
  pub status : ℕ

-- the output was taken whole, and nothing was written to `err`
pub record IsPrinted (r : Ran) (text : Text) : Type 0 where
  -- the status is 0
  pub status : r.status ≡ 0
  -- `out` took the whole text
  pub out : Whole r.out text
  -- `err` took nothing
  pub err : Untouched r.err

-- `out` met a fault before it had taken the whole output, and `err` took the line that reports it, whole or in part
pub record IsCut (r : Ran) (text : Text) : Type 0 where
  -- the status is that of a fault of a sink
  pub status : r.status ≡ 3
  -- `out` met a fault before it had taken the whole text
  pub out : Part r.out text
  -- `err` took the line of a write fault, whole or in part
  pub err : Whole r.err write_fault_line ⊎ Part r.err write_fault_line

-- the line that says why the run stops was taken whole, and nothing was written to `out`
pub record IsTold (r : Ran) (halt : Halt) : Type 0 where
  -- the status is the halt's
  pub status : r.status ≡ status_of halt
  -- `out` took nothing
  pub out : Untouched r.out
  -- `err` took the whole line
  pub err : Whole r.err (line_of halt)

-- `err` met a fault before it had taken that whole line, and nothing was written to `out`
pub record IsMuted (r : Ran) (halt : Halt) : Type 0 where
  -- the status is that of a fault of a sink
  pub status : r.status ≡ 3
  -- `out` took nothing
  pub out : Untouched r.out
  -- `err` met a fault before it had taken the whole line
  pub err : Part r.err (line_of halt)

-- a run has this output, and it was taken whole or cut
pub record EndsWith (r : Ran) (text : Text) : Type 0 where
  pub prints : Prints r.shelf r.words text
  pub ending : IsPrinted r text ⊎ IsCut r text

-- a run stops with this halt and without an output, and its line was taken whole or not
pub record EndsBy (r : Ran) (halt : Halt) : Type 0 where
  pub stops : Stops r.shelf r.words halt
  pub ending : IsTold r halt ⊎ IsMuted r halt

-- a run in which a node follows a stream: the first node that has the given name in the tables of a pack
pub record Follows (r : Ran) : Type 0 where
  -- the words: the file of the pack, the name of the node and the file of the stream
  pub pack : Text
  pub name : Text
  pub stream : Text
  pub words : command_of r.words ≡ Some (Live pack name stream)
  -- what the shelf reports of the pack spells these tables
  pub tables : Tables
  pub spells : Spells (r.shelf.stands pack) tables
  -- the first node that has the name
  pub node : ℕ
  pub named : first_named tables.head name ≡ Some node

-- the table of the run's node
abbrev pub table_of : {r : Ran} → Follows r → NodeTable
table_of f = table_at f.tables.nodes f.node

-- what the run sees of the stream's shelf and of `out`
abbrev pub stream_of : (r : Ran) → Follows r → Stream
stream_of r f = record {
  told = r.shelf.stands f.stream;
  given = r.shelf.given;
  shelf_before = r.shelf.before;
  shelf_now = r.shelf.now;
  out_before = r.out.before;
  out_now = r.out.now;
  old = r.out.old;
  new = r.out.new;
}

-- the line on `err` and the status say why a stream isn't followed to its close
abbrev pub IsSaid : SinkSeen → ℕ → Broken → Type 0
IsSaid err status Broken.Shelf = Sent err status 2 (line_of Read)
IsSaid err status Broken.Sink = (status ≡ 3) × (Whole err write_fault_line ⊎ Part err write_fault_line)
IsSaid err status (Broken.Refused fault) = Sent err status 4 (fault_line fault)

-- a run follows its stream, but not to the close: it is broken off, and the run says why
pub record EndsInStream (r : Ran) : Type 0 where
  pub follows : Follows r
  -- why the run ends before the close
  pub broken : Broken
  -- this did break the stream off
  pub breaks : Breaks follows.tables.head (table_of follows) (stream_of r follows) broken
  -- `err` and the status report it
  pub said : IsSaid r.err r.status broken

-- how any run ends: it has an output, a reason to stop, or a stream that isn't followed to its close
abbrev pub Ends : Ran → Type 0
Ends r = ((text : Text) × EndsWith r text) ⊎ (((halt : Halt) × EndsBy r halt) ⊎ EndsInStream r)
