-- Whether the inputs of processes are there in time, and the rows that this is asked of.
use Rattle.std.specs.Prelude.{ℕ, ◌≡◌, ◌≤◌, true, false, List, Contains}
use Rattle.cpg_base.specs.Activity.{live}
use Rattle.cpg_base.specs.Graph.{Graph, is_message, message_item, source}
use Rattle.cpg_order.specs.Links.{links_of}
use Rattle.cpg_base.specs.Scenario.{Scenario, IsScenario}
use Rattle.cpg_cube.specs.Cube.{matches}
use Rattle.cpg_table.specs.Table.{NodeTable}
use Rattle.cpg_cube.specs.declared.column.Column.{Column}
use Rattle.cpg_table.specs.Valid.{input_is_there}
use Rattle.cpg_check_quick.specs.SpannedRows.{AreSpannedRows, IsSpannedRow}
use Rattle.cpg_check_quick.specs.Order.{IsBefore, IsOverBy, execution, frame}
use Rattle.cpg_check_quick.specs.Sequences.{AreSequences}
use Rattle.cpg_check_quick.specs.declared.spanned_rows.SpannedRow.{SpannedRow}
use Rattle.cpg_check_quick.specs.declared.input_rows.InputRows.{InputRows}

-- wherever column `c` matches and input `e` is live, it is there by the column's time
abbrev pub IsInputThere : Graph → List NodeTable → Column → ℕ → Type 0
IsInputThere g tables c e = (s : Scenario) → IsScenario g s → matches c.cube s ≡ true → live g s.values e ≡ true →
    input_is_there g tables s c.time e ≡ true

-- what input `e` comes by is over by a time: its message if it has one, and otherwise the execution of its source
pub record IsInputOver (g : Graph) (tables : List NodeTable) (e time : ℕ) (s : Scenario) : Type 0 where
  -- if there is a message, its frame is over
  pub message : is_message g e ≡ true → IsOverBy tables (frame g (message_item g e) s) (message_item g e) time s
  -- if there is none, the execution of the source is over
  pub source : is_message g e ≡ false → IsOverBy tables (execution g (source g e) s) (source g e) time s

-- the row is that of what input `e` comes by: its message if it has one, and otherwise the execution of its source
pub record IsInputRow (g : Graph) (tables : List NodeTable) (e : ℕ) (row : SpannedRow) : Type 0 where
  -- if there is a message, the row is the message's
  pub message : is_message g e ≡ true → IsSpannedRow g tables (frame g (message_item g e)) (message_item g e) row
  -- if there is none, the row is the source's
  pub source : is_message g e ≡ false → IsSpannedRow g tables (execution g (source g e)) (source g e) row

-- input `e` comes from the same node, and its source is always over before process `p` begins
pub record IsFromBefore (g : Graph) (tables : List NodeTable) (e p : ℕ) : Type 0 where
  -- the input comes without a message
  pub near : is_message g e ≡ false
  -- the source is always over before the process begins
  pub before : IsBefore g tables (source g e) p

-- the inputs of each process of a graph, the rows of its executions, in sequence, and those of its frames
pub record AreInputRows (g : Graph) (tables : List NodeTable) (w : InputRows) : Type 0 where
  -- the inputs of each process
  pub links : w.links ≡ links_of g
  -- the rows of all executions, and which follow one another on each node
  pub sequences : AreSequences (execution g) g tables w.sequences.now
  -- the rows of all frames
  pub frames : AreSpannedRows (frame g) g tables w.frames.now

-- column `c` is no earlier than a release, and none of these inputs comes later
pub record IsLateEnough (g : Graph) (tables : List NodeTable) (edges : List ℕ) (release : ℕ) (c : Column) : Type 0 where
  -- the release has come by the column
  pub released : release ≤ c.time
  -- each input is there by the column
  pub there : (e : ℕ) → Contains edges e → IsInputThere g tables c e
