-- What a compile answers: tables for the compile's order, or the rows of such tables, or why there are none.
use Rattle.std.specs.Prelude.{ℕ, ◌≡◌, ◌≢◌, ◌⊎◌, List, None, ⊤}
use Rattle.cpg_base.specs.Graph.{Graph}
use Rattle.cpg_order.specs.Urgency.{first_order}
use Rattle.cpg_table.specs.Lawful.{Tables}
use Rattle.cpg_table.specs.Valid.{IsValid}
use Rattle.cpg_table.specs.Writing.{AreTablesWith, AreWritable}
use Rattle.cpg_core.specs.BuiltRows.{built_of}
use Rattle.cpg_core.specs.declared.built_rows.BuiltRows.{BuiltRows}
use Rattle.cpg_core.specs.declared.expanding.Grown.{Grown}
use Rattle.cpg_core.specs.GrownFor.{IsGrownFor}
use Rattle.cpg_expand.specs.Large.{HasLargeTree}
use Rattle.cpg_core.specs.WideRows.{DoTablesFit, HaveWideRows}
use Rattle.cpg_run.specs.Built.{IsBuiltFor}
use Rattle.cpg_run.specs.Knowledge.{KnowLocally}
use Rattle.cpg_core.specs.declared.compiling.Compiled.{Compiled}
use Rattle.cpg_core.specs.declared.fault.CompileFault.{CompileFault}
use Rattle.cpg_core.specs.declared.fault.CompileFault.TheVariants.{TooWide, Late, OutOfMemory}
use Rattle.cpg_reach.specs.Wide.{IsLeastWide}
use Rattle.cpg_core.specs.Compiled.{IsCompiled, IsLate, IsShownLate}

-- The tables for the compile's order are exact and keep all ten rules, and `c` has their greatest finish. No row has
-- too many columns, nor have all rows together. Nothing is late, and no node knows more than it has seen.
pub record IsCompilation (g : Graph) (urgency : List ℕ) (c : Compiled) : Type 0 where
  -- the order is the compile's, and nothing is late under it
  pub compiled : IsCompiled g urgency c.order
  -- the tables have the times of the runs under it
  pub built : IsBuiltFor g urgency c.order c.built
  -- no end is past its due
  pub in_time : c.built.excess ≡ 0
  -- all ten rules hold
  pub valid : IsValid g c.built.tables.nodes
  -- neither a row nor all rows together have too many columns
  pub fit : DoTablesFit g c.built.tables.nodes
  -- a node that has seen the same does the same
  pub local : KnowLocally g c.built.tables.nodes

-- What is made under the order that a graph gives is too large: a tree on the way to its rows, or, if nothing is late,
-- the rows.
pub record HasWideRows (g : Graph) (urgency order : List ℕ) : Type 0 where
  -- what is made on the way to the rows: a tree for each item that tells its times
  pub grown : Grown
  pub is : IsGrownFor g urgency order grown
  -- no end is past its due
  pub in_time : grown.excess.time ≡ 0
  -- one of their rows has too many columns, or all have together
  pub rows : HaveWideRows g urgency grown.trees.forest.times

-- what is made under this order is too large: some tree on the way to the rows, or the rows themselves
abbrev pub IsTooLarge : Graph → List ℕ → List ℕ → Type 0
IsTooLarge g urgency order = HasLargeTree g urgency order ⊎ HasWideRows g urgency order

-- What a fault of a compile means. Either it is the first item that is too wide by its views under the first order,
-- and, if the graph gives that order, what is made is too large. Or the graph is late, and the fault is the scenario,
-- the process and the end of the greatest excess under that order.
abbrev pub ShowsCompileFault : Graph → List ℕ → CompileFault → Type 0
ShowsCompileFault g urgency (TooWide x) =
    IsLeastWide g (first_order g urgency) x × (g.order ≢ None → IsTooLarge g urgency (first_order g urgency))
ShowsCompileFault g urgency (Late scenario process finish) =
    IsLate g urgency × IsShownLate g urgency scenario process finish
ShowsCompileFault g urgency OutOfMemory = ⊤

-- ---- the rows of the compile

-- a compilation of these tables, with the order and the figures of these rows
abbrev pub compiled_of : BuiltRows → Tables → Compiled
compiled_of r t = record { built = built_of r t; order = r.order }

-- All tables that have these rows are, with the order and the figures, a compilation. There are such tables.
pub record AreCompiledRows (g : Graph) (urgency : List ℕ) (r : BuiltRows) : Type 0 where
  -- the rows can be written
  pub writable : AreWritable g r.rows.items
  -- any tables of these rows are a compilation
  pub compilation : (t : Tables) → AreTablesWith g r.rows.items t → IsCompilation g urgency (compiled_of r t)
  -- there are such tables
  pub tables : Tables
  pub written : AreTablesWith g r.rows.items tables
