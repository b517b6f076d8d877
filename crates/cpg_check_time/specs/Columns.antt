-- Rules that are about single columns, and what is known of each column.
use Rattle.std.specs.Prelude.{ℕ, ◌<◌, ◌^◌, Bool, true, false, List, []}
use Rattle.cpg_base.specs.Graph.{Graph}
use Rattle.cpg_base.specs.Scenario.{Scenario}
use Rattle.cpg_cube.specs.Fit.{IsCube}
use Rattle.cpg_table.specs.Table.{NodeTable}
use Rattle.cpg_cube.specs.declared.column.Column.{Column}
use Rattle.cpg_table.specs.Valid.{breaks_at}
use Rattle.cpg_table.specs.declared.rule.Rule.{Rule}
use Rattle.cpg_table.specs.declared.rule.Rule.TheVariants.{Single, Present}

-- whether a rule judges each column by itself; not so V2, which asks for the columns before it, and V3, which asks
-- whether there is a column
abbrev pub is_alone : Rule → Bool
is_alone Single = false
is_alone Present = false
is_alone rule = true

-- whether column `c` of item `x` breaks a rule in a scenario, if the rule judges it by itself (`[]`: no columns before)
abbrev pub breaks_column : Rule → Graph → List NodeTable → ℕ → Column → Scenario → Bool
breaks_column rule g tables x c s = breaks_at rule g tables s x [] c

-- a column as tables of the graph have it
pub record IsColumn (g : Graph) (c : Column) : Type 0 where
  -- its literals are on variables of the graph, which rise
  pub cube : IsCube g c.cube
  -- it is so early that the end of an execution or of a slot is a number of 64 bits
  pub early : c.time < 2 ^ 60
