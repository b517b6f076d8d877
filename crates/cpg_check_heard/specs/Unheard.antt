-- Columns with a literal that isn't heard.
use Rattle.std.specs.Prelude.{ℕ, Bool, not, List}
use Rattle.std.specs.List.{list_any}
use Rattle.cpg_base.specs.Graph.{Graph}
use Rattle.cpg_base.specs.Scenario.{Scenario}
use Rattle.cpg_cube.specs.declared.literal.Literal.{Literal}
use Rattle.cpg_table.specs.Table.{NodeTable}
use Rattle.cpg_cube.specs.declared.column.Column.{Column}
use Rattle.cpg_table.specs.Heard.{facts, is_heard}
use Rattle.cpg_table.specs.Valid.{breaks_heard}
use Rattle.cpg_violation.specs.Broken.{is_broken}
use Rattle.cpg_check_heard.specs.declared.bound.LiteralBound.{LiteralBound}
use Rattle.cpg_check_heard.specs.Bounds.{is_told}

-- whether a node hasn't heard literal `l` by `time`
abbrev pub is_literal_unheard : Graph → List NodeTable → ℕ → ℕ → Scenario → Literal → Bool
is_literal_unheard g tables node time s l = not (is_heard g.faults (facts g tables node s time) l)

-- whether there is one of these bounds that a node has to be told, and hasn't been by `time`
abbrev pub is_one_untold : Graph → List NodeTable → ℕ → ℕ → List LiteralBound → Scenario → Bool
is_one_untold g tables node time bounds s = list_any (λ b. not (is_told g tables node time b s)) bounds

-- whether a node hasn't heard some literal of a column by the column's time
abbrev pub is_column_unheard : Graph → List NodeTable → ℕ → Scenario → Column → Bool
is_column_unheard g tables node s c = list_any (is_literal_unheard g tables node c.time s) c.cube

-- whether there is a column at place `i` of these columns of item `x`, and it breaks V4 in scenario `s`: it matches in
-- it, and the item's node hasn't heard one of the column's literals
abbrev pub is_unheard : Graph → List NodeTable → ℕ → List Column → ℕ → Scenario → Bool
is_unheard g tables x columns i s = is_broken (λ t c. breaks_heard g tables t x c) columns i s
