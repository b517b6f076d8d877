-- V9 at one column: it is broken where the execution that the column starts ends after the due.
use Rattle.std.proofs.Common.{ℕ, ◌<◌, ◌≡◌, ◌&&◌, List, ap, sym, lt-ltb, Option, ◌∙◌}
use Rattle.cpg_base.specs.Graph.{Graph, process_count}
use Rattle.cpg_base.specs.Duration.{due}
use Rattle.cpg_base.specs.Scenario.{Scenario, IsScenario}
use Rattle.cpg_base.specs.First.{IsFirst}
use Rattle.cpg_base.proofs.First.{first_same}
use Rattle.cpg_cube.specs.Cube.{matches}
use Rattle.cpg_cube.specs.declared.literal.Literal.{Literal}
use Rattle.cpg_table.specs.Table.{NodeTable}
use Rattle.cpg_cube.specs.declared.column.Column.{Column}
use Rattle.cpg_table.specs.declared.rule.Rule.{Rule}
use Rattle.cpg_check_time.specs.Columns.{breaks_column}
use Rattle.cpg_check_time.specs.Lateness.{ends_after}

-- given: a process `x`, and a column
module _ (g : Graph) (order : List ℕ) (tables : List NodeTable) (x : ℕ) (c : Column)
    (is_process : x < process_count g) where
  -- the column breaks V9 exactly where it matches and its execution ends after the due
  due_is : (s : Scenario) →
      (matches c.cube s && ends_after g x c.time (due g x) s) ≡ breaks_column Rule.Due g tables x c s
  due_is s = ap (λ b. matches c.cube s && (b && ends_after g x c.time (due g x) s))
      (sym (lt-ltb x (process_count g) is_process))

  -- if a part matches exactly there, its least scenario `o` is the least in which column `c` breaks V9
  pub due_first : (part : List Literal) →
      ((s : Scenario) → IsScenario g s → matches part s ≡ (matches c.cube s && ends_after g x c.time (due g x) s)) →
      (o : Option Scenario) →
      IsFirst g order (matches part) o → IsFirst g order (breaks_column Rule.Due g tables x c) o
  due_first part is o is_first =
      first_same g order (matches part) (breaks_column Rule.Due g tables x c) o
      (λ s lawful. is s lawful ∙ due_is s) is_first
