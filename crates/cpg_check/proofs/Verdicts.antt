-- What a verdict shows excludes the others: a difference of heads, that the head is the graph's; a violation, that the
-- node tables are valid.
use Rattle.std.proofs.Common.{ℕ, ◌≡◌, ◌<◌, ◌∙◌, ◌==◌, List, [], ◌∷◌, Option, Some, None, length, map, refl, sym, ap}
use Rattle.std.proofs.Common.{inl, inr, arith, eqb-true}
use Rattle.std.specs.Prelude.{slice_get, IsSomeAnd}
use Rattle.std.proofs.lemmas.Bool.{both_ways, cases_Bool, cond-true, cond-false}
use Rattle.std.proofs.lemmas.Option.{slice_get-get_or, none-some, same_Some}
use Rattle.cpg_base.specs.Graph.{Graph}
use Rattle.cpg_head.specs.Head.{Head}
use Rattle.cpg_table.specs.Table.{NodeTable, table_at, empty_table}
use Rattle.cpg_cube.specs.declared.column.Column.{Column}
use Rattle.cpg_table.specs.Valid.{IsValid, hear_row}
use Rattle.cpg_table.specs.declared.fault.Fault.{Fault}
use Rattle.cpg_table.specs.Found.{row_columns}
use Rattle.cpg_violation.specs.Heads.{IsFirstDifference, IsHeadFor}
use Rattle.cpg_violation.specs.Violation.{IsFirstViolation, column_rules}
use Rattle.cpg_violation.proofs.Violations.{first_broken}
use Rattle.cpg_check_rows.specs.Hears.{DifferFirstAt, IsFirstHear, due_columns}
use Rattle.cpg_check.specs.Verdict.{IsFirstFault}
use Rattle.cpg_violation.specs.declared.heads.HeadPart.{HeadPart}

-- a head `h` that differs from the graph's in the part `part` isn't the graph's
pub other_head : (g : Graph) (h : Head) (part : HeadPart) → IsFirstDifference g h part → IsHeadFor g h → ⊥
other_head g h HeadPart.Faults differs is_for = differs is_for.faults
other_head g h HeadPart.Nodes differs is_for = differs.nodes is_for.nodes
other_head g h HeadPart.Processes differs is_for = differs.processes is_for.processes
other_head g h HeadPart.Edges differs is_for = differs.edges is_for.edges

-- given: node tables
module _ (g : Graph) (tables : List NodeTable) where
  -- if one of the hear rows that V10 asks for has item `x`, it has the columns that are due; by induction on `items`
  heard_due : (x : ℕ) (items : List ℕ) (cs : List Column) → row_columns (map (hear_row g tables) items) x ≡ Some cs →
      cs ≡ due_columns g tables x
  heard_due x [] cs row_is = absurd (none-some cs row_is)
  heard_due x (y ∷ items) cs row_is = elim (cases_Bool (y == x)) [
    | inl here ↦ sym (same_Some (due_columns g tables y) cs (sym (cond-true (y == x) _ _ here) ∙ row_is))
        ∙ ap (due_columns g tables) (eqb-true y x here)
    | inr there ↦ heard_due x items cs (sym (cond-false (y == x) _ _ there) ∙ row_is)
  ]

  -- in valid tables no node hears an item by other columns than are due: its hear rows are those that V10 asks for
  not_heard : IsValid g tables → (x place node : ℕ) → node < length tables → (o : Option (List Column)) →
      row_columns (table_at tables node).hears x ≡ o →
      IsSomeAnd o (λ cs. DifferFirstAt cs (due_columns g tables x) place) → ⊥
  not_heard valid x place node within None row_is differ = differ
  not_heard valid x place node within (Some cs) row_is differ =
      let hears = valid.hears node (table_at tables node) (slice_get-get_or tables node empty_table within) in
      differ.here (ap (λ ds. slice_get ds place)
      (heard_due x _ cs (sym (ap (λ rows. row_columns rows x) hears) ∙ row_is)))

  -- in valid tables there is no place at which item `x` is first heard otherwise than is due
  first_hear : IsValid g tables → length tables ≡ length g.nodes → (x : ℕ) (o : Option ℕ) →
      IsSomeAnd o (IsFirstHear tables (length g.nodes) x (due_columns g tables x)) → ⊥
  first_hear valid count x None shown = shown
  first_hear valid count x (Some place) shown = not_heard valid x place shown.node (omega (arith, count, shown.within))
      (row_columns (table_at tables shown.node).hears x) refl shown.differ

  -- node tables with a first violation aren't valid: in valid ones the rule that it breaks holds
  pub faulty_tables : (order : List ℕ) (f : Fault) → length tables ≡ length g.nodes → IsFirstFault g order tables f →
      IsValid g tables → ⊥
  faulty_tables order f count (inl broken) valid =
      let shown = first_broken g order tables f column_rules broken in
      let first : IsFirstViolation g order tables shown.0 f = shown.1 in
      both_ways _ (valid.rules shown.0 f.item f.column f.scenario first.least.lawful first.item) first.least.holds
  faulty_tables order f count (inr heard) valid = first_hear valid count f.item f.column heard.1.column
