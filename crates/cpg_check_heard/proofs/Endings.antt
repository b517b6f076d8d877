-- A literal that holds is heard if its process is active and has ended on the node: by V3 one of the process's columns
-- matches, and its end tells the count and the value.
use Rattle.std.proofs.Common.{ℕ, ◌+◌, ◌<◌, ◌≤◌, ◌≡◌, Bool, All, true, false, not, List, arith, refl, sym, ap, ◌∙◌}
use Rattle.std.proofs.Common.{eq-eqb, le-leb}
use Rattle.std.specs.List.{list_any}
use Rattle.std.specs.Bool.{OnTrue}
use Rattle.std.specs.Prelude.{nat_le}
use Rattle.std.proofs.lemmas.Bool.{and_parts, and_from, leb-true}
use Rattle.std.proofs.lemmas.List.Elements.{All-contains}
use Rattle.cpg_base.specs.Activity.{active, item_active}
use Rattle.cpg_base.specs.Duration.{duration}
use Rattle.cpg_base.specs.Graph.{Graph, IsVariable, node_of, process_count, process_of_variable}
use Rattle.cpg_base.proofs.Items.{item_at-start}
use Rattle.cpg_base.proofs.Lists.{list_any_true}
use Rattle.cpg_base.specs.Scenario.{Scenario, IsScenario, number_of}
use Rattle.cpg_cube.specs.Cube.{holds}
use Rattle.cpg_cube.specs.declared.literal.Literal.{Literal}
use Rattle.cpg_table.specs.Heard.{facts}
use Rattle.cpg_table.specs.Shape.{heard_by}
use Rattle.cpg_table.specs.Table.{NodeTable, columns_of}
use Rattle.cpg_cube.specs.declared.column.Column.{Column}
use Rattle.cpg_violation.specs.Violation.{AllHold, row_rules}
use Rattle.cpg_violation.proofs.Matching.{match_where}
use Rattle.cpg_check_heard.specs.declared.bound.LiteralBound.{LiteralBound}
use Rattle.cpg_check_heard.specs.declared.telling_rows.Means.TheVariants.{End}
use Rattle.cpg_check_heard.specs.Bounds.{high_of, is_free, is_told, low_of, tells, variable_of}
use Rattle.cpg_check_heard.specs.Ended.{HasEnded}
use Rattle.cpg_check_heard.specs.TellingRows.{is_telling, means_of_item, row_tells}
use Rattle.cpg_check_heard.specs.Unheard.{is_literal_unheard}
use Rattle.cpg_check_heard.specs.Untold.{are_told_by, own_tells}
use Rattle.cpg_check_heard.proofs.Bounded.{heard_is}
use Rattle.cpg_violation.proofs.Durations.{duration_grows}
use Rattle.cpg_check_heard.proofs.Facts.{facts_told}
use Rattle.cpg_check_heard.proofs.Sides.{count_within, end_side, side, variable_within}
use Rattle.cpg_check_heard.proofs.Untolds.{own_told}

-- tables that keep V1 to V3, a scenario, a node and a time
module _ (g : Graph) (tables : List NodeTable) (few : process_count g ≤ 128) (rules : AllHold g tables row_rules)
    (s : Scenario) (law : IsScenario g s) (node time : ℕ) where
  -- if the process of the variable of bound `b` is active and has ended on the node, and the variable's number is
  -- within the bound, the node's own ends tell the bound
  own_bound : (b : LiteralBound) → IsVariable g (variable_of b) → HasEnded g tables node (variable_of b) time →
      active g s.values (process_of_variable g (variable_of b)) ≡ true
      → side b (number_of s (variable_of b)) ≡ true → own_tells g tables node time b s ≡ true
  own_bound b known ended on within =
      let process : ℕ = process_of_variable g (variable_of b) in
      let below : process < process_count g = variable_within g (variable_of b) few known in
      let ran =
      match_where g tables s law process (omega arith) rules
      (ap (item_active g s.values) (item_at-start g process below) ∙ on) in
      -- column `ran.0` matches, its execution has ended by the time, and the number is within the bound
      let told : is_telling g (End process) time b s ran.0 ≡ true = and_from _ _ ran.2 (and_from _ _
      (le-leb (ran.0.time + duration g process (number_of s process)) time
      (ended.ends ran.0 (number_of s process) ran.1 (count_within g few s law process below)))
      (end_side g few s law b process known below refl ∙ within)) in
      and_from _ _ (eq-eqb (node_of g process) node ended.home)
      (ap (λ i. row_tells g (means_of_item g process i) time b (columns_of tables process) s)
      (item_at-start g process below)
      ∙ list_any_true (is_telling g (End process) time b s) (columns_of tables process) ran.0 ran.1 told)

  -- so the node has been told such a bound
  told_bound : (b : LiteralBound) → IsVariable g (variable_of b) → HasEnded g tables node (variable_of b) time →
      active g s.values (process_of_variable g (variable_of b)) ≡ true
      → side b (number_of s (variable_of b)) ≡ true → is_told g tables node time b s ≡ true
  told_bound b known ended on within = own_told (is_free g.faults b) (own_tells g tables node time b s)
      (own_tells g tables node time b s) (are_told_by g tables time b (heard_by g node) s)
      (list_any (tells b) (facts g tables node s time))
      refl (facts_told g tables time b s few (variable_within g (variable_of b) few known) node)
      (own_bound b known ended on within)

  -- so the node has heard a literal `l` that holds: both its bounds are told
  pub ended_heard : (l : Literal) → IsVariable g l.variable → HasEnded g tables node l.variable time →
      active g s.values (process_of_variable g l.variable) ≡ true
      → holds s l ≡ true → is_literal_unheard g tables node time s l ≡ false
  ended_heard l known ended on h =
      let parts = and_parts _ _ h in
      ap not (heard_is g.faults (facts g tables node s time) l
      ∙ and_from _ _ (told_bound (low_of l) known ended on parts.0) (told_bound (high_of l) known ended on parts.1))

-- if `result` says that even an execution that starts last and lasts longest has ended by the time, and the process of
-- the variable is on the node, the process has ended there
pub ended_by : (g : Graph) (tables : List NodeTable) (node v time last longest : ℕ) (result : Bool) →
    result ≡ nat_le (last + longest) time →
    node_of g (process_of_variable g v) ≡ node
    → longest ≡ duration g (process_of_variable g v) g.faults →
    All (λ (d : Column). d.time ≤ last) (columns_of tables (process_of_variable g v)) →
    OnTrue result (HasEnded g tables node v time)
ended_by g tables node v time last longest false is home most before = tt
ended_by g tables node v time last longest true is home most before =
    let come = leb-true (last + longest) time (sym is) in
    record {
      home = home;
      ends = λ c n k at_most. let start =
          All-contains (λ (d : Column). d.time ≤ last) (columns_of tables (process_of_variable g v)) c before k in
          let more = duration_grows g (process_of_variable g v) n g.faults at_most in
          omega (arith, come, start, more, most);
    }
