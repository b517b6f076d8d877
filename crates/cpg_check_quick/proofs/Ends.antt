-- Whether an execution has ended or a frame has come by a time, by the columns that match.
use Rattle.std.proofs.Common.{ℕ, ◌+◌, ◌<◌, ◌≤◌, ◌≡◌, true, List, map, Contains, ap, ◌∙◌, arith, le-leb, leb-true}
use Rattle.std.specs.Prelude.{nat_le}
use Rattle.std.proofs.lemmas.Bool.{and_from}
use Rattle.cpg_base.specs.Activity.{active, live, item_active}
use Rattle.cpg_base.specs.Bus.{slot_length}
use Rattle.cpg_base.specs.Duration.{duration}
use Rattle.cpg_base.specs.Graph.{Graph, edge_count, home, is_message, message_item, process_count}
use Rattle.cpg_base.proofs.Items.{item_at-message, item_at-start}
use Rattle.cpg_base.proofs.Lists.{Contains-map, Contains-map_parts, list_any_parts, list_any_true}
use Rattle.cpg_base.specs.Scenario.{Scenario, IsScenario, fault_of}
use Rattle.cpg_cube.specs.Cube.{matches}
use Rattle.cpg_table.specs.Table.{NodeTable, columns_of, at}
use Rattle.cpg_cube.specs.declared.column.Column.{Column}
use Rattle.cpg_table.specs.Valid.{arrivals_of, ends_of, is_by}
use Rattle.cpg_violation.specs.Violation.{AllHold, row_rules}
use Rattle.cpg_violation.proofs.Matching.{match_where}
use Rattle.cpg_violation.proofs.Moments.{at_parts, in_at}
use Rattle.cpg_check_quick.specs.Order.{IsOverBy, execution}

-- an item in a scenario; `done` says when what begins at a time is done
module _ (tables : List NodeTable) (x : ℕ) (s : Scenario) (done : ℕ → ℕ) (time : ℕ) where
  -- if column `d` of the item matches, and what it begins is done by `time`, something that the item begins is
  pub come_by : (d : Column) → Contains (columns_of tables x) d → matches d.cube s ≡ true → done d.time ≤ time →
      is_by time (map done (at tables x s)) ≡ true
  come_by d there it_matches at_most = list_any_true (λ m. nat_le m time) (map done (at tables x s)) (done d.time)
      (Contains-map done (at tables x s) d.time (in_at tables x s d there it_matches))
      (le-leb (done d.time) time at_most)

  -- if something that the item begins is done by `time`, a column that matches begins it
  pub by_parts : is_by time (map done (at tables x s)) ≡ true →
      (d : Column) × Contains (columns_of tables x) d × (matches d.cube s ≡ true) × (done d.time ≤ time)
  by_parts done_by =
      let moment = list_any_parts (λ m. nat_le m time) (map done (at tables x s)) done_by in
      let start = Contains-map_parts done (at tables x s) moment.0 moment.1 in
      let column = at_parts tables x s start.0 start.1 in
      (column.0, column.1, column.2, omega (arith, leb-true moment.0 time moment.2, ap done column.3, start.2))

-- tables that keep V1 to V3, a scenario and a time
module _ (g : Graph) (tables : List NodeTable) (rules : AllHold g tables row_rules) (s : Scenario)
    (law : IsScenario g s) (time : ℕ) where
  -- if a process is active and over by whichever of its columns matches, it has ended: by V3 one does
  pub over_ended : (q : ℕ) → q < process_count g → active g s.values q ≡ true →
      IsOverBy tables (execution g q s) q time s →
      is_by time (ends_of g tables s q) ≡ true
  over_ended q within is_active over =
      let ran =
      match_where g tables s law q (omega arith) rules
      (ap (item_active g s.values) (item_at-start g q within) ∙ is_active) in
      come_by tables q s (λ start. start + duration g q (fault_of s q)) time ran.0 ran.1 ran.2 (over ran.0 ran.1 ran.2)

  -- if the edge of a message is live and the message over by whichever of its columns matches, it has come: by V3 one
  -- does
  pub over_arrived : (e : ℕ) → e < edge_count g → is_message g e ≡ true → live g s.values e ≡ true →
      IsOverBy tables (slot_length g (home g (message_item g e))) (message_item g e) time s
      → is_by time (arrivals_of g tables s (message_item g e)) ≡ true
  over_arrived e within it_is_message is_live over =
      let sent = match_where g tables s law (message_item g e) (omega arith) rules
      (ap (item_active g s.values) (item_at-message g e within) ∙ and_from _ _ it_is_message is_live) in
      come_by tables (message_item g e) s (λ start. start + slot_length g (home g (message_item g e)))
      time sent.0 sent.1 sent.2
      (over sent.0 sent.1 sent.2)
