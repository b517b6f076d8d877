-- The times of an item in a scenario (`at`), by the columns that match; and what a send waits for.
use Rattle.std.proofs.Common.{ℕ, ◌<◌, ◌≤◌, ◌≡◌, true, not, List, filter, Contains, sym, ap, ◌∙◌, arith, inl, inr}
use Rattle.std.proofs.lemmas.Bool.{and_parts}
use Rattle.cpg_base.specs.Activity.{active, live, item_active}
use Rattle.cpg_base.specs.Graph.{Graph, process_count, item_count, item_at, producer, producer_of_item, is_sent_item}
use Rattle.cpg_base.specs.Graph.{source}
use Rattle.cpg_base.specs.declared.item.Item.TheVariants.{Message, Broadcast}
use Rattle.cpg_base.proofs.Items.{item_cases}
use Rattle.cpg_base.proofs.Lists.{Contains-map, Contains-map_parts, Contains-filter, Contains-filter_parts}
use Rattle.cpg_base.specs.Scenario.{Scenario}
use Rattle.cpg_cube.specs.Cube.{matches}
use Rattle.cpg_table.specs.Table.{NodeTable, columns_of, at}
use Rattle.cpg_cube.specs.declared.column.Column.{Column}
use Rattle.cpg_table.specs.Valid.{ends_of, is_by, breaks_inputs_of}

-- given: the tables of all nodes
module _ (tables : List NodeTable) where
  -- the time of column `d` of item `x`, which matches scenario `s`, is one of the item's times
  pub in_at : (x : ℕ) (s : Scenario) (d : Column) → Contains (columns_of tables x) d → matches d.cube s ≡ true →
      Contains (at tables x s) d.time
  in_at x s d member matched =
      Contains-map (λ (c : Column). c.time) (filter (λ (c : Column). matches c.cube s) (columns_of tables x)) d
      (Contains-filter (λ (c : Column). matches c.cube s) (columns_of tables x) d matched member)

  -- each of the times of item `x` in scenario `s` is that of a column `d` that matches
  pub at_parts : (x : ℕ) (s : Scenario) (time : ℕ) → Contains (at tables x s) time →
      (d : Column) × Contains (columns_of tables x) d × (matches d.cube s ≡ true) × (d.time ≡ time)
  at_parts x s time time_in =
      let mapped = Contains-map_parts (λ (c : Column). c.time)
      (filter (λ (c : Column). matches c.cube s) (columns_of tables x)) time time_in in
      let filtered = Contains-filter_parts (λ (c : Column). matches c.cube s) (columns_of tables x) mapped.0 mapped.1 in
      (mapped.0, filtered.0, filtered.1, mapped.2)

-- given: a message or a broadcast, in a scenario
module _ (g : Graph) (s : Scenario) (x : ℕ) (is_item : x < item_count g) (send : process_count g ≤ x) where
  -- a send at a time breaks V5 exactly if its producer hasn't ended by then; by cases: it is a message or a broadcast
  pub waits : (tables : List NodeTable) (time : ℕ) →
      breaks_inputs_of g tables s time (item_at g x) ≡ not (is_by time (ends_of g tables s (producer g x)))
  waits tables time = elim (item_cases g x is_item) [
    | inl start ↦ absurd (omega (arith, start.0))
    | inr (inl message) ↦ ap (breaks_inputs_of g tables s time) message.3
        ∙ sym (ap (λ i. not (is_by time (ends_of g tables s (producer_of_item g i)))) message.3)
    | inr (inr broadcast) ↦ ap (breaks_inputs_of g tables s time) broadcast.3
        ∙ sym (ap (λ i. not (is_by time (ends_of g tables s (producer_of_item g i)))) broadcast.3)
  ]

  -- if the item is active, its producer is: the source of a live edge, or the process of the condition
  pub made : item_active g s.values (item_at g x) ≡ true → active g s.values (producer g x) ≡ true
  made active_item = elim (item_cases g x is_item) [
    | inl start ↦ absurd (omega (arith, start.0))
    | inr (inl message) ↦ ap (λ i. active g s.values (producer_of_item g i)) message.3
        ∙ (and_parts (active g s.values (source g message.0)) _ (and_parts (is_sent_item g (Message message.0))
        (live g s.values message.0) (sym (ap (item_active g s.values) message.3) ∙ active_item)).1).0
    | inr (inr broadcast) ↦ ap (λ i. active g s.values (producer_of_item g i)) broadcast.3
        ∙ (and_parts (is_sent_item g (Broadcast broadcast.0)) _
        (sym (ap (item_active g s.values) broadcast.3) ∙ active_item)).1
  ]
