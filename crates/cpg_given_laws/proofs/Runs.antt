-- No definition of a run looks at the order that a graph gives: with another one, or none, a scenario has the same
-- runs.
use Rattle.std.proofs.Common.{ℕ, zero, suc, ◌+◌, ◌≡◌, ◌==◌, ◌&&◌, ◌||◌, not, Bool, true, false, List, [], ◌∷◌, ◌++◌}
use Rattle.std.proofs.Common.{Option, Some, None, if◌then◌else◌, filter, map, get_or, slice_set, option_to_list}
use Rattle.std.proofs.Common.{refl, sym, ap, ap₂, ◌∙◌}
use Rattle.std.specs.Prelude.{nat_lt}
use Rattle.std.specs.List.{list_any, flat_map}
use mathlib.Core.Path.{fun_ext}
use Rattle.cpg_base.specs.Numbers.{numbers_below, greatest}
use Rattle.cpg_base.specs.Graph.{Graph, process_count, condition_count, item_count, process_at, edge_at, node_of}
use Rattle.cpg_base.specs.Graph.{source, target, inputs, outputs, is_message, item_at, home, producer, process_of}
use Rattle.cpg_base.specs.Graph.{is_sent_item}
use Rattle.cpg_base.specs.declared.item.Item.{Item}
use Rattle.cpg_base.specs.declared.item.Item.TheVariants.{Start, Message, Broadcast}
use Rattle.cpg_base.specs.declared.activation.Activation.{Activation}
use Rattle.cpg_base.specs.Activity.{is_active, same_activation, value_of, takes, activation_by, activation_within}
use Rattle.cpg_base.specs.Activity.{activation, live, item_active}
use Rattle.cpg_base.specs.Bus.{round, next_slot}
use Rattle.cpg_base.specs.Duration.{duration}
use Rattle.cpg_base.specs.Order.{before_on_node}
use Rattle.cpg_base.specs.Scenario.{Scenario}
use Rattle.cpg_order.specs.Urgency.{tail_within, is_more_urgent}
use Rattle.cpg_order.specs.Deciding.{outcomes, agree_on, earlier_conditions, decides, deciding}
use Rattle.cpg_order.specs.Queue.{queued_before}
use Rattle.cpg_run.specs.Run.{Times, IsRun, time_in, end_in, input_there, heard_there, start_bounds, send_bounds}
use Rattle.cpg_run.specs.Run.{bounds_of_item, unfrozen_time, time_by}

module _ (g : Graph) (given : Option (List ℕ)) where
  -- a graph as it is, but for the order that it gives
  abbrev pub other : Graph
  other = record g { order = given }

  -- ---- activations and longest ways

  -- looking back along some edges, a process is activated the same way
  same_within : (depth : ℕ) → activation_within depth other ≡ activation_within depth g
  same_within zero = refl
  same_within (suc depth) =
      ap {B = List Bool → ℕ → Activation} (λ f values p. activation_by (process_at g p).join (inputs g p)
      (λ e. is_active (f values (source g e)) && takes (edge_at g e).when (value_of g values (source g e))))
      (same_within depth)

  -- looking ahead along some edges, the longest way from a process is the same
  same_tail_within : (depth : ℕ) → tail_within depth other ≡ tail_within depth g
  same_tail_within zero = refl
  same_tail_within (suc depth) = ap {B = ℕ → ℕ} (λ f p.
      duration g p 0 + greatest (map (λ e. (if is_message g e then round g else 0) + f (target g e)) (outputs g p)))
      (same_tail_within depth)

  -- activations don't depend on the order that the graph gives
  pub same_activations : activation other ≡ activation g
  same_activations = same_within (process_count g)

  -- which process is more urgent doesn't depend on the order that the graph gives
  pub same_urgency : is_more_urgent other ≡ is_more_urgent g
  same_urgency = ap {B = ℕ → ℕ → Bool} (λ f p q. nat_lt (f q) (f p) || ((f p == f q) && nat_lt p q))
      (same_tail_within (process_count g))

  -- which edges are live doesn't depend on it
  pub same_live : live other ≡ live g
  same_live = ap {B = List Bool → ℕ → Bool} (λ f values e.
      is_active (f values (source g e)) && takes (edge_at g e).when (value_of g values (source g e))) same_activations

  -- the conditions before one in the urgency order are the same
  same_earlier : earlier_conditions other ≡ earlier_conditions g
  same_earlier = ap {B = ℕ → List ℕ} (λ before c.
      filter (λ d. before (process_of g d) (process_of g c)) (numbers_below (condition_count g))) same_urgency

  -- whether a condition decides a process doesn't depend on it
  pub same_decides : decides other ≡ decides g
  same_decides = ap₂ {C = List Bool → ℕ → ℕ → Bool} (λ earlier f values p c. list_any
      (λ o. agree_on (earlier c) o values && not (same_activation (f (slice_set o c false) p)
      (f (slice_set o c true) p))) (outcomes (condition_count g))) same_earlier same_activations

  -- the conditions that decide a process don't depend on it
  pub same_deciding : deciding other ≡ deciding g
  same_deciding = ap {B = List Bool → ℕ → List ℕ}
      (λ f values p. filter (f values p) (numbers_below (condition_count g))) same_decides

  -- which items are active doesn't depend on it
  pub same_item_active : (values : List Bool) (it : Item) → item_active other values it ≡ item_active g values it
  same_item_active values (Start p) = ap (λ f. is_active (f values p)) same_activations
  same_item_active values (Message e) = ap (λ f. is_sent_item g (Message e) && f values e) same_live
  same_item_active values (Broadcast c) =
      ap (λ f. is_sent_item g (Broadcast c) && is_active (f values (process_of g c))) same_activations

  -- ---- bounds

  -- given an order, a scenario and the times of a run
  module _ (order : List ℕ) (s : Scenario) (t : Times) where
    -- a start waits for the same
    same_start : (p : ℕ) → start_bounds other order s t p ≡ start_bounds g order s t p
    same_start p = ap₂ (λ bounds hearing. (process_at g p).release ∷ bounds ++ hearing)
        (ap₂ (λ f a. map (input_there g t) (filter (f s.values) (inputs g p)) ++ map (end_in t)
        (filter (λ q. is_active (a s.values q)) (before_on_node g order p))) same_live same_activations)
        (ap (λ f. map (heard_there g t (node_of g p)) (flat_map (f s.values) (before_on_node g order p ++ p ∷ [])))
        same_deciding)

    -- a send has the same bounds whatever order is given
    same_send : (x : ℕ) → send_bounds other order s t x ≡ send_bounds g order s t x
    same_send x = ap (λ f. next_slot g (home g x) (end_in t (producer g x))
        ∷ map (λ y. time_in t y + round g) (filter f (queued_before g order x)))
        (fun_ext (λ y. same_item_active s.values (item_at g y)))

    -- item `it`, of number `x`, has the same bounds whatever order is given
    same_bounds : (x : ℕ) (it : Item) → bounds_of_item other order s t x it ≡ bounds_of_item g order s t x it
    same_bounds x (Start p) = same_start p
    same_bounds x (Message e) = same_send x
    same_bounds x (Broadcast c) = same_send x

    -- the time of an item that isn't frozen doesn't depend on it
    pub same_unfrozen : (x : ℕ) → unfrozen_time other order s t x ≡ unfrozen_time g order s t x
    same_unfrozen x = ap greatest (same_bounds x (item_at g x))

    -- the time of an item by these is the same, frozen or not
    same_time : (frozen : List (Option ℕ)) (x : ℕ) → time_by other order frozen s t x ≡ time_by g order frozen s t x
    same_time frozen x = ap₂ (λ a n. if a then Some (greatest (n ∷ option_to_list (get_or frozen x None))) else None)
        (same_item_active s.values (item_at g x)) (same_unfrozen x)

    -- a run is one whatever order the graph gives
    pub run_of_other : (frozen : List (Option ℕ)) → IsRun g order frozen s t → IsRun other order frozen s t
    run_of_other frozen run = record {
      times = run.times ∙ ap (λ f. map f (numbers_below (item_count g))) (sym (fun_ext (same_time frozen)));
      ends = run.ends;
      finish = run.finish;
    }
