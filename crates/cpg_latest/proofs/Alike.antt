-- If two scenarios agree on what is active in the first, the same is active in both, and a run of the first is one of the
-- second.
use Rattle.std.proofs.Common.{◌≡◌, ◌∙◌, ℕ, ◌+◌, ◌<◌, true, false, ◌&&◌, if◌then◌else◌, List, [], ◌∷◌, ◌++◌, map, get_or}
use Rattle.std.proofs.Common.{Option, Some, None, option_to_list, option_map, arith, sym, ap, ap₂, subst}
use Rattle.std.proofs.Common.{inl, inr}
use Rattle.std.proofs.lemmas.Bool.{cases_Bool, cond-false}
use Rattle.cpg_base.specs.Numbers.{numbers_below, greatest}
use Rattle.cpg_base.specs.Graph.{Graph, process_count, edge_count, condition_count, item_count, item_at, process_at}
use Rattle.cpg_base.specs.Graph.{node_of, home, source, inputs, is_sent_item, producer, process_of}
use Rattle.cpg_base.specs.declared.item.Item.TheVariants.{Message, Broadcast}
use Rattle.cpg_base.specs.Activity.{is_active, activation, active, live, item_active}
use Rattle.cpg_base.specs.Bus.{next_slot, round}
use Rattle.cpg_base.specs.Duration.{duration}
use Rattle.cpg_base.specs.Scenario.{Scenario, fault_of}
use Rattle.cpg_base.proofs.Inputs.{inputs_parts}
use Rattle.cpg_base.proofs.Items.{ItemCases, item_cases, item_at-start, process_of_below}
use Rattle.cpg_base.proofs.Lists.{Contains-filter_parts, numbers-Contains, same_map, same_filter, same_flat_map}
use Rattle.cpg_order.specs.Deciding.{deciding}
use Rattle.cpg_order.specs.Queue.{is_queued_before, queued_before}
use Rattle.cpg_order.specs.Urgency.{IsTopological, IsUrgencyOrder}
use Rattle.cpg_base.specs.Order.{before_on_node}
use Rattle.cpg_order.proofs.Acyclic.{source_in_order}
use Rattle.cpg_order.proofs.DecidingLaws.{deciding_is_active}
use Rattle.cpg_order.proofs.DecidingSame.{deciding_same}
use Rattle.cpg_base.proofs.Places.{from_order, on_node_before}
use Rattle.cpg_order.proofs.SameActivation.{live_same, same_everywhere}
use Rattle.cpg_run.specs.Run.{Times, IsRun, time_in, end_in, input_there, heard_there, start_bounds, send_bounds}
use Rattle.cpg_run.specs.Run.{bounds_of_item, time_by, end_by}
use Rattle.cpg_run.proofs.Runs.{time_is}

-- two scenarios agree on the values of conditions and the fault counts of processes that are active in the first
pub record AreActiveAlike (g : Graph) (s u : Scenario) : Type 0 where
  -- the value of each condition whose process is active
  pub values : (c : ℕ) → c < condition_count g → active g s.values (process_of g c) ≡ true →
      get_or s.values c false ≡ get_or u.values c false
  -- the fault count of each active process
  pub faults : (p : ℕ) → p < process_count g → active g s.values p ≡ true → fault_of s p ≡ fault_of u p

-- given: two scenarios s and u that agree on what is active in s (`alike`), and the urgency order, which is topological
module _ (g : Graph) (urgency : List ℕ) (urgent : IsUrgencyOrder g urgency) (lawful : IsTopological g urgency)
    (s u : Scenario) (alike : AreActiveAlike g s u) where
  -- each process has the same activation in both scenarios
  activation_is_same : (p : ℕ) → p < process_count g → activation g s.values p ≡ activation g u.values p
  activation_is_same p within = same_everywhere g urgency lawful s.values u.values p (omega arith) alike.values

  -- the same processes are active in both scenarios
  pub active_is_same : (p : ℕ) → p < process_count g → active g s.values p ≡ active g u.values p
  active_is_same p within = ap is_active (activation_is_same p within)

  -- the same edges are live in both scenarios
  live_is_same : (e : ℕ) → e < edge_count g → live g s.values e ≡ live g u.values e
  live_is_same e within = live_same g urgency lawful s.values u.values e within
      (activation_is_same (source g e) (source_in_order g urgency lawful e within))
      (λ c k at acts. alike.values c k (subst (λ q. active g s.values q ≡ true) (sym at) acts))

  -- the same conditions decide a process in both scenarios
  deciding_is_same : (p : ℕ) → deciding g s.values p ≡ deciding g u.values p
  deciding_is_same p = deciding_same g urgency urgent p s.values u.values
      (λ c within holds. alike.values c within (deciding_is_active g urgency urgent lawful s.values p c within holds))

  -- the same items are active in both scenarios
  pub item_is_same : (x : ℕ) → ItemCases g x →
      item_active g s.values (item_at g x) ≡ item_active g u.values (item_at g x)
  item_is_same x (inl c) =
      ap (item_active g s.values) c.1 ∙ active_is_same x c.0 ∙ sym (ap (item_active g u.values) c.1)
  item_is_same x (inr (inl c)) = ap (item_active g s.values) c.3
      ∙ ap (λ b. is_sent_item g (Message c.0) && b) (live_is_same c.0 c.1) ∙ sym (ap (item_active g u.values) c.3)
  item_is_same x (inr (inr c)) = ap (item_active g s.values) c.3
      ∙ ap (λ b. is_sent_item g (Broadcast c.0) && b) (active_is_same (process_of g c.0) (process_of_below g c.0 c.1)) ∙
      sym (ap (item_active g u.values) c.3)

  module _ (order : List ℕ) (topological : IsTopological g order) (frozen : List (Option ℕ)) (t : Times) where
    -- a start has the same bounds in both: the same inputs are live and the same processes active
    start_same : (p : ℕ) → start_bounds g order s t p ≡ start_bounds g order u t p
    start_same p = ap (λ xs. (process_at g p).release ∷ xs) (ap₂ ◌++◌
        (ap₂ ◌++◌
        (ap (map (input_there g t)) (same_filter (live g s.values) (live g u.values) (inputs g p)
        (λ e there. live_is_same e (inputs_parts g p e there).0)))
        (ap (map (end_in t)) (same_filter (active g s.values) (active g u.values) (before_on_node g order p)
        (λ q there.
        active_is_same q (from_order (process_count g) order topological.all q (on_node_before g order p q there).0)))))
        (ap (map (heard_there g t (node_of g p))) (same_flat_map (deciding g s.values) (deciding g u.values)
        (before_on_node g order p ++ p ∷ []) (λ q c. deciding_is_same q))))

    -- what a send waits for is the same in both
    send_same : (x : ℕ) → send_bounds g order s t x ≡ send_bounds g order u t x
    send_same x = ap (λ ys. next_slot g (home g x) (end_in t (producer g x)) ∷ map (λ y. time_in t y + round g) ys)
        (same_filter (λ y. item_active g s.values (item_at g y)) (λ y. item_active g u.values (item_at g y))
        (queued_before g order x)
        (λ y there. item_is_same y (item_cases g y (numbers-Contains (item_count g) y
        (Contains-filter_parts (λ (z : ℕ). is_queued_before g order z x) (numbers_below (item_count g)) y there).0))))

    -- each item has the same bounds in both
    pub bounds_same : (x : ℕ) → ItemCases g x →
        bounds_of_item g order s t x (item_at g x) ≡ bounds_of_item g order u t x (item_at g x)
    bounds_same x (inl c) =
        ap (bounds_of_item g order s t x) c.1 ∙ start_same x ∙ sym (ap (bounds_of_item g order u t x) c.1)
    bounds_same x (inr (inl c)) =
        ap (bounds_of_item g order s t x) c.3 ∙ send_same x ∙ sym (ap (bounds_of_item g order u t x) c.3)
    bounds_same x (inr (inr c)) =
        ap (bounds_of_item g order s t x) c.3 ∙ send_same x ∙ sym (ap (bounds_of_item g order u t x) c.3)

    -- each item has one time in both
    time_same : (x : ℕ) → x < item_count g → time_by g order frozen s t x ≡ time_by g order frozen u t x
    time_same x within =
        ap₂ (λ b xs. if b then Some (greatest (greatest xs ∷ option_to_list (get_or frozen x None))) else None)
        (item_is_same x (item_cases g x within)) (bounds_same x (item_cases g x within))

    module _ (run : IsRun g order frozen s t) where
      -- each process ends alike in both scenarios: an active one has the same faults, and an inactive one has no start
      end_same : (p : ℕ) → p < process_count g → end_by g s t p ≡ end_by g u t p
      end_same p within = elim (cases_Bool (active g s.values p)) [
        | inl acts ↦
            ap (λ f. option_map (λ start. start + duration g p f) (get_or t.times p None)) (alike.faults p within acts)
        | inr idle ↦
            let none : get_or t.times p None ≡ None = time_is g order frozen s t run p (omega arith)
            ∙ cond-false _ _ _ (ap (item_active g s.values) (item_at-start g p within) ∙ idle) in
            ap (option_map (λ start. start + duration g p (fault_of s p))) none
            ∙ sym (ap (option_map (λ start. start + duration g p (fault_of u p))) none)
      ]

      -- a run of the first of two scenarios that are alike is one of the second
      pub run_of_alike : IsRun g order frozen u t
      run_of_alike = record {
        times = run.times ∙ same_map (time_by g order frozen s t) (time_by g order frozen u t)
            (numbers_below (item_count g)) (λ x there. time_same x (numbers-Contains (item_count g) x there));
        ends = run.ends ∙ same_map (end_by g s t) (end_by g u t) (numbers_below (process_count g))
            (λ p there. end_same p (numbers-Contains (process_count g) p there));
        finish = run.finish;
      }
