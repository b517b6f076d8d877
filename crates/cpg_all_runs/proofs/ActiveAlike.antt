-- Scenarios with the same active numbers have the same runs: they agree on what is active, so the same items are active
-- and each waits for the same.
use Rattle.std.proofs.Common.{◌≡◌, ◌∙◌, ℕ, ◌+◌, ◌-◌, ◌<◌, Bool, true, false, ◌&&◌, if◌then◌else◌, List, [], ◌∷◌, ◌++◌}
use Rattle.std.proofs.Common.{map, get_or, Option, Some, None, option_to_list, option_map, arith, sym, ap, ap₂}
use Rattle.std.proofs.Common.{subst, inl, inr}
use Rattle.std.proofs.lemmas.Bool.{cases_Bool, cond-false}
use Rattle.std.proofs.lemmas.List.{get_or_append_left, get_or-append_right}
use Rattle.std.proofs.lemmas.List.FromFn.{length-map-range_with_len}
use Rattle.cpg_base.specs.Numbers.{numbers_below, greatest}
use Rattle.cpg_base.specs.Graph.{Graph, process_count, edge_count, condition_count, item_count, item_at, process_at}
use Rattle.cpg_base.specs.Graph.{node_of, home, source, inputs, is_sent_item, producer, process_of}
use Rattle.cpg_base.specs.declared.item.Item.TheVariants.{Message, Broadcast}
use Rattle.cpg_base.specs.Activity.{is_active, activation, active, live, item_active}
use Rattle.cpg_base.specs.Bus.{next_slot, round}
use Rattle.cpg_base.specs.Duration.{duration}
use Rattle.cpg_base.specs.Scenario.{Scenario, fault_of}
use Rattle.cpg_base.proofs.Inputs.{inputs_parts}
use Rattle.cpg_base.proofs.Items.{ItemCases, item_cases, item_at-start, process_of_below}
use Rattle.cpg_base.proofs.Lists.{Contains-filter_parts, numbers-Contains, same_map, same_filter, same_flat_map}
use Rattle.cpg_base.proofs.Lists.{get_or-map-below}
use Rattle.cpg_order.specs.Deciding.{deciding}
use Rattle.cpg_order.specs.Queue.{is_queued_before, queued_before}
use Rattle.cpg_order.specs.Urgency.{IsTopological, IsUrgencyOrder}
use Rattle.cpg_base.specs.Order.{before_on_node}
use Rattle.cpg_order.proofs.Acyclic.{source_in_order}
use Rattle.cpg_order.proofs.DecidingLaws.{deciding_is_active}
use Rattle.cpg_order.proofs.DecidingSame.{deciding_same}
use Rattle.cpg_base.proofs.Places.{from_order, on_node_before}
use Rattle.cpg_order.proofs.SameActivation.{live_same, same_everywhere}
use Rattle.cpg_base.proofs.NumbersOf.{one_value}
use Rattle.cpg_run.specs.Run.{Times, IsRun, time_in, end_in, input_there, heard_there, start_bounds, send_bounds}
use Rattle.cpg_run.specs.Run.{bounds_of_item, time_by, end_by}
use Rattle.cpg_run.proofs.Runs.{time_is}
use Rattle.cpg_all_runs.specs.Active.{active_fault, active_value, active_numbers, HaveSameRuns}

-- two scenarios agree on the values of conditions and the fault counts of processes that are active in the first
pub record AreActiveAlike (g : Graph) (s u : Scenario) : Type 0 where
  pub values : (c : ℕ) → c < condition_count g → active g s.values (process_of g c) ≡ true →
      get_or s.values c false ≡ get_or u.values c false
  pub faults : (p : ℕ) → p < process_count g → active g s.values p ≡ true → fault_of s p ≡ fault_of u p

-- if two active numbers are equal, and the first thing is active, so is the second, with the same count
one_more : (a b : Bool) (m n : ℕ) → (if a then m + 1 else 0) ≡ (if b then n + 1 else 0) → a ≡ true → m ≡ n
one_more true true m n same is_true = omega arith
one_more true false m n same is_true = absurd (omega arith)
one_more false b m n same is_true = absurd (let equal : false ≡ true = is_true in cc)

module _ (g : Graph) (s u : Scenario) (same : active_numbers g s ≡ active_numbers g u) where
  -- the active number of a process is at the place of the process's number
  faults_at : (r : Scenario) (p : ℕ) → p < process_count g → get_or (active_numbers g r) p 0 ≡ active_fault g r p
  faults_at r p below = get_or_append_left (map (active_fault g r) (numbers_below (process_count g)))
      (map (active_value g r) (numbers_below (condition_count g))) 0 p
      (omega (arith, length-map-range_with_len (active_fault g r) 0 (process_count g)))
      ∙ get_or-map-below (active_fault g r) (process_count g) p 0 below

  -- that of a condition comes behind those of all processes
  values_at : (r : Scenario) (c : ℕ) → c < condition_count g →
      get_or (active_numbers g r) (process_count g + c) 0 ≡ active_value g r c
  values_at r c below =
      let at : process_count g + c - process_count g ≡ c = omega arith in
      get_or-append_right (map (active_fault g r) (numbers_below (process_count g)))
      (map (active_value g r) (numbers_below (condition_count g))) (process_count g) (process_count g + c) 0
      (length-map-range_with_len (active_fault g r) 0 (process_count g)) (omega arith)
      ∙ ap (λ i. get_or (map (active_value g r) (numbers_below (condition_count g))) i 0) at
      ∙ get_or-map-below (active_value g r) (condition_count g) c 0 below

  -- two scenarios with the same active numbers agree on what is active
  pub alike_from_numbers : AreActiveAlike g s u
  alike_from_numbers = record {
    values =
        λ c below acts. one_value _ _
        (one_more (active g s.values (process_of g c)) (active g u.values (process_of g c)) _ _
        (sym (values_at s c below) ∙ ap (λ xs. get_or xs (process_count g + c) 0) same ∙ values_at u c below) acts);
    faults = λ p below acts. one_more (active g s.values p) (active g u.values p) (fault_of s p) (fault_of u p)
        (sym (faults_at s p below) ∙ ap (λ xs. get_or xs p 0) same ∙ faults_at u p below) acts;
  }

-- given: two scenarios s and u that agree on what is active in s (`alike`), and the urgency order, which is topological
module _ (g : Graph) (urgency : List ℕ) (urgent : IsUrgencyOrder g urgency) (lawful : IsTopological g urgency)
    (s u : Scenario) (alike : AreActiveAlike g s u) where
  -- each process has the same activation in both scenarios: whether it is active and, for a join, by which input
  activation_is_same : (p : ℕ) → p < process_count g → activation g s.values p ≡ activation g u.values p
  activation_is_same p below = same_everywhere g urgency lawful s.values u.values p (omega arith) alike.values

  -- the same processes are active in both scenarios
  active_is_same : (p : ℕ) → p < process_count g → active g s.values p ≡ active g u.values p
  active_is_same p below = ap is_active (activation_is_same p below)

  -- the same edges are live in both scenarios
  live_is_same : (e : ℕ) → e < edge_count g → live g s.values e ≡ live g u.values e
  live_is_same e below = live_same g urgency lawful s.values u.values e below
      (activation_is_same (source g e) (source_in_order g urgency lawful e below))
      (λ c c_below at acts. alike.values c c_below (subst (λ q. active g s.values q ≡ true) (sym at) acts))

  -- the same conditions decide a process in both scenarios
  deciding_is_same : (p : ℕ) → deciding g s.values p ≡ deciding g u.values p
  deciding_is_same p = deciding_same g urgency urgent p s.values u.values
      (λ c below decides_p. alike.values c below
      (deciding_is_active g urgency urgent lawful s.values p c below decides_p))

  -- the same items are active in both scenarios
  item_is_same : (x : ℕ) → ItemCases g x → item_active g s.values (item_at g x) ≡ item_active g u.values (item_at g x)
  item_is_same x (inl as_start) =
      ap (item_active g s.values) as_start.1 ∙ active_is_same x as_start.0
      ∙ sym (ap (item_active g u.values) as_start.1)
  item_is_same x (inr (inl as_message)) = ap (item_active g s.values) as_message.3
      ∙ ap (λ b. is_sent_item g (Message as_message.0) && b) (live_is_same as_message.0 as_message.1)
      ∙ sym (ap (item_active g u.values) as_message.3)
  item_is_same x (inr (inr as_broadcast)) = ap (item_active g s.values) as_broadcast.3
      ∙ ap (λ b. is_sent_item g (Broadcast as_broadcast.0) && b)
      (active_is_same (process_of g as_broadcast.0) (process_of_below g as_broadcast.0 as_broadcast.1)) ∙
      sym (ap (item_active g u.values) as_broadcast.3)

  module _ (order : List ℕ) (topological : IsTopological g order) (frozen : List (Option ℕ)) (t : Times) where
    -- a start waits for the same in both scenarios: the same inputs are live, the same processes active, and the same
    -- conditions decide
    start_same : (p : ℕ) → start_bounds g order s t p ≡ start_bounds g order u t p
    start_same p = ap (λ xs. (process_at g p).release ∷ xs) (ap₂ ◌++◌
        (ap₂ ◌++◌
        (ap (map (input_there g t)) (same_filter (live g s.values) (live g u.values) (inputs g p)
        (λ e is_input. live_is_same e (inputs_parts g p e is_input).0)))
        (ap (map (end_in t)) (same_filter (active g s.values) (active g u.values) (before_on_node g order p)
        (λ q is_before.
        active_is_same q (from_order (process_count g) order topological.all q
        (on_node_before g order p q is_before).0)))))
        (ap (map (heard_there g t (node_of g p))) (same_flat_map (deciding g s.values) (deciding g u.values)
        (before_on_node g order p ++ p ∷ []) (λ q c. deciding_is_same q))))

    -- a send waits for the same in both scenarios
    send_same : (x : ℕ) → send_bounds g order s t x ≡ send_bounds g order u t x
    send_same x = ap (λ ys. next_slot g (home g x) (end_in t (producer g x)) ∷ map (λ y. time_in t y + round g) ys)
        (same_filter (λ y. item_active g s.values (item_at g y)) (λ y. item_active g u.values (item_at g y))
        (queued_before g order x)
        (λ y is_before. item_is_same y (item_cases g y (numbers-Contains (item_count g) y
        (Contains-filter_parts (λ (z : ℕ). is_queued_before g order z x) (numbers_below (item_count g)) y
        is_before).0))))

    -- the bounds of an item are the same in both scenarios
    bounds_same : (x : ℕ) → ItemCases g x →
        bounds_of_item g order s t x (item_at g x) ≡ bounds_of_item g order u t x (item_at g x)
    bounds_same x (inl as_start) =
        ap (bounds_of_item g order s t x) as_start.1 ∙ start_same x ∙ sym (ap (bounds_of_item g order u t x) as_start.1)
    bounds_same x (inr (inl as_message)) =
        ap (bounds_of_item g order s t x) as_message.3 ∙ send_same x
        ∙ sym (ap (bounds_of_item g order u t x) as_message.3)
    bounds_same x (inr (inr as_broadcast)) =
        ap (bounds_of_item g order s t x) as_broadcast.3 ∙ send_same x
        ∙ sym (ap (bounds_of_item g order u t x) as_broadcast.3)

    -- so each item has the same time
    time_same : (x : ℕ) → x < item_count g → time_by g order frozen s t x ≡ time_by g order frozen u t x
    time_same x below =
        ap₂ (λ b xs. if b then Some (greatest (greatest xs ∷ option_to_list (get_or frozen x None))) else None)
        (item_is_same x (item_cases g x below)) (bounds_same x (item_cases g x below))

    module _ (run : IsRun g order frozen s t) where
      -- each process has the same end: an active one has the same faults, and an inactive one has no start
      end_same : (p : ℕ) → p < process_count g → end_by g s t p ≡ end_by g u t p
      end_same p below = elim (cases_Bool (active g s.values p)) [
        | inl acts ↦
            ap (λ f. option_map (λ start. start + duration g p f) (get_or t.times p None)) (alike.faults p below acts)
        | inr idle ↦
            let none : get_or t.times p None ≡ None = time_is g order frozen s t run p (omega arith)
            ∙ cond-false _ _ _ (ap (item_active g s.values) (item_at-start g p below) ∙ idle) in
            ap (option_map (λ start. start + duration g p (fault_of s p))) none
            ∙ sym (ap (option_map (λ start. start + duration g p (fault_of u p))) none)
      ]

      -- a run of the first of these scenarios is one of the second
      pub run_of_alike : IsRun g order frozen u t
      run_of_alike = record {
        times = run.times ∙ same_map (time_by g order frozen s t) (time_by g order frozen u t)
            (numbers_below (item_count g)) (λ x listed. time_same x (numbers-Contains (item_count g) x listed));
        ends = run.ends ∙ same_map (end_by g s t) (end_by g u t) (numbers_below (process_count g))
            (λ p listed. end_same p (numbers-Contains (process_count g) p listed));
        finish = run.finish;
      }

-- scenarios with the same active numbers have the same runs
pub same_runs : (g : Graph) (urgency : List ℕ) → IsUrgencyOrder g urgency → IsTopological g urgency → (s u : Scenario) →
    active_numbers g s ≡ active_numbers g u →
    HaveSameRuns g s u
same_runs g urgency urgent lawful s u same = record {
  onward = λ order frozen t topological run.
      run_of_alike g urgency urgent lawful s u (alike_from_numbers g s u same) order topological frozen t run;
  back = λ order frozen t topological run.
      run_of_alike g urgency urgent lawful u s (alike_from_numbers g u s (sym same)) order topological frozen t run;
}
