-- The time of a start that isn't frozen is the greatest of its bounds, so all that it waits for is no later.
use Rattle.std.proofs.Common.{ℕ, ◌<◌, ◌≤◌, ◌≡◌, true, List, [], ◌∷◌, ◌++◌, flat_map, filter, Contains, eq-eqb, eqb-true}
use Rattle.std.proofs.Common.{◌==◌, ap}
use Rattle.std.proofs.lemmas.List.Elements.{Contains-append_left, Contains-append_right}
use Rattle.cpg_base.specs.Numbers.{greatest, numbers_below}
use Rattle.cpg_base.specs.Graph.{Graph, process_at, process_count, condition_count, node_of}
use Rattle.cpg_base.specs.Activity.{active}
use Rattle.cpg_base.proofs.Items.{item_at-start}
use Rattle.cpg_base.proofs.Lists.{greatest-le, greatest_above, Contains-first, Contains-rest, Contains-map}
use Rattle.cpg_base.proofs.Lists.{Contains-filter, Contains-filter_parts, Contains-flat_map, Contains-numbers}
use Rattle.cpg_order.specs.Urgency.{IsTopological}
use Rattle.cpg_base.specs.Order.{place, before, before_on_node}
use Rattle.cpg_order.specs.Deciding.{decides, deciding}
use Rattle.cpg_base.specs.Scenario.{Scenario}
use Rattle.cpg_base.proofs.Places.{Contains-order, Contains-before, from_order, on_node_before}
use Rattle.cpg_run.specs.Run.{Times, end_in, heard_there, input_bounds, processor_bounds, hearing_bounds, start_bounds}
use Rattle.cpg_run.specs.Run.{bounds_of_item, unfrozen_time}

-- given: a process, an order of the graph, and times of one scenario
-- `order`, `topological`: the order; `s`, `t`: the scenario and its times; `p`: the process
module _ (g : Graph) (order : List ℕ) (topological : IsTopological g order) (s : Scenario) (t : Times) (p : ℕ) where
  -- the start that p would have if it weren't frozen
  abbrev least_start : ℕ
  least_start = greatest (start_bounds g order s t p)

  -- each bound of the start is no later
  bound : (b : ℕ) → Contains (start_bounds g order s t p) b → b ≤ least_start
  bound b listed = greatest_above (start_bounds g order s t p) b listed

  -- a process of p's node that stands before p is among those before p on its node
  pub before_in : (q : ℕ) → q < process_count g → place order q < place order p → node_of g q ≡ node_of g p →
      Contains (before_on_node g order p) q
  before_in q below less same =
      Contains-filter (λ (u : ℕ). node_of g u == node_of g p) (before order p) q (eq-eqb _ _ same)
      (Contains-before order q p (Contains-order (process_count g) order topological.all q below) less)

  -- each of those before p on its node is a process of p's node that stands before p
  pub before_parts : (q : ℕ) → Contains (before_on_node g order p) q →
      (q < process_count g) × (place order q < place order p) × (node_of g q ≡ node_of g p)
  before_parts q listed =
      let before_p = on_node_before g order p q listed in (
        from_order (process_count g) order topological.all q before_p.0,
        before_p.1,
        eqb-true _ _ (Contains-filter_parts (λ (u : ℕ). node_of g u == node_of g p) (before order p) q listed).1,
      )

  -- the release is one of the bounds, so it is no later than their greatest
  pub release_in : (process_at g p).release ≤ greatest (start_bounds g order s t p)
  release_in = bound (process_at g p).release (Contains-first _ _)

  -- no live input is there later than the greatest of the bounds
  pub inputs_in : greatest (input_bounds g s t p) ≤ greatest (start_bounds g order s t p)
  inputs_in = greatest-le (input_bounds g s t p) least_start (λ v listed. bound v
      (Contains-rest _ _ _ (Contains-append_left (input_bounds g s t p ++ processor_bounds g order s t p)
      (hearing_bounds g order s t p) v
      (Contains-append_left (input_bounds g s t p) (processor_bounds g order s t p) v listed))))

  -- no active process before p on its node ends later than the greatest of the bounds
  pub end_in_bounds : (q : ℕ) → Contains (before_on_node g order p) q → active g s.values q ≡ true →
      end_in t q ≤ greatest (start_bounds g order s t p)
  end_in_bounds q listed acts = bound (end_in t q)
      (Contains-rest _ _ _ (Contains-append_left (input_bounds g s t p ++ processor_bounds g order s t p)
      (hearing_bounds g order s t p) (end_in t q)
      (Contains-append_right (input_bounds g s t p) (processor_bounds g order s t p) (end_in t q)
      (Contains-map (end_in t) (filter (active g s.values) (before_on_node g order p)) q
      (Contains-filter (active g s.values) (before_on_node g order p) q acts listed)))))

  -- no condition that decides one of these or p is heard on the node later than the greatest of the bounds
  pub heard_in_bounds : (q c : ℕ) → Contains (before_on_node g order p ++ p ∷ []) q → c < condition_count g →
      decides g s.values q c ≡ true →
      heard_there g t (node_of g p) c ≤ greatest (start_bounds g order s t p)
  heard_in_bounds q c listed below decides_c = bound (heard_there g t (node_of g p) c)
      (Contains-rest _ _ _ (Contains-append_right (input_bounds g s t p ++ processor_bounds g order s t p)
      (hearing_bounds g order s t p) (heard_there g t (node_of g p) c)
      (Contains-map (heard_there g t (node_of g p))
      (flat_map (deciding g s.values) (before_on_node g order p ++ p ∷ [])) c
      (Contains-flat_map (deciding g s.values) (before_on_node g order p ++ p ∷ []) q c listed
      (Contains-filter (decides g s.values q) (numbers_below (condition_count g)) c decides_c
      (Contains-numbers (condition_count g) c below))))))

  -- the greatest of the bounds is the time that p's start would have if it weren't frozen
  pub unfrozen_is : p < process_count g → unfrozen_time g order s t p ≡ greatest (start_bounds g order s t p)
  unfrozen_is below = ap (λ j. greatest (bounds_of_item g order s t p j)) (item_at-start g p below)
