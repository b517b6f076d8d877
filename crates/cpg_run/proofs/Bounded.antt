-- A number bounds all that a start or a send waits for, if it bounds each kind of it.
use Rattle.std.proofs.Common.{◌≡◌, ℕ, ◌+◌, ◌≤◌, true, List, [], ◌∷◌, ◌++◌, map, filter, flat_map, Contains, inl, inr}
use Rattle.std.proofs.Common.{subst}
use Rattle.std.proofs.lemmas.List.Elements.{Contains-append_cases}
use Rattle.cpg_base.specs.Numbers.{greatest}
use Rattle.cpg_base.specs.Graph.{Graph, process_at, item_at, node_of, inputs, home, producer}
use Rattle.cpg_base.specs.Activity.{active, live, item_active}
use Rattle.cpg_base.specs.Bus.{round, next_slot}
use Rattle.cpg_base.proofs.Lists.{greatest-le, Contains-cases, Contains-map_parts, Contains-filter_parts}
use Rattle.cpg_base.specs.Order.{before_on_node}
use Rattle.cpg_order.specs.Deciding.{deciding}
use Rattle.cpg_order.specs.Queue.{queued_before}
use Rattle.cpg_base.specs.Scenario.{Scenario}
use Rattle.cpg_run.specs.Run.{Times, time_in, end_in, input_there, heard_there, input_bounds, processor_bounds}
use Rattle.cpg_run.specs.Run.{hearing_bounds, start_bounds, send_bounds}

-- each element of `map f xs` is at most b, if f is at most b on the elements of xs
pub passing_le : (f : ℕ → ℕ) (xs : List ℕ) (v b : ℕ) → ((x : ℕ) → Contains xs x → f x ≤ b) → Contains (map f xs) v →
    v ≤ b
passing_le f xs v b each_within among =
    let from_element = Contains-map_parts f xs v among in
    subst (λ n. n ≤ b) from_element.2 (each_within from_element.0 from_element.1)

-- given: the times t of a scenario s
module _ (g : Graph) (order : List ℕ) (s : Scenario) (t : Times) where
  -- No bound of the start of p is after b, if none of the four kinds is: its release, a live input, the end of an active process
  -- before it on its node, and a condition that the node has to hear.
  pub start_bounds_le : (p b : ℕ) → (process_at g p).release ≤ b
      → ((e : ℕ) → Contains (inputs g p) e → live g s.values e ≡ true → input_there g t e ≤ b)
      → ((q : ℕ) → Contains (before_on_node g order p) q → active g s.values q ≡ true → end_in t q ≤ b)
      → ((c : ℕ) → Contains (flat_map (deciding g s.values) (before_on_node g order p ++ p ∷ [])) c →
      heard_there g t (node_of g p) c ≤ b)
      → greatest (start_bounds g order s t p) ≤ b
  start_bounds_le p b release arrived ended heard = greatest-le (start_bounds g order s t p) b
      (λ v c. elim (Contains-cases (process_at g p).release
      (input_bounds g s t p ++ processor_bounds g order s t p ++ hearing_bounds g order s t p) v c) [
        | inl is_head ↦ subst (λ n. n ≤ b) is_head release
        | inr rest ↦ elim (Contains-append_cases (input_bounds g s t p ++ processor_bounds g order s t p)
            (hearing_bounds g order s t p) v rest) [
              | inr in_right ↦ passing_le (heard_there g t (node_of g p)) _ v b heard in_right
              | inl early ↦
                  elim (Contains-append_cases (input_bounds g s t p) (processor_bounds g order s t p) v early) [
                    | inl in_left ↦ passing_le (input_there g t) (filter (live g s.values) (inputs g p)) v b
                        (λ e among.
                        let parts = Contains-filter_parts (live g s.values) (inputs g p) e among in
                        arrived e parts.0 parts.1) in_left
                    | inr in_right ↦ passing_le (end_in t) (filter (active g s.values) (before_on_node g order p)) v b
                        (λ o among.
                        let parts = Contains-filter_parts (active g s.values) (before_on_node g order p) o among in
                        ended o parts.0 parts.1) in_right
                  ]
            ]
      ])

  -- no bound of a send is after b, if neither the next slot after its producer's end is, nor a round after any active item before
  -- it in the queue
  pub send_bounds_le : (x b : ℕ) → next_slot g (home g x) (end_in t (producer g x)) ≤ b
      → ((y : ℕ) → Contains (queued_before g order x) y → item_active g s.values (item_at g y) ≡ true →
      time_in t y + round g ≤ b)
      → greatest (send_bounds g order s t x) ≤ b
  send_bounds_le x b next queued = greatest-le (send_bounds g order s t x) b
      (λ v c. elim (Contains-cases (next_slot g (home g x) (end_in t (producer g x))) _ v c) [
        | inl is_head ↦ subst (λ n. n ≤ b) is_head next
        | inr rest ↦ passing_le (λ y. time_in t y + round g)
            (filter (λ y. item_active g s.values (item_at g y)) (queued_before g order x)) v b
            (λ y among. let parts = Contains-filter_parts (λ y. item_active g s.values (item_at g y))
            (queued_before g order x) y among in queued y parts.0 parts.1) rest
      ])
