-- For times that keep the rules of a run but for the ends: from all that holds before a place, times, ends, ready nodes and
-- free slots, and what is found of the process there, follows the same before the next place.
use Rattle.std.proofs.Common.{◌≡◌, ◌∙◌, ℕ, ◌+◌, ◌≤◌, ◌<◌, max, true, false, List, length, get_or, set, Option, Some}
use Rattle.std.proofs.Common.{None, unwrap_or, arith, sym, ap, inl, inr, subst, get_or-set_same}
use Rattle.std.proofs.Common.{get_or-set_other}
use Rattle.std.proofs.lemmas.Bool.{cases_eq}
use Rattle.cpg_base.specs.Numbers.{greatest}
use Rattle.cpg_base.specs.Graph.{Graph, process_count, condition_count, item_count, process_at, node_of}
use Rattle.cpg_base.specs.Activity.{active}
use Rattle.cpg_order.specs.Urgency.{IsTopological}
use Rattle.cpg_base.specs.Order.{place}
use Rattle.cpg_order.specs.Deciding.{decides}
use Rattle.cpg_base.specs.Scenario.{Scenario}
use Rattle.cpg_latest.specs.Timed.{IsTimed}
use Rattle.cpg_run.specs.Run.{Times, time_in, end_in, heard_there, input_bounds}
use Rattle.cpg_run.specs.Known.{frozen_in}
use Rattle.cpg_run.specs.Most.{IsMost}
use Rattle.cpg_bus.specs.Plan.{queue_of}
use Rattle.cpg_run.specs.Progress.{IsFree, IsReady, IsAt, CanSend, HasSent, KeepsEnds}
use Rattle.cpg_bus.proofs.Queued.{in_queue}
use Rattle.cpg_latest.proofs.TimedStarts.{decided_in_run, start_is}
use Rattle.cpg_latest.proofs.TimedSteps.{ready_other, ready_idle, ready_active, free_other, free_idle, free_here}
use Rattle.cpg_latest.proofs.TimedSteps.{knows_idle, knows_active}

-- given: what is known of the times t before the place i of the process p, and when p's node has heard what decides p
-- `run`: t keeps the rules of a run; `at`, `on`: p is at i, on a node of the graph; `a`, `long`, `far`: what is known;
-- `is_heard`: by what is known, the node has heard all that decides p at `heard`
module _ (g : Graph) (order : List ℕ) (topological : IsTopological g order) (frozen : List (Option ℕ)) (s : Scenario)
    (t : Times) (run : IsTimed g order frozen s t)
    (i p : ℕ) (inside : p < process_count g) (at : place order p ≡ i) (on : node_of g p < length g.nodes)
    (known : Times) (readies frees : List ℕ) (a : IsAt g order s t i known readies frees)
    (long : length readies ≡ length g.nodes) (far : length frees ≡ length g.nodes)
    (heard : ℕ) (is_heard : IsMost (λ c. (c < condition_count g) × (decides g s.values p c ≡ true))
    (heard_there g known (node_of g p)) heard) where
  -- the node of the process
  abbrev node : ℕ
  node = node_of g p

  -- `heard` is also when the node has heard all of that in the times t
  heard_in_run : IsMost (λ c. (c < condition_count g) × (decides g s.values p c ≡ true))
      (heard_there g t (node_of g p)) heard
  heard_in_run = decided_in_run g order t i known a.knows topological s p inside at heard is_heard

  -- if v is when p's node is ready at the next place, the list with v for it says when each node is; the others stay
  readies_next : (v : ℕ) → IsReady g order s t (i + 1) (node_of g p) v → (n : ℕ) → n < length g.nodes →
      IsReady g order s t (i + 1) n (get_or (set readies (node_of g p) v) n 0)
  readies_next v ready n within = elim (cases_eq n (node_of g p)) [
    | inl e ↦ subst (λ z. IsReady g order s t (i + 1) z (get_or (set readies (node_of g p) v) z 0)) (sym e)
        (subst (IsReady g order s t (i + 1) (node_of g p))
        (sym (get_or-set_same readies (node_of g p) v 0 (omega arith))) ready)
    | inr other ↦ subst (IsReady g order s t (i + 1) n) (sym (get_or-set_other readies (node_of g p) n v 0 other))
        (ready_other g order topological frozen s t run i p inside at n (get_or readies n 0) other
        (a.nodes_ready n within))
  ]

  -- after an inactive process all is known before the next place, and its node is ready when it has heard what decides p too
  pub at_idle : (v : ℕ) → active g s.values p ≡ false → v ≡ max (get_or readies (node_of g p) 0) heard →
      IsAt g order s t (i + 1) known (set readies (node_of g p) v) frees
  at_idle v idle is = record {
    knows = knows_idle g order topological frozen s t run i p inside at known idle a.knows;
    nodes_ready = readies_next v (ready_idle g order topological frozen s t run i p inside at
        (get_or readies (node_of g p) 0) heard v idle is (a.nodes_ready (node_of g p) on) heard_in_run);
    slots_free =
        λ n k. free_idle g order topological frozen s t run i p inside at n (get_or frees n 0) idle (a.slots_free n k);
  }

  -- given: an active process, and the start that is found for it
  module _ (acts : active g s.values p ≡ true) (ready start : ℕ)
      (ready_at : ready ≡ max (get_or readies (node_of g p) 0) heard)
      (found : start ≡ max (max (max ready (process_at g p).release) (greatest (input_bounds g s known p)))
      (frozen_in frozen p)) where
    -- the start that is found is that of the times t
    pub start_right : start ≡ time_in t p
    start_right = found ∙ ap (λ r.
        max (max (max r (process_at g p).release) (greatest (input_bounds g s known p))) (frozen_in frozen p)) ready_at
        ∙ start_is g order t i known a.knows topological s p inside at frozen run acts
        (get_or readies (node_of g p) 0) heard
        (a.nodes_ready (node_of g p) on) is_heard

    module _ (end : ℕ) (after : start ≤ end) (end_right : end ≡ end_in t p) where
      -- given: the times once the start and the end of the process are set
      module _ (begun : Times) (times_long : length known.times ≡ item_count g)
          (ends_long : length known.ends ≡ process_count g)
          (started : begun.times ≡ set known.times p (Some start))
          (ended : begun.ends ≡ set known.ends p (Some end)) where
        -- once its start and its end are set, all is known that has to be before p sends
        pub can_send : (free : ℕ) → free ≡ get_or frees (node_of g p) 0 → CanSend g order s t p begun free
        can_send free is = record {
          ends = ap (λ es. unwrap_or (get_or es p None) 0) ended
              ∙ ap (λ o. unwrap_or o 0) (get_or-set_same known.ends p (Some end) None (omega arith)) ∙ end_right;
          none = λ x there. let own_item = in_queue g p x there in
              ap (λ ts. get_or ts x None) started
              ∙ get_or-set_other known.times p x (Some start) None (λ e. absurd (omega (arith, own_item.above)))
              ∙ a.knows.later x own_item.within (omega (arith, ap (place order) own_item.by));
          slots_free = subst (IsFree g order s t (place order p) (node_of g p)) (sym is)
              (subst (λ j. IsFree g order s t j (node_of g p) (get_or frees (node_of g p) 0)) (sym at)
              (a.slots_free (node_of g p) on));
        }

        -- once p has sent all, all is known before the next place: its node is ready at the end of p, and the node's slots are free
        -- after what p sent; other nodes stay as they are
        pub at_active : (new : Times) (free : ℕ) → HasSent g order s t p (length (queue_of g p)) begun new free →
            KeepsEnds begun new
            → IsAt g order s t (i + 1) new (set readies (node_of g p) end) (set frees (node_of g p) free)
        at_active new free sent keeps = record {
          knows = knows_active g order topological frozen s t run i p inside at acts known begun
              new start end free a.knows
              times_long ends_long started ended start_right end_right sent keeps;
          nodes_ready = readies_next end (ready_active g order topological frozen s t run i p inside at
              (get_or readies (node_of g p) 0) heard end acts end_right
              (omega (arith, ready_at, found, after)) (a.nodes_ready (node_of g p) on) heard_in_run);
          -- the slots of p's node are free after what p sent, and those of other nodes as before
          slots_free = λ n k. elim (cases_eq n (node_of g p)) [
            | inl e ↦ subst (λ z. IsFree g order s t (i + 1) z (get_or (set frees (node_of g p) free) z 0)) (sym e)
                (subst (IsFree g order s t (i + 1) (node_of g p))
                (sym (get_or-set_same frees (node_of g p) free 0 (omega arith)))
                (free_here g order topological frozen s t run i p inside at free sent.slots_free))
            | inr other ↦
                subst (IsFree g order s t (i + 1) n) (sym (get_or-set_other frees (node_of g p) n free 0 other))
                (free_other g order topological frozen s t run i p inside at n (get_or frees n 0)
                other (a.slots_free n k))
          ];
        }
