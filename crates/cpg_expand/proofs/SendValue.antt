-- The time that the trees give an item that isn't frozen is its time in the run.
use Rattle.std.proofs.Common.{ℕ, ◌^◌, ◌<◌, ◌≡◌, max, Bool, true, false, if◌then◌else◌, List, length, get_or, Option}
use Rattle.std.proofs.Common.{Some, None, unwrap_or, arith, lt-ltb, refl, sym, ap, ◌∙◌}
use Rattle.std.proofs.lemmas.Bool.{cond-true, cond-false}
use Rattle.cpg_base.specs.Graph.{Graph, process_count, item_count, item_at, node_of}
use Rattle.cpg_base.specs.Activity.{active, item_active}
use Rattle.cpg_base.specs.Bus.{next_slot}
use Rattle.cpg_bus.specs.Plan.{queue_of}
use Rattle.cpg_bus.specs.Share.{ShareState, share_of, next_of}
use Rattle.cpg_bus.proofs.Queued.{in_queue}
use Rattle.cpg_order.specs.Urgency.{IsTopological}
use Rattle.cpg_base.specs.Scenario.{Scenario}
use Rattle.cpg_run.specs.Run.{Times, IsRun, time_in, end_in}
use Rattle.cpg_run.specs.Known.{AreSmall, frozen_in}
use Rattle.cpg_run.specs.Most.{IsMost}
use Rattle.cpg_run.specs.Progress.{IsSentBy, free_after}
use Rattle.cpg_run.proofs.Runs.{time_is, has_time, has_end}
use Rattle.cpg_run.proofs.Sends.{send_is, here_sent}
use Rattle.cpg_tree_times.specs.Values.{slot_from}

-- if there is an end below 2 ^ 59, the first free slot is the first one from it on, or `free` if that is later
slot_after : (share : ShareState) (free end : ℕ) (o : Option ℕ) → o ≡ Some end → end < 2 ^ 59 →
    slot_from share free o ≡ Some (max (next_of share end) free)
slot_after share free end o is early =
    ap (slot_from share free) is ∙ cond-true _ (Some (max (next_of share end) free)) None (lt-ltb end (2 ^ 59) early)

-- given: a run, an item that is not frozen, and from when on the slots of its node are free
-- `s`, `frozen`, `t`, `run`: a scenario and its run under frozen times; `p`, `l`, `k`, `inside`: the k-th item that p
-- sends
-- `free`, `is_free`: from when on its slots are free; `thawed`: the item has no frozen time
module _ (g : Graph) (order : List ℕ) (topological : IsTopological g order) (s : Scenario) (p : ℕ)
    (l : p < process_count g) (frozen : List (Option ℕ)) (t : Times) (run : IsRun g order frozen s t)
    (k : ℕ) (inside : k < length (queue_of g p)) (free : ℕ) (is_free : IsMost (IsSentBy g order s p k)
    (free_after g t) free) (thawed : get_or frozen (get_or (queue_of g p) k 0) None ≡ None) where
  -- the k-th item that p sends
  abbrev here : ℕ
  here = get_or (queue_of g p) k 0

  -- if the item is active, its time is the later of the first slot from its producer's end on and of when slots are
  -- free
  slot_is : item_active g s.values (item_at g here) ≡ true →
      max (next_slot g (node_of g p) (end_in t p)) free ≡ time_in t here
  slot_is acts =
      let is = send_is g order topological s p l k inside frozen t run free is_free acts in
      let none : frozen_in frozen here ≡ 0 = ap (λ o. unwrap_or o 0) thawed in
      omega (arith, is, none)

  -- the time that the trees give is the run's
  pub send_value : AreSmall t → (item_active g s.values (item_at g here) ≡ true → active g s.values p ≡ true) →
      (if item_active g s.values (item_at g here) then slot_from (share_of g (node_of g p)) free (get_or t.ends p None)
      else None) ≡ get_or t.times here None
  send_value small acts_by = go (item_active g s.values (item_at g here)) refl
    where
      -- it is an item of the graph
      within : here < item_count g
      within = (in_queue g p here (here_sent g order topological s p l k inside)).within

      -- if p is active, it has an end in the run
      has_its_end : active g s.values p ≡ true → get_or t.ends p None ≡ Some (end_in t p)
      has_its_end acts =
          let is = has_end g order frozen s t run p l acts in
          is ∙ ap (λ n. Some n) (sym (ap (λ o. unwrap_or o 0) is))

      -- by whether the item is active: only then is it sent, in the first free slot after p's end
      go : (b : Bool) → item_active g s.values (item_at g here) ≡ b →
          (if b then slot_from (share_of g (node_of g p)) free (get_or t.ends p None) else None)
          ≡ get_or t.times here None
      go true on = slot_after (share_of g (node_of g p)) free (end_in t p) (get_or t.ends p None)
          (has_its_end (acts_by on)) (small.ends p)
          ∙ ap (λ n. Some n) (slot_is on) ∙ sym (has_time g order frozen s t run here within on)
      go false off = sym (time_is g order frozen s t run here within ∙ cond-false _ _ _ off)
