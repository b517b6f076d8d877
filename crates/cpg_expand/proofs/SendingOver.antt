-- Whether the trees give the run of what is done rests only on the frozen times of what is done.
use Rattle.std.proofs.Common.{ℕ, ◌+◌, ◌*◌, ◌<◌, ◌≤◌, ◌≡◌, ◌==◌, true, if◌then◌else◌, List, length, take, get_or}
use Rattle.std.proofs.Common.{Contains, Option, unwrap_or, ◌⊎◌, arith, sym, ap, ap₂, ◌∙◌, subst, inl, inr}
use Rattle.std.proofs.lemmas.Bool.{cases_lt}
use Rattle.std.proofs.lemmas.List.Elements.{Contains-get_or}
use Rattle.cpg_base.specs.Bus.{round, slot_length}
use Rattle.cpg_base.specs.Graph.{Graph, process_count, condition_count, item_count, item_at, broadcast_item, producer}
use Rattle.cpg_base.specs.Graph.{process_of, node_of, home}
use Rattle.cpg_base.proofs.Items.{process_of_below}
use Rattle.cpg_bus.specs.Plan.{queue_of}
use Rattle.cpg_bus.proofs.Queued.{in_queue, below_first, rank_at, queue_rises}
use Rattle.cpg_order.specs.Deciding.{decides}
use Rattle.cpg_order.specs.Queue.{rank_of_item}
use Rattle.cpg_base.specs.Scenario.{Scenario}
use Rattle.cpg_order.specs.Urgency.{IsTopological}
use Rattle.cpg_base.specs.Order.{place}
use Rattle.cpg_order.proofs.DecidingLaws.{decides_earlier}
use Rattle.cpg_order.proofs.Moments.{phase, phases, phase_below, phase_is_rank, moment, moment_of_end, moment_of_start}
use Rattle.cpg_order.proofs.Moments.{sooner, broadcast_sooner, end_sooner}
use Rattle.cpg_cube.specs.declared.column.Column.{Column}
use Rattle.cpg_run.specs.Run.{Times, end_in, heard_there}
use Rattle.cpg_run.specs.Carried.{carried, carried_at_end}
use Rattle.cpg_run.specs.Most.{IsMost}
use Rattle.cpg_run.specs.Progress.{IsReady, IsSentBy, free_after}
use Rattle.cpg_run.proofs.Agreeing.{free_same}
use Rattle.cpg_run.proofs.RunUnique.{AgreeBefore, agree_sooner}
use Rattle.cpg_run.proofs.Sends.{Contains-take}
use Rattle.cpg_expand.specs.Agreeing.{HasValueFrom}
use Rattle.cpg_expand.specs.Forest.{ForestState, times_of, ends_of}
use Rattle.cpg_expand.specs.Grown.{SendLines, IsDone}

-- given: an item that a process sends
-- `order`, `topological`: an order of the graph; `p`, `l`: a process; `k`, `inside`: the k-th item that it sends
module _ (g : Graph) (order : List ℕ) (topological : IsTopological g order) (p : ℕ) (l : p < process_count g) (k : ℕ)
    (inside : k < length (queue_of g p)) where
  -- the k-th item that p sends
  abbrev here : ℕ
  here = get_or (queue_of g p) k 0

  -- it is in p's queue
  in_here : Contains (queue_of g p) here
  in_here = Contains-get_or (queue_of g p) k 0 inside

  -- the moment of an item that p sends, by its rank
  moment_of_sent : (x : ℕ) → Contains (queue_of g p) x →
      moment g order x ≡ place order p * phases g + (rank_of_item (item_at g x) + 2)
  moment_of_sent x queued = let its_queue = in_queue g p x queued in
      ap₂ (λ r f. place order r * phases g + f) its_queue.by (phase_is_rank g (item_at g x) its_queue.sent)

  -- what is done has an earlier moment than the item
  pub done_sooner : (x : ℕ) → x < item_count g → IsDone g order p k x → moment g order x < moment g order here
  -- a process before p has earlier moments, p's start comes before its sends, and an earlier item of its queue has a
  -- lesser rank
  done_sooner x below (inl earlier) =
      let at = moment_of_sent here in_here in
      let less : moment g order x < place order p * phases g =
      sooner (place order (producer g x)) (place order p) (phase (item_at g x)) (phases g) earlier
      (phase_below g x below) in
      omega (arith, at, less)
  done_sooner x below (inr (inl e)) =
      let at = moment_of_sent here in_here in
      let own = ap (moment g order) e ∙ moment_of_start g order topological p l in
      omega (arith, at, own)
  done_sooner x below (inr (inr queued)) =
      let at = moment_of_sent here in_here in
      let own = moment_of_sent x (Contains-take k (queue_of g p) x queued) in
      let less : rank_of_item (item_at g x) < rank_of_item (item_at g here) =
      below_first (rank_at g) (queue_of g p) (queue_rises g p) k inside x queued in
      omega (arith, at, own, less)

  -- given: the times of two runs that agree before the item's moment
  module _ (s : Scenario) (t u : Times) (agreed : AgreeBefore g order t u (moment g order here)) where
    -- the times agree up to p's place, which ranks before the item
    before_place : AgreeBefore g order t u (place order p * phases g)
    before_place = let at = moment_of_sent here in_here in
        agree_sooner g order t u (place order p * phases g) (moment g order here) (omega (arith, at)) agreed

    -- the end of p, or of a process before it, ranks before the item
    end_before : (q : ℕ) → place order q < place order p + 1 → moment_of_end g order q < moment g order here
    -- an earlier process ends before p's first moment, and p before its first send
    end_before q less =
        let at = moment_of_sent here in_here in
        elim (cases_lt (place order q) (place order p)) [
          | inl before ↦ let ends_sooner : moment_of_end g order q < place order p * phases g =
              end_sooner g order topological p q before in
              omega (arith, at, ends_sooner)
          | inr not_before ↦ let same : place order q ≡ place order p = omega (arith, less, not_before) in
              let same_moment = ap (λ n. n * phases g + 1) same in
              omega (arith, at, same_moment)
        ]

    -- so such an end is the same in both runs
    end_over : (q : ℕ) → q < process_count g → place order q < place order p + 1 → end_in t q ≡ end_in u q
    end_over q below less = ap (λ o. unwrap_or o 0) (agreed.ends q below (end_before q less))

    -- in both runs a node hears a condition that decides such a process at the same time
    heard_over : (node q c : ℕ) → place order q < place order p + 1 → c < condition_count g →
        decides g s.values q c ≡ true →
        heard_there g t node c ≡ heard_there g u node c
    -- its process stands before p, so its end and its broadcast are the same in both runs
    heard_over node q c less low decided =
        let earlier = decides_earlier g order topological s.values q c low decided in
        let up : place order (process_of g c) < place order p = omega (arith, earlier, less) in
        ap₂ (λ v w. if node_of g (process_of g c) == node then v else w)
        (end_over (process_of g c) (process_of_below g c low) (omega (arith, up)))
        (ap (λ o. unwrap_or o 0 + slot_length g (home g (broadcast_item g c)))
        (before_place.items (broadcast_item g c) (omega arith) (broadcast_sooner g order topological p c up)))

    -- in both runs a node is ready behind p at the same time
    ready_over : (node v : ℕ) → IsReady g order s t (place order p + 1) node v →
        IsReady g order s u (place order p + 1) node v
    ready_over node v ready = record {
      ends = λ q below less on acts. subst (λ n. n ≤ v) (end_over q below less) (ready.ends q below less on acts);
      heard = λ q c below less on low decided. subst (λ n. n ≤ v) (heard_over node q c less low decided)
          (ready.heard q c below less on low decided);
      least = λ b ends_below hearing_below. ready.least b
          (λ q below less on acts. subst (λ n. n ≤ b) (sym (end_over q below less)) (ends_below q below less on acts))
          (λ q c below less on low decided. subst (λ n. n ≤ b) (sym (heard_over node q c less low decided))
          (hearing_below q c below less on low decided));
    }

    -- in both runs the slots are free at the same time after an item that is sent before this one
    after_over : (y : ℕ) → IsSentBy g order s p k y → free_after g t y ≡ free_after g u y
    after_over y sent = ap (λ o. unwrap_or o 0 + round g)
        (agreed.items y sent.0.within (done_sooner y sent.0.within (done sent.1)))
      where
        -- an item of an earlier process, or one of p's first k, is done
        done : (place order (producer g y) < place order p) ⊎ Contains (take k (queue_of g p)) y → IsDone g order p k y
        done (inl e) = inl e
        done (inr c) = inr (inr c)

    -- so in both runs the slots are free for this item at the same time
    free_over : (v : ℕ) → IsMost (IsSentBy g order s p k) (free_after g t) v →
        IsMost (IsSentBy g order s p k) (free_after g u) v
    free_over v most = record {
      above = λ y sent. subst (λ n. n ≤ v) (after_over y sent) (most.above y sent);
      least = λ bound all_below. most.least bound
          (λ y sent. subst (λ n. n ≤ bound) (sym (after_over y sent)) (all_below y sent));
    }

    -- the lines of one run are those of another that agrees before the item
    pub send_lines_over : (rows : List (List Column)) (f : ForestState) → SendLines g order rows s t p k f →
        SendLines g order rows s u p k f
    -- line by line: what comes before the item has the same times in both runs
    send_lines_over rows f lines = record {
      times = λ x below done. subst (λ (o : Option ℕ). HasValueFrom s (carried g order rows s x) o (times_of g f x))
          (agreed.items x below (done_sooner x below done)) (lines.times x below done);
      ends = λ q below less. subst
          (λ (o : Option ℕ). HasValueFrom s (carried_at_end g order rows s q) o (ends_of g f q))
          (agreed.ends q below (end_before q less)) (lines.ends q below less);
      ready = λ node below waited. let line = lines.ready node below waited in
          record { time = line.time; is = ready_over node line.time line.is; has_value = line.has_value };
      here = λ waited. let line = lines.here waited in
          record { time = line.time; is = free_over line.time line.is; has_value = line.has_value };
      free = λ node below other waited. let line = lines.free node below other waited in record {
        time = line.time;
        is = free_same g order topological s t u (place order p) before_place node line.time line.is;
        has_value = line.has_value;
      };
    }
