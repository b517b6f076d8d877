-- What is found before a place depends only on the frozen times of the items of processes at earlier places.
use Rattle.std.proofs.Common.{◌≡◌, ◌∙◌, ℕ, ◌+◌, ◌*◌, ◌<◌, ◌≤◌, ◌==◌, true, if◌then◌else◌, List, get_or, Option, None}
use Rattle.std.proofs.Common.{unwrap_or, arith, sym, ap, ap₂, inl, inr, subst, mul-le-mul_right}
use Rattle.std.proofs.lemmas.Bool.{cases_lt}
use Rattle.cpg_base.specs.Graph.{Graph, process_count, condition_count, item_count, item_at, broadcast_item, producer}
use Rattle.cpg_base.specs.Graph.{process_of, node_of, home}
use Rattle.cpg_base.specs.Bus.{round, slot_length}
use Rattle.cpg_base.proofs.Items.{process_of_below, item_at-broadcast}
use Rattle.cpg_order.specs.Urgency.{IsTopological}
use Rattle.cpg_base.specs.Order.{place}
use Rattle.cpg_base.specs.Scenario.{Scenario}
use Rattle.cpg_order.specs.Deciding.{decides}
use Rattle.cpg_order.proofs.DecidingLaws.{decides_earlier}
use Rattle.cpg_order.proofs.Moments.{phase, phases, phase_below, moment, moment_of_item, moment_of_end, sooner}
use Rattle.cpg_run.specs.Run.{Times, end_in, heard_there}
use Rattle.cpg_run.proofs.RunExists.{a_run}
use Rattle.cpg_run.proofs.RunUnique.{AgreeBefore, agree_before}
use Rattle.cpg_run.specs.Progress.{IsSentBefore, IsFree, IsReady, Knows, IsAt, ProgressState, IsAlong, free_after}

-- over plain numbers: a moment before the first of the place i, i * m, belongs to an earlier place
pub earlier_place : (a i f m : ℕ) → a * m + f < i * m → a < i
earlier_place a i f m before_i =
    elim (cases_lt a i) [
      | inl by_place ↦ by_place
      | inr by_place ↦ absurd (let product = mul-le-mul_right m by_place in omega arith)
    ]

module _ (g : Graph) (order : List ℕ) (topological : IsTopological g order) where
  -- given: two lists of times that agree before the first moment of place i
  module _ (s : Scenario) (t u : Times) (i : ℕ) (a : AgreeBefore g order t u (i * phases g)) where
    -- the items of a process before the place have their moments before the place begins
    pub item_before : (x : ℕ) → x < item_count g → place order (producer g x) < i → moment g order x < i * phases g
    item_before x below less = sooner (place order (producer g x)) i (phase (item_at g x))
        (phases g) less (phase_below g x below)

    -- the end of a process before the place has its moment before the place begins
    pub end_before : (p : ℕ) → place order p < i → moment_of_end g order p < i * phases g
    end_before p less = sooner (place order p) i 1 (phases g) less (omega arith)

    -- the broadcast of a condition of a process before the place has its moment before the place begins
    broadcast_before : (c : ℕ) → place order (process_of g c) < i → moment g order (broadcast_item g c) < i * phases g
    broadcast_before c less = subst (λ x. moment_of_item g order x < i * phases g) (sym (item_at-broadcast g c))
        (sooner (place order (process_of g c)) i 2 (phases g) less (omega arith))

    -- a process before the place has the same end in both
    end_same : (p : ℕ) → p < process_count g → place order p < i → end_in t p ≡ end_in u p
    end_same p below less = ap (λ o. unwrap_or o 0) (a.ends p below (end_before p less))

    -- a condition that decides a process before the place is heard by a node at the same time in both runs
    heard_same : (node q c : ℕ) → place order q < i → c < condition_count g → decides g s.values q c ≡ true →
        heard_there g t node c ≡ heard_there g u node c
    heard_same node q c less below is_true =
        let up : place order (process_of g c) < i =
        omega (arith, decides_earlier g order topological s.values q c below is_true) in
        ap₂ (λ v w. if node_of g (process_of g c) == node then v else w)
        (end_same (process_of g c) (process_of_below g c below) up)
        (ap (λ o. unwrap_or o 0 + slot_length g (home g (broadcast_item g c)))
        (a.items (broadcast_item g c) (omega arith) (broadcast_before c up)))

    -- the time from which an item sent before the place leaves the slots free is the same in both
    after_same : (node y : ℕ) → IsSentBefore g order s node i y → free_after g t y ≡ free_after g u y
    after_same node y b = ap (λ o. unwrap_or o 0 + round g) (a.items y b.0.within (item_before y b.0.within b.1))

    -- what is known of the one before the place is known of the other
    knows_same : (known : Times) → Knows g order t i known → Knows g order u i known
    knows_same known k = record {
      times = λ x h l. k.times x h l ∙ a.items x h (item_before x h l);
      later = k.later;
      ends = λ p h l. k.ends p h l ∙ a.ends p h (end_before p l);
      no_ends = k.no_ends;
    }

    -- a node that is ready by a time in one run is so in the other
    pub ready_same : (node v : ℕ) → IsReady g order s t i node v → IsReady g order s u i node v
    ready_same node v r = record {
      ends = λ q h l on acts. subst (λ n. n ≤ v) (end_same q h l) (r.ends q h l on acts);
      heard = λ q c h l on k d. subst (λ n. n ≤ v) (heard_same node q c l k d) (r.heard q c h l on k d);
      least = λ b x y. r.least b (λ q h l on acts. subst (λ n. n ≤ b) (sym (end_same q h l)) (x q h l on acts))
          (λ q c h l on k d. subst (λ n. n ≤ b) (sym (heard_same node q c l k d)) (y q c h l on k d));
    }

    -- if a node's slots are free from a time on in one run, they are so in the other
    pub free_same : (node v : ℕ) → IsFree g order s t i node v → IsFree g order s u i node v
    free_same node v f = record {
      above = λ y b. subst (λ n. n ≤ v) (after_same node y b) (f.above y b);
      least = λ b h. f.least b (λ y k. subst (λ n. n ≤ b) (sym (after_same node y k)) (h y k));
    }

    -- all that holds before the place in one run holds before it in the other
    at_same : (known : Times) (ready free : List ℕ) → IsAt g order s t i known ready free →
        IsAt g order s u i known ready free
    at_same known ready free at = record {
      knows = knows_same known at.knows;
      nodes_ready = λ node l. ready_same node (get_or ready node 0) (at.nodes_ready node l);
      slots_free = λ node l. free_same node (get_or free node 0) (at.slots_free node l);
    }

  -- what is found before a place stays right if the frozen times of the items before it stay the same
  pub along_same : (frozen others : List (Option ℕ)) (s : Scenario) (i : ℕ) (p : ProgressState)
      → ((x : ℕ) → x < item_count g → place order (producer g x) < i → get_or frozen x None ≡ get_or others x None) →
      IsAlong g order frozen s i p → IsAlong g order others s i p
  along_same frozen others s i p same along = record {
    places = along.places;
    at = λ u run.
        let found_run = a_run g order frozen s topological in
        at_same s found_run.0 u i (agree_before g order topological s found_run.0 u frozen others found_run.1 run
        (i * phases g)
        (λ x below earlier. same x below
        (earlier_place (place order (producer g x)) i (phase (item_at g x)) (phases g) earlier)))
        p.known p.ready p.free (along.at found_run.0 found_run.1);
  }
