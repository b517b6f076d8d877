-- What is known after the last place is the run.
use Rattle.std.proofs.Common.{◌≡◌, ◌∙◌, ℕ, List, length, flat_map, Option, None, option_to_list, arith, sym, ap, subst}
use Rattle.std.proofs.lemmas.List.{ext_get_or}
use Rattle.std.proofs.lemmas.List.FromFn.{length-map-range_with_len}
use Rattle.cpg_base.specs.Numbers.{greatest}
use Rattle.cpg_base.specs.Graph.{Graph, process_count, item_count, producer}
use Rattle.cpg_order.specs.Urgency.{IsTopological}
use Rattle.cpg_base.specs.Scenario.{Scenario}
use Rattle.cpg_order.proofs.Moments.{producer_in_range}
use Rattle.cpg_base.proofs.Places.{place_in_order}
use Rattle.cpg_run.specs.Run.{Times, IsRun, time_by, end_by}
use Rattle.cpg_run.proofs.RunExists.{a_run}
use Rattle.cpg_run.specs.Progress.{Knows}

module _ (g : Graph) (order : List ℕ) where
  module _ (topological : IsTopological g order) (frozen : List (Option ℕ)) (s : Scenario) where
    -- times and ends that are those of a run are the run, with its finish
    same_times : (known t : Times) (finish : ℕ) → known.times ≡ t.times → known.ends ≡ t.ends → finish ≡ t.finish →
        t ≡ record known { finish = finish }
    same_times known t finish times ends same =
        λ j. record { times = sym times j; ends = sym ends j; finish = sym same j }

    -- if `known` has what every run has before the place behind the last, it is the run, with its finish: each item and each
    -- process comes from a place before that
    pub at_last : (known : Times) → length known.times ≡ item_count g → length known.ends ≡ process_count g
        → ((t : Times) → IsRun g order frozen s t → Knows g order t (process_count g) known)
        → IsRun g order frozen s (record known { finish = greatest (flat_map option_to_list known.ends) })
    at_last known items processes knows =
        let found_run = a_run g order frozen s topological in
        let times_found = found_run.0 in
        let run : IsRun g order frozen s times_found = found_run.1 in
        let known_of_t = knows times_found run in
        let times : known.times ≡ times_found.times = ext_get_or None known.times times_found.times
        (items ∙ sym (ap length run.times ∙ length-map-range_with_len (time_by g order frozen s times_found) 0
        (item_count g)))
        (λ x below. known_of_t.times x (omega arith)
        (place_in_order (process_count g) order topological.all (producer g x)
        (let producer_below = producer_in_range g order topological x (omega arith) in omega arith))) in
        let ends : known.ends ≡ times_found.ends = ext_get_or None known.ends times_found.ends
        (processes ∙ sym (ap length run.ends ∙ length-map-range_with_len (end_by g s times_found) 0 (process_count g)))
        (λ p below. known_of_t.ends p (omega arith)
        (place_in_order (process_count g) order topological.all p (omega arith))) in
        subst (IsRun g order frozen s) (same_times known times_found
        (greatest (flat_map option_to_list known.ends)) times ends
        (ap (λ es. greatest (flat_map option_to_list es)) ends ∙ sym run.finish)) run
