-- The ends of the walk along the order: nothing is known before the first place, and after the last one the lanes have the
-- greatest excess and finish of the order.
use Rattle.std.proofs.Common.{ℕ, ◌+◌, ◌-◌, ◌<◌, ◌≡◌, max, Bool, List, [], ◌∷◌, map, flat_map, length, get_or, Option}
use Rattle.std.proofs.Common.{None, unwrap_or, option_to_list, arith, refl, sym, ap, ◌∙◌, subst, inl, inr}
use Rattle.std.proofs.Common.{replicate}
use Rattle.std.proofs.lemmas.Bool.{true≢false}
use Rattle.std.proofs.lemmas.List.{ext_get_or, get_or-map, get_or-replicate, length-map, length-replicate, map-append}
use Rattle.std.proofs.lemmas.List.FromFn.{length-map-range_with_len}
use Rattle.std.proofs.lemmas.Option.{none-some}
use Rattle.cpg_base.specs.Duration.{due}
use Rattle.cpg_base.specs.Graph.{Graph, process_count, item_count, node_of, producer}
use Rattle.cpg_base.specs.Limits.{IsWithinLimits}
use Rattle.cpg_base.specs.Numbers.{greatest, numbers_below}
use Rattle.cpg_base.specs.Scenario.{Scenario}
use Rattle.cpg_base.proofs.Lists.{below_push, greatest_push, Contains-map, Contains-map_parts, Contains-numbers}
use Rattle.cpg_base.proofs.Lists.{get_or-map-below, greatest_above, greatest-le, numbers-Contains, same_map}
use Rattle.cpg_base.proofs.Places.{place_in_order}
use Rattle.cpg_order.specs.Track.{AreTracks}
use Rattle.cpg_order.specs.Urgency.{IsTopological, IsUrgencyOrder}
use Rattle.cpg_order.proofs.Moments.{producer_in_range}
use Rattle.cpg_run.specs.Finish.{excess_of, excess_in_run}
use Rattle.cpg_run.specs.Frozen.{AreFrozenTimes, nothing_frozen}
use Rattle.cpg_run.specs.Known.{no_times}
use Rattle.cpg_run.specs.Progress.{IsAt, ProgressState}
use Rattle.cpg_run.specs.Run.{Times, end_in}
use Rattle.cpg_run.proofs.Settled.{none_frozen}
use Rattle.cpg_latest.specs.Course.{AreLanes, AreSettledOf, IsCourse, IsEarlier, IsLane}
use Rattle.cpg_latest.specs.Lanes.{excess_of_course, finish_of, last_course, no_lane}
use Rattle.cpg_latest.specs.Latest.{latest_end_by, with_faults}
use Rattle.cpg_latest.specs.Laws.{HasFigures, HasGreatest}
use Rattle.cpg_latest.specs.Tracks.{AreLatestOf, latest_excess, track_at}
use Rattle.cpg_latest.proofs.Finishes.{at_most_finish, finish_at}
use Rattle.cpg_latest.proofs.LatestExists.{the_latest, latest_exist}
use Rattle.cpg_latest.proofs.OverTracks.{greatest_are}
use Rattle.cpg_latest.proofs.TimedStarts.{both_ways_equal}

-- each process is on a node of the graph
pub on_graph : (g : Graph) → IsWithinLimits g → (p : ℕ) → p < process_count g → node_of g p < length g.nodes
on_graph g limits p within = (limits.processes p _ within).node

-- ---- at the first place

module _ (g : Graph) (order : List ℕ) where
  -- before the first place no item is done, so that no frozen time is set is right
  pub settled_none : AreSettledOf g order (IsEarlier g order 0) (nothing_frozen g)
  settled_none = record {
    count = length-replicate {A = Option ℕ} (item_count g) None;
    each = λ x h f d. absurd (omega (arith, d));
    others = λ x no. none_frozen g x;
    low = record { low = λ x time l e. absurd (none-some time (sym (none_frozen g x) ∙ e)) };
  }

  -- what is known before the first place: no time, and all nodes free from 0 on
  abbrev nothing : ProgressState
  nothing = record { known = no_times g; ready = replicate (length g.nodes) 0; free = replicate (length g.nodes) 0 }

  -- that is all that there is before the place 0, since no process comes before it
  at_first : (s : Scenario) (t : Times) →
      IsAt g order s t 0 (no_times g) (replicate (length g.nodes) 0) (replicate (length g.nodes) 0)
  at_first s t = record {
    knows = record {
      times = λ x h l. absurd (omega (arith, l));
      later = λ x h l. get_or-replicate (item_count g) x None None h;
      ends = λ p h l. absurd (omega (arith, l));
      no_ends = λ p h l. get_or-replicate (process_count g) p None None h;
    };
    nodes_ready = λ node l. record {
      ends = λ q h less. absurd (omega (arith, less));
      heard = λ q c h less. absurd (omega (arith, less));
      least = λ b x y. let is = get_or-replicate {A = ℕ} (length g.nodes) node 0 0 l in omega (arith, is);
    };
    slots_free = λ node l. record {
      above = λ y b. let less = b.1 in absurd (omega (arith, less));
      least = λ b h. let is = get_or-replicate {A = ℕ} (length g.nodes) node 0 0 l in omega (arith, is);
    };
  }

  -- so a course in which nothing is known is the one before the place 0
  course_first : (Done : ℕ → Type 0) (frozen : List (Option ℕ)) (values : List Bool) (n : ℕ) →
      IsCourse g order Done frozen values 0 n nothing
  course_first Done frozen values n = record {
    places = record {
      times = length-replicate {A = Option ℕ} (item_count g) None;
      ends = length-replicate {A = Option ℕ} (process_count g) None;
      ready_count = length-replicate {A = ℕ} (length g.nodes) 0;
      free_count = length-replicate {A = ℕ} (length g.nodes) 0;
    };
    at = λ more goes late are. at_first (with_faults values []) (late n);
  }

  -- before the first place each track has a lane in which nothing is known
  pub lanes_first : (Done : ℕ → Type 0) (frozen : List (Option ℕ)) (tracks : List (List Bool))
      (lanes : List (List ProgressState)) (count : ℕ) →
      count ≡ length tracks →
      lanes ≡ replicate count (no_lane g)
      → AreLanes g (λ values n c. IsCourse g order Done frozen values 0 n c) tracks lanes
  lanes_first Done frozen tracks lanes count long is = record {
    count = ap length is ∙ length-replicate count (no_lane g) ∙ long;
    each = λ i d l. subst (IsLane g (λ n c. IsCourse g order Done frozen (track_at tracks i) 0 n c))
        (sym (ap (λ ls. get_or ls i d) is ∙ get_or-replicate count i (no_lane g) d (omega (arith, l, long)))) (record {
          count = length-replicate (g.faults + 1) nothing;
          each = λ n e k. subst (IsCourse g order Done frozen (track_at tracks i) 0 n)
              (sym (get_or-replicate (g.faults + 1) n nothing e k)) (course_first Done frozen (track_at tracks i) n);
        });
  }

-- ---- after the last one

-- the end at a place, or 0 if there is none
abbrev there : List (Option ℕ) → ℕ → ℕ
there os p = unwrap_or (get_or os p None) 0

-- the greatest over one number more is the greater of the greatest so far and that one
pub greatest_below : (f : ℕ → ℕ) (n most next : ℕ) → most ≡ greatest (map f (numbers_below n)) → next ≡ max most (f n) →
    next ≡ greatest (map f (numbers_below (n + 1)))
greatest_below f n most next h is =
    is ∙ ap (λ m. max m (f n)) h ∙ sym (greatest_push (map f (numbers_below n)) (f n))
    ∙ sym (ap (λ xs. greatest (map f xs)) (below_push n) ∙ ap greatest (map-append f (numbers_below n) (n ∷ [])))

-- the greatest of the ends by place, 0 if one is missing, is the greatest of those that are there: each bounds the other
finish_by_places : (os : List (Option ℕ)) (n : ℕ) → length os ≡ n →
    greatest (map (there os) (numbers_below n)) ≡ greatest (flat_map option_to_list os)
finish_by_places os n long =
    both_ways_equal (greatest (map (there os) (numbers_below n))) (greatest (flat_map option_to_list os))
    (greatest-le (map (there os) (numbers_below n)) (greatest (flat_map option_to_list os))
    (λ v among. let end = Contains-map_parts (there os) (numbers_below n) v among in
    let most = at_most_finish os end.0 in
    omega (arith, end.2, most)))
    (elim (finish_at os) [
      | inl e ↦ omega (arith, e)
      | inr last_end ↦ let above = greatest_above (map (there os) (numbers_below n)) (there os last_end.0)
          (Contains-map (there os) (numbers_below n) last_end.0
          (Contains-numbers n last_end.0 (omega (arith, last_end.1, long)))) in
          omega (arith, last_end.2, above)
    ])

-- a number of each lane, in a list, is the list of the numbers G i, if they are the same at each place
same_lists : (lanes : List (List ProgressState)) (count : ℕ) (F : List ProgressState → ℕ) (G : ℕ → ℕ) →
    length lanes ≡ count →
    ((i : ℕ) → i < count → F (get_or lanes i []) ≡ G i) →
    map F lanes ≡ map G (numbers_below count)
same_lists lanes count F G long same = ext_get_or 0 (map F lanes) (map G (numbers_below count))
    (length-map lanes F ∙ long ∙ sym (length-map-range_with_len G 0 count)) (λ i within.
    let there : i < count = omega (arith, within, length-map lanes F, long) in
    get_or-map F lanes i [] 0 (omega (arith, there, long)) ∙ same i there ∙ sym (get_or-map-below G count i 0 there))

-- given: the lanes of all tracks, in which all is known after the last place
-- `urgent`, `lawful`: of the urgency order; `topological`: of the other; `all`: the tracks are all tracks of the graph;
-- `settled`: all frozen items have their frozen times; `known`: what the lanes know
module _ (g : Graph) (urgency order : List ℕ) (frozen : List (Option ℕ)) (tracks : List (List Bool))
    (urgent : IsUrgencyOrder g urgency) (lawful : IsTopological g urgency) (topological : IsTopological g order)
    (all : AreTracks g tracks) (lanes : List (List ProgressState))
    (settled : AreSettledOf g order (IsEarlier g order (process_count g)) frozen)
    (known : AreLanes g
    (λ values n c. IsCourse g order (IsEarlier g order (process_count g)) frozen values (process_count g) n c)
    tracks lanes) where
  -- the latest times of each track
  abbrev lates : ℕ → ℕ → Times
  lates i = the_latest g order frozen (track_at tracks i) topological

  -- the latest times of all tracks exist
  are : AreLatestOf g order frozen tracks lates
  are = record { all = all; each = λ i l. latest_exist g order frozen (track_at tracks i) topological }

  -- the frozen times are those of the graph, as all items are done
  frozen_are : AreFrozenTimes g order frozen
  frozen_are = record {
    count = settled.count;
    each = λ x within f. settled.each x within f (place_in_order (process_count g) order topological.all (producer g x)
        (let in_range = producer_in_range g order topological x within in omega (arith, in_range)));
    others = λ x f. settled.others x (λ h is d. true≢false (sym is ∙ f));
  }

  -- the end of a process in a lane's last course is its latest end with all the faults
  ends_same : (i p : ℕ) → i < length tracks → p < process_count g →
      end_in (last_course g (get_or lanes i [])).known p ≡ end_in (lates i g.faults) p
  ends_same i p within inside =
      let course = (known.each i [] within).each g.faults
      (record { known = record { times = []; ends = []; finish = 0 }; ready = []; free = [] }) (omega arith) in
      let at =
      course.at frozen (λ y k d. refl) (lates i) (latest_exist g order frozen (track_at tracks i) topological) in
      ap (λ o. unwrap_or o 0)
      (at.knows.ends p inside (place_in_order (process_count g) order topological.all p (omega (arith, inside))))

  -- the excess of a course is that of its track's latest times
  excess_same : (i : ℕ) → i < length tracks →
      excess_of_course g (last_course g (get_or lanes i [])) ≡ excess_in_run g (lates i g.faults)
  excess_same i within = ap greatest (same_map (λ p. end_in (last_course g (get_or lanes i [])).known p - due g p)
      (excess_of g (lates i g.faults)) (numbers_below (process_count g))
      (λ p there. ap (λ e. e - due g p) (ends_same i p within (numbers-Contains (process_count g) p there))))

  -- the finish of a lane's last course is the latest finish of its track with all the faults
  finish_same : (i : ℕ) → i < length tracks →
      finish_of g (last_course g (get_or lanes i [])) ≡ (lates i g.faults).finish
  finish_same i within =
      ap greatest (same_map (λ p. end_in (last_course g (get_or lanes i [])).known p) (there (lates i g.faults).ends)
      (numbers_below (process_count g))
      (λ p there. ends_same i p within (numbers-Contains (process_count g) p there)))
      ∙ finish_by_places (lates i g.faults).ends (process_count g)
      (ap length ((are.each i within).ends g.faults (omega arith))
      ∙ length-map-range_with_len (latest_end_by g (lates i) g.faults) 0 (process_count g))
      ∙ sym ((are.each i within).finish g.faults (omega arith))

  -- the greatest excess and the greatest finish of the last courses are those of the order
  pub figures_found : (excess worst : ℕ) → excess ≡ greatest (map (λ c. excess_of_course g (last_course g c)) lanes) →
      worst ≡ greatest (map (λ c. finish_of g (last_course g c)) lanes) →
      HasFigures g order excess worst
  figures_found excess worst is_excess is_worst = record {
    frozen = frozen;
    times = frozen_are;
    greatest = subst (λ e. HasGreatest g order frozen e worst)
        (sym (is_excess ∙ ap greatest (same_lists lanes (length tracks) (λ c. excess_of_course g (last_course g c))
        (λ i. excess_in_run g (lates i g.faults)) known.count excess_same)))
        (subst (HasGreatest g order frozen (latest_excess g tracks lates))
        (sym (is_worst ∙ ap greatest (same_lists lanes (length tracks) (λ c. finish_of g (last_course g c))
        (λ i. (lates i g.faults).finish) known.count finish_same)))
        (greatest_are g urgency order frozen tracks lates urgent lawful topological are));
  }
