-- The latest times of all tracks give the frozen times, and the greatest finish and excess of all scenarios. Each run is no
-- later than the latest times of the track of its scenario, and each latest time is reached in a run.
use Rattle.std.proofs.Common.{◌≡◌, ◌∙◌, ℕ, ◌<◌, ◌≤◌, Bool, true, List, [], map, filter, length, get_or, Option, None}
use Rattle.std.proofs.Common.{arith, refl, sym, ap, subst, inl, inr, true≢false, ◌⊎◌}
use Rattle.std.proofs.lemmas.List.FromFn.{length-map-range_with_len}
use Rattle.std.proofs.lemmas.List.Elements.{Contains-get_or}
use Rattle.std.proofs.lemmas.List.Sorted.{Contains-permutation, IsPermutation-sym}
use Rattle.cpg_base.specs.Numbers.{numbers_below, greatest}
use Rattle.cpg_base.specs.Graph.{Graph, process_count, condition_count, item_count}
use Rattle.cpg_base.specs.Scenario.{Scenario, IsScenario, zero_scenario}
use Rattle.cpg_base.proofs.Lists.{Contains-filter_parts, Contains-map, Contains-map_parts, Contains-numbers}
use Rattle.cpg_base.proofs.Lists.{numbers-Contains, greatest_above, greatest_cases, greatest-le}
use Rattle.cpg_order.specs.Deciding.{outcomes}
use Rattle.cpg_order.specs.Track.{is_track}
use Rattle.cpg_order.specs.Urgency.{IsTopological, IsUrgencyOrder}
use Rattle.cpg_order.proofs.Outcomes.{length_of_outcome}
use Rattle.cpg_run.specs.Finish.{excess_of, excess_in_run}
use Rattle.cpg_run.specs.Frozen.{AreFrozenTimes, IsFrozenTime, WouldHave}
use Rattle.cpg_run.specs.Latest.{IsUnfrozenTime}
use Rattle.cpg_run.specs.Run.{Times, IsRun, end_by}
use Rattle.cpg_run.proofs.RunExists.{the_run, run_exists}
use Rattle.cpg_run.proofs.ZeroScenario.{zero_lawful}
use Rattle.cpg_latest.specs.Latest.{with_faults, latest_end_by}
use Rattle.cpg_latest.specs.Laws.{IsNoLater, IsReached, AreReached, IsGreatest, HasGreatest}
use Rattle.cpg_latest.specs.Tracks.{AreLatestOf, AreLatestFrozen, IsLatestFrozen, track_at, acts_in, unfrozen_in}
use Rattle.cpg_latest.specs.Tracks.{latest_finish, latest_excess}
use Rattle.cpg_latest.proofs.Finishes.{at_most_finish, finish_at}
use Rattle.cpg_latest.proofs.Above.{no_later}
use Rattle.cpg_latest.proofs.Reached.{are_reached}
use Rattle.cpg_latest.proofs.TrackOf.{HasTrack, has_track}

-- given: the latest times of all tracks: `lates i n` are those of the i-th track with n faults
module _ (g : Graph) (urgency order : List ℕ) (frozen : List (Option ℕ)) (tracks : List (List Bool))
    (lates : ℕ → ℕ → Times)
    (urgent : IsUrgencyOrder g urgency) (lawful : IsTopological g urgency) (topological : IsTopological g order)
    (are : AreLatestOf g order frozen tracks lates) where
  -- each track has a value for each condition
  pub track_long : (i : ℕ) → i < length tracks → length (track_at tracks i) ≡ condition_count g
  track_long i within =
      let there = Contains-permutation tracks (filter (is_track g) (outcomes (condition_count g))) (track_at tracks i)
      (IsPermutation-sym (filter (is_track g) (outcomes (condition_count g))) tracks are.all.all)
      (Contains-get_or tracks i [] within) in
      length_of_outcome (condition_count g) (track_at tracks i)
      (Contains-filter_parts (is_track g) (outcomes (condition_count g)) (track_at tracks i) there).0

  -- the latest times of a track are reached in runs
  of_track : (i : ℕ) → i < length tracks → AreReached g order frozen (track_at tracks i) (lates i) g.faults
  of_track i within = are_reached g order frozen (track_at tracks i) (lates i) topological (track_long i within)
      (are.each i within) g.faults (omega arith)

  -- a scenario's run is no later than the latest times of its track
  record IsBelow (s : Scenario) (t : Times) : Type 0 where
    -- the track of the scenario
    track : HasTrack g urgency urgent lawful s tracks
    -- no time of the run is later than that of the track with all the faults
    no_later : IsNoLater g order (with_faults (track_at tracks track.place) s.faults) t (lates track.place g.faults)

  -- each run is no later than the latest times, with all the faults, of the track of its scenario
  is_below : (s : Scenario) (t : Times) → IsScenario g s → IsRun g order frozen s t → IsBelow s t
  is_below s t law run =
      let own_track = has_track g urgency urgent lawful s tracks are.all in
      record {
        track = own_track;
        no_later = no_later g order frozen (with_faults (track_at tracks own_track.place) s.faults) t
            (lates own_track.place) topological (own_track.run order frozen t topological run)
            (are.each own_track.place own_track.there) g.faults law.budget (omega arith);
      }

  -- ---- frozen times

  -- a time that an item would have in some run is no later than the one that it would have in some track
  would_below : (x time : ℕ) → x < item_count g → WouldHave g order frozen x time →
      (i : ℕ) × (i < length tracks) × (acts_in g tracks x i ≡ true) × (time ≤ unfrozen_in g order tracks lates x i)
  would_below x time within would =
      let below = is_below would.scenario would.times would.lawful would.run in (
        below.track.place,
        below.track.there,
        sym (below.track.active x within) ∙ would.active,
        omega (
          arith,
          would.has,
          below.track.unfrozen order would.times x topological within,
          below.no_later.unfrozen x within,
        ),
      )

  -- the time that an item would have in a track is one that it would have in some run: one is as late, and none is later
  would_have : (x i : ℕ) → x < item_count g → i < length tracks → acts_in g tracks x i ≡ true →
      WouldHave g order frozen x (unfrozen_in g order tracks lates x i)
  would_have x i within there acts =
      let reached = (of_track i there).unfrozen x within in
      let none_later = no_later g order frozen (with_faults (track_at tracks i) reached.faults) reached.times
      (lates i) topological reached.run
      (are.each i there) g.faults reached.few (omega arith) in
      record {
        scenario = with_faults (track_at tracks i) reached.faults;
        lawful = reached.lawful;
        times = reached.times;
        run = reached.run;
        active = acts;
        has = omega (arith, reached.is, none_later.unfrozen x within);
      }

  -- the latest of the times that an item would have in the tracks is the greatest that it would have in any run
  pub unfrozen_is : (x : ℕ) (latest : Option ℕ) → x < item_count g → IsLatestFrozen g order tracks lates x latest →
      IsUnfrozenTime g order frozen x latest
  unfrozen_is x latest within is = record {
    reached =
        λ time has_latest. let in_track = is.reached time has_latest in
        subst (WouldHave g order frozen x) in_track.3 (would_have x in_track.0 within in_track.1 in_track.2);
    greatest = λ time other has_latest would. let below = would_below x other within would in
        omega (arith, below.3, is.greatest time below.0 has_latest below.1 below.2);
    none = λ no_latest time would. let below = would_below x time within would in
        true≢false (sym below.2 ∙ is.none no_latest below.0 below.1);
  }

  -- so if its frozen time is that, it is right
  frozen_time : (x : ℕ) → x < item_count g → IsLatestFrozen g order tracks lates x (get_or frozen x None) →
      IsFrozenTime g order frozen x
  frozen_time x within is = let unfrozen = unfrozen_is x (get_or frozen x None) within is in
      record { reached = unfrozen.reached; greatest = unfrozen.greatest; none = unfrozen.none }

  -- the frozen times that the tracks give are those of the graph under the order
  pub frozen_times : AreLatestFrozen g order tracks lates frozen → AreFrozenTimes g order frozen
  frozen_times is = record {
    count = is.count;
    each = λ x within f. frozen_time x within (is.each x within f);
    others = is.others;
  }

  -- ---- the greatest of all tracks

  -- given: a number of times, such as the finish
  -- `grows`: no run has a greater number than its track; `reached`: the number of a track is 0, or some run comes to it
  module _ (of : Times → ℕ)
      (grows : (s : Scenario) (t : Times) (i : ℕ) → i < length tracks → IsRun g order frozen s t →
      IsNoLater g order s t (lates i g.faults) → s.values ≡ track_at tracks i →
      of t ≤ of (lates i g.faults))
      (reached : (i : ℕ) → i < length tracks → (of (lates i g.faults) ≡ 0) ⊎
      IsReached g order frozen (track_at tracks i) g.faults of (of (lates i g.faults))) where
    -- the greatest number of all tracks, with all the faults
    most : ℕ
    most = greatest (map (λ i. of (lates i g.faults)) (numbers_below (length tracks)))

    -- the number of a track is at most the greatest
    below_most : (i : ℕ) → i < length tracks → of (lates i g.faults) ≤ most
    unfolding most
    below_most i within =
        greatest_above (map (λ i. of (lates i g.faults)) (numbers_below (length tracks))) (of (lates i g.faults))
        (Contains-map (λ i. of (lates i g.faults)) (numbers_below (length tracks)) i
        (Contains-numbers (length tracks) i within))

    -- no run has a number above the greatest of the tracks, as it is no later than the latest times of its track
    above : (s : Scenario) (t : Times) → IsScenario g s → IsRun g order frozen s t → of t ≤ most
    above s t law run =
        let below = is_below s t law run in
        omega (
          arith,
          below_most below.track.place below.track.there,
          grows (with_faults (track_at tracks below.track.place) s.faults) t below.track.place below.track.there
              (below.track.run order frozen t topological run) below.no_later refl,
        )

    -- some run of some scenario comes to the number
    HasSome : ℕ → Type 0
    HasSome v = (s : Scenario) × (t : Times) × IsScenario g s × IsRun g order frozen s t × (of t ≡ v)

    -- if the greatest number is 0, the run of the scenario of zeros has it
    nothing : most ≡ 0 → HasSome most
    unfolding HasSome
    nothing zero_is =
        let scenario = zero_scenario g in
        let run = run_exists g order frozen scenario topological in (
          scenario,
          the_run g order frozen scenario topological,
          zero_lawful g,
          run,
          omega (arith, zero_is, above scenario (the_run g order frozen scenario topological) (zero_lawful g) run),
        )

    -- if the greatest number is that of a track, and some run comes to it, that run has it
    found : (i : ℕ) → i < length tracks → of (lates i g.faults) ≡ most →
        IsReached g order frozen (track_at tracks i) g.faults of (of (lates i g.faults)) → HasSome most
    unfolding HasSome
    found i within is is_reached = (
      with_faults (track_at tracks i) is_reached.faults,
      is_reached.times,
      is_reached.lawful,
      is_reached.run,
      omega (
        arith,
        is,
        is_reached.is,
        above (with_faults (track_at tracks i) is_reached.faults) is_reached.times
            is_reached.lawful is_reached.run,
      ),
    )

    -- some run has the greatest number: by whether it is 0 or the number of a track, which is 0 or reached
    at_most : HasSome most
    unfolding most
    at_most = elim (greatest_cases (map (λ i. of (lates i g.faults)) (numbers_below (length tracks)))) [
      | inl is ↦ nothing is
      | inr among ↦
          let from = Contains-map_parts (λ i. of (lates i g.faults)) (numbers_below (length tracks)) _ among in
          let within = numbers-Contains (length tracks) from.0 from.1 in
          elim (reached from.0 within) [
            | inl zero_is ↦ nothing (sym from.2 ∙ zero_is)
            | inr positive ↦ found from.0 within from.2 positive
          ]
    ]

    -- no run comes to more, and one comes to it
    is_greatest : IsGreatest g order frozen of most
    unfolding HasSome
    is_greatest = record { above = above; reached = at_most }

  -- ---- the excess

  -- times with later ends have no less excess: the excess of each process is at most that of the same process in the others
  excess_grows : (s : Scenario) (t u : Times) → IsNoLater g order s t u → excess_in_run g t ≤ excess_in_run g u
  excess_grows s t u later = greatest-le (map (excess_of g t) (numbers_below (process_count g))) (excess_in_run g u)
      (λ v among.
      let process = Contains-map_parts (excess_of g t) (numbers_below (process_count g)) v among in
      omega (
        arith,
        process.2,
        later.ends process.0 (numbers-Contains (process_count g) process.0 process.1),
        greatest_above (map (excess_of g u) (numbers_below (process_count g))) (excess_of g u process.0)
            (Contains-map (excess_of g u) (numbers_below (process_count g)) process.0 process.1),
      ))

  -- the excess of a process is at most that of the run
  excess_above : (t : Times) (p : ℕ) → p < process_count g → excess_of g t p ≤ excess_in_run g t
  excess_above t p within = greatest_above (map (excess_of g t) (numbers_below (process_count g))) (excess_of g t p)
      (Contains-map (excess_of g t) (numbers_below (process_count g)) p (Contains-numbers (process_count g) p within))

  -- the excess of each track is 0, or some run comes to it: it is that of some process, whose latest end is reached
  excess_reached : (i : ℕ) → i < length tracks →
      (excess_in_run g (lates i g.faults) ≡ 0) ⊎
      IsReached g order frozen (track_at tracks i) g.faults (excess_in_run g) (excess_in_run g (lates i g.faults))
  excess_reached i within = elim (greatest_cases
      (map (excess_of g (lates i g.faults)) (numbers_below (process_count g)))) [
        | inl e ↦ inl e
        | inr among ↦
            -- the process that has the excess, and the run that reaches its latest end
            let process = Contains-map_parts (excess_of g (lates i g.faults)) (numbers_below (process_count g))
            (excess_in_run g (lates i g.faults)) among in
            let process_within = numbers-Contains (process_count g) process.0 process.1 in
            let reached = (of_track i within).ends process.0 process_within in
            inr (record {
              faults = reached.faults;
              lawful = reached.lawful;
              few = reached.few;
              times = reached.times;
              run = reached.run;
              is = omega (arith, process.2, reached.is, excess_above reached.times process.0 process_within);
            })
      ]

  -- the greatest excess of all scenarios is that of the tracks
  pub excess_is : IsGreatest g order frozen (excess_in_run g) (latest_excess g tracks lates)
  unfolding most
  excess_is = is_greatest (excess_in_run g) (λ s t i l run h e. excess_grows s t (lates i g.faults) h) excess_reached

  -- ---- the finish

  -- a run has an end, or none, for each process
  ends_long : (s : Scenario) (t : Times) → IsRun g order frozen s t → length t.ends ≡ process_count g
  ends_long s t run = ap length run.ends ∙ length-map-range_with_len (end_by g s t) 0 (process_count g)

  -- the latest times have an end, or none, for each process
  latest_long : (i : ℕ) → i < length tracks → length (lates i g.faults).ends ≡ process_count g
  latest_long i within = ap length ((are.each i within).ends g.faults (omega arith))
      ∙ length-map-range_with_len (latest_end_by g (lates i) g.faults) 0 (process_count g)

  -- the finish of a run is no later than that of the latest times of its track: it is 0, or some end, which is no later
  finish_grows : (s : Scenario) (t : Times) (i : ℕ) → i < length tracks → IsRun g order frozen s t →
      IsNoLater g order s t (lates i g.faults) →
      t.finish ≤ (lates i g.faults).finish
  finish_grows s t i within run h = elim (finish_at t.ends) [
    | inl e ↦ omega (arith, run.finish, e)
    | inr r ↦ omega (
      arith,
      run.finish,
      r.2,
      h.ends r.0 (omega (arith, r.1, ends_long s t run)),
      at_most_finish (lates i g.faults).ends r.0,
      (are.each i within).finish g.faults (omega arith),
    )
  ]

  -- the finish of each track is 0, or some run comes to it: it is some latest end, which is reached
  finish_reached : (i : ℕ) → i < length tracks →
      ((lates i g.faults).finish ≡ 0) ⊎
      IsReached g order frozen (track_at tracks i) g.faults (λ t. t.finish) (lates i g.faults).finish
  finish_reached i within =
      let is = (are.each i within).finish g.faults (omega arith) in
      elim (finish_at (lates i g.faults).ends) [
        | inl e ↦ inl (is ∙ e)
        | inr place ↦
            let reached = (of_track i within).ends place.0 (omega (arith, place.1, latest_long i within)) in
            inr (record {
              faults = reached.faults;
              lawful = reached.lawful;
              few = reached.few;
              times = reached.times;
              run = reached.run;
              is = omega (
                arith,
                is,
                place.2,
                reached.is,
                reached.run.finish,
                at_most_finish reached.times.ends place.0,
              );
            })
      ]

  -- the greatest finish of all scenarios is that of the tracks
  pub finish_is : IsGreatest g order frozen (λ t. t.finish) (latest_finish g tracks lates)
  unfolding most
  finish_is = is_greatest (λ t. t.finish) (λ s t i within run h e. finish_grows s t i within run h) finish_reached

  -- the greatest finish and the greatest excess of the tracks are those of all scenarios
  pub greatest_are : HasGreatest g order frozen (latest_excess g tracks lates) (latest_finish g tracks lates)
  greatest_are = record { is_excess = excess_is; is_worst = finish_is }
