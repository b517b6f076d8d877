-- The latest time over all tracks that an item would have if it were not frozen is its frozen time.
use Rattle.std.proofs.Common.{ℕ, ◌+◌, ◌<◌, ◌≡◌, ◌⊎◌, max, Bool, true, List, [], ◌∷◌, length, get_or, Contains, Option}
use Rattle.std.proofs.Common.{Some, None, unwrap_or, option_to_list, arith, refl, sym, ap, ◌∙◌, subst, inl}
use Rattle.std.proofs.Common.{inr}
use Rattle.std.proofs.lemmas.Bool.{cases_Bool, cases_lt}
use Rattle.std.proofs.lemmas.Option.{none-some}
use Rattle.cpg_base.specs.Activity.{active, item_active}
use Rattle.cpg_base.specs.Bus.{next_slot}
use Rattle.cpg_base.specs.Graph.{Graph, process_count, condition_count, item_count, item_at, node_of}
use Rattle.cpg_base.specs.Limits.{IsWithinLimits}
use Rattle.cpg_base.specs.Numbers.{greatest}
use Rattle.cpg_base.specs.Order.{place}
use Rattle.cpg_base.proofs.Items.{item_at-start}
use Rattle.cpg_base.proofs.Lists.{greatest-cons}
use Rattle.cpg_bus.specs.Plan.{queue_of}
use Rattle.cpg_bus.proofs.Queued.{in_queue}
use Rattle.cpg_order.specs.Track.{AreTracks}
use Rattle.cpg_order.specs.Urgency.{IsTopological, IsUrgencyOrder}
use Rattle.cpg_run.specs.Known.{AreEarly, frozen_in}
use Rattle.cpg_run.specs.Latest.{IsUnfrozenTime, later}
use Rattle.cpg_run.specs.Progress.{ProgressState}
use Rattle.cpg_run.specs.Run.{Times, end_in, time_in}
use Rattle.cpg_run.proofs.SameSends.{producer_active}
use Rattle.cpg_latest.specs.Course.{AreLanes, IsCourse, IsDone, IsEarlier, IsSending}
use Rattle.cpg_latest.specs.Lanes.{IsUnfrozenStart, last_course, unfrozen_send}
use Rattle.cpg_latest.specs.Latest.{with_faults}
use Rattle.cpg_latest.specs.Over.{AreSent, IsLatestOver, IsLatestSend, IsLatestStart, TellSends, TellStarts, lane_at}
use Rattle.cpg_latest.specs.Tracks.{AreLatestOf, IsLatestFrozen, acts_in, track_at, unfrozen_in}
use Rattle.cpg_latest.proofs.AreTimed.{latest_is_timed}
use Rattle.cpg_latest.proofs.Courses.{course_small, latest_small}
use Rattle.cpg_latest.proofs.LatestExists.{the_latest, latest_exist}
use Rattle.cpg_latest.proofs.LateTimes.{late_active}
use Rattle.cpg_latest.proofs.OverTracks.{track_long, unfrozen_is}
use Rattle.cpg_latest.proofs.TimedPlaces.{start_right}
use Rattle.cpg_latest.proofs.TimedSends.{here_sent, send_is}

-- ---- one track after another

-- a and b are equal if they are so as options
some_same : (a b : ℕ) → Some a ≡ Some b → a ≡ b
some_same a b is = ap (λ o. unwrap_or o 0) is

module _ (Acts : ℕ → Type 0) (Is : ℕ → ℕ → Type 0) where
  -- over no tracks there is no latest time
  pub over_none : IsLatestOver 0 Acts Is None
  over_none = record { reached = λ time e. absurd (none-some time e); above = λ i l acts. absurd (omega arith) }

  module _ (m : ℕ) where
    -- a track in which the item isn't active leaves the latest time as it is
    pub over_idle : (latest : Option ℕ) → IsLatestOver m Acts Is latest → (Acts m → ⊥) →
        IsLatestOver (m + 1) Acts Is (later latest None)
    over_idle None before off = record {
      reached = λ time is. absurd (none-some time is);
      above = λ i l acts. elim (cases_lt i m) [
        | inl earlier ↦ before.above i earlier acts
        | inr last ↦ absurd (off (subst Acts (let same : i ≡ m = omega arith in same) acts))
      ];
    }
    over_idle (Some most) before off = record {
      reached = λ time is. let reached = before.reached time is in
          (reached.0, omega (arith, reached.1), reached.2, reached.3);
      above = λ i l acts. elim (cases_lt i m) [
        | inl earlier ↦ before.above i earlier acts
        | inr last ↦ absurd (off (subst Acts (let same : i ≡ m = omega arith in same) acts))
      ];
    }

    -- a track in which the item is active raises the latest time to its own, if that is later
    pub over_acting : (latest : Option ℕ) (time : ℕ) → IsLatestOver m Acts Is latest → Acts m → Is m time →
        IsLatestOver (m + 1) Acts Is (later latest (Some time))
    -- it is the first track in which the item is active
    over_acting None time before acts is = record {
      reached = λ other has_latest. (m, omega arith, acts, subst (Is m) (some_same time other has_latest) is);
      above = λ i within on. elim (cases_lt i m) [
        | inl earlier ↦ let in_track = before.above i earlier on in absurd (none-some in_track.1 in_track.3)
        | inr last ↦ (
          time,
          time,
          subst (λ j. Is j time) (let same_track : m ≡ i = omega arith in
              same_track) is,
          refl,
          omega arith,
        )
      ];
    }
    -- the greater of both times is reached in this track or in an earlier one
    over_acting (Some most) time before acts is = record {
      reached = λ other has_latest. let same = some_same (max most time) other has_latest in elim (cases_lt most time) [
        | inl less ↦ (
          m,
          omega arith,
          acts,
          subst (Is m) (let new_is : time ≡ other = omega (arith, same, less) in new_is) is,
        )
        | inr not_less ↦ let reached = before.reached other
            (ap Some (let old_is : most ≡ other = omega (arith, same, not_less) in old_is)) in
            (reached.0, omega (arith, reached.1), reached.2, reached.3)
      ];
      above = λ i within on. elim (cases_lt i m) [
        | inl earlier ↦ let in_track = before.above i earlier on in
            let same_most = some_same most in_track.1 in_track.3 in
            (in_track.0, max most time, in_track.2, refl, omega (arith, in_track.4, same_most))
        | inr last ↦ (
          time,
          max most time,
          subst (λ j. Is j time) (let same_track : m ≡ i = omega arith in
              same_track) is,
          refl,
          omega arith,
        )
      ];
    }

-- with one track more the latest time is the later of the one so far and of the track's, if the item is active in it
pub over_more : (Acts : ℕ → Type 0) (Is : ℕ → ℕ → Type 0) (m : ℕ) (latest time next : Option ℕ) →
    IsLatestOver m Acts Is latest →
    next ≡ later latest time
    → ((t : ℕ) × (time ≡ Some t) × Acts m × Is m t) ⊎ ((Acts m → ⊥) × (time ≡ None)) → IsLatestOver (m + 1) Acts Is next
over_more Acts Is m latest time next o is (inl r) =
    subst (IsLatestOver (m + 1) Acts Is) (sym (is ∙ ap (later latest) r.1)) (over_acting Acts Is m latest r.0 o r.2 r.3)
over_more Acts Is m latest time next o is (inr r) =
    subst (IsLatestOver (m + 1) Acts Is) (sym (is ∙ ap (later latest) r.1)) (over_idle Acts Is m latest o r.0)

-- ---- the latest of all is the frozen time

-- given: the tracks of a graph, an order and frozen times
module _ (g : Graph) (urgency order : List ℕ) (frozen : List (Option ℕ)) (tracks : List (List Bool))
    (urgent : IsUrgencyOrder g urgency) (lawful : IsTopological g urgency) (topological : IsTopological g order)
    (all : AreTracks g tracks) where
  -- the latest times of each track
  abbrev lates : ℕ → ℕ → Times
  lates i = the_latest g order frozen (track_at tracks i) topological

  -- the latest times of all tracks exist
  are : AreLatestOf g order frozen tracks lates
  are = record { all = all; each = λ i l. latest_exist g order frozen (track_at tracks i) topological }

  -- each track has a value for each condition
  pub long_track : (i : ℕ) → i < length tracks → length (track_at tracks i) ≡ condition_count g
  long_track i within = track_long g urgency order frozen tracks lates urgent lawful topological are i within

  -- given: the latest of the times that the item x has in the tracks in which it is active
  -- `over`: `latest` is the latest over the tracks; `on`, `off`: `Acts` holds in the tracks in which x is active;
  -- `right`: what `Is` says of a track is the unfrozen time there
  module _ (x : ℕ) (within : x < item_count g) (Acts : ℕ → Type 0) (Is : ℕ → ℕ → Type 0) (latest : Option ℕ)
      (over : IsLatestOver (length tracks) Acts Is latest)
      (on : (i : ℕ) → i < length tracks → acts_in g tracks x i ≡ true → Acts i)
      (off : (i : ℕ) → i < length tracks → Acts i → acts_in g tracks x i ≡ true)
      (right : (i time : ℕ) → i < length tracks → Acts i → Is i time →
      time ≡ unfrozen_in g order tracks lates x i) where
    -- `latest` is a time of the item in some track, no track has a later one, and it is none only if all lack it
    latest_frozen : IsLatestFrozen g order tracks lates x latest
    latest_frozen = record {
      reached = λ time is. let in_track = over.reached time is in (
        in_track.0,
        in_track.1,
        off in_track.0 in_track.1 in_track.2,
        sym (right in_track.0 time in_track.1 in_track.2 in_track.3),
      );
      greatest = λ time i has_latest inside acts.
          let in_track = over.above i inside (on i inside acts) in
          let same = some_same time in_track.1 (sym has_latest ∙ in_track.3) in
          let is = right i in_track.0 inside (on i inside acts) in_track.2 in
          omega (arith, in_track.4, same, is);
      none = λ no_latest i inside. elim (cases_Bool (acts_in g tracks x i)) [
        | inl acts ↦ let in_track = over.above i inside (on i inside acts) in
            absurd (none-some in_track.1 (sym no_latest ∙ in_track.3))
        | inr idle ↦ idle
      ];
    }

    -- the latest of the unfrozen times of all tracks is the unfrozen time of the item
    pub unfrozen_over : IsUnfrozenTime g order frozen x latest
    unfrozen_over =
        unfrozen_is g urgency order frozen tracks lates urgent lawful topological are x latest within latest_frozen

  -- given: an item that is active in a track and has no frozen time
  module _ (i : ℕ) (x : ℕ) (within : x < item_count g) (acts : acts_in g tracks x i ≡ true)
      (unset : get_or frozen x None ≡ None) where
    -- in the latest times of the track, an active item without a frozen time has its unfrozen time
    pub unfrozen_is_time : time_in (lates i g.faults) x ≡ unfrozen_in g order tracks lates x i
    unfrozen_is_time =
        let late_is = late_active g order frozen (with_faults (track_at tracks i) []) (lates i)
        (latest_exist g order frozen (track_at tracks i) topological) g.faults (omega arith) x within acts in
        let unfrozen = unfrozen_in g order tracks lates x i in
        late_is ∙ ap (λ o. greatest (unfrozen ∷ option_to_list o)) unset ∙ alone unfrozen
      where
        -- the greatest of one number is that number
        alone : (u : ℕ) → greatest (u ∷ []) ≡ u
        alone u = let its_greatest = greatest-cons u [] in omega (arith, its_greatest)

    -- the item has no frozen time to wait for
    pub no_frozen : frozen_in frozen x ≡ 0
    no_frozen = ap (λ o. unwrap_or o 0) unset

  -- ---- a start

  -- given: a process without a frozen time, and lanes in which all is known before its place
  -- `limits`, `early`: no number overflows; `unset`: the start has no frozen time yet; `before`: what the lanes know
  module _ (p : ℕ) (within : p < process_count g) (on : node_of g p < length g.nodes) (limits : IsWithinLimits g)
      (early : AreEarly frozen) (unset : get_or frozen p None ≡ None)
      (lanes : List (List ProgressState))
      (before : AreLanes g
      (λ values n c. IsCourse g order (IsEarlier g order (place order p)) frozen values (place order p) n c)
      tracks lanes) where
    -- each lane has what `Lane::start` requires: the places of its last course, and small times
    pub tell_starts : TellStarts g tracks lanes
    tell_starts = record {
      count = before.count;
      each = λ i d inside.
          let lane = before.each i d inside in
          let course = lane.each g.faults
          (record { known = record { times = []; ends = []; finish = 0 }; ready = []; free = [] }) (omega arith) in
          record {
            count = lane.count;
            ready = course.places.ready_count;
            small = course_small g order topological (IsEarlier g order (place order p)) frozen
                (track_at tracks i) limits (long_track i inside) early g.faults (omega arith) (place order p)
                (last_course g (get_or lanes i d)) course;
          };
    }

    -- the latest start over all tracks, as if p were not frozen, is the greatest that p would have in any scenario
    pub start_over : (latest : Option ℕ) → IsLatestStart g tracks p lanes (length lanes) latest →
        IsUnfrozenTime g order frozen p latest
    start_over latest over = unfrozen_over p (omega arith) (λ i. active g (track_at tracks i) p ≡ true)
        (λ i time. IsUnfrozenStart g (track_at tracks i) p (last_course g (lane_at lanes i)) time) latest
        (subst (λ m. IsLatestStart g tracks p lanes m latest) before.count over)
        (λ i inside acts. sym (ap (item_active g (track_at tracks i)) (item_at-start g p within)) ∙ acts)
        (λ i inside acts. ap (item_active g (track_at tracks i)) (item_at-start g p within) ∙ acts)
        right
      where
        -- the unfrozen start by a lane's last course is the latest unfrozen time of p in that track
        right : (i time : ℕ) → i < length tracks → active g (track_at tracks i) p ≡ true →
            IsUnfrozenStart g (track_at tracks i) p (last_course g (lane_at lanes i)) time →
            time ≡ unfrozen_in g order tracks lates p i
        right i time inside acts is =
            let scenario = with_faults (track_at tracks i) [] in
            let lane = before.each i [] inside in
            let last = last_course g (lane_at lanes i) in
            let course = lane.each g.faults
            (record { known = record { times = []; ends = []; finish = 0 }; ready = []; free = [] })
            (omega arith) in
            let start_acts = ap (item_active g (track_at tracks i)) (item_at-start g p within) ∙ acts in
            -- its frozen time isn't set, so its time is its unfrozen one
            let zero_is = no_frozen i p (omega arith) start_acts unset in
            let time_is = unfrozen_is_time i p (omega arith) start_acts unset in
            -- the start follows from what the course has before the place of p
            let start = start_right g order topological frozen scenario (lates i g.faults)
            (latest_is_timed g order frozen scenario (lates i)
            (latest_exist g order frozen (track_at tracks i) topological)
            g.faults (omega arith)) (place order p) p within refl on
            last.known last.ready last.free (course.at frozen (λ y k d. refl) (lates i) (latest_exist g order frozen
            (track_at tracks i) topological)) course.places.ready_count course.places.free_count
            is.is_ready.heard is.is_ready.is_heard acts is.ready (max time (frozen_in frozen p)) is.is_ready.is
            (ap (λ v. max v (frozen_in frozen p)) is.is) in
            omega (arith, zero_is, time_is, start)

  -- ---- an item that is sent

  -- given: an item without a frozen time, and lanes in which its process has sent all items before it
  -- `inside`: the item is the k-th that p sends; `limits`, `early`: no overflow; `unset`: it has no frozen time yet
  module _ (p : ℕ) (l : p < process_count g) (on : node_of g p < length g.nodes) (k : ℕ)
      (inside : k < length (queue_of g p)) (limits : IsWithinLimits g) (early : AreEarly frozen)
      (unset : get_or frozen (get_or (queue_of g p) k 0) None ≡ None) (lanes : List (List ProgressState))
      (before : AreLanes g
      (λ values n c. IsSending g order (IsDone g order p k) frozen values p k n c) tracks lanes) where
    -- the item at place k of what the process sends
    abbrev x : ℕ
    x = get_or (queue_of g p) k 0

    -- in each track in which p is active, its last course has the latest end of p with all the faults
    pub end_known : (i : ℕ) (d : List ProgressState) → i < length tracks → active g (track_at tracks i) p ≡ true →
        end_in (last_course g (get_or lanes i d)).known p ≡ end_in (lates i g.faults) p
    end_known i d within acts =
        let course = (before.each i d within).each g.faults
        (record { known = record { times = []; ends = []; finish = 0 }; ready = []; free = [] }) (omega arith) in
        let gone = course.acts acts frozen (λ y k d. refl) (lates i)
        (latest_exist g order frozen (track_at tracks i) topological) in
        ap (λ es. unwrap_or (get_or es p None) 0) gone.keeps.ends ∙ gone.ended

    -- each lane has what `Lane::send_time` requires: the places of its last course, and a small end of p
    pub tell_sends : TellSends g tracks p lanes
    tell_sends = record {
      count = before.count;
      each = λ i d within.
          let lane = before.each i d within in
          let course = lane.each g.faults
          (record { known = record { times = []; ends = []; finish = 0 }; ready = []; free = [] }) (omega arith) in
          record {
            count = lane.count;
            free = course.places.free_count;
            early = λ acts.
                let small = latest_small g order topological (IsDone g order p k) frozen (track_at tracks i) limits
                (long_track i within) early g.faults (omega arith) in
                omega (arith, end_known i d within acts, small.ends p);
          };
    }

    -- the item is one that the process sends
    sent_there : Contains (queue_of g p) x
    sent_there = here_sent g order topological (with_faults [] []) p l k inside

    -- the latest time over all tracks, as if x were not frozen, is the greatest that x would have in any scenario
    pub send_over : (latest : Option ℕ) → IsLatestSend g tracks p x lanes (length lanes) latest →
        IsUnfrozenTime g order frozen x latest
    send_over latest over = unfrozen_over x (in_queue g p x sent_there).within (λ i. AreSent g (track_at tracks i) p x)
        (λ i time. time ≡ unfrozen_send g p (last_course g (lane_at lanes i))) latest
        (subst (λ m. IsLatestSend g tracks p x lanes m latest) before.count over)
        (λ i below acts. record {
          acts = sym (ap (active g (track_at tracks i)) (in_queue g p x sent_there).by)
              ∙ producer_active g (track_at tracks i) (item_at g x) acts;
          sent = acts;
        })
        (λ i below are. are.sent)
        right
      where
        -- the unfrozen time by a lane's last course is the latest unfrozen time of x in that track
        right : (i time : ℕ) → i < length tracks → AreSent g (track_at tracks i) p x →
            time ≡ unfrozen_send g p (last_course g (lane_at lanes i)) →
            time ≡ unfrozen_in g order tracks lates x i
        right i time within are is =
            let scenario = with_faults (track_at tracks i) [] in
            let course = (before.each i [] within).each g.faults
            (record { known = record { times = []; ends = []; finish = 0 }; ready = []; free = [] })
            (omega arith) in
            let gone = course.acts are.acts frozen (λ y k d. refl) (lates i)
            (latest_exist g order frozen (track_at tracks i) topological) in
            let last = last_course g (lane_at lanes i) in
            -- its frozen time isn't set, so its time is its unfrozen one
            let zero_is = no_frozen i x (in_queue g p x sent_there).within are.sent unset in
            let time_is = unfrozen_is_time i x (in_queue g p x sent_there).within are.sent unset in
            -- the send follows from the end of p and from when the slots are free
            let send = send_is g order topological scenario p l k inside frozen (lates i g.faults)
            (latest_is_timed g order frozen scenario (lates i)
            (latest_exist g order frozen (track_at tracks i) topological) g.faults (omega arith))
            (get_or last.free (node_of g p) 0) gone.sent.slots_free are.sent in
            let same = is ∙ ap (λ e. max (next_slot g (node_of g p) e) (get_or last.free (node_of g p) 0))
            (end_known i [] within are.acts) in
            omega (arith, zero_is, time_is, send, same)
