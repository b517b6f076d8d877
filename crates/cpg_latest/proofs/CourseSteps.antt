-- A process begins in a course, and sends one item after another, until all is known before the next place.
use Rattle.std.proofs.Common.{◌≡◌, ◌∙◌, ℕ, zero, suc, ◌+◌, ◌^◌, ◌==◌, ◌<◌, ◌≤◌, max, true, false, Bool, List, []}
use Rattle.std.proofs.Common.{length, length-set, get_or, set, Option, Some, None, unwrap_or, arith, refl, sym, ap}
use Rattle.std.proofs.Common.{ap₂, subst, get_or-set_same}
use Rattle.std.proofs.lemmas.Bool.{cond-false}
use Rattle.cpg_base.specs.Numbers.{greatest}
use Rattle.cpg_base.specs.Duration.{duration}
use Rattle.cpg_base.specs.Graph.{Graph, process_count, condition_count, process_at, node_of, item_at}
use Rattle.cpg_base.specs.Limits.{IsWithinLimits}
use Rattle.cpg_base.specs.Activity.{active, item_active}
use Rattle.cpg_base.specs.Bus.{round, next_slot}
use Rattle.cpg_base.specs.Order.{place}
use Rattle.cpg_bus.specs.Plan.{queue_of}
use Rattle.cpg_bus.proofs.Queued.{in_queue}
use Rattle.cpg_order.specs.Urgency.{IsTopological}
use Rattle.cpg_run.specs.Run.{Times, time_in, end_in, input_bounds}
use Rattle.cpg_run.specs.Known.{AreEarly, frozen_in}
use Rattle.cpg_run.specs.Progress.{HasSent, IsAt, ProgressState}
use Rattle.cpg_latest.specs.Latest.{AreLatest, with_faults, latest_end, fault_delay}
use Rattle.cpg_latest.specs.Timed.{IsTimed}
use Rattle.cpg_latest.specs.Course.{ForLatest, GoesOn, HasGone, IsCourse, IsSending, IsReadyFor, last_end, end_after}
use Rattle.cpg_latest.proofs.AreTimed.{latest_is_timed}
use Rattle.cpg_latest.proofs.Courses.{end_next, latest_small, set_same, set_twice, some_faults}
use Rattle.cpg_latest.proofs.LateTimes.{late_end_active}
use Rattle.cpg_latest.proofs.LatestExists.{the_latest, latest_exist}
use Rattle.cpg_latest.proofs.Timed.{start_acts}
use Rattle.cpg_latest.proofs.TimedPlaces.{at_idle, at_active, can_send, start_right}
use Rattle.cpg_latest.proofs.TimedSends.{nothing_sent, sent_active, sent_idle, here_sent, send_is}

-- an end isn't before its start
pub not_sooner : (g : Graph) (p n start last : ℕ) → start ≤ end_after g p n start last
not_sooner g p zero start last = omega arith
not_sooner g p (suc n) start last = let is = cond-false (suc n == 0) (start + duration g p 0)
    (max (start + duration g p 0) (last + fault_delay g p)) (some_faults n) in
    omega (arith, is)

-- the latest end with one fault less than none is taken as 0
pub last_first : (g : Graph) (late : ℕ → Times) (p : ℕ) → 0 ≡ last_end g late 0 p
unfolding last_end
last_first g late p = refl

-- the latest end with n faults is the last end for m, if m is n + 1
last_at : (g : Graph) (late : ℕ → Times) (n m p : ℕ) → m ≡ suc n → latest_end g late n p ≡ last_end g late m p
unfolding last_end
last_at g late n m p is = subst (λ i. latest_end g late n p ≡ last_end g late i p) (sym is) refl

-- the latest end with n faults is the last end for n + 1
pub last_next : (g : Graph) (late : ℕ → Times) (n p : ℕ) → latest_end g late n p ≡ last_end g late (n + 1) p
last_next g late n p = last_at g late n (n + 1) p (omega arith)

-- given: a process p that is active in an outcome (`values`), frozen times below 2 ^ 58 (`early`), and a graph within its
-- limits; `Done` says which items are done
module _ (g : Graph) (order : List ℕ) (topological : IsTopological g order) (Done : ℕ → Type 0)
    (frozen : List (Option ℕ)) (values : List Bool)
    (limits : IsWithinLimits g) (long : length values ≡ condition_count g) (early : AreEarly frozen) (p : ℕ)
    (within : p < process_count g) (acts : active g values p ≡ true) where
  -- the latest end with one fault less is below 2 ^ 60, as all latest ends are; with no faults it is 0
  pub last_small : (n : ℕ) → n < g.faults + 1 → last_end g (the_latest g order frozen values topological) n p < 2 ^ 60
  unfolding last_end
  last_small zero few = omega arith
  last_small (suc n) few =
      let scenario = with_faults values [] in
      let late = the_latest g order frozen values topological in
      let are = latest_exist g order frozen values topological in
      let small = latest_small g order topological Done frozen values limits long early n (omega (arith, few)) in
      let on = start_acts g order frozen scenario (late n)
      (latest_is_timed g order frozen scenario late are n (omega (arith, few))) p within acts in
      let end_is = late_end_active g order frozen scenario late are n (omega (arith, few)) p within on in
      omega (arith, end_is, small.ends p)

-- the course c once the process p has begun on its node
abbrev pub begun : ProgressState → ℕ → ℕ → ℕ → ℕ → ProgressState
begun c p node start end = record {
  known = record c.known { times = set c.known.times p (Some start); ends = set c.known.ends p (Some end) };
  ready = set c.ready node end;
  free = c.free;
}

-- the course c once the node has waited for what decides an inactive process
abbrev pub waited : ProgressState → ℕ → ℕ → ProgressState
waited c node ready = record { known = c.known; ready = set c.ready node ready; free = c.free }

-- the course c once the item x is sent by the node
abbrev pub sent : ProgressState → ℕ → ℕ → ℕ → ℕ → ProgressState
sent c x node time free = record {
  known = record c.known { times = set c.known.times x (Some time) };
  ready = c.ready;
  free = set c.free node free;
}

-- given: a process p of an outcome (`values`), and a number n of faults; `Done` says which items are done
module _ (g : Graph) (order : List ℕ) (topological : IsTopological g order) (Done : ℕ → Type 0)
    (frozen : List (Option ℕ)) (values : List Bool)
    (p : ℕ) (within : p < process_count g) (on : node_of g p < length g.nodes) (n : ℕ) (few : n < g.faults + 1) where
  module _ (c : ProgressState) (course : IsCourse g order Done frozen values (place order p) n c) (ready : ℕ)
      (is_ready : IsReadyFor g values p c ready) where
    -- ---- an inactive process

    -- after an inactive process all is known before the next place: no time is added, and its node is ready when it has heard
    -- what decides the process too
    pub passed : active g values p ≡ false → IsSending g order Done frozen values p 0 n (waited c (node_of g p) ready)
    passed idle = record {
      places = record {
        times = course.places.times;
        ends = course.places.ends;
        ready_count = length-set c.ready (node_of g p) ready ∙ course.places.ready_count;
        free_count = course.places.free_count;
      };
      acts = λ acts. absurd (apart (sym acts ∙ idle));
      idle = λ off more goes late are.
          at_idle g order topological more (with_faults values []) (late n) (latest_is_timed g order more
          (with_faults values []) late are n (omega arith)) (place order p) p within refl on
          c.known c.ready c.free (course.at more goes late are) course.places.ready_count course.places.free_count
          is_ready.heard is_ready.is_heard ready idle is_ready.is;
    }
      where
        -- true isn't false
        apart : true ≡ false → ⊥
        apart conflict = cc

    -- ---- an active one

    -- given: an active process, and the start that is found for it
    module _ (done : Done p) (acts : active g values p ≡ true) (start : ℕ)
        (is_start : start ≡ max (max (max ready (process_at g p).release)
        (greatest (input_bounds g (with_faults values []) c.known p))) (frozen_in frozen p)) where
      -- the start that is found is that of the latest times: its frozen time is set already, and what it waits for is known
      pub start_is_latest : ForLatest g order Done frozen values (λ late. start ≡ time_in (late n) p)
      start_is_latest more goes late are =
          let found : start ≡ max (max (max ready (process_at g p).release)
          (greatest (input_bounds g (with_faults values []) c.known p))) (frozen_in more p) =
          is_start ∙ ap (λ o. max (max (max ready (process_at g p).release)
          (greatest (input_bounds g (with_faults values []) c.known p))) (unwrap_or o 0))
          (sym (goes p (omega arith) done)) in
          start_right g order topological more (with_faults values []) (late n) (latest_is_timed g order more
          (with_faults values []) late are n (omega arith)) (place order p) p within refl on
          c.known c.ready c.free (course.at more goes late are) course.places.ready_count course.places.free_count
          is_ready.heard is_ready.is_heard acts ready start is_ready.is found

      module _ (end last : ℕ) (is_end : end ≡ end_after g p n start last)
          (is_last : ForLatest g order Done frozen values (λ late. last ≡ last_end g late n p)) where
        -- the end that is found is that of the latest times, as it follows from the start and the last end by the same rule
        pub end_is_latest : ForLatest g order Done frozen values (λ late. end ≡ latest_end g late n p)
        end_is_latest more goes late are =
            is_end ∙ ap₂ (end_after g p n) (start_is_latest more goes late are) (is_last more goes late are)
            ∙ sym (end_next g late n p)

        -- in the course p has begun and sent nothing: its start and its end there are those of the latest times
        gone : ForLatest g order Done frozen values
            (λ late. HasGone g order (with_faults values []) (late n) p 0 (begun c p (node_of g p) start end))
        gone more goes late are =
            -- in the latest times, the start that is found is the start of the process
            let scenario = with_faults values [] in
            let latest = late n in
            let run : IsTimed g order more scenario latest = latest_is_timed g order more scenario
            late are n (omega arith) in
            let found : start ≡ max (max (max ready (process_at g p).release)
            (greatest (input_bounds g scenario c.known p)))
            (frozen_in more p) =
            is_start ∙ ap (λ o. max (max (max ready (process_at g p).release)
            (greatest (input_bounds g scenario c.known p)))
            (unwrap_or o 0)) (sym (goes p (omega arith) done)) in
            -- the end is the latest end
            let after : start ≤ end = let not_earlier = not_sooner g p n start last in
            omega (arith, not_earlier, is_end) in
            let right : end ≡ end_in latest p = end_is_latest more goes late are
            ∙ sym (late_end_active g order more scenario late
            are n (omega arith) p within (start_acts g order more scenario latest run p within acts)) in
            -- with both set, the process can send
            let next = begun c p (node_of g p) start end in
            let can = can_send g order topological more scenario latest run (place order p) p within refl
            on c.known c.ready c.free
            (course.at more goes late are) course.places.ready_count course.places.free_count
            is_ready.heard is_ready.is_heard acts ready start is_ready.is found end after right next.known
            course.places.times course.places.ends refl refl (get_or c.free (node_of g p) 0) refl in
            -- what is known after the start: nothing is sent yet, and no other end is changed
            record {
              begun = next.known;
              frees = c.free;
              ended = can.ends;
              none = can.none;
              sent = nothing_sent g order topological scenario p within latest next.known
                  (get_or c.free (node_of g p) 0) can;
              keeps = record { times = refl; ends = refl };
              free = set_same c.free (node_of g p) (omega (arith, on, course.places.free_count));
              next = λ new free sent keeps.
                  at_active g order topological more scenario latest run (place order p) p within refl
                  on c.known c.ready c.free
                  (course.at more goes late are) course.places.ready_count course.places.free_count
                  is_ready.heard is_ready.is_heard acts ready start is_ready.is found end after right next.known
                  course.places.times course.places.ends refl refl new free sent keeps;
            }

        -- with its start and its end set, the process has begun and sent none of its items
        pub begins : IsSending g order Done frozen values p 0 n (begun c p (node_of g p) start end)
        begins = record {
          places = record {
            times = length-set c.known.times p (Some start) ∙ course.places.times;
            ends = length-set c.known.ends p (Some end) ∙ course.places.ends;
            ready_count = length-set c.ready (node_of g p) end ∙ course.places.ready_count;
            free_count = course.places.free_count;
          };
          acts = λ a. gone;
          idle = λ off. absurd (apart (sym acts ∙ off));
        }
          where
            -- true isn't false
            apart : true ≡ false → ⊥
            apart conflict = cc

  -- ---- what it sends

  -- given: the next item that the process sends
  module _ (k : ℕ) (inside : k < length (queue_of g p)) (c : ProgressState)
      (sending : IsSending g order Done frozen values p k n c) where
    -- the item at place k of what the process sends
    abbrev x : ℕ
    x = get_or (queue_of g p) k 0

    -- if the item is inactive, the course as it is has sent one item more: the item has no time in the latest times either
    pub unsent : (active g values p ≡ true → item_active g values (item_at g x) ≡ false) →
        IsSending g order Done frozen values p (k + 1) n c
    unsent off = record {
      places = sending.places;
      acts = λ acts more goes late are.
          let scenario = with_faults values [] in
          let gone = sending.acts acts more goes late are in
          let run : IsTimed g order more scenario (late n) = latest_is_timed g order more scenario
          late are n (omega arith) in
          record {
            begun = gone.begun;
            frees = gone.frees;
            ended = gone.ended;
            none = gone.none;
            sent = sent_idle g order topological scenario p within more (late n) run gone.begun c.known k
                (get_or c.free (node_of g p) 0) inside gone.sent gone.none (off acts);
            keeps = gone.keeps;
            free = gone.free;
            next = gone.next;
          };
      idle = sending.idle;
    }

    -- given: an active item, and the time that is found for it
    module _ (done : Done x) (acts : active g values p ≡ true)
        (on_item : item_active g values (item_at g x) ≡ true) (time : ℕ)
        (is_time : time ≡ max (max (next_slot g (node_of g p) (end_in c.known p)) (get_or c.free (node_of g p) 0))
        (frozen_in frozen x)) where
      -- the end of the process in the course is the latest end
      end_there : ForLatest g order Done frozen values (λ late. end_in c.known p ≡ end_in (late n) p)
      end_there more goes late are = let gone = sending.acts acts more goes late are in
          ap (λ es. unwrap_or (get_or es p None) 0) gone.keeps.ends ∙ gone.ended

      -- the time that is found is the rule's, with the latest end and the frozen time of whatever list follows
      time_there : (more : List (Option ℕ)) → GoesOn g Done frozen more → (late : ℕ → Times) →
          AreLatest g order more values late
          → time ≡ max (max (next_slot g (node_of g p) (end_in (late n) p)) (get_or c.free (node_of g p) 0))
          (frozen_in more x)
      time_there more goes late are =
          let own_item = in_queue g p x (here_sent g order topological (with_faults values []) p within k inside) in
          is_time ∙ ap₂ (λ e o. max (max (next_slot g (node_of g p) e) (get_or c.free (node_of g p) 0)) (unwrap_or o 0))
          (end_there more goes late are) (sym (goes x own_item.within done))

      -- the time that is found is that of the latest times
      pub time_is_latest : ForLatest g order Done frozen values (λ late. time ≡ time_in (late n) x)
      time_is_latest more goes late are =
          let scenario = with_faults values [] in
          let gone = sending.acts acts more goes late are in
          time_there more goes late are
          ∙ send_is g order topological scenario p within k inside more (late n)
          (latest_is_timed g order more scenario late are n
          (omega arith)) (get_or c.free (node_of g p) 0) gone.sent.slots_free on_item

      -- the end and the time of the send are latest times, and so below 2 ^ 59
      pub sends_small : IsWithinLimits g → length values ≡ condition_count g → AreEarly frozen →
          (end_in c.known p < 2 ^ 59) × (time < 2 ^ 59)
      sends_small limits long early =
          let late = the_latest g order frozen values topological in
          let are = latest_exist g order frozen values topological in
          let small = latest_small g order topological Done frozen values limits long early n few in
          let end_is = end_there frozen (λ y h d. refl) late are in
          let time_is = time_is_latest frozen (λ y h d. refl) late are in
          (omega (arith, end_is, small.ends p), omega (arith, time_is, small.times x))

      -- with its time set, the process has sent one item more
      pub sends : (free : ℕ) → free ≡ time + round g →
          IsSending g order Done frozen values p (k + 1) n (sent c x (node_of g p) time free)
      sends free is = record {
        -- there are as many times, ends and nodes as before
        places = record {
          times = length-set c.known.times x (Some time) ∙ sending.places.times;
          ends = sending.places.ends;
          ready_count = sending.places.ready_count;
          free_count = length-set c.free (node_of g p) free ∙ sending.places.free_count;
        };
        -- the item is active: in the latest times it has this time, and the slots are free a round later
        acts = λ a more goes late are.
            let scenario = with_faults values [] in
            let gone = sending.acts acts more goes late are in
            let run : IsTimed g order more scenario (late n) = latest_is_timed g order more scenario
            late are n (omega arith) in
            let own_item = in_queue g p x (here_sent g order topological scenario p within k inside) in
            let node_inside : node_of g p < length c.free = omega (arith, on, sending.places.free_count) in
            let is_set = get_or-set_same c.free (node_of g p) free 0 node_inside in
            let next = sent c x (node_of g p) time free in
            let long : node_of g p < length gone.frees = omega (
              arith,
              node_inside,
              ap length gone.free,
              length-set gone.frees (node_of g p)
                  (get_or c.free (node_of g p) 0),
            ) in
            -- one item more is sent; the start, the end and other times stay
            record {
              begun = gone.begun;
              frees = gone.frees;
              ended = gone.ended;
              none = gone.none;
              sent = subst (HasSent g order scenario (late n) p (k + 1) gone.begun next.known) (sym (is_set ∙ is))
                  (sent_active g order topological scenario p within more (late n) run gone.begun c.known k
                  (get_or c.free (node_of g p) 0) inside gone.sent next.known time
                  (omega (arith, own_item.within, sending.places.times)) refl on_item (time_there more goes late are));
              keeps = record {
                times = length-set c.known.times x (Some time)
                    ∙ gone.keeps.times;
                ends = gone.keeps.ends;
              };
              free = ap (λ fs. set fs (node_of g p) free) gone.free
                  ∙ set_twice gone.frees (node_of g p) (get_or c.free (node_of g p) 0) free long
                  ∙ ap (λ v. set gone.frees (node_of g p) v) (sym is_set);
              next = gone.next;
            };
        idle = λ off. absurd (apart (sym acts ∙ off));
      }
        where
          -- true isn't false
          apart : true ≡ false → ⊥
          apart conflict = cc

  -- once all items are sent, all is known before the next place: by whether the process is active
  pub sent_all : (c : ProgressState) → IsSending g order Done frozen values p (length (queue_of g p)) n c →
      IsCourse g order Done frozen values (place order p + 1) n c
  sent_all c sending =
      record { places = sending.places; at = λ more goes late are. by (active g values p) refl more goes late are }
    where
      -- an active process has sent all its items, and an inactive one has none to send
      by : (b : Bool) → active g values p ≡ b →
          ForLatest g order Done frozen values
          (λ late. IsAt g order (with_faults values []) (late n) (place order p + 1) c.known c.ready c.free)
      by true acts more goes late are =
          let gone = sending.acts acts more goes late are in
          subst (IsAt g order (with_faults values []) (late n) (place order p + 1) c.known c.ready) (sym gone.free)
          (gone.next c.known (get_or c.free (node_of g p) 0) gone.sent gone.keeps)
      by false off more goes late are = sending.idle off more goes late are
