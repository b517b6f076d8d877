-- Events in any two orders in which time doesn't fall lead to the same state: those of one time may change places.
use Rattle.std.proofs.Common.{◌≡◌, ◌≢◌, ℕ, ◌≤◌, true, false, cond, ◌&&◌, List, [], ◌∷◌, ◌++◌, Option, Some, None, refl}
use Rattle.std.proofs.Common.{sym, ap, ◌∙◌, subst, arith, inl, inr, le-ltb}
use Rattle.std.specs.Prelude.{IfSome}
use Rattle.std.specs.List.{AllByRecursion}
use Rattle.std.proofs.lemmas.Bool.{cases_eq, cases_Bool, and_parts}
use Rattle.std.proofs.lemmas.Option.{none-some}
use Rattle.cpg_node.specs.Dispatcher.{Dispatcher, Ended, Frame, next, is_strange, hear, finished}
use Rattle.cpg_node.specs.State.{running_of}
use Rattle.cpg_node.proofs.Commuting.{next_same, other_running, reported_once, swap, hear_either, fine_either}
use Rattle.cpg_live.specs.declared.lawless.Defect.TheVariants.{Frame as StrangeFrame, End as FalseEnd}
use Rattle.cpg_live.specs.declared.event.Event.{Event}
use Rattle.cpg_live.specs.declared.event.Event.TheVariants.{Frame as Arrival, End as Ending, Close}
use Rattle.cpg_live.specs.Stream.{NodeProgress, Step, lawless, lawful, instant_below, turned, may_tell, may_end_now}
use Rattle.cpg_live.specs.Stream.{may_end, arrived, ended, is_close}
use Rattle.cpg_live.specs.Told.{follow_one, follow}
use Rattle.cpg_live.specs.Spelling.{RiseWithin}
use Rattle.cpg_live.specs.Reorder.{AreThoseOf, EventsOfOneTimeCommute}
use Rattle.cpg_live.proofs.Turns.{turned_last, turned_end}
use Rattle.cpg_live.proofs.Steps.{unreported}
use Rattle.cpg_live.proofs.Spelling.{lawful_front, within_le}

-- Two events of one time, on a node that has taken its turns before the time.

-- given the time of both events
module _ (time : ℕ) where
  -- the turns before the time are taken
  abbrev IsReady : Dispatcher → Type 0
  IsReady d = instant_below time (next d) ≡ None

  -- an instant that isn't before the time isn't below it
  left : (o : Option ℕ) → IfSome o (λ t. time ≤ t) → instant_below time o ≡ None
  left None not_before = refl
  left (Some t) not_before = ap (λ b. cond b (Some t) None) (le-ltb t time not_before)

  -- after the turns before the time a node is ready for events of the time
  ready : (p : NodeProgress) → IsReady (turned time p).dispatcher
  ready p = left (next (turned time p).dispatcher) (turned_end time p)

  -- an event `e` does to a node `p` what it does after the turns before its time
  settled : (p : NodeProgress) (e : Event) → is_close e ≡ false →
      follow_one (lawful p) (time, e) ≡ follow_one (lawful (turned time p)) (time, e)
  settled p (Arrival f) open' = ap (arrived time f) (sym (turned_last time (turned time p) (ready p)))
  settled p (Ending process faults value) open' =
      ap (ended time (record { process = process; faults = faults; value = value }))
      (sym (turned_last time (turned time p) (ready p)))
  settled p Close open' = absurd (no open')
    where
      -- true isn't false
      no : true ≡ false → ⊥
      no e = subst (λ b. cond b Unit ⊥) e tt

  -- the progress with another state of the node
  abbrev with_node : NodeProgress → Dispatcher → NodeProgress
  with_node p d = record { dispatcher = d; acts = p.acts }

  -- a node `p` that is ready takes a frame `f` that isn't strange
  hears : (p : NodeProgress) (f : Frame) → IsReady p.dispatcher → is_strange p.dispatcher time f ≡ false →
      follow_one (lawful p) (time, Arrival f) ≡ lawful (with_node p (hear p.dispatcher f))
  hears p f ready_now fine = ap (arrived time f) (turned_last time p ready_now)
      ∙ ap (λ b. cond b (lawless p StrangeFrame) (lawful (with_node p (hear p.dispatcher f)))) fine

  -- a frame `f` that a ready node `p` takes isn't strange
  hears_fine : (p : NodeProgress) (f : Frame) → IsReady p.dispatcher →
      (follow_one (lawful p) (time, Arrival f)).fault ≡ None →
      is_strange p.dispatcher time f ≡ false
  hears_fine p f ready_now none = elim (cases_Bool (is_strange p.dispatcher time f)) [
    | inr fine ↦ fine
    | inl strange ↦
        absurd (none-some StrangeFrame (sym none ∙ ap (λ (s : Step). s.fault)
        (ap (arrived time f) (turned_last time p ready_now))
        ∙ ap (λ b. (cond b (lawless p StrangeFrame) (lawful (with_node p (hear p.dispatcher f)))).fault) strange))
  ]

  -- an end as an event
  abbrev end_of : Ended → Event
  end_of e = Ending e.process e.faults e.value

  -- a node `p` that is ready takes an end `e` that may be reported
  notes : (p : NodeProgress) (e : Ended) → IsReady p.dispatcher → may_end p.dispatcher time e ≡ true →
      follow_one (lawful p) (time, end_of e) ≡ lawful (with_node p (finished p.dispatcher e))
  notes p e ready_now fine = ap (ended time e) (turned_last time p ready_now)
      ∙ ap (λ b. cond b (lawful (with_node p (finished p.dispatcher e))) (lawless p FalseEnd)) fine

  -- an end `e` that a ready node `p` takes is one that may be reported
  notes_fine : (p : NodeProgress) (e : Ended) → IsReady p.dispatcher →
      (follow_one (lawful p) (time, end_of e)).fault ≡ None →
      may_end p.dispatcher time e ≡ true
  notes_fine p e ready_now none = elim (cases_Bool (may_end p.dispatcher time e)) [
    | inl fine ↦ fine
    | inr wrong ↦
        absurd (none-some FalseEnd (sym none ∙ ap (λ (s : Step). s.fault)
        (ap (ended time e) (turned_last time p ready_now))
        ∙ ap (λ b. (cond b (lawful (with_node p (finished p.dispatcher e))) (lawless p FalseEnd)).fault) wrong))
  ]

  -- an end `e` leaves dispatcher `d` ready
  still_ready : (d : Dispatcher) (e : Ended) → IsReady d → IsReady (finished d e)
  still_ready d e ready_now = ap (instant_below time) (next_same d e) ∙ ready_now

  -- after a report `x`, end `y` of another process may be reported exactly if it could be before
  may_still : (d : Dispatcher) (x y : Ended) → x.process ≢ y.process → may_end (finished d x) time y ≡ may_end d time y
  may_still d x y ne =
      ap (λ o. may_tell d y && may_end_now d time y o) (other_running x y.process ne d.table.own d.running)

  -- after a report `x`, another end `y` of the same process may not be reported
  not_again : (d : Dispatcher) (x y : Ended) → x.process ≡ y.process → may_end (finished d x) time y ≡ true → ⊥
  not_again d x y same again =
      let tests = and_parts (may_tell (finished d x) y)
      (may_end_now (finished d x) time y (running_of (finished d x) y.process)) again in
      let run = unreported (finished d x) time y (running_of (finished d x) y.process) tests.1 in
      reported_once d x run.run (ap (running_of (finished d x)) same ∙ run.runs) run.none

  -- given a node that is ready for events
  module _ (p : NodeProgress) (r : IsReady p.dispatcher) where
    -- frames `x` and `y` lead to the same in either order
    two_frames : (x y : Frame) → is_strange p.dispatcher time x ≡ false →
        is_strange (hear p.dispatcher x) time y ≡ false →
        follow_one (follow_one (lawful p) (time, Arrival x)) (time, Arrival y)
        ≡ follow_one (follow_one (lawful p) (time, Arrival y)) (time, Arrival x)
    two_frames x y x_fine y_fine =
        let either = fine_either p.dispatcher time x y x_fine y_fine in
        ap (λ s. follow_one s (time, Arrival y)) (hears p x r x_fine)
        ∙ hears (with_node p (hear p.dispatcher x)) y r y_fine
        ∙ ap (λ d. lawful (with_node p d)) (hear_either p.dispatcher x y)
        ∙ sym (ap (λ s. follow_one s (time, Arrival x)) (hears p y r either.0)
        ∙ hears (with_node p (hear p.dispatcher y)) x r either.1)

    -- a frame `x` and an end `y` lead to the same in either order
    frame_and_end : (x : Frame) (y : Ended) → is_strange p.dispatcher time x ≡ false →
        may_end p.dispatcher time y ≡ true →
        follow_one (follow_one (lawful p) (time, Arrival x)) (time, end_of y)
        ≡ follow_one (follow_one (lawful p) (time, end_of y)) (time, Arrival x)
    frame_and_end x y x_fine y_fine =
        ap (λ s. follow_one s (time, end_of y)) (hears p x r x_fine)
        ∙ notes (with_node p (hear p.dispatcher x)) y r y_fine
        ∙ sym (ap (λ s. follow_one s (time, Arrival x)) (notes p y r y_fine)
        ∙ hears (with_node p (finished p.dispatcher y)) x (still_ready p.dispatcher y r) x_fine)

    -- two ends lead to the same in either order: they are of different processes, since a process reports once
    -- (`not_again`), and so may be noted in either order (`swap`)
    two_ends : (x y : Ended) → may_end p.dispatcher time x ≡ true → may_end (finished p.dispatcher x) time y ≡ true →
        follow_one (follow_one (lawful p) (time, end_of x)) (time, end_of y)
        ≡ follow_one (follow_one (lawful p) (time, end_of y)) (time, end_of x)
    two_ends x y x_fine y_fine = elim (cases_eq x.process y.process) [
      | inl same ↦ absurd (not_again p.dispatcher x y same y_fine)
      | inr ne ↦
          let first : may_end p.dispatcher time y ≡ true = sym (may_still p.dispatcher x y ne) ∙ y_fine in
          let second : may_end (finished p.dispatcher y) time x ≡ true =
          may_still p.dispatcher y x (λ s. ne (sym s)) ∙ x_fine in
          ap (λ s. follow_one s (time, end_of y)) (notes p x r x_fine)
          ∙ notes (with_node p (finished p.dispatcher x)) y (still_ready p.dispatcher x r) y_fine
          ∙ ap (λ d. lawful (with_node p d)) (swap p.dispatcher x y ne)
          ∙ sym (ap (λ s. follow_one s (time, end_of x)) (notes p y r first)
          ∙ notes (with_node p (finished p.dispatcher y)) x (still_ready p.dispatcher y r) second)
    ]

    -- Two events lead to the same in either order, on a node that is ready.
    -- By the kinds of both events: two frames, a frame and an end, or two ends. A close is excluded by `x_open` and
    -- `y_open`; `x_free` and `y_free`: neither event meets a fault.
    ready_swap : (a b : Event) → is_close a ≡ false → is_close b ≡ false →
        (follow_one (lawful p) (time, a)).fault ≡ None →
        (follow_one (follow_one (lawful p) (time, a)) (time, b)).fault ≡ None →
        follow_one (follow_one (lawful p) (time, a)) (time, b) ≡ follow_one (follow_one (lawful p) (time, b)) (time, a)
    -- two frames: neither is strange
    ready_swap (Arrival x) (Arrival y) x_open y_open x_free y_free =
        let one = hears_fine p x r x_free in
        two_frames x y one (hears_fine (with_node p (hear p.dispatcher x)) y r
        (sym (ap (λ s. (follow_one s (time, Arrival y)).fault) (hears p x r one)) ∙ y_free))
    -- a frame and then an end: the one isn't strange, and the other may be reported
    ready_swap (Arrival x) (Ending process faults value) x_open y_open x_free y_free =
        let one = hears_fine p x r x_free in
        let y_end : Ended = record { process = process; faults = faults; value = value } in
        frame_and_end x y_end one (notes_fine (with_node p (hear p.dispatcher x)) y_end r
        (sym (ap (λ s. (follow_one s (time, end_of y_end)).fault) (hears p x r one)) ∙ y_free))
    -- an end and then a frame: the one may be reported, and the other isn't strange
    ready_swap (Ending process faults value) (Arrival y) x_open y_open x_free y_free =
        let x_end : Ended = record { process = process; faults = faults; value = value } in
        let one = notes_fine p x_end r x_free in
        sym (frame_and_end y x_end (hears_fine (with_node p (finished p.dispatcher x_end)) y
        (still_ready p.dispatcher x_end r)
        (sym (ap (λ s. (follow_one s (time, Arrival y)).fault) (notes p x_end r one)) ∙ y_free)) one)
    -- two ends: both may be reported
    ready_swap (Ending process faults value) (Ending other count truth) x_open y_open x_free y_free =
        let x_end : Ended = record { process = process; faults = faults; value = value } in
        let y_end : Ended = record { process = other; faults = count; value = truth } in
        let one = notes_fine p x_end r x_free in
        two_ends x_end y_end one (notes_fine (with_node p (finished p.dispatcher x_end)) y_end
        (still_ready p.dispatcher x_end r)
        (sym (ap (λ s. (follow_one s (time, end_of y_end)).fault) (notes p x_end r one)) ∙ y_free))
    -- neither event is a close
    ready_swap Close b x_open y_open x_free y_free = absurd (subst (λ b. cond b Unit ⊥) x_open tt)
    ready_swap (Arrival x) Close x_open y_open x_free y_free = absurd (subst (λ b. cond b Unit ⊥) y_open tt)
    ready_swap (Ending process faults value) Close x_open y_open x_free y_free =
        absurd (subst (λ b. cond b Unit ⊥) y_open tt)

  -- Two events of one time lead to the same in either order.
  -- Both orders begin with the turns before the time, which make the node ready; then `ready_swap` closes it.
  event_swap : (p : NodeProgress) (a b : Event) → is_close a ≡ false → is_close b ≡ false →
      (follow_one (follow_one (lawful p) (time, a)) (time, b)).fault ≡ None →
      follow_one (follow_one (lawful p) (time, a)) (time, b) ≡ follow_one (follow_one (lawful p) (time, b)) (time, a)
  event_swap p a b a_open b_open fault_free =
      let here : follow_one (lawful p) (time, a) ≡ follow_one (lawful (turned time p)) (time, a) = settled p a a_open in
      let turned_first : follow_one (lawful p) (time, b) ≡ follow_one (lawful (turned time p)) (time, b) =
      settled p b b_open in
      let fine : (follow_one (follow_one (lawful (turned time p)) (time, a)) (time, b)).fault ≡ None =
      sym (ap (λ s. (follow_one s (time, b)).fault) here) ∙ fault_free in
      let first = ap (λ (s : Step). s.fault)
      (lawful_front ((time, b) ∷ []) (follow_one (lawful (turned time p)) (time, a)) fine) in
      ap (λ s. follow_one s (time, b)) here ∙ ready_swap (turned time p) (ready p) a b a_open b_open first fine
      ∙ sym (ap (λ s. follow_one s (time, a)) turned_first)

-- An event goes to the front of events of its time.

-- all events are at this time, and none is a close
abbrev AreAt : ℕ → List (ℕ × Event) → Type 0
AreAt time es = AllByRecursion (λ (e : ℕ × Event). (e.0 ≡ time) × (is_close e.1 ≡ false)) es

-- An event `f` may go to the front of events of its own time. By induction on the events before it: it goes to the
-- front of the rest, and then changes places with the first.
to_front : (f : ℕ × Event) → is_close f.1 ≡ false → (before after : List (ℕ × Event)) (p : NodeProgress) →
    AreAt f.0 before →
    (follow (lawful p) (before ++ f ∷ after)).fault ≡ None →
    follow (lawful p) (before ++ f ∷ after) ≡ follow (lawful p) (f ∷ (before ++ after))
to_front f open' [] after p at fine = refl
to_front f open' (b ∷ before) after p at fine =
    -- the first event before `f`, `b`, is lawful, and leads to the node `next`
    let first : follow_one (lawful p) b ≡ lawful (follow_one (lawful p) b).progress =
    lawful_front (before ++ f ∷ after) (follow_one (lawful p) b) fine in
    let next : NodeProgress = (follow_one (lawful p) b).progress in
    -- from there `f` goes to the front of the rest
    let moved =
    to_front f open' before after next at.1 (sym (ap (λ s. (follow s (before ++ f ∷ after)).fault) first) ∙ fine) in
    -- so all of it is what follows `b` and then `f`
    let all : follow (lawful p) (b ∷ (before ++ f ∷ after))
    ≡ follow (follow_one (follow_one (lawful p) b) f) (before ++ after) =
    ap (λ s. follow s (before ++ f ∷ after)) first ∙ moved
    ∙ sym (ap (λ s. follow (follow_one s f) (before ++ after)) first) in
    -- `b` and then `f` are lawful, so they may change places
    let two : (follow_one (follow_one (lawful p) b) f).fault ≡ None =
    ap (λ (s : Step). s.fault) (lawful_front (before ++ after) (follow_one (follow_one (lawful p) b) f)
    (sym (ap (λ (s : Step). s.fault) all) ∙ fine)) in
    let time : (b.0, b.1) ≡ (f.0, b.1) = ap (λ t. (t, b.1)) at.0.0 in
    let swapped : follow_one (follow_one (lawful p) b) f ≡ follow_one (follow_one (lawful p) f) b =
    ap (λ e. follow_one (follow_one (lawful p) e) f) time
    ∙ event_swap f.0 p b.1 f.1 at.0.1 open' (sym (ap (λ e. (follow_one (follow_one (lawful p) e) f).fault) time) ∙ two)
    ∙ sym (ap (λ e. follow_one (follow_one (lawful p) f) e) time) in
    all ∙ ap (λ s. follow s (before ++ after)) swapped

-- Times.

-- no event is before this time
abbrev NotBefore : ℕ → List (ℕ × Event) → Type 0
NotBefore from es = AllByRecursion (λ (e : ℕ × Event). from ≤ e.0) es

-- events that aren't before a time aren't before an earlier one
later : (from less : ℕ) (es : List (ℕ × Event)) → less ≤ from → NotBefore from es → NotBefore less es
later from less [] le not_before = tt
later from less (e ∷ es) le not_before = (omega (arith, le, not_before.0), later from less es le not_before.1)

-- events `es` that rise from a time on aren't before it
not_before : (from to : ℕ) (es : List (ℕ × Event)) → RiseWithin from to es → NotBefore from es
not_before from to [] rise = tt
not_before from to (e ∷ es) rise = (rise.0, later e.0 from es rise.0 (not_before e.0 to es rise.2))

-- if `P` holds of event `f` and of all others, it holds of all with `f` in its place
put_back : (P : ℕ × Event → Type 0) (f : ℕ × Event) → P f → (before after : List (ℕ × Event)) →
    AllByRecursion P (before ++ after) →
    AllByRecursion P (before ++ f ∷ after)
put_back P f h [] after k = (h, k)
put_back P f h (b ∷ before) after k = (k.0, put_back P f h before after k.1)

-- if `P` holds of all events, it holds of `f`, which is among them, and of all others
take_out : (P : ℕ × Event → Type 0) (f : ℕ × Event) (before after : List (ℕ × Event)) →
    AllByRecursion P (before ++ f ∷ after) →
    P f × AllByRecursion P (before ++ after)
take_out P f [] after k = k
take_out P f (b ∷ before) after k = let taken = take_out P f before after k.1 in (taken.0, (k.0, taken.1))

-- if `P` holds of all events `es`, it holds of them in another order, `fs`
pub all_of : (P : ℕ × Event → Type 0) (fs es : List (ℕ × Event)) → AreThoseOf fs es → AllByRecursion P es →
    AllByRecursion P fs
all_of P [] es r h = tt
all_of P (f ∷ fs) es r h = let taken = take_out P f r.0 r.1 (subst (AllByRecursion P) r.2 h) in
    (taken.0, all_of P fs (r.0 ++ r.1) r.3 taken.1)

-- if `P` holds of all events in the order `fs`, it holds of them in the order `es`
of_all : (P : ℕ × Event → Type 0) (fs es : List (ℕ × Event)) → AreThoseOf fs es → AllByRecursion P fs →
    AllByRecursion P es
of_all P [] es r h = subst (AllByRecursion P) (sym r) tt
of_all P (f ∷ fs) es r h =
    subst (AllByRecursion P) (sym r.2) (put_back P f h.0 r.0 r.1 (of_all P fs (r.0 ++ r.1) r.3 h.1))

-- the events before event `f`, which is among the first in time, are at its time
at_time : (f : ℕ × Event) (before after : List (ℕ × Event)) (from to : ℕ) → RiseWithin from to (before ++ f ∷ after) →
    NotBefore f.0 (before ++ after) →
    AreAt f.0 before
at_time f [] after from to h k = tt
at_time f (b ∷ before) after from to h k =
    let below =
    (take_out (λ (e : ℕ × Event). b.0 ≤ e.0) f before after (not_before b.0 to (before ++ f ∷ after) h.2)).0 in
    ((omega (arith, below, k.0), h.1), at_time f before after b.0 to h.2 k.1)

-- events that rise in time do so without one of them, `f`, too
without : (f : ℕ × Event) (before after : List (ℕ × Event)) (from to : ℕ) → RiseWithin from to (before ++ f ∷ after) →
    RiseWithin from to (before ++ after)
without f [] [] from to h = omega (arith, h.0, h.2)
without f [] (a ∷ after) from to h = (omega (arith, h.0, h.2.0), h.2.1, h.2.2)
without f (b ∷ before) after from to h = (h.0, h.1, without f before after b.0 to h.2)

-- events `es` that rise and aren't before a time rise from that time on
from_on : (from to time : ℕ) (es : List (ℕ × Event)) → time ≤ to → RiseWithin from to es → NotBefore time es →
    RiseWithin time to es
from_on from to time [] le h k = le
from_on from to time (e ∷ es) le h k = (k.0, h.1, h.2)

-- Lawful events `es` that rise in time lead node `p` to the same in every such order `fs`. By induction on `fs`: its
-- first event stands in `es` after events of its own time, so it goes to the front there, and the rest is in order
-- again.
reorder : (fs es : List (ℕ × Event)) (p : NodeProgress) (from to : ℕ) → RiseWithin from to es → RiseWithin from to fs →
    AreThoseOf fs es →
    (follow (lawful p) es).fault ≡ None →
    follow (lawful p) fs ≡ follow (lawful p) es
reorder [] es p from to r q those fine = ap (follow (lawful p)) (sym those)
reorder (f ∷ fs) es p from to r q those fine =
    -- where the first event, `f`, stands in the other order
    let before : List (ℕ × Event) = those.0 in
    let after : List (ℕ × Event) = those.1 in
    let rises : RiseWithin from to (before ++ f ∷ after) = subst (RiseWithin from to) those.2 r in
    let lawful_all : (follow (lawful p) (before ++ f ∷ after)).fault ≡ None =
    sym (ap (λ l. (follow (lawful p) l).fault) those.2) ∙ fine in
    -- no other event is before `f`, so it goes to the front
    let others : NotBefore f.0 (before ++ after) =
    of_all (λ (e : ℕ × Event). f.0 ≤ e.0) fs (before ++ after) those.3 (not_before f.0 to fs q.2) in
    let moved : follow (lawful p) (before ++ f ∷ after) ≡ follow (follow_one (lawful p) f) (before ++ after) =
    to_front f q.1 before after p (at_time f before after from to rises others) lawful_all in
    let rest : (follow (follow_one (lawful p) f) (before ++ after)).fault ≡ None =
    sym (ap (λ (s : Step). s.fault) moved) ∙ lawful_all in
    -- `f` is lawful, and the rest may be put in order after it
    let first : follow_one (lawful p) f ≡ lawful (follow_one (lawful p) f).progress =
    lawful_front (before ++ after) (follow_one (lawful p) f) rest in
    let tail = reorder fs (before ++ after) (follow_one (lawful p) f).progress f.0 to
    (from_on from to f.0 (before ++ after) (within_le f.0 to fs q.2) (without f before after from to rises) others) q.2
    those.3
    (sym (ap (λ s. (follow s (before ++ after)).fault) first) ∙ rest) in
    ap (λ s. follow s fs) first ∙ tail ∙ sym (ap (λ s. follow s (before ++ after)) first) ∙ sym moved
    ∙ sym (ap (follow (lawful p)) those.2)

-- events that are lawful in one order that rises in time are so in every such order, and lead to the same
pub events_commute : EventsOfOneTimeCommute
events_commute p from to es fs r q those fine = reorder fs es p from to r q those fine
