-- A node on a stream follows each turn of a node in a play, if it is fed the records of the reports and frames that the
-- turn takes.
use Rattle.std.proofs.Common.{◌≡◌, ℕ, zero, suc, ◌+◌, ◌≤◌, Bool, true, false, cond, not, ◌||◌, List, [], ◌∷◌, ◌++◌, map}
use Rattle.std.proofs.Common.{Option, Some, None, refl, sym, ap, ap₂, ◌∙◌, subst, arith, inl, inr, lt-ltb}
use Rattle.std.proofs.Common.{le-ltb, le-leb}
use Rattle.std.specs.Prelude.{IfSome, is_none, is_some, nat_le}
use Rattle.std.proofs.lemmas.Bool.{and_from}
use Rattle.std.proofs.lemmas.List.Sums.{fold-append}
use Rattle.cpg_node.specs.Dispatcher.{Dispatcher, Act, Ended, Frame, next, finished, hear, hear_all, is_strange}
use Rattle.cpg_node.specs.Dispatcher.{AllFine, turn, own_of}
use Rattle.cpg_node.specs.State.{MayFinish, running_of, time_of}
use Rattle.cpg_node.proofs.HeardFirst.{hearing_first_is_the_same}
use Rattle.cpg_node.proofs.Next.{next_is}
use Rattle.cpg_node.proofs.Turning.{next_reported}
use Rattle.cpg_live.specs.declared.lawless.Defect.TheVariants.{Frame as StrangeFrame, End as FalseEnd}
use Rattle.cpg_live.specs.Stream.{NodeProgress, Step, lawless, lawful, take_turn, instant_below, turn_if, turns_below}
use Rattle.cpg_live.specs.Stream.{turned, may_tell, may_end_now, may_end, arrived, ended}
use Rattle.cpg_live.specs.Told.{end_event, frame_event, follow_one, follow, after_last, HasCome, MayReport}
use Rattle.cpg_live.specs.Told.{after_reports, turn_events, TurnsAreFollowed, ClosesAreFollowed}
use Rattle.cpg_live.proofs.Turns.{floor_after, below_or_not, still, turned_next, turned_last}

-- after `n` turns below limit `x`, all turns below a later limit `y` lead where they lead from `p` itself
further : (n x y : ℕ) (p : NodeProgress) → x ≤ y → turned y (turns_below n x p) ≡ turned y p
unfolding turns_below
further zero x y p le = refl
further (suc n) x y p le = elim (below_or_not x (next p.dispatcher)) [
  | inr z ↦ ap (turned y) (still (suc n) x p z.none)
  | inl b ↦ ap (λ q. turned y (turns_below n x (turn_if p q))) b.found ∙ further n x y (take_turn b.time p) le
      ∙ turned_next y p b.time (ap (instant_below y) b.is
      ∙ ap (λ c. cond c (Some b.time) None) (lt-ltb b.time y (omega (arith, b.less, le))))
]

-- a node with its acts, as progress
abbrev at : Dispatcher → List Act → NodeProgress
at d acts = record { dispatcher = d; acts = acts }

-- no instant is below a limit that is not after the next one
none_before : (d : Dispatcher) (time limit : ℕ) → next d ≡ Some time → limit ≤ time →
    instant_below limit (next d) ≡ None
none_before d time limit e le = ap (instant_below limit) e ∙ ap (λ c. cond c (Some time) None) (le-ltb time limit le)

-- given the time of a turn, and the acts of a node before it
module _ (time : ℕ) (acts : List Act) where
  -- with all turns below `r`, which may be any moment from `from` up to the time, p is the node d with its acts
  Holds : ℕ → NodeProgress → Dispatcher → Type 0
  Holds from p d = (r : ℕ) → from ≤ r → r ≤ time → turned r p ≡ at d acts

  -- a node that comes to the time at its next turn is there by itself
  itself : (from : ℕ) (d : Dispatcher) → next d ≡ Some time → Holds from (at d acts) d
  unfolding Holds
  itself from d e r le most = turned_last r (at d acts) (none_before d time r e most)

  -- a node `p` on a stream that has come to a play's state `d` stays there up to the time
  come : (p : NodeProgress) (d : Dispatcher) → HasCome p d acts → next d ≡ Some time → Holds (after_last d.last) p d
  unfolding Holds
  come p d h e r le most = sym (further (after_last d.last) (after_last d.last) r p le) ∙ ap (turned r) h
      ∙ turned_last r (at d acts) (none_before d time r e most)

  -- after some events no fault was found, and with all turns up to the time the node is d, whose next instant is the
  -- time
  record Told (s : Step) (d : Dispatcher) : Type 0 where
    -- no fault was found
    fault : s.fault ≡ None
    -- the next instant of `d` is the time
    comes : next d ≡ Some time
    -- all turns up to any moment from `from` to the time leave d (`Holds`)
    from : ℕ
    within : from ≤ time
    hold : Holds from s.progress d

  -- an end that the node may note is one that it may report (`may_end`): each of its tests follows from a field of
  -- `MayFinish`
  may_end_is : (d : Dispatcher) (moment : ℕ) (e : Ended) → MayFinish d moment e → may_end d moment e ≡ true
  may_end_is d moment e m = and_from (may_tell d e) (may_end_now d moment e (running_of d e.process))
      (and_from (nat_le e.faults d.table.faults) _ (le-leb e.faults d.table.faults m.few)
      (plain (own_of d.table e.process).condition e.value m.plain))
      (ap (may_end_now d moment e) m.runs
      ∙ and_from _ _ (and_from _ _ (ap is_none m.unreported) (lt-ltb m.run.start moment m.started))
      (le-leb moment (m.run.start + time_of d e.process e.faults) m.in_time))
    where
      -- a process without a condition reports false, so its value is plain
      plain : (o : Option ℕ) (value : Bool) → (o ≡ None → value ≡ false) → (is_some o || not value) ≡ true
      plain None value h = ap (λ v. false || not v) (h refl)
      plain (Some c) value h = refl

  -- a report `e` that dispatcher `d` may take is followed on its record by node `p`, if all turns up to the time lead
  -- `p` to `d`
  tell_end : (from : ℕ) (p : NodeProgress) (d : Dispatcher) (e : ℕ × Ended) → Holds from p d → next d ≡ Some time →
      from ≤ e.0 →
      MayFinish d e.0 e.1 →
      follow_one (lawful p) (end_event e) ≡ lawful (at (finished d e.1) acts)
  unfolding Holds
  tell_end from p d e h n le m =
      let most : e.0 ≤ time = subst (λ o. IfSome o (λ n. e.0 ≤ n)) n m.before in
      ap (ended e.0 e.1) (h e.0 le most)
      ∙ ap (λ b. cond b (lawful (at (finished d e.1) acts)) (lawless (at d acts) FalseEnd)) (may_end_is d e.0 e.1 m)

  -- reports `es` that dispatcher `d` may take one after another are followed on their records by node `p`, if all turns
  -- up to the time lead `p` to `d`; by induction on the reports: none changes the next instant
  tell_ends : (es : List (ℕ × Ended)) (from : ℕ) (p : NodeProgress) (d : Dispatcher) → Holds from p d →
      next d ≡ Some time → from ≤ time →
      MayReport d from es →
      Told (follow (lawful p) (map end_event es)) (after_reports d es)
  tell_ends [] from p d h n le m = record { fault = refl; comes = n; from = from; within = le; hold = h }
  tell_ends (e ∷ es) from p d h n le m =
      let most : e.0 ≤ time = subst (λ o. IfSome o (λ n. e.0 ≤ n)) n (m.1.before) in
      let after : next (finished d e.1) ≡ Some time = next_reported e.1 d.table d.heard d.running d.last ∙ n in
      subst (λ s. Told (follow s (map end_event es)) (after_reports (finished d e.1) es))
      (sym (tell_end from p d e h n m.0 m.1))
      (tell_ends es e.0 (at (finished d e.1) acts) (finished d e.1) (itself e.0 (finished d e.1) after) after most m.2)

  -- a frame `f` that isn't strange to dispatcher `d` is followed on its record by node `p`, if all turns up to the time
  -- lead `p` to `d`
  tell_frame : (from : ℕ) (p : NodeProgress) (d : Dispatcher) (f : Frame) → Holds from p d → from ≤ time →
      is_strange d time f ≡ false →
      follow_one (lawful p) (frame_event time f) ≡ lawful (at (hear d f) acts)
  unfolding Holds
  tell_frame from p d f h le fine = ap (arrived time f) (h time le (omega arith))
      ∙ ap (λ b. cond b (lawless (at d acts) StrangeFrame) (lawful (at (hear d f) acts))) fine

  -- frames `fs` that aren't strange to dispatcher `d` are followed on their records by node `p`, if all turns up to the
  -- time lead `p` to `d`
  tell_frames : (fs : List Frame) (from : ℕ) (p : NodeProgress) (d : Dispatcher) → Holds from p d → next d ≡ Some time →
      from ≤ time →
      AllFine d time fs →
      Told (follow (lawful p) (map (frame_event time) fs)) (hear_all d fs)
  tell_frames [] from p d h n le m = record { fault = refl; comes = n; from = from; within = le; hold = h }
  tell_frames (f ∷ fs) from p d h n le m =
      subst (λ s. Told (follow s (map (frame_event time) fs)) (hear_all (hear d f) fs))
      (sym (tell_frame from p d f h le m.0))
      (tell_frames fs from (at (hear d f) acts) (hear d f) (itself from (hear d f) n) n le m.1)

  -- a step without a fault is a lawful one
  whole : (s : Step) → s.fault ≡ None → lawful s.progress ≡ s
  whole s e = ap (λ o. record { progress = s.progress; fault = o }) (sym e)

  -- the reports and frames of a turn of dispatcher `d` are followed by node `p` on their records: first the reports,
  -- then the frames
  tell_all : (p : NodeProgress) (d : Dispatcher) (reports : List (ℕ × Ended)) (frames : List Frame) → HasCome p d acts →
      next d ≡ Some time →
      MayReport d (after_last d.last) reports →
      AllFine (after_reports d reports) time frames →
      Told (follow (lawful p) (turn_events time reports frames)) (hear_all (after_reports d reports) frames)
  tell_all p d reports frames come_so_far comes may fine =
      let soon : after_last d.last ≤ time = omega (arith, floor_after d.last time (next_is d time comes).after) in
      let one = tell_ends reports (after_last d.last) p d (come p d come_so_far comes) comes soon may in
      let ended : Step = follow (lawful p) (map end_event reports) in
      let two =
      tell_frames frames one.from ended.progress (after_reports d reports) one.hold one.comes one.within fine in
      let joined : follow (lawful p) (turn_events time reports frames) ≡ follow ended (map (frame_event time) frames) =
      fold-append follow_one (lawful p) (map end_event reports) (map (frame_event time) frames) in
      subst (λ z. Told z (hear_all (after_reports d reports) frames)) (sym joined)
      (subst (λ ended. Told (follow ended (map (frame_event time) frames)) (hear_all (after_reports d reports) frames))
      (whole ended one.fault) two)

  -- after a step without a fault the turn comes: of the turns below `time` + 1 only the one at `time` is left
  turn_comes : (s : Step) (d : Dispatcher) → Told s d → turned (time + 1) s.progress ≡ take_turn time (at d acts)
  unfolding Holds
  turn_comes s d told =
      sym (further time time (time + 1) s.progress (omega arith))
      ∙ ap (turned (time + 1)) (told.hold time told.within (omega arith))
      ∙ sym (turned_next (time + 1) (at d acts) time (ap (instant_below (time + 1)) told.comes
      ∙ ap (λ c. cond c (Some time) None) (lt-ltb time (time + 1) (omega arith))))
      ∙ turned_last (time + 1) (take_turn time (at d acts)) past
    where
      -- after its turn at the time, the node has no instant up to the time
      past : instant_below (time + 1) (next (turn d time [] [])) ≡ None
      past = elim (below_or_not (time + 1) (next (turn d time [] []))) [
        | inr z ↦ z.none
        | inl b ↦ absurd
            (omega (arith, b.less, floor_after (Some time) b.time (next_is (turn d time [] []) b.time b.is).after))
      ]

-- each turn of a node in a play is followed on the records of its reports and frames
pub turns_are_followed : TurnsAreFollowed
turns_are_followed p d acts time reports frames come_so_far n may fine fit =
    let step : Step = follow (lawful p) (turn_events time reports frames) in
    let told = tell_all time acts p d reports frames come_so_far n may fine in
    let law = hearing_first_is_the_same (after_reports d reports) time [] frames fine fit in
    record {
      none = told.fault;
      comes = turn_comes time acts step (hear_all (after_reports d reports) frames) told
          ∙ ap₂ at law.0 (ap (λ (more : List Act). acts ++ more) law.1);
    }

-- a close that isn't before the last turn of a node in a play without a next instant leads node `p` to the state and acts of
-- that node
pub closes_are_followed : ClosesAreFollowed
closes_are_followed p d acts time h n late =
    ap lawful (sym (further (after_last d.last) (after_last d.last) (time + 1) p late) ∙ ap (turned (time + 1)) h
    ∙ turned_last (time + 1) (at d acts) (ap (instant_below (time + 1)) n))
