-- What a node on a stream did stays done: whatever it takes, its old acts come first among its new ones.
use Rattle.std.proofs.Common.{◌≡◌, ℕ, zero, suc, ◌+◌, Bool, true, false, cond, List, [], ◌∷◌, ◌++◌, ◌==◌, length}
use Rattle.std.proofs.Common.{Option, Some, None, refl, sym, ap, ◌∙◌}
use Rattle.std.specs.Prelude.{is_some, nat_lt}
use Rattle.std.proofs.lemmas.List.{append_assoc, append-nil}
use Rattle.cpg_node.specs.Dispatcher.{Act, Ended, next, acts_of_turn, is_strange, hear, finished}
use Rattle.cpg_live.specs.declared.lawless.Defect.{Defect}
use Rattle.cpg_live.specs.declared.lawless.Defect.TheVariants.{Length, Order, Frame as StrangeFrame, End as FalseEnd}
use Rattle.cpg_live.specs.declared.event.Event.{Event}
use Rattle.cpg_live.specs.declared.event.Event.TheVariants.{Frame as Arrival, End as Ending, Close}
use Rattle.cpg_live.specs.Records.{record_of, event_of}
use Rattle.cpg_live.specs.Stream.{NodeProgress, LiveState, lawless, lawful, instant_below, turn_if, turn_below}
use Rattle.cpg_live.specs.Stream.{turns_below, turned, may_end, ended, step, refused, settled, stepped, judged}
use Rattle.cpg_live.specs.Stream.{take_record}
use Rattle.cpg_live.specs.Feeding.{take_open, take_byte, take_bytes}
use Rattle.cpg_live.specs.Laws.{Grows}

-- acts grow by nothing
same : (xs : List Act) → Grows xs xs
same xs = ([], sym (append-nil xs))

-- if acts grow from `xs` to `ys` and from `ys` to `zs`, they grow from `xs` to `zs`
grow_on : (xs ys zs : List Act) → Grows xs ys → Grows ys zs → Grows xs zs
grow_on xs ys zs p q = (p.0 ++ q.0, q.1 ∙ ap (λ (l : List Act). l ++ q.0) p.1 ∙ append_assoc xs p.0 q.0)

-- the turn of instant `o` adds its acts to those of node `p`, and no turn adds none
turn_grows : (p : NodeProgress) (o : Option ℕ) → Grows p.acts (turn_if p o).acts
turn_grows p None = same p.acts
turn_grows p (Some time) = (acts_of_turn p.dispatcher time [] [], refl)

-- up to `n` turns of node `p` add acts alone
turns_grow : (n limit : ℕ) (p : NodeProgress) → Grows p.acts (turns_below n limit p).acts
unfolding turns_below
turns_grow zero limit p = same p.acts
turns_grow (suc n) limit p = grow_on p.acts (turn_below limit p).acts (turns_below n limit (turn_below limit p)).acts
    (turn_grows p (instant_below limit (next p.dispatcher)))
    (turns_grow n limit (turn_below limit p))

-- all turns below a limit add acts alone
turned_grows : (limit : ℕ) (p : NodeProgress) → Grows p.acts (turned limit p).acts
turned_grows limit p = turns_grow limit limit p

-- an event adds acts alone: its turns add acts, and what the event itself does adds none, whether it is lawful or not
step_grows : (time : ℕ) (event : Event) (p : NodeProgress) → Grows p.acts (step time event p).progress.acts
step_grows time (Arrival f) p = go (is_strange (turned time p).dispatcher time f)
  where
    -- by whether the frame is strange
    go : (b : Bool) →
        Grows p.acts (cond b (lawless (turned time p) StrangeFrame)
        (lawful (record (turned time p) { dispatcher = hear (turned time p).dispatcher f }))).progress.acts
    go true = turned_grows time p
    go false = turned_grows time p
step_grows time (Ending process faults value) p = go (record { process = process; faults = faults; value = value })
  where
    -- for the report that the event makes
    go : (e : Ended) → Grows p.acts (ended time e (turned time p)).progress.acts
    go e = told (may_end (turned time p).dispatcher time e)
      where
        -- by whether the process may end with this report
        told : (b : Bool) →
            Grows p.acts
            (cond b (lawful (record (turned time p) { dispatcher = finished (turned time p).dispatcher e }))
            (lawless (turned time p) FalseEnd)).progress.acts
        told true = turned_grows time p
        told false = turned_grows time p
step_grows time Close p = turned_grows (time + 1) p

-- what is wrong with a record changes no acts
settled_acts : (s : LiveState) (time : ℕ) (event : Event) (defect : Option Defect) →
    (settled s time event defect).progress.acts ≡ s.progress.acts
settled_acts s time event None = refl
settled_acts s time event (Some defect) = refl

-- an event that is judged adds acts alone, whether it is taken or refused; one that is refused for its kind or its
-- order takes no turns either
judged_grows : (s : LiveState) (time : ℕ) (event : Option Event) →
    Grows s.progress.acts (judged s time event).progress.acts
judged_grows s time None = same s.progress.acts
judged_grows s time (Some event) = go (nat_lt time s.time)
  where
    -- by whether the event comes before the last one
    go : (b : Bool) →
        Grows s.progress.acts
        (cond b (refused s Order) (stepped s time event (step time event s.progress))).progress.acts
    go true = same s.progress.acts
    go false =
        let grown = step_grows time event s.progress in (
          grown.0,
          settled_acts (record s { progress = (step time event s.progress).progress }) time event
              (step time event s.progress).fault ∙ grown.1,
        )

-- a record adds acts alone
record_grows : (s : LiveState) (bytes : List ℕ) → Grows s.progress.acts (take_record s bytes).progress.acts
record_grows s bytes = go (is_some s.lawless) s.closed
  where
    -- by `b`, whether a record was lawless, and `c`, whether the stream is closed
    go : (b c : Bool) →
        Grows s.progress.acts (cond b s (cond c (refused s Length)
        (judged s (record_of bytes).time (event_of s.progress.dispatcher.table (record_of bytes))))).progress.acts
    go true c = same s.progress.acts
    go false true = same s.progress.acts
    go false false = judged_grows s (record_of bytes).time (event_of s.progress.dispatcher.table (record_of bytes))

-- bytes that may be a record add acts alone
open_grows : (s : LiveState) (bytes : List ℕ) → Grows s.progress.acts (take_open s bytes).progress.acts
open_grows s bytes = go (length bytes == 14)
  where
    -- by whether the bytes are a whole record
    go : (b : Bool) →
        Grows s.progress.acts
        (cond b (take_record (record s { rest = [] }) bytes) (record s { rest = bytes })).progress.acts
    go true = record_grows (record s { rest = [] }) bytes
    go false = same s.progress.acts

-- a byte adds acts alone
byte_grows : (s : LiveState) (byte : ℕ) → Grows s.progress.acts (take_byte s byte).progress.acts
byte_grows s byte = go (is_some s.lawless) s.closed
  where
    -- by `b`, whether a record was lawless, and `c`, whether the stream is closed
    go : (b c : Bool) →
        Grows s.progress.acts (cond b s (cond c (refused s Length) (take_open s (s.rest ++ byte ∷ [])))).progress.acts
    go true c = same s.progress.acts
    go false true = same s.progress.acts
    go false false = open_grows s (s.rest ++ byte ∷ [])

-- bytes add acts alone
pub bytes_grow : (s : LiveState) (bytes : List ℕ) → Grows s.progress.acts (take_bytes s bytes).progress.acts
bytes_grow s [] = same s.progress.acts
bytes_grow s (byte ∷ bytes) = grow_on s.progress.acts (take_byte s byte).progress.acts
    (take_bytes (take_byte s byte) bytes).progress.acts (byte_grows s byte) (bytes_grow (take_byte s byte) bytes)
