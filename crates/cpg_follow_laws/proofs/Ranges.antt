-- No range that a live node holds is empty, since a frame that would leave an empty one is refused.
use Rattle.std.proofs.Common.{◌≡◌, ◌≢◌, ℕ, zero, suc, ◌+◌, Bool, true, false, not, ◌&&◌, ◌||◌, ◌==◌, List, [], ◌∷◌}
use Rattle.std.proofs.Common.{length, fold, get_or, Contains, All, Option, Some, None, refl, sym, ap, ◌∙◌, arith}
use Rattle.std.proofs.Common.{inl, inr, true≢false, eq-eqb, eqb-true, ltb-true, ltb-false}
use Rattle.std.specs.Prelude.{is_some, nat_lt}
use Rattle.std.specs.List.{list_any}
use Rattle.std.proofs.lemmas.Bool.{cases_Bool, cases_lt, cond_both, or_parts}
use Rattle.std.proofs.lemmas.List.{get_or-set_other, get_or_default, get_or_past}
use Rattle.std.proofs.lemmas.List.Elements.{All-map, All-set, Contains-get_or}
use Rattle.cpg_base.specs.Graph.{value_variable}
use Rattle.cpg_base.specs.Numbers.{numbers_below}
use Rattle.cpg_base.specs.Scenario.{number_of_value}
use Rattle.cpg_base.proofs.Lists.{Contains-first, Contains-rest, from_any_false, list_any_parts, list_any_true}
use Rattle.cpg_cube.specs.declared.literal.Literal.{Literal}
use Rattle.cpg_table.specs.Table.{Row, columns_in}
use Rattle.cpg_node.specs.Dispatcher.{Dispatcher, Ended, Frame, OwnTable, Range, cut, cut_all, cut_range, due_reports}
use Rattle.cpg_node.specs.Dispatcher.{frame_literals, hear_end, hear_frame, is_contradicted, is_strange, know_value}
use Rattle.cpg_node.specs.Dispatcher.{next, no_column, own_of, range_of, variable_count, whole_range}
use Rattle.cpg_live.specs.declared.event.Event.{Event}
use Rattle.cpg_live.specs.declared.event.Event.TheVariants.{Frame as Arrival, End as Ending, Close}
use Rattle.cpg_live.specs.declared.lawless.Defect.{Defect}
use Rattle.cpg_live.specs.declared.lawless.Defect.TheVariants.{Length, Order, Frame as StrangeFrame, End as FalseEnd}
use Rattle.cpg_live.specs.Records.{cut as cut_bytes, event_of, record_of}
use Rattle.cpg_live.specs.Stream.{LiveState, NodeProgress, Step, lawless, instant_below, judged, lawful, may_end}
use Rattle.cpg_live.specs.Stream.{open_stream, refused, settled, step, stepped, take_record, turn_below, turn_if}
use Rattle.cpg_live.specs.Stream.{turned}
use Rattle.cpg_live.specs.Stream.{turns_below, with_rest}
use Rattle.cpg_follow_laws.specs.Ranges.{HasNumber, NoRangeIsEmpty, FramesContradictWhereTheyTell}

-- no range of the list is empty
abbrev AllHave : List Range → Type 0
AllHave ranges = All HasNumber ranges

-- ---- ends

-- the value that an end tells leaves no range empty: it has the value alone
value_has : (heard : List Range) (o : Option ℕ) (value : Bool) → AllHave heard → AllHave (know_value heard o value)
value_has heard None value have = have
value_has heard (Some c) value have = All-set HasNumber heard (value_variable c)
    (record { low = number_of_value value; high = number_of_value value }) (omega arith) have

-- several ends leave no range empty; by induction on `es`
ends_have : (table : OwnTable) (es : List Ended) (heard : List Range) → AllHave heard →
    AllHave (fold (hear_end table) heard es)
ends_have table [] heard have = have
ends_have table (e ∷ es) heard have = ends_have table es (hear_end table heard e)
    (value_has _ (own_of table e.process).condition e.value
    (All-set HasNumber heard e.process (record { low = e.faults; high = e.faults }) (omega arith) have))

-- ---- turns, in which a live node is told nothing

-- no range that a node holds is empty
abbrev Has : NodeProgress → Type 0
Has p = AllHave p.dispatcher.heard

-- if no range that `p` holds is empty, none is after the turn of the instant `o`, if there is one
turn_has : (p : NodeProgress) (o : Option ℕ) → Has p → Has (turn_if p o)
turn_has p None has = has
turn_has p (Some time) has = ends_have p.dispatcher.table (due_reports p.dispatcher time) p.dispatcher.heard has

-- up to `count` turns, in which the node hears no frames, leave no range empty; by induction on `count`
turns_have : (count limit : ℕ) (p : NodeProgress) → Has p → Has (turns_below count limit p)
unfolding turns_below
turns_have zero limit p has = has
turns_have (suc count) limit p has =
    turns_have count limit (turn_below limit p) (turn_has p (instant_below limit (next p.dispatcher)) has)

-- ---- records

-- a frame that isn't strange leaves no range empty: that it would is the last of the tests of `is_strange`
fine : (d : Dispatcher) (time : ℕ) (f : Frame) → is_strange d time f ≡ false → AllHave (hear_frame d.table d.heard f)
fine d time f fails =
    let unknown : Bool = not (list_any (λ (row : Row). row.item == f.item) d.table.hears) in
    let none : Bool = not (nat_lt f.column (length (columns_in d.table.hears f.item))) in
    let other : Bool = not ((get_or (columns_in d.table.hears f.item) f.column no_column).time == time) in
    let heard : List Range = hear_frame d.table d.heard f in
    let not_empty : list_any is_contradicted heard ≡ false =
    (or_parts (unknown || none || other) (list_any is_contradicted heard) fails).1 in
    λ k d within. ltb-false (get_or heard k d).high (get_or heard k d).low
    (from_any_false is_contradicted heard (get_or heard k d) not_empty (Contains-get_or heard k d within))

-- A step leaves no range empty. By the event: a frame is heard only if it isn't strange, an end is kept until its
-- planned time, and a close takes the turns up to it.
step_has : (time : ℕ) (event : Event) (p : NodeProgress) → Has p → Has (step time event p).progress
step_has time (Arrival f) p has =
    let turned_first : NodeProgress = turned time p in
    cond_both (is_strange turned_first.dispatcher time f) (lawless turned_first StrangeFrame) (lawful
    (record turned_first {
      dispatcher = record turned_first.dispatcher
          { heard = hear_frame turned_first.dispatcher.table turned_first.dispatcher.heard f };
    }))
    (λ (s : Step). Has s.progress) (λ e. turns_have time time p has)
    (λ fails. fine turned_first.dispatcher time f fails)
step_has time (Ending process faults value) p has =
    let turned_first : NodeProgress = turned time p in
    let ended : Ended = record { process = process; faults = faults; value = value } in
    let have : Has turned_first = turns_have time time p has in
    cond_both (may_end turned_first.dispatcher time ended) _ (lawless turned_first FalseEnd)
    (λ (s : Step). Has s.progress) (λ _. have) (λ _. have)
step_has time Close p has = turns_have (time + 1) (time + 1) p has

-- no range of the node of a stream is empty
abbrev Holds : LiveState → Type 0
Holds s = Has s.progress

-- an event that is judged by the state of a stream leaves no range empty: it is refused, or it is a step
judged_holds : (s : LiveState) (time : ℕ) (event : Option Event) → Holds s → Holds (judged s time event)
judged_holds s time None holds = holds
judged_holds s time (Some event) holds =
    cond_both (nat_lt time s.time) (refused s Order)
    (stepped s time event (step time event s.progress)) Holds (λ _. holds)
    (λ _. settles (step time event s.progress) (step_has time event s.progress holds))
  where
    -- what a step answers, and by whether it refuses the record
    settles : (q : Step) → Has q.progress → Holds (stepped s time event q)
    settles q has = go q.fault
      where
        -- a record that is refused changes no range
        go : (o : Option Defect) → Holds (settled (record s { progress = q.progress }) time event o)
        go None = has
        go (Some defect) = has

-- a record leaves no range empty: after a lawless record or a close nothing is taken, and any other record is judged
record_holds : (s : LiveState) (bytes : List ℕ) → Holds s → Holds (take_record s bytes)
record_holds s bytes holds =
    cond_both (is_some s.lawless) s _ Holds (λ _. holds)
    (λ _. cond_both s.closed (refused s Length) _ Holds (λ _. holds)
    (λ _. judged_holds s (record_of bytes).time (event_of s.progress.dispatcher.table (record_of bytes)) holds))

-- records that are taken one after another leave no range empty; by induction on them
records_hold : (records : List (List ℕ)) (s : LiveState) → Holds s → Holds (fold take_record s records)
records_hold [] s holds = holds
records_hold (r ∷ rs) s holds = records_hold rs (take_record s r) (record_holds s r holds)

-- bytes that are no whole record change no range
rest_holds : (s : LiveState) (rest : List ℕ) → Holds s → Holds (with_rest s rest)
rest_holds s rest holds =
    cond_both (is_some s.lawless) s _ Holds (λ _. holds) (λ _. cond_both (s.closed && nat_lt 0 (length rest))
    (refused s Length) (record s { rest = rest }) Holds (λ _. holds) (λ _. holds))

-- No range that a node holds after any bytes is empty. At the start each range has all numbers, and the records and the
-- rest of the bytes leave none empty.
pub no_range_is_empty : NoRangeIsEmpty
no_range_is_empty table bytes =
    rest_holds (fold take_record (open_stream table) (cut_bytes bytes).whole) (cut_bytes bytes).rest
    (records_hold (cut_bytes bytes).whole (open_stream table)
    (All-map HasNumber (whole_range table.faults) (numbers_below variable_count) (λ k d l. omega arith)))

-- ---- what a frame leaves

-- a variable that no literal is about keeps its range; by induction on `ls`
untold : (v : ℕ) (ls : List Literal) (heard : List Range) → ((l : Literal) → Contains ls l → l.variable ≢ v) →
    range_of (cut_all heard ls) v ≡ range_of heard v
untold v [] heard ne = refl
untold v (l ∷ ls) heard ne = untold v ls (cut heard l) (λ m there. ne m (Contains-rest l ls m there))
    ∙ get_or-set_other heard l.variable v (cut_range (range_of heard l.variable) l) (record { low = 0; high = 0 })
    (λ e. ne l (Contains-first l ls) (sym e))

-- if `a` implies `b`, and `b` implies `a`, they are equal
same_answer : (a b : Bool) → (a ≡ true → b ≡ true) → (b ≡ true → a ≡ true) → a ≡ b
same_answer true b implies e = sym (implies refl)
same_answer false true implies e = e refl
same_answer false false implies e = refl

-- given ranges of which none is empty, and the literals of a frame
module _ (heard : List Range) (ls : List Literal) (have : AllHave heard) where
  -- the ranges once the frame is heard
  abbrev left : List Range
  left = cut_all heard ls

  -- If a frame leaves a range empty, it does so at a variable of one of its literals: any other variable keeps its
  -- range, which wasn't empty.
  at_told : list_any is_contradicted left ≡ true →
      list_any (λ (l : Literal). is_contradicted (range_of left l.variable)) ls ≡ true
  at_told holds =
      let found = list_any_parts is_contradicted left holds in
      let variable : ℕ = found.1.0 in
      let empty : is_contradicted (range_of left variable) ≡ true =
      ap is_contradicted (get_or_default left variable (record { low = 0; high = 0 }) found.0 found.1.1
      ∙ found.1.2) ∙ found.2 in
      elim (cases_Bool (list_any (λ (l : Literal). l.variable == variable) ls)) [
        | inl told ↦ let literal = list_any_parts (λ (l : Literal). l.variable == variable) ls told in
            list_any_true (λ (l : Literal). is_contradicted (range_of left l.variable)) ls literal.0 literal.1
            (ap (λ v. is_contradicted (range_of left v)) (eqb-true literal.0.variable variable literal.2) ∙ empty)
        | inr none ↦
            let same = untold variable ls heard (λ l there is. true≢false (sym (eq-eqb l.variable variable is)
            ∙ from_any_false (λ (l : Literal). l.variable == variable) ls l none there)) in
            absurd (not_empty variable (sym (ap is_contradicted same) ∙ empty))
      ]
    where
      -- no range was empty before
      not_empty : (v : ℕ) → is_contradicted (range_of heard v) ≡ true → ⊥
      not_empty v holds =
          let less = ltb-true (range_of heard v).high (range_of heard v).low holds in
          elim (cases_lt v (length heard)) [
            | inl within ↦ let fine = have v (record { low = 0; high = 0 }) within in omega (arith, less, fine)
            | inr past ↦ let none = get_or_past heard v (record { low = 0; high = 0 }) past in
                omega (arith, less, ap (λ (r : Range). r.low) none)
          ]

  -- a range that is empty at the variable of a literal is one of all ranges: past their end none is empty
  at_all : list_any (λ (l : Literal). is_contradicted (range_of left l.variable)) ls ≡ true →
      list_any is_contradicted left ≡ true
  at_all holds =
      let found = list_any_parts (λ (l : Literal). is_contradicted (range_of left l.variable)) ls holds in
      let variable : ℕ = found.0.variable in
      elim (cases_lt variable (length left)) [
        | inl within ↦ list_any_true is_contradicted left (range_of left variable)
            (Contains-get_or left variable (record { low = 0; high = 0 }) within) found.2
        | inr past ↦
            absurd (true≢false (sym found.2
            ∙ ap is_contradicted (get_or_past left variable (record { low = 0; high = 0 }) past)))
      ]

-- a frame leaves an empty range if and only if it does so at a variable of which it tells
pub frames_contradict_where_they_tell : FramesContradictWhereTheyTell
frames_contradict_where_they_tell table heard f have =
    same_answer _ _ (at_told heard (frame_literals table f) have) (at_all heard (frame_literals table f) have)
