-- How many acts a node can do in all: each entry of its table is taken at most once.
use Rattle.std.proofs.Common.{◌≡◌, ℕ, zero, suc, ◌+◌, ◌≤◌, Bool, true, false, cond, List, [], ◌∷◌, length, fold, Option}
use Rattle.std.proofs.Common.{Some, None, refl, ap, ◌∙◌, arith, ◌&&◌}
use Rattle.std.specs.Prelude.{is_some, nat_lt}
use Rattle.std.proofs.lemmas.List.{length-append}
use Rattle.cpg_table.specs.Table.{NodeTable}
use Rattle.cpg_table.specs.Lawful.{column_count}
use Rattle.cpg_node.specs.Dispatcher.{Ended, next, acts_of_turn, is_strange, hear, finished, initial_dispatcher}
use Rattle.cpg_node.specs.Instants.{entries_left}
use Rattle.cpg_node.proofs.Rooms.{room_turn, room_open}
use Rattle.cpg_live.specs.declared.lawless.Defect.{Defect}
use Rattle.cpg_live.specs.declared.lawless.Defect.TheVariants.{Length, Order, Frame as StrangeFrame, End as FalseEnd}
use Rattle.cpg_live.specs.declared.event.Event.{Event}
use Rattle.cpg_live.specs.declared.event.Event.TheVariants.{Frame as Arrival, End as Ending, Close}
use Rattle.cpg_live.specs.Records.{cut, record_of, event_of}
use Rattle.cpg_live.specs.Stream.{NodeProgress, LiveState, start, lawless, lawful, instant_below, turn_if, turn_below}
use Rattle.cpg_live.specs.Stream.{turns_below, turned, may_end, ended, step, refused, settled, stepped, judged}
use Rattle.cpg_live.specs.Stream.{take_record, open_stream, with_rest, after}
use Rattle.cpg_live.proofs.Turns.{found_is}

-- given a node's table, and the most acts that it may have
module _ (table : NodeTable) (most : ℕ) where
  -- the acts so far and the entries of the table that are left are together at most `most`
  record HasFew (p : NodeProgress) : Type 0 where
    same : p.dispatcher.table ≡ table
    few : length p.acts + length (entries_left p.dispatcher) ≤ most

  -- a turn keeps this bound: it does no more acts than it takes entries
  turn_few : (limit : ℕ) (p : NodeProgress) → HasFew p → HasFew (turn_below limit p)
  turn_few limit p h = go (instant_below limit (next p.dispatcher)) refl
    where
      -- by whether the next instant is below the limit
      go : (o : Option ℕ) → instant_below limit (next p.dispatcher) ≡ o → HasFew (turn_if p o)
      go None e = h
      go (Some time) e = record {
        same = h.same;
        few = omega (
          arith,
          h.few,
          room_turn p.dispatcher time [] (found_is limit (next p.dispatcher) time e).0,
          length-append p.acts (acts_of_turn p.dispatcher time [] []),
        );
      }

  -- up to `n` turns of node `p` keep the bound, as each does
  turns_few : (n limit : ℕ) (p : NodeProgress) → HasFew p → HasFew (turns_below n limit p)
  unfolding turns_below
  turns_few zero limit p h = h
  turns_few (suc n) limit p h = turns_few n limit (turn_below limit p) (turn_few limit p h)

  -- all turns below a limit keep the bound
  turned_few : (limit : ℕ) (p : NodeProgress) → HasFew p → HasFew (turned limit p)
  turned_few limit p h = turns_few limit limit p h

  -- an event keeps the bound, lawful or not: only the turns before it do acts
  step_few : (time : ℕ) (event : Event) (p : NodeProgress) → HasFew p → HasFew (step time event p).progress
  step_few time (Arrival f) p h = go (is_strange (turned time p).dispatcher time f) (turned_few time p h)
    where
      -- by whether the frame is strange
      go : (b : Bool) → HasFew (turned time p) →
          HasFew (cond b (lawless (turned time p) StrangeFrame)
          (lawful (record (turned time p) { dispatcher = hear (turned time p).dispatcher f }))).progress
      go true w = w
      go false w = record { same = w.same; few = w.few }
  step_few time (Ending process faults value) p h =
      go (record { process = process; faults = faults; value = value }) (turned_few time p h)
    where
      -- for the report that the event makes
      go : (e : Ended) → HasFew (turned time p) → HasFew (ended time e (turned time p)).progress
      go e w = told (may_end (turned time p).dispatcher time e)
        where
          -- by whether the process may end with this report
          told : (b : Bool) →
              HasFew (cond b (lawful (record (turned time p) { dispatcher = finished (turned time p).dispatcher e }))
              (lawless (turned time p) FalseEnd)).progress
          told true = record { same = w.same; few = w.few }
          told false = w
  step_few time Close p h = turned_few (time + 1) p h

  -- whether something is wrong with a record doesn't change the node
  settled_few : (s : LiveState) (time : ℕ) (event : Event) (defect : Option Defect) → HasFew s.progress →
      HasFew (settled s time event defect).progress
  settled_few s time event None h = h
  settled_few s time event (Some defect) h = h

  -- judging a record keeps the bound
  judged_few : (s : LiveState) (time : ℕ) (event : Option Event) → HasFew s.progress →
      HasFew (judged s time event).progress
  judged_few s time None h = h
  judged_few s time (Some event) h = go (nat_lt time s.time)
    where
      -- by whether the event comes before the last one
      go : (b : Bool) → HasFew (cond b (refused s Order) (stepped s time event (step time event s.progress))).progress
      go true = h
      go false = settled_few (record s { progress = (step time event s.progress).progress }) time event
          (step time event s.progress).fault (step_few time event s.progress h)

  -- a record keeps it too when it is taken, whatever state the stream is in
  record_few : (s : LiveState) (bytes : List ℕ) → HasFew s.progress → HasFew (take_record s bytes).progress
  record_few s bytes h = go (is_some s.lawless) s.closed
    where
      -- by `b`, whether a record was lawless, and `c`, whether the stream is closed
      go : (b c : Bool) →
          HasFew (cond b s (cond c (refused s Length)
          (judged s (record_of bytes).time (event_of s.progress.dispatcher.table (record_of bytes))))).progress
      go true c = h
      go false true = h
      go false false = judged_few s (record_of bytes).time (event_of s.progress.dispatcher.table (record_of bytes)) h

  -- records `rs`, taken one after another, keep the bound
  records_few : (s : LiveState) (rs : List (List ℕ)) → HasFew s.progress → HasFew (fold take_record s rs).progress
  records_few s [] h = h
  records_few s (r ∷ rs) h = records_few (take_record s r) rs (record_few s r h)

  -- the bytes of a next record don't change the node
  rest_few : (s : LiveState) (rest : List ℕ) → HasFew s.progress → HasFew (with_rest s rest).progress
  rest_few s rest h = go (is_some s.lawless) (s.closed && nat_lt 0 (length rest))
    where
      -- by `b`, whether a record was lawless, and `c`, whether a byte comes after the close
      go : (b c : Bool) → HasFew (cond b s (cond c (refused s Length) (record s { rest = rest }))).progress
      go true c = h
      go false true = h
      go false false = h

-- after bytes of a stream the bound holds for the columns of what the node sends and starts
after_few : (table : NodeTable) (bytes : List ℕ) →
    HasFew table (column_count table.sends + column_count table.starts) (after table bytes).progress
after_few table bytes =
    let most = column_count table.sends + column_count table.starts in
    let first : HasFew table most (start table) =
    record { same = refl; few = omega (arith, room_open (initial_dispatcher table)) } in
    let before : LiveState = fold take_record (open_stream table) (cut bytes).whole in
    rest_few table most before (cut bytes).rest (records_few table most (open_stream table) (cut bytes).whole first)

-- the acts after bytes are at most as many as the columns of what the node sends and starts
pub few_acts : (table : NodeTable) (bytes : List ℕ) →
    length (after table bytes).progress.acts ≤ column_count table.sends + column_count table.starts
few_acts table bytes = let bound = after_few table bytes in omega (arith, bound.few)

-- bytes leave the table as it is
pub table_after : (table : NodeTable) (bytes : List ℕ) (s : LiveState) → s ≡ after table bytes →
    s.progress.dispatcher.table ≡ table
table_after table bytes s is = ap (λ (s : LiveState). s.progress.dispatcher.table) is ∙ (after_few table bytes).same
