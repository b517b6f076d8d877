-- Turns that aren't quiet, streams that are lawful or not, and the stream that a node is told in a play.
use Rattle.std.proofs.Common.{◌≡◌, ℕ, zero, suc, ◌<◌, ◌≤◌, ◌==◌, List, [], ◌∷◌, length, Contains, Some, None, true}
use Rattle.std.proofs.Common.{false, true≢false, refl, sym, ap, arith}
use Rattle.std.specs.Prelude.{get_or, is_some, Ok, Err}
use Rattle.std.specs.List.{list_any}
use Rattle.std.proofs.lemmas.List.Sorted.{length_permutation}
use Rattle.cpg_base.specs.Duration.{duration}
use Rattle.cpg_base.specs.Scenario.{fault_of}
use Rattle.cpg_base.proofs.Lists.{from_any_false}
use Rattle.cpg_cube.specs.declared.literal.Literal.{Literal}
use Rattle.cpg_table.specs.Table.{NodeTable, table_at}
use Rattle.cpg_node.specs.Dispatcher.{Dispatcher, Frame, Range, acts_of_turn, candidates, frame_literals, hear_frame}
use Rattle.cpg_node.specs.Dispatcher.{is_contradicted, initial_dispatcher, range_of, turn}
use Rattle.cpg_node.specs.Quiet.{IsQuiet, awaited}
use Rattle.cpg_cluster.specs.Cluster.{dispatcher_at, own_table, initial_cluster}
use Rattle.cpg_cluster.specs.Correct.{IsWorld}
use Rattle.cpg_live.specs.declared.event.Event.{Event}
use Rattle.cpg_live.specs.declared.event.Event.TheVariants.{Frame as Arrival, End as Ending}
use Rattle.cpg_live.specs.declared.lawless.Defect.TheVariants.{Order, End as FalseEnd}
use Rattle.cpg_live.specs.Stream.{after, outcome, turns_below}
use Rattle.cpg_live.specs.Spelling.{closed_at, stream_bytes}
use Rattle.cpg_follow_laws.specs.Follow.{records_in, GivesWhatIsDue}
use Rattle.cpg_follow_laws.specs.Sent.{only}
use Rattle.cpg_follow_laws.specs.Streams.{AreAllRecords}
use Rattle.cpg_follow_laws.proofs.Follow.{streams_give}
use Rattle.cpg_examples.proofs.Examples.{pair, frozen_pair, branching, branching_tables, act}
use Rattle.cpg_examples.proofs.Pair.{formed}
use Rattle.cpg_examples.proofs.Instance.{tables}
use Rattle.cpg_examples.proofs.ValidInstance.{shape, valid}
use Rattle.cpg_examples.proofs.CycleExamples.{pair_tables, pair_world, pair_turns, late_broadcast, late_tables}
use Rattle.cpg_examples.proofs.CycleExamples.{late_play}

-- N1 starts A at 0, so that a turn at 0 may not be left out
pub start-is_not_quiet : IsQuiet (initial_dispatcher (own_table pair 0 (table_at pair_tables 0))) 0 → ⊥
start-is_not_quiet quiet = let one : 1 ≡ 0 = ap length quiet.acts in absurd (omega (arith, one))

-- the turn does something
pub start-is_done : acts_of_turn (initial_dispatcher (own_table pair 0 (table_at pair_tables 0))) 0 [] [] ≡ [] → ⊥
start-is_done nothing = let one : 1 ≡ 0 = ap length nothing in absurd (omega (arith, one))

-- N1 after its turn at 0: A has run since then, and has reported that it ends without faults
abbrev pub reported : Dispatcher
reported = record (initial_dispatcher (own_table pair 0 (table_at pair_tables 0))) {
  running = Some (record { start = 0; report = Some (record { process = 0; faults = 0; value = false }) }) ∷ [];
  last = Some 0;
}

-- at 35 the report is due, so a turn then isn't quiet and may not be left out
pub report-is_not_quiet : IsQuiet reported 35 → ⊥
report-is_not_quiet quiet = let one : 1 ≡ 0 = ap length quiet.ends in absurd (omega (arith, one))

-- a turn at which the report is taken leaves the execution ended
pub report-is_taken : turn reported 35 [] [] ≡ record reported { last = Some 35 } → ⊥
report-is_taken same = true≢false (sym (ap (λ (d : Dispatcher). is_some (get_or d.running 0 None)) same))

-- a turn before the report is due is quiet
pub between-is_quiet : IsQuiet reported 34
between-is_quiet = record { ends = refl; acts = refl }

-- a report of more faults than there may be is awaited at 7, which is no instant of the node
abbrev pub overtold : Dispatcher
overtold = record reported
    { running = Some (record { start = 7; report = Some (record { process = 0; faults = 2; value = false }) }) ∷ [] }

-- 7 is among the awaited instants
pub overtold-awaited : Contains (awaited overtold) 7
overtold-awaited = (3, omega arith, refl)

-- but it is not among the candidates
pub overtold-no_candidate : Contains (candidates overtold) 7 → ⊥
overtold-no_candidate listed = true≢false (from_any_false (λ t. t == 7) (candidates overtold) 7 refl listed)

-- the table of N2 in the pair
abbrev pub second : NodeTable
second = own_table pair 1 (table_at pair_tables 1)

-- the message of A is there at a time, by a column
abbrev pub frame : ℕ → ℕ → ℕ × Event
frame time column = (time, Arrival (record { item = 2; column = column; value = false }))

-- the frame that a fault of A leads to, and then the end of B
abbrev pub lawful_events : List (ℕ × Event)
lawful_events = frame 90 1 ∷ (105, Ending 1 0 false) ∷ []

-- the stream of these events is followed to its close at 105
pub stream-is_lawful : outcome (after second (stream_bytes (closed_at lawful_events 105))) ≡ Ok 105
unfolding turns_below
stream-is_lawful = refl

-- Of the same events in falling order of time the first is lawless: B can't end before it has started.
pub stream-falling : outcome (after second (stream_bytes (closed_at ((105, Ending 1 0 false) ∷ frame 90 1 ∷ []) 105)))
    ≡ Err (record { index = 0; defect = FalseEnd })
unfolding turns_below
stream-falling = refl

-- N2 of the branching graph, where A goes on to B: the broadcast of A, and the message of A to B
abbrev pub branching_second : NodeTable
branching_second = own_table branching 1 (table_at branching_tables 1)

-- A's value is there at 50, and is true
abbrev pub broadcast : ℕ × Event
broadcast = (50, Arrival (record { item = 8; column = 0; value = true }))

-- the message to B is there at 70
abbrev pub message : ℕ × Event
message = (70, Arrival (record { item = 4; column = 0; value = false }))

-- the stream of both events is followed to its close at 95
pub branching-is_lawful : outcome (after branching_second (stream_bytes (closed_at (broadcast ∷ message ∷ []) 95)))
    ≡ Ok 95
unfolding turns_below
branching-is_lawful = refl

-- in falling order of time the second of them is refused for that alone
pub branching-falling : outcome (after branching_second (stream_bytes (closed_at (message ∷ broadcast ∷ []) 95)))
    ≡ Err (record { index = 1; defect = Order })
unfolding turns_below
branching-falling = refl

-- ---- plays and streams

-- N2 is told just the lawful events in the play of the pair in which A has a fault
pub told-is_lawful_events : records_in pair pair_world (initial_cluster pair pair_tables) 1 pair_turns ≡ lawful_events
told-is_lawful_events = refl

-- these are all events that it is told
pub told-all : AreAllRecords pair pair_tables pair_world pair_turns 1 105 lawful_events
told-all = record {
  those = ([], (105, Ending 1 0 false) ∷ [], refl, ([], [], refl, refl));
  rise = (omega arith, refl, (omega arith, refl, omega arith));
  done = refl;
  late = omega arith;
  small = omega arith;
}

-- on the events that it is told, N2 does what it does in the play
pub told-acts : (after second (stream_bytes (closed_at lawful_events 105))).progress.acts ≡ act 90 1 1 ∷ []
unfolding turns_below
told-acts = refl

-- the tables of the frozen pair are valid, so that the law on streams speaks of a play of them
pub frozen_world : IsWorld frozen_pair pair_world
frozen_world =
    record { scenario = record { values = refl; faults = refl; budget = omega arith }; count = refl; lengths = lengths }
  where
    -- each execution lasts at least 1, and no longer than planned
    lengths : (p : ℕ) → p < 2 →
        (1 ≤ get_or pair_world.lengths p 0) ×
        (get_or pair_world.lengths p 0 ≤ duration frozen_pair p (fault_of pair_world.scenario p))
    lengths zero below = (omega arith, omega arith)
    lengths (suc zero) below = (omega arith, omega arith)
    lengths (suc (suc p)) below = absurd (omega arith)

-- the stream of a node gives what is due in the play
pub frozen-gives : GivesWhatIsDue frozen_pair tables pair_world pair_turns 1 105
unfolding tables
frozen-gives = streams_give frozen_pair tables (formed true) shape valid pair_world pair_turns 1 105 frozen_world
    (omega arith) refl (omega arith)

-- if a node isn't done, this fails: of the acts that are due on N1, which was never asked, only the start of A is
-- done
pub unasked-not_due : GivesWhatIsDue frozen_pair tables pair_world [] 0 0 → ⊥
unfolding tables turns_below
unasked-not_due gives = let two : 1 ≡ 2 = length_permutation _ _ gives.acts.all in absurd (omega (arith, two))

-- ---- ranges

-- a frame that tells nothing, heard with an empty range, leaves that empty
abbrev pub hollow : List Range
hollow = record { low = 1; high = 0 } ∷ []

-- a frame without literals
abbrev pub silent : Frame
silent = record { item = 0; column = 0; value = false }

-- the range of the heard list stays contradicted, though the frame's literals contradict nothing
pub hollow-stays : list_any is_contradicted (hear_frame second hollow silent) ≡
    list_any (λ (l : Literal). is_contradicted (range_of (hear_frame second hollow silent) l.variable))
    (frame_literals second silent) → ⊥
hollow-stays same = true≢false same

-- N1 has sent the value of A, and knows it; at first it doesn't
pub sent-known : range_of (dispatcher_at late_play 0).heard 128 ≡ only 1
sent-known = refl

-- before N1 has sent the value, it doesn't know it
pub unsent-unknown : range_of (dispatcher_at (initial_cluster late_broadcast late_tables) 0).heard 128 ≡ only 1 → ⊥
unsent-unknown same = let low : 0 ≡ 1 = ap (λ (r : Range). r.low) same in absurd (omega (arith, low))
