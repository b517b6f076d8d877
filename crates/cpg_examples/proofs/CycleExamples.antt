-- Cycles of worked examples, as `tools/cycle` says them too, and times that are none: what holds of cycles fails of
-- them.
use Rattle.std.proofs.Common.{◌≡◌, ℕ, ◌+◌, ◌≤◌, ◌*◌, max, List, [], ◌∷◌, Some, None, true, false, refl, ap, arith}
use Rattle.std.specs.Int.{div_ceil}
use Rattle.cpg_base.specs.Graph.{Graph}
use Rattle.cpg_base.specs.declared.process.Slot.{Slot}
use Rattle.cpg_table.specs.Table.{NodeTable, empty_table}
use Rattle.cpg_cluster.specs.Cluster.{World, Cluster, initial_cluster, play}
use Rattle.cpg_cluster.specs.Cycles.{last_arrival, least_cycle, AreApart, HasSlotsAt, IsCycle, IsOccurrence, IsOverBy}
use Rattle.cpg_examples.proofs.Examples.{n1, n2, process, edge, two_slots, pair, count, column, item_row, value, act}
use Rattle.cpg_examples.proofs.Examples.{numbers, scenario}

-- A starts at 0, e0 is sent at 40 or 80 and there at 50 or 90, and B starts then
abbrev pub pair_tables : List NodeTable
pair_tables =
    record empty_table {
      starts = item_row 0 (column 0 [] ∷ []) ∷ [];
      sends = item_row 2 (column 40 (count 0 0 ∷ []) ∷ column 80 (count 0 1 ∷ []) ∷ []) ∷ [];
      hears = [];
    }
    ∷ record empty_table {
      starts = item_row 1 (column 50 (count 0 0 ∷ []) ∷ column 90 (count 0 1 ∷ []) ∷ []) ∷ [];
      sends = [];
      hears = item_row 2 (column 50 (count 0 0 ∷ []) ∷ column 90 (count 0 1 ∷ []) ∷ []) ∷ [];
    } ∷ []

-- the least multiple of 20 that isn't before the deadline 105
pub pair-cycle : least_cycle pair pair_tables ≡ 120
pair-cycle = refl

-- 119, one unit less, is no multiple of the round of 20
pub pair-one_shorter : IsCycle pair pair_tables 119 → ⊥
pair-one_shorter cycle = let whole : 119 ≡ cycle.rounds * 20 = cycle.whole in absurd (omega (arith, whole))

-- 100, one round less, is before the deadline 105
pub pair-one_round_shorter : IsCycle pair pair_tables 100 → ⊥
pair-one_round_shorter cycle = let deadline : 105 ≤ 100 = cycle.deadline in absurd (omega (arith, deadline))

-- after one unit less the slots are elsewhere: that of N1 starts at 0, and none of N1 at 119
pub pair-slots_elsewhere : HasSlotsAt pair 0 119 → ⊥
pair-slots_elsewhere has_slots =
    let there : IsOccurrence pair 0 119 = has_slots.later 0 (0, refl) in
    let at : 119 ≡ there.0 * 20 + 0 = there.1 in absurd (omega (arith, at))

-- A has a fault, and each execution takes as long as planned; N1 is asked until it is done, and then N2
abbrev pub pair_world : World
pair_world = record { scenario = scenario (numbers 1 0); lengths = numbers 72 15 }

-- N1 is asked five times, and then N2 four times
abbrev pub pair_turns : List ℕ
pair_turns = 0 ∷ 0 ∷ 0 ∷ 0 ∷ 0 ∷ 1 ∷ 1 ∷ 1 ∷ 1 ∷ []

-- the pair after these turns
abbrev pub pair_play : Cluster
pair_play = play pair pair_world (initial_cluster pair pair_tables) pair_turns

-- A starts at 0, its message is sent at 80, and B starts at 90
pub pair-acts : pair_play.acts ≡ (act 0 0 0 ∷ act 80 2 1 ∷ []) ∷ (act 90 1 1 ∷ []) ∷ []
pair-acts = refl

-- after one round less B still runs: it ends at 105
pub pair-not_over_by_100 : IsOverBy pair pair_world.scenario pair_play 100 → ⊥
pair-not_over_by_100 over =
    let end : 105 ≤ 100 = over.starts 1 (act 90 1 1) (omega arith) (0, omega arith, refl) (omega arith) in
    absurd (omega (arith, end))

-- a deadline of 120, itself a multiple of the round, is the least cycle
pub pair-by_120 : least_cycle (record pair { deadline = 120 }) pair_tables ≡ 120
pair-by_120 = refl

-- for a deadline one past it the least cycle is the next multiple, 140
pub pair-by_121 : least_cycle (record pair { deadline = 121 }) pair_tables ≡ 140
pair-by_121 = refl

-- A, which ends at 30, its follower B from 30 to 40, and C on N2; the value of A is broadcast from 40 to 50, after the
-- deadline
abbrev pub late_broadcast : Graph
late_broadcast = record {
  faults = 0;
  deadline = 40;
  nodes = n1 ∷ n2 ∷ [];
  slots = two_slots;
  processes = process 0 25 false ∷ process 0 5 false ∷ process 1 5 false ∷ [];
  edges = edge 0 1 (Some true) ∷ [];
  order = None;
}

-- B starts at 30 if A says so, and A's value is sent at 40
abbrev pub late_tables : List NodeTable
late_tables =
    record empty_table {
      starts = item_row 0 (column 0 [] ∷ []) ∷ item_row 1 (column 30 (value 1 ∷ []) ∷ []) ∷ [];
      sends = item_row 4 (column 40 [] ∷ []) ∷ [];
      hears = [];
    }
    ∷ record empty_table
    { starts = item_row 2 (column 0 [] ∷ []) ∷ []; sends = []; hears = item_row 4 (column 50 [] ∷ []) ∷ [] } ∷ []

-- the least cycle is 60, not 40: the frame arrives at 50
pub late-cycle : least_cycle late_broadcast late_tables ≡ 60
late-cycle = refl

-- by the deadline alone that frame would be in the next cycle
pub late-at_the_deadline : IsCycle late_broadcast late_tables 40 → ⊥
late-at_the_deadline cycle = let arrivals : 50 ≤ 40 = cycle.arrivals in absurd (omega (arith, arrivals))

-- what happens in a play in which A says that B follows, so that its value comes late
abbrev pub late_world : World
late_world = record { scenario = record { values = true ∷ []; faults = 0 ∷ 0 ∷ 0 ∷ [] }; lengths = 30 ∷ 10 ∷ 10 ∷ [] }

-- the nodes after N1 was asked three times
abbrev pub late_play : Cluster
late_play = play late_broadcast late_world (initial_cluster late_broadcast late_tables) (0 ∷ 0 ∷ 0 ∷ [])

-- A starts at 0, B at 30, and A's value is sent at 40
pub late-acts : late_play.acts ≡ (act 0 0 0 ∷ act 30 1 0 ∷ act 40 4 0 ∷ []) ∷ [] ∷ []
late-acts = refl

-- the frame of A's value isn't there by 40, so the play isn't over then
pub late-not_over_by_40 : IsOverBy late_broadcast late_world.scenario late_play 40 → ⊥
late-not_over_by_40 over =
    let arrival : 50 ≤ 40 = over.sends 0 (act 40 4 0) (omega arith) (2, omega arith, refl) (omega arith) in
    absurd (omega (arith, arrival))

-- a cycle that begins at 40 starts A before the frame of the one before is there
pub late-not_apart_at_40 : AreApart late_broadcast late_world.scenario late_play late_play 0 40 → ⊥
late-not_apart_at_40 apart =
    let wrong : 50 ≤ 40 = apart.frames 0 0 (act 40 4 0) (act 0 0 0) (omega arith) (2, omega arith, refl)
    (0, omega arith, refl) (omega arith) in
    absurd (omega (arith, wrong))

-- no cycle is apart from itself
pub late-not_apart_from_itself : AreApart late_broadcast late_world.scenario late_play late_play 60 60 → ⊥
late-not_apart_from_itself apart =
    let wrong : 110 ≤ 60 = apart.frames 0 0 (act 40 4 0) (act 0 0 0) (omega arith) (2, omega arith, refl)
    (0, omega arith, refl) (omega arith) in
    absurd (omega (arith, wrong))

-- one node, without a bus
abbrev pub alone : Graph
alone = record {
  faults = 0;
  deadline = 7;
  nodes = n1 ∷ [];
  slots = [];
  processes = process 0 3 false ∷ [];
  edges = [];
  order = None;
}

-- the tables of the one node: its process starts at 0
abbrev pub alone_tables : List NodeTable
alone_tables = record empty_table { starts = item_row 0 (column 0 [] ∷ []) ∷ []; sends = []; hears = [] } ∷ []

-- without a bus, the least cycle is the deadline, and no time before it is one
pub alone-cycle : least_cycle alone alone_tables ≡ 7
alone-cycle = refl

-- 6 is before the deadline 7
pub alone-one_shorter : IsCycle alone alone_tables 6 → ⊥
alone-one_shorter cycle = let deadline : 7 ≤ 6 = cycle.deadline in absurd (omega (arith, deadline))

-- the bus and the deadline of the cruise controller, by any tables whose frames arrive by then
abbrev pub three_slots : List Slot
three_slots = record { node = 0; length = 10; bytes = 16 } ∷ record { node = 1; length = 10; bytes = 16 }
    ∷ record { node = 2; length = 10; bytes = 16 } ∷ []

-- the least cycle of the cruise controller is 2010, the first multiple of its round of 30 from 2000 on
pub controller-cycle : (g : Graph) (tables : List NodeTable) → last_arrival tables ≤ 2000 →
    least_cycle (record g { deadline = 2000; slots = three_slots }) tables ≡ 2010
controller-cycle g tables early = let bound : max 2000 (last_arrival tables) ≡ 2000 = omega (arith, early) in
    ap (λ n. div_ceil (max n 1) 30 * 30) bound

-- one round less is before the deadline
pub controller-one_round_shorter : (g : Graph) (tables : List NodeTable) →
    IsCycle (record g { deadline = 2000; slots = three_slots }) tables 1980 → ⊥
controller-one_round_shorter g tables cycle = let deadline : 2000 ≤ 1980 = cycle.deadline in
    absurd (omega (arith, deadline))
