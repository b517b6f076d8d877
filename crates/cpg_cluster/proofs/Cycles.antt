-- The least cycle; all of a cycle is over at its end; and cycles are apart.
use Rattle.std.proofs.Common.{◌≡◌, ℕ, suc, ◌+◌, ◌-◌, ◌*◌, ◌<◌, ◌≤◌, max, true, ◌==◌, List, [], ◌∷◌, length, take}
use Rattle.std.proofs.Common.{get_or, Contains, Option, Some, None, refl, sym, ap, ◌∙◌, arith, inl, inr, eq-eqb}
use Rattle.std.proofs.Common.{ne_eqb, mul-le-mul_right, ltb-true}
use Rattle.std.specs.Prelude.{nat_lt, sum_by, map, zero}
use Rattle.std.specs.Int.{div_ceil}
use Rattle.std.proofs.lemmas.Bool.{cases_eq, cases_lt, and_from, not_from_false}
use Rattle.std.proofs.lemmas.Grind.{div_ceil_times}
use Rattle.std.proofs.lemmas.List.Elements.{Contains-get_or}
use Rattle.std.proofs.lemmas.List.Sums.{sum_by-cons}
use Rattle.cpg_base.specs.Numbers.{numbers_below}
use Rattle.cpg_base.specs.Graph.{Graph, process_count, item_count, item_at, is_sent, is_heard_by, is_sent_item, home}
use Rattle.cpg_base.specs.Graph.{node_of, target, process_at, process_of}
use Rattle.cpg_base.specs.declared.process.Slot.{Slot}
use Rattle.cpg_base.specs.WellFormed.{WellFormed}
use Rattle.cpg_base.specs.Bus.{round, offset, slot_length, slot_place}
use Rattle.cpg_base.specs.Duration.{duration, lesser_due}
use Rattle.cpg_base.specs.Scenario.{fault_of}
use Rattle.cpg_base.proofs.Items.{item_cases}
use Rattle.cpg_base.proofs.Lists.{Contains-map, Contains-flat_map, Contains-filter_parts, numbers-Contains}
use Rattle.cpg_base.proofs.Lists.{greatest_above}
use Rattle.cpg_base.proofs.Slots.{slot_place-lt}
use Rattle.cpg_cube.specs.declared.column.Column.{Column}
use Rattle.cpg_table.specs.Table.{Row, NodeTable, table_at, empty_table, columns_of}
use Rattle.cpg_table.specs.Shape.{processes_on}
use Rattle.cpg_table.specs.Valid.{hear_row, later_by}
use Rattle.cpg_table.proofs.Rows.{not_both}
use Rattle.cpg_table.proofs.Settings.{Match, match_due}
use Rattle.cpg_node.specs.Dispatcher.{times_in}
use Rattle.cpg_cluster.specs.Cluster.{World, Cluster, initial_cluster, play, IsPlayed}
use Rattle.cpg_cluster.specs.Cycles.{last_arrival, cycle_step, IsCycle, LeastCyclesAreLeast, IsOverBy, CyclesHoldAll}
use Rattle.cpg_cluster.specs.Cycles.{CyclesHaveTheSameSlots, CyclesAreApart}
use Rattle.cpg_cluster.proofs.Asked.{asked_match}
use Rattle.cpg_cluster.proofs.Nodes.{Played, hear_row_in}
use Rattle.cpg_cluster.proofs.Ends.{ended_by}
use Rattle.cpg_cluster.proofs.Reached.{reached}
use Rattle.cpg_cluster.proofs.Reporting.{reports_hold}
use Rattle.cpg_cluster.proofs.Plays.{played_of}

-- The least cycle.

-- if a bound is at most so many steps, rounding it up to whole steps takes no more
below_turns : (bound step rounds : ℕ) → 0 < step → bound ≤ rounds * step → div_ceil bound step ≤ rounds
below_turns bound step rounds h k = elim (cases_lt rounds (div_ceil bound step)) [
  | inl l ↦ absurd (omega (arith, div_ceil_times bound step h, mul-le-mul_right step l))
  | inr l ↦ l
]

-- `least_cycle` is a cycle time, and none is less. A cycle time is a whole number of steps that is at least the
-- deadline, the last arrival and 1, and `least_cycle` is the greatest of these, rounded up.
pub least_cycles : LeastCyclesAreLeast
least_cycles g tables =
    let step : ℕ = cycle_step g in
    let bound : ℕ = max (max g.deadline (last_arrival tables)) 1 in
    let some_step : 0 < step = omega arith in
    let over : bound ≤ div_ceil bound step * step = (div_ceil_times bound step some_step).0 in
    -- it is a whole number of steps and holds all that it must
    record {
      is = record {
        some = omega (arith, over);
        rounds = div_ceil bound step;
        whole = refl;
        deadline = omega (arith, over);
        arrivals = omega (arith, over);
      };
      -- another cycle holds the same, so it has as many steps at least
      least = λ other c.
          let within : bound ≤ c.rounds * step = omega (arith, c.some, c.whole, c.deadline, c.arrivals) in
          let fewer : div_ceil bound step * step ≤ c.rounds * step =
          mul-le-mul_right step (below_turns bound step c.rounds some_step within) in
          omega (arith, fewer, c.whole);
    }

-- Each frame has a node that hears it.

-- some node hears the item
record Hearer (g : Graph) (x : ℕ) : Type 0 where
  -- a node of the graph, which hears the item
  node : ℕ
  within : node < length g.nodes
  hears : is_heard_by g node (item_at g x) ≡ true

-- Each item `x` that is sent is heard by some node: a message by the node of its target, a broadcast by each node but
-- its own, and there are two nodes at least.
hearer : (g : Graph) → WellFormed g → (x : ℕ) → x < item_count g → is_sent g x ≡ true → Hearer g x
hearer g formed x inside sent = elim (item_cases g x inside) [
  | inl q ↦ absurd (not_both g x q.0 sent)
  -- a message is heard by the node of its target
  | inr (inl q) ↦ record {
    node = node_of g (target g q.0);
    within = formed.nodes (target g q.0) (formed.targets q.0 q.1);
    hears = ap (is_heard_by g (node_of g (target g q.0))) q.3
        ∙ and_from _ _ (sym (ap (is_sent_item g) q.3) ∙ sent) (eq-eqb _ _ refl);
  }
  -- a broadcast is heard by another node than its own, as there is a second one
  | inr (inr q) ↦
      let two : nat_lt 1 (length g.nodes) ≡ true = sym (ap (is_sent_item g) q.3) ∙ sent in
      let many : 1 < length g.nodes = ltb-true 1 (length g.nodes) two in
      elim (cases_eq (node_of g (process_of g q.0)) 0) [
        -- the condition's process is on the first node, so the second one hears it
        | inl e ↦ record {
          node = 1;
          within = omega (arith, many);
          hears = ap (is_heard_by g 1) q.3
              ∙ and_from _ _ two (not_from_false _ (ne_eqb _ _ (λ s. absurd (omega (arith, e, s)))));
        }
        -- it isn't, so the first one does
        | inr ne ↦ record {
          node = 0;
          within = omega (arith, many);
          hears = ap (is_heard_by g 0) q.3 ∙ and_from _ _ two (not_from_false _ (ne_eqb _ _ ne));
        }
      ]
]

-- a due time is no later than the deadline of the graph
lesser : (deadline : ℕ) (own : Option ℕ) → lesser_due deadline own ≤ deadline
lesser deadline None = omega arith
lesser deadline (Some own) = omega arith

-- given a play of valid tables and the time of a cycle
module _ {g : Graph} {tables : List NodeTable} {w : World} (is_played : Played g tables w) (time : ℕ)
    (cycle : IsCycle g tables time) where
  -- the frame of column `c` of item `x`, which is sent, arrives by the cycle time: some node hears it, so its arrival
  -- isn't after the last one
  arrives : (x : ℕ) (c : Column) → x < item_count g → is_sent g x ≡ true → Contains (columns_of tables x) c →
      c.time + slot_length g (home g x) ≤ time
  arrives x c within sent there =
      let hears = hearer g is_played.setting.formed x within sent in
      let row = hear_row_in is_played hears.node hears.within [] None x within hears.hears in
      let here : Contains (times_in (table_at tables hears.node).hears) (c.time + slot_length g (home g x)) =
      Contains-flat_map (λ (row : Row). map (λ (c : Column). c.time) row.columns) (table_at tables hears.node).hears
      (hear_row g tables x) (c.time + slot_length g (home g x)) row
      (Contains-map (λ (c : Column). c.time) (hear_row g tables x).columns (later_by (slot_length g (home g x)) c)
      (Contains-map (later_by (slot_length g (home g x))) (columns_of tables x) c there)) in
      let all = Contains-flat_map (λ (t : NodeTable). times_in t.hears) tables (table_at tables hears.node)
      (c.time + slot_length g (home g x))
      (Contains-get_or tables hears.node empty_table
      (omega (arith, is_played.setting.shape.count, hears.within))) here in
      omega (arith, greatest_above _ (c.time + slot_length g (home g x)) all, cycle.arrivals)

  -- the planned end of the execution of process `p` that column `c` starts is within the cycle, as it is by the due,
  -- and this by the deadline
  planned_end : (p : ℕ) (c : Column) → Match tables w.scenario p c → p < process_count g →
      c.time + duration g p (fault_of w.scenario p) ≤ time
  planned_end p c matching within =
      omega (
        arith,
        match_due is_played.setting p c matching within,
        lesser g.deadline (process_at g p).deadline,
        cycle.deadline,
      )

  -- a process of a node is one of the graph
  known : (node p : ℕ) → Contains (processes_on g node) p → p < process_count g
  known node p there = numbers-Contains (process_count g) p
      (Contains-filter_parts (λ p. node_of g p == node) (numbers_below (process_count g)) p there).0

  -- In every state of a play all that nodes have done is over by the cycle time. Each start, send, end and report comes
  -- from a column that matches: `planned_end` bounds starts, ends and reports, and `arrives` bounds sends.
  pub over : (turns : List ℕ) → IsOverBy g w.scenario (play g w (initial_cluster g tables) turns) time
  over turns =
      let state : Cluster = play g w (initial_cluster g tables) turns in
      let played : IsPlayed g tables w state = record { turns = turns; is = refl } in
      record {
        -- a start is over with its planned end
        starts = λ node a l m within. let act = ((reached is_played turns).holds node l).done.only a m in
            omega (arith, planned_end a.item act.0.column (asked_match act.0) within, act.0.time);
        -- a send of this kind has arrived with its slot
        sends = λ node a l m p. let act = ((reached is_played turns).holds node l).done.only a m in
            omega (
              arith,
              arrives a.item act.0.column act.0.row.within (elim act.0.row.kind [
                | inl less ↦ absurd (omega (arith, less, p))
                | inr e ↦ e
              ]) (asked_match act.0).there,
              act.0.time,
            );
        -- an end is a planned one
        ends = λ node e l m. let ending = ((ended_by is_played state played node l).only e m).0 in
            omega (
              arith,
              planned_end ending.process ending.column ending.match
                  (known node ending.process ending.on),
              ending.time,
            );
        -- a report comes by the planned end, since no execution takes longer than planned
        reports = λ node e l m. let report = (((reports_hold is_played state played).each node l).only e m).0 in
            omega (
              arith,
              planned_end report.process report.column report.match (known node report.process report.on),
              (is_played.world.lengths report.process (known node report.process report.on)).1,
              report.time,
            );
      }

-- in every play of valid tables, all is over at the end of a cycle
pub cycles_hold_all : CyclesHoldAll
cycles_hold_all g tables time f h v cycle w turns is = over (played_of g tables f h v w is) time cycle turns

-- Slots.

-- the length of slot `n` and those of the slots before it are together at most the length of all slots, the round
front_sum : (slots : List Slot) (n : ℕ) (d : Slot) → n < length slots →
    sum_by (λ (s : Slot). s.length) (take n slots) + (get_or slots n d).length ≤ sum_by (λ (s : Slot). s.length) slots
front_sum [] n d within = absurd (omega arith)
front_sum (s ∷ slots) zero d within = omega (arith, sum_by-cons (λ (s : Slot). s.length) s slots)
front_sum (s ∷ slots) (suc n) d within = omega (
  arith,
  sum_by-cons (λ (s : Slot). s.length) s slots,
  sum_by-cons (λ (s : Slot). s.length) s (take n slots),
  front_sum slots n d (omega arith),
)

-- if `b * r + off`, where `off` is below `r`, is `t` more than `a * r`, then `a` is at most `b`
fewer_rounds : (a b r off t : ℕ) → off < r → a * r + t ≡ b * r + off → a ≤ b
fewer_rounds a b r off t less is = elim (cases_lt b a) [
  | inr le ↦ le
  | inl lt ↦ absurd (let more_rounds : suc b * r ≤ a * r = mul-le-mul_right r lt in
      omega (arith, more_rounds, less, is))
]

-- The occurrences of a node's slot have the same times in every cycle, counted from its begin. The cycle begins after a
-- whole number of rounds (`all`), so an occurrence is the one that many rounds later, and conversely.
pub same_slots : CyclesHaveTheSameSlots
same_slots g tables time cycle node f c has = record {
  later = λ t at. (all + at.0, omega (arith, at.1, begin, parts all at.0 (round g)));
  earlier = λ t at.
      let fewer : all ≤ at.0 =
      fewer_rounds all at.0 (round g) (offset g node) t inside (sym (ap (λ n. n + t) begin) ∙ at.1) in (
        at.0 - all,
        let counted : all + (at.0 - all) ≡ at.0 = omega (arith, fewer) in
            let whole : at.0 * round g ≡ all * round g + (at.0 - all) * round g =
            ap (λ n. n * round g) (sym counted) ∙ parts all (at.0 - all) (round g) in
            omega (arith, at.1, begin, whole),
      );
}
  where
    -- how many rounds are over at the beginning of the cycle
    all : ℕ
    all = cycle * c.rounds

    -- `a` rounds of length `r` and `b` more are `a + b` rounds
    parts : (a b r : ℕ) → (a + b) * r ≡ a * r + b * r
    parts a b r = omega arith

    -- the slot begins within its round
    inside : offset g node < round g
    inside =
        let within = slot_place-lt g node has in
        let one = f.slot_lengths (slot_place g node) (record { node = 0; length = 0; bytes = 0 }) within in
        omega (arith, front_sum g.slots (slot_place g node) (record { node = 0; length = 0; bytes = 0 }) within, one)

    -- the cycle begins with a round
    begin : cycle * time ≡ all * round g
    begin = let step : cycle_step g ≡ round g = omega (arith, inside) in
        ap (λ t. cycle * t) (c.whole ∙ ap (λ n. c.rounds * n) step) ∙ assoc cycle c.rounds (round g)
      where
        -- products may be grouped in either way
        assoc : (a b r : ℕ) → a * (b * r) ≡ a * b * r
        assoc a b r = omega arith

-- Cycles.

-- What nodes do in a cycle is over before they do anything in a later one: it is over by the end of the cycle (`over`),
-- and the later one doesn't begin before that.
pub cycles_are_apart : CyclesAreApart
cycles_are_apart g tables time f h v cycle w z turns others one later is iz less =
    let over_by = over (played_of g tables f h v w is) time cycle turns in
    let gap : suc one * time ≤ later * time = mul-le-mul_right time less in
    record {
      executions = λ node there a b l m n p. omega (arith, over_by.starts node a l m p, gap);
      frames = λ node there a b l m n p. omega (arith, over_by.sends node a l m p, gap);
    }
