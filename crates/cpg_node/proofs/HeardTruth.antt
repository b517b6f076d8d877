-- Each fact that a node is told is true of the scenario, and so is what they imply.
use Rattle.std.proofs.Common.{◌≡◌, ℕ, ◌+◌, ◌-◌, ◌≤◌, Bool, true, false, cond, ◌==◌, List, [], map, filter, Contains}
use Rattle.std.proofs.Common.{flat_map, refl, ap, arith, inl, inr, eqb-true, le-leb, leb, leb-true, lt-ltb}
use Rattle.std.proofs.Common.{le-ltb, length, get_or}
use Rattle.std.proofs.lemmas.Bool.{cases_lt, and_from, and_parts, cond-true, cond-false}
use Rattle.std.proofs.lemmas.List.{get_or_past}
use Rattle.std.proofs.lemmas.List.Sums.{get_or-le-sum_by}
use Rattle.std.proofs.lemmas.List.Elements.{Contains-append_cases}
use Rattle.cpg_base.specs.Numbers.{numbers_below}
use Rattle.cpg_base.specs.Graph.{Graph, process_count, item_count, item_at, node_of, home, is_heard_by}
use Rattle.cpg_base.specs.Duration.{duration}
use Rattle.cpg_base.specs.Bus.{slot_length}
use Rattle.cpg_base.specs.Variable.{top}
use Rattle.cpg_base.proofs.Lists.{Contains-nil, Contains-filter_parts, Contains-flat_map_parts, Contains-map_parts}
use Rattle.cpg_base.proofs.Lists.{numbers-Contains, greatest_cases, least_cases}
use Rattle.cpg_base.specs.Scenario.{Scenario, IsScenario, number_of, number_of_value, fault_of}
use Rattle.cpg_base.proofs.NumbersOf.{number_of-fault}
use Rattle.cpg_cube.specs.Cube.{holds, matches}
use Rattle.cpg_cube.specs.declared.literal.Literal.{Literal}
use Rattle.cpg_table.specs.Table.{NodeTable, columns_of}
use Rattle.cpg_cube.specs.declared.column.Column.{Column}
use Rattle.cpg_table.specs.Heard.{matching, facts_of_end, facts_of_frame, facts, is_heard, kept_low, kept_high}
use Rattle.cpg_table.proofs.Settings.{Match}
use Rattle.cpg_table.proofs.Told.{end_literals, frame_facts, Learnt, learnt_true}

-- an element of a list that may be left out is one of the list
cond_parts : {X : Type 0} (b : Bool) (xs : List X) (x : X) → Contains (cond b xs []) x → Contains xs x
cond_parts true xs x among = among
cond_parts false xs x among = absurd (Contains-nil x among)

-- a column that matches in a scenario is a match
match_of : (tables : List NodeTable) (s : Scenario) (x : ℕ) (c : Column) → Contains (matching tables s x) c →
    Match tables s x c
match_of tables s x c among =
    let parts = Contains-filter_parts (λ (c : Column). matches c.cube s) (columns_of tables x) c among in
    record { there = parts.0; holds = parts.1 }

-- true at each moment
abbrev ever : ℕ → Bool
ever moment = true

-- given: tables of a graph, a node, a time, and a scenario s of the graph
module _ (g : Graph) (tables : List NodeTable) (node time : ℕ) (s : Scenario) (law : IsScenario g s) where
  -- each fact of a node is one that it learns at some time: from the end of one of its processes, or from a frame that
  -- it hears
  told : (l : Literal) → Contains (facts g tables node s time) l → Learnt g tables s node ever l
  told l among = elim (Contains-append_cases
      (flat_map (facts_of_end g tables s time) (filter (λ p. node_of g p == node) (numbers_below (process_count g))))
      (flat_map (facts_of_frame g tables s time)
      (filter (λ x. is_heard_by g node (item_at g x)) (numbers_below (item_count g)))) l among) [
        -- the fact is told by the end of a process on the node
        | inl of_end ↦
            let end = Contains-flat_map_parts (facts_of_end g tables s time)
            (filter (λ p. node_of g p == node) (numbers_below (process_count g))) l of_end in
            let on_node =
            Contains-filter_parts (λ p. node_of g p == node) (numbers_below (process_count g)) end.0 end.1 in
            let by = Contains-flat_map_parts
            (λ (c : Column). cond (leb (c.time + duration g end.0 (number_of s end.0)) time) (end_literals g s end.0)
            [])
            (matching tables s end.0) l end.2 in
            inl (record {
              process = end.0;
              within = numbers-Contains (process_count g) end.0 on_node.0;
              on = eqb-true _ _ on_node.1;
              column = by.0;
              match = match_of tables s end.0 by.0 by.1;
              then = refl;
              told = cond_parts (leb (by.0.time + duration g end.0 (number_of s end.0)) time) (end_literals g s end.0)
                  l by.2;
            })
        -- the fact is told by a frame that the node hears
        | inr of_frame ↦
            let frame = Contains-flat_map_parts (facts_of_frame g tables s time)
            (filter (λ x. is_heard_by g node (item_at g x)) (numbers_below (item_count g))) l of_frame in
            let is_heard =
            Contains-filter_parts (λ x. is_heard_by g node (item_at g x)) (numbers_below (item_count g)) frame.0
            frame.1 in
            let by = Contains-flat_map_parts
            (λ (c : Column). cond (leb (c.time + slot_length g (home g frame.0)) time) (frame_facts g s frame.0 c) [])
            (matching tables s frame.0) l frame.2 in
            inr (record {
              item = frame.0;
              within = numbers-Contains (item_count g) frame.0 is_heard.0;
              heard = is_heard.1;
              column = by.0;
              match = match_of tables s frame.0 by.0 by.1;
              then = refl;
              told = cond_parts (leb (by.0.time + slot_length g (home g frame.0)) time) (frame_facts g s frame.0 by.0)
                  l by.2;
            })
      ]

  -- the number of a variable is at most its top: the faults of a process are at most the budget of all, and a value is
  -- 0 or 1
  within : (v : ℕ) → number_of s v ≤ top g.faults v
  within v = elim (cases_lt v 128) [
    | inl of_count ↦ let greatest = cond-true _ g.faults 1 (lt-ltb v 128 of_count) in
        let number = number_of-fault s v of_count in
        elim (cases_lt v (length s.faults)) as (λ _. number_of s v ≤ top g.faults v) [
          | inl inside ↦ omega (arith, greatest, number, get_or-le-sum_by (λ x. x) s.faults v 0 inside, law.budget)
          | inr past ↦ omega (arith, greatest, number, get_or_past s.faults v 0 past)
        ]
    | inr of_value ↦ let greatest = cond-false _ g.faults 1 (le-ltb v 128 of_value) in
        let number =
        cond-false _ (fault_of s v) (number_of_value (get_or s.values (v - 128) false)) (le-ltb v 128 of_value) in
        omega (arith, greatest, number, bit (get_or s.values (v - 128) false))
  ]
    where
      -- the number of a value is 0 or 1
      bit : (b : Bool) → number_of_value b ≤ 1
      bit true = omega arith
      bit false = omega arith

  -- what the node has been told by the time
  abbrev fs : List Literal
  fs = facts g tables node s time

  -- each fact on the variable of a literal contains the variable's number, since each fact that a node learns is true
  -- (`learnt_true`)
  true_of : (l m : Literal) → Contains (filter (λ (m : Literal). m.variable == l.variable) fs) m →
      (m.low ≤ number_of s l.variable) × (number_of s l.variable ≤ m.high)
  true_of l m among =
      let on_v = Contains-filter_parts (λ (m : Literal). m.variable == l.variable) fs m among in
      let bounds = and_parts (leb m.low (number_of s m.variable)) (leb (number_of s m.variable) m.high)
      (learnt_true m (told m on_v.0)) in
      let same : number_of s m.variable ≡ number_of s l.variable =
      ap (number_of s) (eqb-true m.variable l.variable on_v.1) in
      let below : m.low ≤ number_of s m.variable = leb-true _ _ bounds.0 in
      let above : number_of s m.variable ≤ m.high = leb-true _ _ bounds.1 in
      (omega arith, omega arith)

  -- the low that the facts leave a variable is 0 or that of one of them, which is true: no number is below it
  low : (l : Literal) → kept_low fs l.variable ≤ number_of s l.variable
  low l = elim (greatest_cases (map (λ (m : Literal). m.low) (filter (λ (m : Literal). m.variable == l.variable) fs))) [
    | inl is_zero ↦ omega (arith, is_zero)
    | inr found ↦ let literal = Contains-map_parts (λ (m : Literal). m.low)
        (filter (λ (m : Literal). m.variable == l.variable) fs) (kept_low fs l.variable) found in
        omega (
          arith,
          literal.2,
          (true_of l literal.0 literal.1).0,
        )
  ]

  -- the high that they leave is its top or that of one of them: no number is above it
  high : (l : Literal) → number_of s l.variable ≤ kept_high g.faults fs l.variable
  high l = elim (least_cases (top g.faults l.variable)
      (map (λ (m : Literal). m.high) (filter (λ (m : Literal). m.variable == l.variable) fs))) [
        | inl is_top ↦ omega (arith, is_top, within l.variable)
        | inr found ↦ let literal = Contains-map_parts (λ (m : Literal). m.high)
            (filter (λ (m : Literal). m.variable == l.variable) fs) (kept_high g.faults fs l.variable) found in
            omega (arith, literal.2, (true_of l literal.0 literal.1).1)
      ]

-- a literal that is heard is true of the scenario, whatever the tables are
pub heard_true : (g : Graph) (tables : List NodeTable) (node time : ℕ) (s : Scenario) (l : Literal) → IsScenario g s →
    is_heard g.faults (facts g tables node s time) l ≡ true →
    holds s l ≡ true
heard_true g tables node time s l law heard =
    let parts = and_parts (leb l.low (kept_low (facts g tables node s time) l.variable))
    (leb (kept_high g.faults (facts g tables node s time) l.variable) l.high) heard in
    and_from (leb l.low (number_of s l.variable)) (leb (number_of s l.variable) l.high)
    (le-leb l.low (number_of s l.variable) (omega (arith, leb-true _ _ parts.0, low g tables node time s law l)))
    (le-leb (number_of s l.variable) l.high (omega (arith, leb-true _ _ parts.1, high g tables node time s law l)))
