-- Generated graphs keep the rules of admission.
use Rattle.std.proofs.Common.{ℕ, ◌^◌, zero, suc, ◌-◌, ◌<◌, ◌≤◌, ◌≡◌, ◌==◌, Bool, true, false, cond, not, ◌&&◌, List, []}
use Rattle.std.proofs.Common.{◌∷◌, length, get_or, filter, map, Some, refl, sym, ap, ap₂, ◌∙◌, subst, arith}
use Rattle.std.proofs.Common.{eqb-true, eq-eqb, le-ltb}
use Rattle.std.specs.Prelude.{nat_lt}
use Rattle.std.proofs.lemmas.Bool.{and_parts, and_right, both_ways}
use Rattle.std.proofs.lemmas.Option.{none-some}
use Rattle.cpg_base.specs.declared.process.Process.{Process}
use Rattle.cpg_base.specs.declared.process.Edge.{Edge}
use Rattle.cpg_base.specs.declared.process.Slot.{Slot}
use Rattle.cpg_base.specs.Numbers.{numbers_below}
use Rattle.cpg_base.specs.Graph.{process_count, condition_count, process_at, edge_at, node_of, source, inputs}
use Rattle.cpg_base.specs.Graph.{is_message}
use Rattle.cpg_base.specs.Activity.{active, live, takes, value_of}
use Rattle.cpg_base.specs.WellFormed.{HasSingleJoins}
use Rattle.cpg_base.proofs.Lists.{get_or-map-below, Contains-map, Contains-numbers, from_all, list_any_true}
use Rattle.cpg_base.proofs.Lists.{list_any_parts}
use Rattle.std.proofs.lemmas.List.Sums.{length-filter, count_by-le-length}
use Rattle.cpg_order.proofs.ScenariosApart.{length-outcomes}
use Rattle.cpg_order.specs.Cycle.{HasCycle, has_edge}
use Rattle.cpg_order.specs.Deciding.{outcomes}
use Rattle.cpg_order.specs.Track.{is_track, track_count}
use Rattle.cpg_rules.specs.declared.admission.RuleFault.{RuleFault}
use Rattle.cpg_rules.specs.declared.admission.RuleFault.TheVariants.{Cycle, TooManyTracks, TwoAlternatives, NoSlot}
use Rattle.cpg_rules.specs.declared.admission.RuleFault.TheVariants.{TooBig, BadOrder, OutOfMemory}
use Rattle.cpg_rules.specs.Rules.{is_sender, has_slot, bytes_in, slot_bytes, is_too_big, AllFit}
use Rattle.cpg_rules.specs.Faults.{ShowsFault}
use Rattle.cpg_rules.proofs.Exact.{two_live}
use Rattle.cpg_gen.specs.Generated.{generated, generated_process, edge_of, slot_of}
use Rattle.cpg_gen.proofs.Limits.{generated_edge, edge_there, processes_count, few_conditions, within_limits}

-- a filter by the test `p` keeps at most as many elements as `xs` has
pub filter_long : {X : Type 0} (p : X → Bool) (xs : List X) → length (filter p xs) ≤ length xs
filter_long p xs = omega (arith, length-filter p xs, count_by-le-length p xs)

-- a power of two up to the second is at most 4
pub powers_few : (n : ℕ) → n ≤ 2 → 2 ^ n ≤ 4
powers_few zero at_most = omega arith
powers_few (suc zero) at_most = omega arith
powers_few (suc (suc zero)) at_most = omega arith
powers_few (suc (suc (suc n))) at_most = absurd (omega arith)

-- at most two conditions have at most four outcomes
pub outcomes_few : (n : ℕ) → n ≤ 2 → length (outcomes n) ≤ 4
outcomes_few n at_most = omega (arith, length-outcomes n, powers_few n at_most)

-- two edges that ask for different values of one condition are not both live
abbrev kept_of : Bool → Bool → List ℕ
kept_of first second = cond first (39 ∷ cond second (40 ∷ []) []) (cond second (40 ∷ []) [])

-- of the two edges to the join at most one is live, since they ask for different values
one_live : (a value : Bool) → length (kept_of (a && value) (a && not value)) ≤ 1
one_live true true = omega arith
one_live true false = omega arith
one_live false true = omega arith
one_live false false = omega arith

-- a frame of one byte has room in a slot of 8
not_above : (size : ℕ) → size ≡ 1 → nat_lt 8 size ≡ false
not_above size same = le-ltb 8 size (omega (arith, same))

-- a value isn't both true and false
not_both : (b : Bool) → b ≡ true → not b ≡ true → ⊥
not_both true is_true is_false = both_ways false refl is_false
not_both false is_true is_false = both_ways false refl is_true

-- given the number of a generated graph
module _ (number : ℕ) where
  -- ---- cycles

  -- An edge leads to a greater process.
  -- Each generated edge does.
  rises : (p q : ℕ) → has_edge (generated number) p q ≡ true → p < q
  rises p q is_true =
      let found = list_any_parts (λ (e : Edge). (e.from == p) && (e.to == q)) (generated number).edges is_true in
      let ends = and_parts (found.0.from == p) (found.0.to == q) found.2 in
      let from = eqb-true found.0.from p ends.0 in
      let to = eqb-true found.0.to q ends.1 in
      let up = (generated_edge number found.0 found.1).rises in
      omega arith

  -- a generated graph has no cycle, as its edges lead to greater numbers
  pub no_cycle : HasCycle (generated number) → ⊥
  no_cycle (walk, c) =
      let some = c.some in
      let back = rises (get_or walk (length walk - 1) 0) (get_or walk 0 0) c.back in
      let least = c.least (length walk - 1) (omega arith) in
      omega arith

  -- ---- tracks

  -- a generated graph has at most four tracks
  pub few_tracks : track_count (generated number) ≤ 4
  few_tracks =
      let fewer = filter_long (is_track (generated number)) (outcomes (condition_count (generated number))) in
      let four = outcomes_few (condition_count (generated number)) (few_conditions number) in
      omega (arith, fewer, four)

  -- ---- the join

  -- the edges 39 and 40 lead to the join, process 40
  join_inputs : inputs (generated number) 40 ≡ 39 ∷ 40 ∷ []
  join_inputs = refl

  -- edge 39 comes from process 10, if its value is true
  first_edge : edge_at (generated number) 39 ≡ edge_of 10 40 (Some true)
  first_edge = refl

  -- edge 40 comes from process 10, if its value is false
  second_edge : edge_at (generated number) 40 ≡ edge_of 10 40 (Some false)
  second_edge = refl

  -- given the values of all conditions
  module _ (values : List Bool) where
    -- whether an edge is live, by its fields
    abbrev live_by : Edge → Bool
    live_by e = active (generated number) values e.from && takes e.when (value_of (generated number) values e.from)

    -- the first input of the join is live exactly if its source is active with a true value
    first_live : live (generated number) values 39
        ≡ (active (generated number) values 10 && value_of (generated number) values 10)
    first_live = ap live_by first_edge

    -- the second input of the join is live exactly if its source is active with a false value
    second_live : live (generated number) values 40
        ≡ (active (generated number) values 10 && not (value_of (generated number) values 10))
    second_live = ap live_by second_edge

    -- at most one input of the join is live
    join_single : length (filter (live (generated number) values) (inputs (generated number) 40)) ≤ 1
    join_single =
        let both = ap₂ (λ a b. length (kept_of a b)) first_live second_live in
        let listed = ap (λ es. length (filter (live (generated number) values) es)) join_inputs in
        let one = one_live (active (generated number) values 10) (value_of (generated number) values 10) in
        subst (λ n. n ≤ 1) (sym (listed ∙ both)) one

  -- there is no other join
  join_is : (p : ℕ) → p < process_count (generated number) → (process_at (generated number) p).join ≡ true → p ≡ 40
  join_is p below is_true =
      let within : p < 60 = omega (arith, processes_count number) in
      eqb-true p 40 (ap (λ (q : Process). q.join) (sym (get_or-map-below (generated_process number) 60 p _ within))
      ∙ is_true)

  -- no outcome makes two inputs of the join live, as they ask for different values of one condition
  pub single_joins : HasSingleJoins (generated number)
  single_joins p values l join long =
      subst (λ q. length (filter (live (generated number) values) (inputs (generated number) q)) ≤ 1)
      (sym (join_is p l join)) (join_single values)

  -- ---- slots

  -- each node has a slot
  slot_there : (node : ℕ) → node < 4 → has_slot (generated number) node ≡ true
  slot_there node less = list_any_true (λ (s : Slot). s.node == node) (generated number).slots (slot_of node)
      (Contains-map slot_of (numbers_below 4) node (Contains-numbers 4 node less))
      (eq-eqb node node refl)

  -- the slot of each node holds 8 bytes
  slot_holds : (node : ℕ) → node < 4 → bytes_in (map slot_of (numbers_below 4)) node ≡ 8
  slot_holds node less = eqb-true (bytes_in (map slot_of (numbers_below 4)) node) 8
      (from_all (λ n. bytes_in (map slot_of (numbers_below 4)) n == 8) (numbers_below 4) node refl
      (Contains-numbers 4 node less))

  -- Each message fits into its sender's slot.
  -- A generated edge has one byte, and each slot eight.
  pub all_fit : AllFit (generated number)
  all_fit e l =
      let from = (within_limits number).edges e _ l in
      let node = ((within_limits number).processes (source (generated number) e) _ from.from).node in
      let holds = slot_holds (node_of (generated number) (source (generated number) e)) node in
      and_right (is_message (generated number) e) (nat_lt (slot_bytes (generated number)
      (node_of (generated number) (source (generated number) e))) (edge_at (generated number) e).size)
      (ap (λ n. nat_lt n (edge_at (generated number) e).size) holds
      ∙ not_above (edge_at (generated number) e).size (edge_there number e l).size)

  -- ---- no fault

  -- A generated graph shows no fault but that memory runs out.
  -- Fault by fault: each would break a rule that generated graphs keep.
  pub no_fault : (fault : RuleFault) → ShowsFault (generated number) fault → fault ≡ OutOfMemory
  no_fault (Cycle walk) shows = absurd (no_cycle (walk, shows))
  no_fault TooManyTracks shows = absurd (let at_most = few_tracks in let more = shows.2 in omega (arith, at_most, more))
  no_fault (TwoAlternatives p s) shows =
      let join_there = shows.2 in
      absurd (two_live (length (filter (live (generated number) s.values) (inputs (generated number) p)))
      (single_joins p s.values join_there.within join_there.join join_there.least.lawful.values) join_there.least.holds)
  no_fault (NoSlot node) shows =
      let lacks = shows.2 in
      absurd (not_both (has_slot (generated number) node) (slot_there node lacks.within)
      (and_parts (is_sender (generated number) node) (not (has_slot (generated number) node)) lacks.lacks).1)
  no_fault (TooBig e) shows =
      absurd (both_ways (is_too_big (generated number) e) (all_fit e shows.2.within) shows.2.above)
  no_fault (BadOrder p) shows = absurd (none-some shows.2.order shows.2.given)
  no_fault OutOfMemory shows = refl
