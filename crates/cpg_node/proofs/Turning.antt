-- What a node keeps before and after a turn.
use Rattle.std.proofs.Common.{◌+◌, ◌⊎◌, ◌≡◌, ℕ, suc, ◌<◌, ◌≤◌, ◌-◌, ◌^◌, min, Bool, true, false, cond, ◌==◌, List, []}
use Rattle.std.proofs.Common.{◌∷◌, ◌++◌, map, filter, fold, length, take, drop, get_or, slice_get, Contains}
use Rattle.std.proofs.Common.{Option, Some, None, refl, sym, ap, ap₂, ◌∙◌, subst, arith, inl, inr, true≢false, eq-eqb}
use Rattle.std.proofs.Common.{eqb-true}
use Rattle.std.proofs.lemmas.Bool.{cases_lt, false_from_ne_true}
use Rattle.std.proofs.lemmas.List.Sums.{fold-append}
use Rattle.std.specs.Prelude.{is_some, All, IfSome, IsPermutation}
use Rattle.std.specs.List.{flat_map, list_any}
use Rattle.std.specs.List.Sorted.{IsNonDecreasingBy}
use Rattle.std.proofs.lemmas.List.Elements.{All-contains, All-cons, All-head, All-tail, All-nil, Contains-append_left}
use Rattle.std.proofs.lemmas.List.Elements.{Contains-append_right, Contains-append_cases, Contains-get_or}
use Rattle.std.proofs.lemmas.Grind.{flat_map-append}
use Rattle.std.proofs.lemmas.List.Sorted.{Contains-permutation, IsPermutation-sym}
use Rattle.cpg_base.proofs.Lists.{Contains-nil, Contains-cases, Contains-map_parts, Contains-filter}
use Rattle.cpg_base.proofs.Lists.{Contains-filter_parts}
use Rattle.cpg_node.specs.Dispatcher.{Dispatcher, times_in, Own, OwnTable, Range, Running, Ended, Frame, Act, zip_with}
use Rattle.cpg_node.specs.Dispatcher.{possible_ends, candidates, is_after, least_of, next, with_report, running_after}
use Rattle.cpg_node.specs.Dispatcher.{due_reports, hear_end, hear_frame, acts_at, heard_after, acts_of_turn}
use Rattle.cpg_node.specs.Dispatcher.{ends_in_turn, turn}
use Rattle.cpg_table.specs.Table.{Row}
use Rattle.cpg_cube.specs.declared.column.Column.{Column}
use Rattle.cpg_node.specs.State.{NodeState, earlier, IsTimed, AreTimed}
use Rattle.cpg_node.specs.Plan.{Planned, IsPlaceAfter, fixed_times, SameAtEachTime, plan_of, act_of, takes}
use Rattle.cpg_node.proofs.Least.{least_passing, least_same}
use Rattle.cpg_node.proofs.Lines.{first_left, moves_on}
use Rattle.cpg_node.proofs.Next.{NextIs, next_is, not_by, least_of_parts}
use Rattle.cpg_table.specs.Lawful.{IsTable}
use Rattle.cpg_node.proofs.TableBounds.{AreShort, times_short, fixed_early}
use Rattle.cpg_node.proofs.Planning.{filter_run, acts_same, planned_in, planned_time}

-- before the first turn all is left, and the place is at the front
pub place_open : {X : Type 0} (time : X → ℕ) (xs : List X) → IsNonDecreasingBy time xs → IsPlaceAfter time None xs 0
place_open time xs up =
    record { within = omega arith; rises = up; reached = λ i d h. absurd (omega arith); left = λ i d h k. refl }

-- no number is less than 0
fold_zero : (xs : List ℕ) → fold min 0 xs ≡ 0
fold_zero [] = refl
fold_zero (x ∷ xs) = let same : min 0 x ≡ 0 = omega arith in ap (λ n. fold min n xs) same ∙ fold_zero xs

-- before the first turn the next instant is 0, which is a candidate besides then
pub next_open : (d : Dispatcher) → d.last ≡ None → Some 0 ≡ next d
next_open d none =
    sym (ap (λ last. least_of (filter (is_after last) (cond (is_some last) (candidates d) (0 ∷ candidates d)))) none
    ∙ ap Some (fold_zero (filter (is_after None) (candidates d))))

-- After a turn the next instant is the table's time at the place, or the least possible end after the turn if that is
-- earlier. The sorted times have the same members as the table's, so the least of those that are left is the one at the
-- place.
pub next_found : (table : OwnTable) (heard : List Range) (running : List (Option Running)) (last : ℕ) (times : List ℕ)
    (place : ℕ) →
    IsPermutation (fixed_times table) times →
    IsPlaceAfter (λ t. t) (Some last) times place →
    next (record { table = table; heard = heard; running = running; last = Some last })
    ≡ earlier (slice_get times place)
    (least_of (filter (is_after (Some last)) (flat_map (λ ends. ends) (zip_with possible_ends table.own running))))
next_found table heard running last times place permuted at_place =
    let late = is_after (Some last) in
    let ends : List ℕ = flat_map (λ ends. ends) (zip_with possible_ends table.own running) in
    let node : Dispatcher = record { table = table; heard = heard; running = running; last = Some last } in
    let parts : candidates node ≡ fixed_times table ++ ends = refl in
    ap (λ l. least_of (filter late l)) parts ∙ least_passing late (fixed_times table) ends
    ∙ ap (λ o. earlier o (least_of (filter late ends)))
    (least_same (filter late (fixed_times table)) (filter late times) (kept (fixed_times table) times permuted)
    (kept times (fixed_times table) (IsPermutation-sym (fixed_times table) times permuted)) ∙
    sym (first_left last times place at_place))
  where
    -- permuted lists have the same times after the last turn
    kept : (xs ys : List ℕ) → IsPermutation xs ys → (x : ℕ) → Contains (filter (is_after (Some last)) xs) x →
        Contains (filter (is_after (Some last)) ys) x
    kept xs ys permuted x among = let parts = Contains-filter_parts (is_after (Some last)) xs x among in
        Contains-filter (is_after (Some last)) ys x parts.1 (Contains-permutation xs ys x permuted parts.0)

-- ---- a report changes no time

-- a report leaves the possible ends of an execution as they were
same_ends : (e : Ended) (o : Own) (run : Option Running) → possible_ends o (with_report e o run) ≡ possible_ends o run
same_ends e o None = refl
same_ends e o (Some run) = go (o.process == e.process)
  where
    -- by whether the report is of this process
    go : (b : Bool) →
        possible_ends o (cond b (Some (record { start = run.start; report = Some e })) (Some run))
        ≡ possible_ends o (Some run)
    go true = refl
    go false = refl

-- a report leaves the possible ends as they were
pub ends_reported : (e : Ended) (os : List Own) (runs : List (Option Running)) →
    zip_with possible_ends os (zip_with (with_report e) os runs) ≡ zip_with possible_ends os runs
ends_reported e [] runs = refl
ends_reported e (o ∷ os) [] = refl
ends_reported e (o ∷ os) (run ∷ runs) = ap₂ ◌∷◌ (same_ends e o run) (ends_reported e os runs)

-- a report leaves the next instant as it was
pub next_reported : (e : Ended) (table : OwnTable) (heard : List Range) (running : List (Option Running))
    (last : Option ℕ) →
    next (record { table = table; heard = heard; running = zip_with (with_report e) table.own running; last = last })
    ≡ next (record { table = table; heard = heard; running = running; last = last })
next_reported e table heard running last = ap
    (λ l. let times = times_in table.starts ++ times_in table.sends ++ times_in table.hears ++ flat_map (λ ends. ends)
    l in
    least_of (filter (is_after last) (cond (is_some last) times (0 ∷ times)))) (ends_reported e table.own running)

-- a report leaves the start of an execution as it is
timed_report : (e : Ended) (o : Own) (run : Option Running) → IsTimed run → IsTimed (with_report e o run)
timed_report e o None is_timed = is_timed
timed_report e o (Some run) is_timed = go (o.process == e.process)
  where
    -- by whether the report is of this process
    go : (b : Bool) → IsTimed (cond b (Some (record { start = run.start; report = Some e })) (Some run))
    go true = is_timed
    go false = is_timed

-- if f leaves each start below 2^60, so it does place by place; by induction on the own processes
timed_zip : (f : Own → Option Running → Option Running) →
    ((o : Own) (run : Option Running) → IsTimed run → IsTimed (f o run)) →
    (os : List Own) (runs : List (Option Running)) → AreTimed runs →
    AreTimed (zip_with f os runs)
timed_zip f keep [] runs are_timed = All-nil IsTimed
timed_zip f keep (o ∷ os) [] are_timed = All-nil IsTimed
timed_zip f keep (o ∷ os) (run ∷ runs) are_timed = All-cons IsTimed (f o run) (zip_with f os runs)
    (keep o run (All-head IsTimed run runs are_timed)) (timed_zip f keep os runs (All-tail IsTimed run runs are_timed))

-- after a report all starts are still below 2^60
pub timed_reported : (e : Ended) (os : List Own) (runs : List (Option Running)) → AreTimed runs →
    AreTimed (zip_with (with_report e) os runs)
timed_reported e = timed_zip (with_report e) (timed_report e)

-- an execution after a turn started below 2^60 if it did before: one that the turn starts has the turn's time, which is
-- below 2^60 if the turn has acts
timed_after : (ended : List Ended) (acts : List Act) (time : ℕ) → (0 < length acts → time < 2 ^ 60) →
    (o : Own) (run : Option Running) → IsTimed run →
    IsTimed (running_after ended acts time o run)
timed_after ended acts time early o run timed =
    go (list_any (λ (a : Act). a.item == o.process) acts) refl
    (list_any (λ (e : Ended). e.process == o.process) ended)
  where
    -- if an act starts the process, there is an act
    some : (acts : List Act) → list_any (λ (a : Act). a.item == o.process) acts ≡ true → 0 < length acts
    some [] answer = absurd (true≢false (sym answer))
    some (a ∷ acts) answer = omega arith

    -- by whether an act starts the process, and whether an end is of it
    go : (b : Bool) → list_any (λ (a : Act). a.item == o.process) acts ≡ b → (c : Bool) →
        IsTimed (cond b (Some (record { start = time; report = None })) (cond c None run))
    go true answer c = early (some acts answer)
    go false answer true = tt
    go false answer false = timed

-- after a turn all starts are still below 2^60, as each is (`timed_after`)
pub timed_turn : (ended : List Ended) (acts : List Act) (time : ℕ) → (0 < length acts → time < 2 ^ 60) →
    (os : List Own) (runs : List (Option Running)) → AreTimed runs →
    AreTimed (zip_with (running_after ended acts time) os runs)
timed_turn ended acts time early = timed_zip (running_after ended acts time) (timed_after ended acts time early)

-- two lists of one length, zipped, have that length
pub length_zip : {A B C : Type 0} (f : A → B → C) (os : List A) (rs : List B) → length rs ≡ length os →
    length (zip_with f os rs) ≡ length os
length_zip f [] rs same = refl
length_zip f (o ∷ os) [] same = absurd (omega arith)
length_zip f (o ∷ os) (r ∷ rs) same = ap (λ n. suc n) (length_zip f os rs (omega arith))

-- ---- what a turn does

-- parts that were worked out one by one make the state after the turn, and its acts: the reports that are due, what has
-- been heard after the ends, the due ones and the frames, the acts then, and what runs then
pub turn_is : (table : OwnTable) (heard : List Range) (running : List (Option Running)) (last : Option ℕ) (time : ℕ)
    (ended due : List Ended) (frames : List Frame)
    (known : List Range) (acts : List Act) (runs : List (Option Running)) →
    due ≡ due_reports (record { table = table; heard = heard; running = running; last = last }) time →
    known ≡ fold (hear_frame table) (fold (hear_end table) (fold (hear_end table) heard ended) due) frames →
    acts ≡ acts_at table known time →
    runs ≡ zip_with (running_after (ended ++ due) acts time) table.own running →
    let before : Dispatcher = record { table = table; heard = heard; running = running; last = last } in
    (record { table = table; heard = known; running = runs; last = Some time } ≡ turn before time ended frames) ×
    (acts ≡ acts_of_turn before time ended frames)
turn_is table heard running last time ended due frames known acts runs is same a r =
    let before : Dispatcher = record { table = table; heard = heard; running = running; last = last } in
    let heard' : known ≡ heard_after before time ended frames = same ∙ ap (λ l. fold (hear_frame table) l frames)
    (sym (fold-append (hear_end table) heard ended due) ∙ ap (λ l. fold (hear_end table) heard (ended ++ l)) is) in
    let acts' : acts ≡ acts_of_turn before time ended frames = a ∙ ap (λ l. acts_at table l time) heard' in
    let runs' : runs ≡ zip_with (running_after (ends_in_turn before time ended) (acts_of_turn before time ended frames)
    time)
    table.own running =
    r ∙ ap₂ (λ es bs. zip_with (running_after (ended ++ es) bs time) table.own running) is acts' in
    ((λ i. record { table = table; heard = heard' i; running = runs' i; last = Some time }), acts')

-- given: the next instant of a node, and a part of its plan
-- `same`, `at_place`: the plan has the columns of the table, in order of time, and `place` is where those after the last
-- turn begin. `comes`: the next instant is `time`. `seen`, `sliced`: ps and qs are the plan. `inside`, `before`, `here`:
-- the entries from `place` to before `end` are no later than `time`, and the one at `end`, if there is one, is later.
module _ (table : OwnTable) (heard : List Range) (running : List (Option Running)) (last : Option ℕ) (time : ℕ)
    (plan ps qs : List Planned) (place end : ℕ)
    (same : SameAtEachTime plan (plan_of table)) (at_place : IsPlaceAfter (λ (p : Planned). p.time) last plan place)
    (comes : next (record { table = table; heard = heard; running = running; last = last }) ≡ Some time)
    (seen : ps ≡ plan) (sliced : qs ≡ plan)
    (inside : (place ≤ end) × (end ≤ length ps))
    (before : (i : ℕ) (d : Planned) → place ≤ i → i < end → (get_or ps i d).time ≤ time)
    (here : (d : Planned) → end < length ps → time < (get_or ps end d).time) where
  -- the state of the node
  abbrev node : Dispatcher
  node = record { table = table; heard = heard; running = running; last = last }

  -- it is after the last turn, and no candidate that isn't reached is earlier
  next' : NextIs node time
  next' = next_is node time comes

  -- the end isn't before the place
  from : place ≤ end
  from = inside.0

  -- the end is within the plan
  within : end ≤ length plan
  within = omega (arith, inside.1, ap length seen)

  -- the entries from the place to the end are no later than the instant
  before' : (i : ℕ) (d : Planned) → place ≤ i → i < end → (get_or plan i d).time ≤ time
  before' = subst (λ (ps : List Planned). (i : ℕ) (d : Planned) → place ≤ i → i < end → (get_or ps i d).time ≤ time)
      seen before

  -- the entry at the end, if there is one, is later
  here' : (d : Planned) → end < length plan → time < (get_or plan end d).time
  here' = subst (λ (ps : List Planned). (d : Planned) → end < length ps → time < (get_or ps end d).time) seen here

  -- the times of what is planned are candidates
  planned_time' : (x : ℕ) → Contains (times_in (table.sends ++ table.starts)) x → Contains (candidates node) x
  planned_time' x c =
      Contains-append_left (fixed_times table) (flat_map (λ ends. ends) (zip_with possible_ends table.own running)) x
      (Contains-append_left (times_in table.starts ++ times_in table.sends) (times_in table.hears) x
      (elim (Contains-append_cases (times_in table.sends) (times_in table.starts) x
      (subst (λ l. Contains l x)
      (flat_map-append (λ (row : Row). map (λ (c : Column). c.time) row.columns) table.sends table.starts) c)) [
        | inl k ↦ Contains-append_right (times_in table.starts) (times_in table.sends) x k
        | inr k ↦ Contains-append_left (times_in table.starts) (times_in table.sends) x k
      ]))

  -- the time of each entry of the plan is a candidate
  candidate : (i : ℕ) (d : Planned) → i < length plan → Contains (candidates node) (get_or plan i d).time
  candidate i d inside = planned_time' (get_or plan i d).time (planned_time table (get_or plan i d)
      (planned_in plan (plan_of table) same (get_or plan i d) (Contains-get_or plan i d inside)))

  -- the entries from the place to the end have the instant's time: they are no later, and as candidates that are left
  -- they are no earlier
  at_time : (i : ℕ) (d : Planned) → place ≤ i → i < end → (get_or plan i d).time ≡ time
  at_time i d k below = omega (
    arith,
    before' i d k below,
    next'.least (get_or plan i d).time (candidate i d (omega (arith, within)))
        (not_by last (get_or plan i d).time (at_place.left i d k (omega (arith, within)))),
  )

  -- a time that isn't after the last turn isn't the instant
  other : (t : ℕ) → is_after last t ≡ false → (t == time) ≡ false
  other t not_after = false_from_ne_true (t == time)
      (λ s. true≢false (sym next'.after ∙ ap (is_after last) (sym (eqb-true t time s)) ∙ not_after))

  -- a time after the instant isn't the instant
  later : (t : ℕ) → time < t → (t == time) ≡ false
  later t below = false_from_ne_true (t == time) (λ s. absurd (omega (arith, below, eqb-true t time s)))

  -- the entries of the instant are just those from the place to the end, the run
  run : filter (λ (p : Planned). p.time == time) plan ≡ take (end - place) (drop place plan)
  run = filter_run (λ (p : Planned). p.time == time) plan place end from within
      (λ i d l. other (get_or plan i d).time (at_place.reached i d l))
      (λ i d k l. eq-eqb (get_or plan i d).time time (at_time i d k l))
      (λ i d k l. later (get_or plan i d).time (omega (arith, here' d (omega arith), at_place.rises end i d k l)))

  -- the acts of the entries in the run whose literals have been heard are those of the table at the instant
  pub acts_are : (known : List Range) (acts : List Act) →
      acts ≡ map act_of (filter (takes (table.sends ++ table.starts) known) (take (end - place) (drop place qs))) →
      acts ≡ acts_at table known time
  acts_are known acts e = e ∙ ap
      (λ l. map act_of (filter (takes (table.sends ++ table.starts) known) (take (end - place) (drop place l)))) sliced
      ∙ sym (acts_same table known time plan same
      ∙ ap (λ l. map act_of (filter (takes (table.sends ++ table.starts) known) l)) run)

  -- after the turn the place of the plan is the end of the run
  pub place_moves : IsPlaceAfter (λ (p : Planned). p.time) (Some time) plan end
  place_moves = moves_on (λ (p : Planned). p.time) last plan place end time at_place next'.after from within before' here'

  -- a turn that does something is below 2^60: its run has an entry, whose time it is
  pub early_turn : (known : List Range) (acts : List Act) →
      acts ≡ map act_of (filter (takes (table.sends ++ table.starts) known) (take (end - place) (drop place qs))) →
      All (λ (p : Planned). p.time < 2 ^ 60) plan → 0 < length acts → time < 2 ^ 60
  early_turn known acts acts_are early some = elim (cases_lt place end) [
    | inl some_left ↦ let no_entry : Planned = record { time = 0; row = 0; item = 0; column = 0 } in
        omega (arith, at_time place no_entry (omega arith) some_left, early place no_entry (omega (arith, within)))
    | inr none_left ↦ absurd (omega (arith, some, ap length acts_are ∙ none (end - place) (omega arith)))
  ]
    where
      -- an empty run has no entries, so it gives no acts
      none : (n : ℕ) → n ≡ 0 →
          length (map act_of (filter (takes (table.sends ++ table.starts) known) (take n (drop place qs)))) ≡ 0
      none n same =
          ap (λ n. length (map act_of (filter (takes (table.sends ++ table.starts) known) (take n (drop place qs)))))
          same

-- ---- the clauses of a turn, about the state as a caller sees it

-- a turn of the dispatcher is one of the state that a caller sees
pub returned_turn : (state : NodeState) (d : Dispatcher) (acts : List Act) (time : ℕ) (made : Dispatcher)
    (ended : List Ended) (frames : List Frame) →
    record { dispatcher = d; acts = acts } ≡ state →
    next d ≡ Some time →
    made ≡ turn d time ended frames → IfSome (next state.dispatcher) (λ t. made ≡ turn state.dispatcher t ended frames)
returned_turn state d acts time made ended frames view comes is =
    subst (λ (s : NodeState). IfSome (next s.dispatcher) (λ t. made ≡ turn s.dispatcher t ended frames)) view
    (subst (λ o. IfSome o (λ t. made ≡ turn d t ended frames)) (sym comes) is)

-- the acts of a turn of the dispatcher are those of the state that a caller sees
pub returned_acts : (state : NodeState) (d : Dispatcher) (acts : List Act) (time : ℕ) (made : List Act)
    (ended : List Ended) (frames : List Frame) →
    record { dispatcher = d; acts = acts } ≡ state →
    next d ≡ Some time →
    made ≡ acts_of_turn d time ended frames →
    IfSome (next state.dispatcher) (λ t. made ≡ acts_of_turn state.dispatcher t ended frames)
returned_acts state d acts time made ended frames view comes is =
    subst (λ (s : NodeState). IfSome (next s.dispatcher) (λ t. made ≡ acts_of_turn s.dispatcher t ended frames)) view
    (subst (λ o. IfSome o (λ t. made ≡ acts_of_turn d t ended frames)) (sym comes) is)

-- ---- times stay small

-- each possible end is below 2^61: a start and a duration, both below 2^60; by induction on the own processes
ends_early : (os : List Own) (runs : List (Option Running)) → All AreShort os → AreTimed runs → (t : ℕ) →
    Contains (flat_map (λ ends. ends) (zip_with possible_ends os runs)) t → t < 2 ^ 61
ends_early [] runs short timed t among = absurd (Contains-nil t among)
ends_early (o ∷ os) [] short timed t among = absurd (Contains-nil t among)
ends_early (o ∷ os) (r ∷ rs) short timed t among =
    elim (Contains-append_cases (possible_ends o r) (flat_map (λ ends. ends) (zip_with possible_ends os rs)) t among) [
      | inl there ↦ one r (All-head IsTimed r rs timed) there
      | inr there ↦ ends_early os rs (All-tail AreShort o os short) (All-tail IsTimed r rs timed) t there
    ]
  where
    -- the ends of one execution: a start and a duration, both below 2^60
    one : (run : Option Running) → IsTimed run → Contains (possible_ends o run) t → t < 2 ^ 61
    one None timed there = absurd (Contains-nil t there)
    one (Some x) timed there =
        let found = Contains-map_parts (λ d. x.start + d) o.times t there in
        let small = All-contains (λ d. d < 2 ^ 60) o.times found.0 (All-head AreShort o os short) found.1 in
        omega (arith, timed, small, found.2)

-- the next instant is below 2^61: it is 0, a time of the table or a possible end
pub next_early : (table : OwnTable) (heard : List Range) (running : List (Option Running)) (last : Option ℕ) (t : ℕ) →
    IsTable table →
    AreTimed running →
    next (record { table = table; heard = heard; running = running; last = last }) ≡ Some t → t < 2 ^ 61
next_early table heard running last t made timed comes =
    elim (first last (Contains-filter_parts (is_after last) (cond (is_some last) all (0 ∷ all)) t
    (least_of_parts (filter (is_after last) (cond (is_some last) all (0 ∷ all))) t comes).0).0) [
      | inl is_zero ↦ omega (arith, is_zero)
      | inr candidate ↦ elim (Contains-append_cases (fixed_times table)
          (flat_map (λ ends. ends) (zip_with possible_ends table.own running)) t candidate) [
            | inl there ↦ let fixed = fixed_early table made t there in omega (arith, fixed)
            | inr there ↦ ends_early table.own running (times_short table made) timed t there
          ]
    ]
  where
    -- the candidates for the next instant
    all : List ℕ
    all = candidates (record { table = table; heard = heard; running = running; last = last })

    -- the first candidate is 0 before any turn, or one of the others
    first : (o : Option ℕ) → Contains (cond (is_some o) all (0 ∷ all)) t → (t ≡ 0) ⊎ Contains all t
    first None candidate =
        elim (Contains-cases 0 all t candidate) [ inl is_zero ↦ inl (sym is_zero) | inr there ↦ inr there ]
    first (Some l) candidate = inr candidate
