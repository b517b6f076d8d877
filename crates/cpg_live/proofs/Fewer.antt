-- A node that takes no more turns than it must does the same on each stream, as the turns that it leaves out change
-- nothing but its last instant.
use Rattle.std.proofs.Common.{◌≡◌, ◌≢◌, ℕ, zero, suc, ◌+◌, ◌≤◌, Bool, true, false, cond, ◌&&◌, ◌==◌, List, [], ◌∷◌}
use Rattle.std.proofs.Common.{◌++◌, length, filter, fold, get_or, Contains, Option, Some, None, refl, sym, ap}
use Rattle.std.proofs.Common.{◌∙◌, subst, arith, inl, inr, ◌⊎◌, true≢false, lt-ltb, ltb-true, leb-true, eqb-true, eq-eqb, ne_eqb, append-nil}
use Rattle.std.specs.Prelude.{All, IfSome, is_some, is_none, nat_lt, nat_le, replicate}
use Rattle.std.proofs.lemmas.List.{length-replicate}
use Rattle.std.specs.List.{flat_map, list_any}
use Rattle.std.proofs.lemmas.Bool.{and_parts, cases_eq, cases_lt, cases_Bool, cond-true, cond-false, ltb-false}
use Rattle.std.proofs.lemmas.Option.{none-some, same_Some}
use Rattle.std.proofs.lemmas.List.Elements.{All-cons, All-head, All-tail, All-nil, Contains-append_left, Contains-append_right, Contains-append_cases}
use Rattle.cpg_base.proofs.Lists.{Contains-first, Contains-rest, Contains-cases, Contains-nil, Contains-filter}
use Rattle.cpg_base.proofs.Lists.{Contains-filter_parts, list_any_parts, from_any_false, same_truth}
use Rattle.cpg_table.specs.Table.{NodeTable}
use Rattle.cpg_table.specs.Lawful.{IsTable}
use Rattle.cpg_node.specs.Dispatcher.{Dispatcher, Own, Range, Running, Ended, Frame, Act, zip_with, candidates}
use Rattle.cpg_node.specs.Dispatcher.{is_after, next, turn, acts_of_turn, heard_after, running_after, ends_in_turn}
use Rattle.cpg_node.specs.Dispatcher.{with_report, hear_frame, is_strange, initial_dispatcher}
use Rattle.cpg_node.specs.State.{running_in, running_of, time_of}
use Rattle.cpg_node.specs.Plan.{fixed_times}
use Rattle.cpg_node.specs.Quiet.{awaited_end, awaited, next_awaited, TellsFew}
use Rattle.cpg_node.proofs.Next.{next_is, next_none, not_by, least_of_parts, least_of_none}
use Rattle.cpg_node.proofs.Quiet.{quiet_turns, turns_left_out, awaited_candidates}
use Rattle.cpg_node.proofs.Turning.{length_zip}
use Rattle.cpg_node.proofs.TableBounds.{DoRise, own_rise}
use Rattle.cpg_live.specs.declared.event.Event.{Event}
use Rattle.cpg_live.specs.declared.event.Event.TheVariants.{Frame as Arrival, End as Ending, Close}
use Rattle.cpg_live.specs.declared.lawless.Defect.{Defect}
use Rattle.cpg_live.specs.declared.lawless.Defect.TheVariants.{Length, Kind, Order, Frame as StrangeFrame}
use Rattle.cpg_live.specs.declared.lawless.Defect.TheVariants.{End as FalseEnd}
use Rattle.cpg_live.specs.Records.{cut, record_of, event_of}
use Rattle.cpg_live.specs.Stream.{NodeProgress, Step, LiveState, take_turn, instant_below, turn_if, turns_below, turned}
use Rattle.cpg_live.specs.Stream.{lawless, lawful, may_tell, may_end_now, may_end, arrived, ended, step, refused}
use Rattle.cpg_live.specs.Stream.{settled, stepped, judged, take_record, with_rest, open_stream, is_close}
use Rattle.cpg_live.specs.Told.{after_last}
use Rattle.cpg_live.specs.Fewer.{turns_awaited, turned_fewer, step_fewer, judged_fewer, take_record_fewer, with_last, TurnsMayBeLeftOut}
use Rattle.cpg_live.proofs.Turns.{floor_after, after_floor, Below, NotBelow, below_or_not, still}

-- if candidate `x` is after the last turn of dispatcher `d`, the next instant `y` isn't later than `x`
candidate_next : (d : Dispatcher) (x : ℕ) → Contains (candidates d) x → is_after d.last x ≡ true →
    (y : ℕ) × (next d ≡ Some y) × (y ≤ x)
candidate_next d x among later = go (next d) refl
  where
    -- by `o`, the next instant of the node: without one no candidate is after the last turn
    go : (o : Option ℕ) → next d ≡ o → (y : ℕ) × (next d ≡ Some y) × (y ≤ x)
    go None e = absurd (true≢false (sym (next_none d e x among) ∙ not_by d.last x later))
    go (Some y) e = (y, e, (next_is d y e).least x among (not_by d.last x later))

-- if no awaited instant of node `p` is below the limit, no turn is taken, however many, `n`, might be
still_fewer : (n limit : ℕ) (p : NodeProgress) → instant_below limit (next_awaited p.dispatcher) ≡ None →
    turns_awaited n limit p ≡ p
unfolding turns_awaited
still_fewer zero limit p none = refl
still_fewer (suc n) limit p none = ap (λ o. turns_awaited n limit (turn_if p o)) none ∙ still_fewer n limit p none

-- What runs tells few faults.

module _ (k : ℕ) where
  -- what runs still tells few faults after a turn
  few_after : (ended : List Ended) (acts : List Act) (time : ℕ) (o : Own) (run : Option Running) → TellsFew k run →
      TellsFew k (running_after ended acts time o run)
  few_after ended acts time o run few =
      go (list_any (λ (a : Act). a.item == o.process) acts) (list_any (λ (e : Ended). e.process == o.process) ended)
    where
      -- by whether the process starts (its run has no report yet), ends (it runs no more), or neither
      go : (b c : Bool) → TellsFew k (cond b (Some (record { start = time; report = None })) (cond c None run))
      go true c = tt
      go false true = tt
      go false false = few

  -- a report `e` of few faults leaves what process `o` runs telling few
  few_report : (e : Ended) → e.faults ≤ k → (o : Own) (run : Option Running) → TellsFew k run →
      TellsFew k (with_report e o run)
  few_report e few o None tells_few = tells_few
  few_report e few o (Some run) tells_few = go (o.process == e.process)
    where
      -- by whether the report is of this process
      go : (b : Bool) → TellsFew k (cond b (Some (record { start = run.start; report = Some e })) (Some run))
      go true = few
      go false = tells_few

  -- if a step `f` keeps each execution telling at most `k` faults, it keeps all of them so
  few_zip : (f : Own → Option Running → Option Running) →
      ((o : Own) (run : Option Running) → TellsFew k run → TellsFew k (f o run)) →
      (os : List Own) (runs : List (Option Running)) →
      All (TellsFew k) runs →
      All (TellsFew k) (zip_with f os runs)
  few_zip f keep [] runs tell_few = All-nil (TellsFew k)
  few_zip f keep (o ∷ os) [] tell_few = All-nil (TellsFew k)
  few_zip f keep (o ∷ os) (run ∷ runs) tell_few =
      All-cons (TellsFew k) (f o run) (zip_with f os runs) (keep o run (All-head (TellsFew k) run runs tell_few))
      (few_zip f keep os runs (All-tail (TellsFew k) run runs tell_few))

-- What a reported end moves.

-- if process `p` isn't among a node's own processes `os`, it runs nothing
none_in : (p : ℕ) (os : List Own) (runs : List (Option Running)) → ((o : Own) → Contains os o → o.process ≢ p) →
    running_in os runs p ≡ None
none_in p [] runs others = refl
none_in p (o ∷ os) [] others = refl
none_in p (o ∷ os) (run ∷ runs) others =
    cond-false _ run (running_in os runs p) (ne_eqb o.process p (others o (Contains-first o os)))
    ∙ none_in p os runs (λ q among. others q (Contains-rest o os q among))

-- a process as the node's table has it
abbrev own_in : List Own → ℕ → Own
own_in os p = get_or (filter (λ (o : Own). o.process == p) os) 0 (record { process = 0; condition = None; times = [] })

-- the awaited ends of what runs
abbrev ends_in : ℕ → List Own → List (Option Running) → List ℕ
ends_in k os runs = flat_map (λ ends. ends) (zip_with (awaited_end k) os runs)

-- the report comes no later than the planned end of its execution
abbrev InTime : ℕ → Ended → List Own → List (Option Running) → Type 0
InTime time e os runs = (run : Running) → running_in os runs e.process ≡ Some run →
    time ≤ run.start + get_or (own_in os e.process).times e.faults 0

-- after a report `e` in time, each awaited end `x` was awaited before, or isn't before the time of the report
moved : (k time : ℕ) (e : Ended) (os : List Own) (runs : List (Option Running)) → DoRise os → InTime time e os runs →
    (x : ℕ) → Contains (ends_in k os (zip_with (with_report e) os runs)) x → Contains (ends_in k os runs) x ⊎ (time ≤ x)
moved k time e [] runs r h x m = absurd (Contains-nil x m)
moved k time e (o ∷ os) [] r h x m = absurd (Contains-nil x m)
moved k time e (o ∷ os) (run ∷ runs) r h x m = go (o.process == e.process) refl run h m (moved k time e os runs r.1)
  where
    -- the awaited ends of the other processes before the report
    rest : List ℕ
    rest = ends_in k os runs

    -- the awaited ends of the other processes after the report
    new : List ℕ
    new = ends_in k os (zip_with (with_report e) os runs)

    -- what holds for the others holds with the ends of the first process in front
    later : (mine : List ℕ) → Contains rest x ⊎ (time ≤ x) → Contains (mine ++ rest) x ⊎ (time ≤ x)
    later mine (inl c) = inl (Contains-append_right mine rest x c)
    later mine (inr l) = inr l

    -- what the first process, which ran `run`, runs after a report that is its own if `b` holds
    here : (b : Bool) (run : Option Running) → Option Running
    here b None = None
    here b (Some run) = cond b (Some (record { start = run.start; report = Some e })) (Some run)

    -- the report changes the run of the first process just so
    is_here : (run : Option Running) → with_report e o run ≡ here (o.process == e.process) run
    is_here None = refl
    is_here (Some run) = refl

    -- By induction on the processes, by whether the report is of the first one. If not, the first keeps its awaited
    -- ends. If so, the others keep theirs, and the first awaits its reported end, which is not before the time.
    go : (b : Bool) → o.process == e.process ≡ b → (run : Option Running) → InTime time e (o ∷ os) (run ∷ runs) →
        Contains (awaited_end k o (with_report e o run) ++ new) x →
        (InTime time e os runs → (x : ℕ) → Contains new x → Contains rest x ⊎ (time ≤ x)) →
        Contains (awaited_end k o run ++ rest) x ⊎ (time ≤ x)
    go false is run h m ih =
        let same : with_report e o run ≡ run = is_here run ∙ ap (λ b. here b run) is ∙ plain run in
        let tail : InTime time e os runs = λ q s. subst (λ (z : Own). time ≤ q.start + get_or z.times e.faults 0)
        (ap (λ l. get_or l 0 (record { process = 0; condition = None; times = [] }))
        (cond-false _ (o ∷ filter (λ (o : Own). o.process == e.process) os)
        (filter (λ (o : Own). o.process == e.process) os) is))
        (h q (cond-false _ run (running_in os runs e.process) is ∙ s)) in
        elim (Contains-append_cases (awaited_end k o (with_report e o run)) new x m) [
          | inl c ↦ inl
              (Contains-append_left (awaited_end k o run) rest x (subst (λ q. Contains (awaited_end k o q) x) same c))
          | inr c ↦ later (awaited_end k o run) (ih tail x c)
        ]
      where
        -- a report of another process changes nothing
        plain : (run : Option Running) → here false run ≡ run
        plain None = refl
        plain (Some run) = refl
    go true is run h m ih =
        let tail : InTime time e os runs = λ q s. absurd
        (none-some q (sym (none_in e.process os runs (λ p n z. omega (arith, r.0 p n, z, eqb-true _ _ is))) ∙ s)) in
        elim (Contains-append_cases (awaited_end k o (with_report e o run)) new x m) [
          | inl c ↦ first run h c
          | inr c ↦ later (awaited_end k o run) (ih tail x c)
        ]
      where
        -- what the first process runs awaits the reported end alone
        first : (run : Option Running) → InTime time e (o ∷ os) (run ∷ runs) →
            Contains (awaited_end k o (with_report e o run)) x →
            Contains (awaited_end k o run ++ rest) x ⊎ (time ≤ x)
        first None h c = absurd (Contains-nil x c)
        first (Some q) h c =
            let end : ℕ = q.start + get_or o.times e.faults 0 in
            let said : Contains (end ∷ []) x =
            subst (λ z. Contains (awaited_end k o z) x) (is_here (Some q) ∙ ap (λ b. here b (Some q)) is) c in
            let late : time ≤ q.start + get_or o.times e.faults 0 =
            subst (λ (z : Own). time ≤ q.start + get_or z.times e.faults 0)
            (ap (λ l. get_or l 0 (record { process = 0; condition = None; times = [] }))
            (cond-true _ (o ∷ filter (λ (o : Own). o.process == e.process) os)
            (filter (λ (o : Own). o.process == e.process) os) is))
            (h q (cond-true _ (Some q) (running_in os runs e.process) is)) in
            elim (Contains-cases end [] x said) [
              | inl z ↦ inr (omega (arith, z, late))
              | inr n ↦ absurd (Contains-nil x n)
            ]

-- Two nodes that differ in their last instants alone.
-- One node, with last turn l, takes all turns; the other, with last turn m, leaves out those at instants that it
-- doesn't await.
module _ (t : NodeTable) (made : IsTable t) where
  -- a node with this table, given what it has heard, its executions and its last turn
  abbrev node : List Range → List (Option Running) → Option ℕ → Dispatcher
  node h r l = record { table = t; heard = h; running = r; last = l }

  -- such a node with its acts
  abbrev prog : List Range → List (Option Running) → Option ℕ → List Act → NodeProgress
  prog h r l a = record { dispatcher = node h r l; acts = a }

  -- the last turns l and m make no difference to what a node with these executions awaits
  record Alike (r : List (Option Running)) (l m : Option ℕ) : Type 0 where
    -- there is an execution, or none, for each own process
    count : length r ≡ length t.own
    -- their reports tell no more faults than the table allows
    few : All (TellsFew t.faults) r
    -- each awaited instant is after both last turns or after neither
    reached : (x : ℕ) → Contains (awaited (node [] r None)) x → is_after l x ≡ is_after m x

  -- both nodes are the same but for their last turns, which are before the limit, and they are alike
  record Pair (limit : ℕ) (P Q : NodeProgress) : Type 0 where
    -- what both have heard, what runs on both, and the acts of both
    heard : List Range
    runs : List (Option Running)
    acts : List Act
    -- their last turns: l of the node that takes all turns, m of the other
    l : Option ℕ
    m : Option ℕ
    -- the two nodes with these fields
    one : P ≡ prog heard runs l acts
    two : Q ≡ prog heard runs m acts
    -- their last turns make no difference to what they await
    alike : Alike runs l m
    -- both last turns are before the limit
    before : is_after l limit ≡ true
    later : is_after m limit ≡ true

  -- of two nodes alike, with last turns `l` and `m`, each instant `x` that the one awaits after `m` isn't before the
  -- next instant `y` of the other
  awaited_next : (heard : List Range) (runs : List (Option Running)) (l m : Option ℕ) → Alike runs l m → (x : ℕ) →
      Contains (awaited (node heard runs m)) x →
      is_after m x ≡ true →
      (y : ℕ) × (next (node heard runs l) ≡ Some y) × (y ≤ x)
  awaited_next heard runs l m alike x awaited_here later =
      candidate_next (node heard runs l) x (awaited_candidates (node heard runs l) made alike.few x awaited_here)
      (alike.reached x awaited_here ∙ later)

  -- if the node of all turns has no instant below a limit, the other has none: an instant that is awaited is no earlier
  -- than the next one of all (`awaited_next`)
  none_fewer : (heard : List Range) (runs : List (Option Running)) (l m : Option ℕ) (limit : ℕ) → Alike runs l m →
      NotBelow limit (next (node heard runs l)) →
      instant_below limit (next_awaited (node heard runs m)) ≡ None
  none_fewer heard runs l m limit alike not_below = elim (below_or_not limit (next_awaited (node heard runs m))) [
    | inr none_below ↦ none_below.none
    | inl below ↦
        let least = least_of_parts (filter (is_after m) (awaited (node heard runs m))) below.time below.is in
        let parts = Contains-filter_parts (is_after m) (awaited (node heard runs m)) below.time least.0 in
        let next_one = awaited_next heard runs l m alike below.time parts.0 parts.1 in
        let past : limit ≤ next_one.0 = subst (λ o. IfSome o (λ time. limit ≤ time)) next_one.1 not_below.past in
        absurd (omega (arith, past, next_one.2, below.less))
  ]

  -- if the next instant `time` of the node with last turn `l` is awaited by the one with last turn `m`, it is the next
  -- awaited one of that
  next_same : (heard : List Range) (runs : List (Option Running)) (l m : Option ℕ) (time : ℕ) → Alike runs l m →
      next (node heard runs l) ≡ Some time →
      Contains (awaited (node heard runs m)) time →
      next_awaited (node heard runs m) ≡ Some time
  next_same heard runs l m time alike comes awaited_too = go (next_awaited (node heard runs m)) refl
    where
      -- the instant is awaited by the other node, after its last turn
      there : Contains (filter (is_after m) (awaited (node heard runs m))) time
      there = Contains-filter (is_after m) (awaited (node heard runs m)) time
          (sym (alike.reached time awaited_too) ∙ (next_is (node heard runs l) time comes).after) awaited_too

      -- by the next awaited instant of the other node: it is neither before nor after the instant
      go : (o : Option ℕ) → next_awaited (node heard runs m) ≡ o → o ≡ Some time
      go None found = absurd (Contains-nil time (subst (λ l. Contains l time) (least_of_none _ found) there))
      go (Some y) found =
          let least = least_of_parts (filter (is_after m) (awaited (node heard runs m))) y found in
          let parts = Contains-filter_parts (is_after m) (awaited (node heard runs m)) y least.0 in
          let next_one = awaited_next heard runs l m alike y parts.0 parts.1 in
          let same : next_one.0 ≡ time = same_Some _ _ (sym next_one.1 ∙ comes) in
          let is : y ≡ time = omega (arith, least.1 time there, next_one.2, same) in
          ap Some is

  -- a turn at `time` keeps what is known of the executions, `runs`: there are as many, and they tell few faults; both last
  -- turns are `time` then
  alike_turn : (heard : List Range) (runs : List (Option Running)) (l : Option ℕ) (time : ℕ) →
      length runs ≡ length t.own →
      All (TellsFew t.faults) runs →
      Alike (turn (node heard runs l) time [] []).running (Some time) (Some time)
  alike_turn heard runs l time count few = record {
    count = length_zip (running_after (ends_in_turn (node heard runs l) time [])
        (acts_of_turn (node heard runs l) time [] []) time)
        t.own runs count;
    few =
        few_zip t.faults (running_after (ends_in_turn (node heard runs l) time [])
        (acts_of_turn (node heard runs l) time [] []) time)
        (few_after t.faults (ends_in_turn (node heard runs l) time [])
        (acts_of_turn (node heard runs l) time [] []) time) t.own runs
        few;
    reached = λ x c. refl;
  }

  -- if the node with last turn `l` takes a turn at `time`, which the node with last turn `m` doesn't await and leaves out,
  -- they stay alike with the last turns `time` and `m`; `heard` is what both have heard
  alike_quiet : (heard : List Range) (runs : List (Option Running)) (l m : Option ℕ) (time : ℕ) → Alike runs l m →
      next (node heard runs l) ≡ Some time →
      (Contains (awaited (node heard runs m)) time → ⊥) →
      Alike runs (Some time) m
  alike_quiet heard runs l m time alike comes out = record {
    count = alike.count;
    few = alike.few;
    reached = λ x c. same_truth (is_after (Some time) x) (is_after m x)
        (λ later. sym (alike.reached x c) ∙ after_floor l x
        (let floor = floor_after l time (next_is (node heard runs l) time comes).after in
        omega (arith, floor, ltb-true time x later)))
        (λ later. let next_one = awaited_next heard runs l m alike x c later in
        let same : next_one.0 ≡ time = same_Some _ _ (sym next_one.1 ∙ comes) in
        elim (cases_eq x time) [
          | inl is ↦ absurd (out (subst (Contains (awaited (node heard runs m))) is c))
          | inr ne ↦ lt-ltb time x
              (elim (cases_lt time x) [ inl less ↦ less | inr ge ↦ absurd (ne (omega (arith, next_one.2, same, ge))) ])
        ]);
  }

  -- a turn at an instant that isn't awaited changes nothing but the last turn, which was `l`
  left_out : (heard : List Range) (runs : List (Option Running)) (l m : Option ℕ) (acts : List Act) (time : ℕ) →
      Alike runs l m →
      (Contains (awaited (node heard runs m)) time → ⊥) →
      take_turn time (prog heard runs l acts) ≡ prog heard runs (Some time) acts
  left_out heard runs l m acts time alike out =
      let idle = quiet_turns (node heard runs l) time alike.count (turns_left_out (node heard runs l) time out heard) in
      λ i. record { dispatcher = idle.0 i; acts = (ap (λ (more : List Act). acts ++ more) idle.1 ∙ append-nil acts) i }

  -- n turns of the node that takes all turns and k of the other, both enough to come to the limit, leave the nodes alike
  abbrev TurnsAlike : ℕ → ℕ → Type 0
  TurnsAlike n limit =
      (k : ℕ) (heard : List Range) (runs : List (Option Running)) (l m : Option ℕ)
      (acts : List Act) → Alike runs l m → limit ≤ n + after_last l → limit ≤ k + after_last m →
      is_after l limit ≡ true →
      is_after m limit ≡ true →
      Pair limit (turns_below n limit (prog heard runs l acts)) (turns_awaited k limit (prog heard runs m acts))

  -- if the node with last turn `l` has no instant below the limit, neither node takes a turn and they stay alike,
  -- however many turns `n` and `k` they may take
  ended_alike : (n k limit : ℕ) (heard : List Range) (runs : List (Option Running)) (l m : Option ℕ) (acts : List Act) →
      Alike runs l m → is_after l limit ≡ true →
      is_after m limit ≡ true →
      NotBelow limit (next (node heard runs l)) →
      Pair limit (turns_below n limit (prog heard runs l acts)) (turns_awaited k limit (prog heard runs m acts))
  ended_alike n k limit heard runs l m acts alike before later z = record {
    heard = heard;
    runs = runs;
    acts = acts;
    l = l;
    m = m;
    one = still n limit (prog heard runs l acts) z.none;
    two = still_fewer k limit (prog heard runs m acts) (none_fewer heard runs l m limit alike z);
    alike = alike;
    before = before;
    later = later;
  }

  -- A turn that both nodes take leaves them alike. The node with last turn `m` has one of its `k` turns left for it, as
  -- the instant is below the limit; after it both last turns are this instant.
  both_turn : (n limit : ℕ) → TurnsAlike n limit →
      (k : ℕ) (heard : List Range) (runs : List (Option Running)) (l m : Option ℕ) (acts : List Act) → Alike runs l m →
      limit ≤ suc n + after_last l →
      limit ≤ k + after_last m →
      (below : Below limit (next (node heard runs l))) → Contains (awaited (node heard runs m)) below.time →
      Pair limit (turns_below n limit (take_turn below.time (prog heard runs l acts)))
      (turns_awaited k limit (prog heard runs m acts))
  unfolding turns_awaited
  both_turn n limit ih zero heard runs l m acts alike enough enough_too below awaited_too =
      let passed : is_after m below.time ≡ true =
      sym (alike.reached below.time awaited_too) ∙ (next_is (node heard runs l) below.time below.is).after in
      absurd (omega (arith, enough_too, below.less, floor_after m below.time passed))
  both_turn n limit ih (suc k) heard runs l m acts alike enough enough_too below awaited_too =
      let passed : is_after m below.time ≡ true =
      sym (alike.reached below.time awaited_too) ∙ (next_is (node heard runs l) below.time below.is).after in
      let found : instant_below limit (next_awaited (node heard runs m)) ≡ Some below.time =
      ap (instant_below limit) (next_same heard runs l m below.time alike below.is awaited_too)
      ∙ ap (λ z. cond z (Some below.time) None) (lt-ltb below.time limit below.less) in
      let before : Dispatcher = node heard runs l in
      let l_floor = floor_after l below.time (next_is (node heard runs l) below.time below.is).after in
      let m_floor = floor_after m below.time passed in
      subst (λ Q. Pair limit (turns_below n limit (take_turn below.time (prog heard runs l acts)))
      (turns_awaited k limit Q))
      (sym (ap (turn_if (prog heard runs m acts)) found))
      (ih k (heard_after before below.time [] []) (turn before below.time [] []).running (Some below.time)
      (Some below.time) (acts ++ acts_of_turn before below.time [] [])
      (alike_turn heard runs l below.time alike.count alike.few) (omega (arith, enough, l_floor))
      (omega (arith, enough_too, m_floor)) (lt-ltb below.time limit below.less) (lt-ltb below.time limit below.less))

  -- a turn of the node with last turn `l`, which takes all turns, leaves both alike: the node with last turn `m` takes
  -- it too if its instant is awaited, and leaves it out if not
  next_turn : (n limit : ℕ) → TurnsAlike n limit →
      (k : ℕ) (heard : List Range) (runs : List (Option Running)) (l m : Option ℕ) (acts : List Act) → Alike runs l m →
      limit ≤ suc n + after_last l →
      limit ≤ k + after_last m → is_after m limit ≡ true →
      (below : Below limit (next (node heard runs l))) →
      Pair limit (turns_below n limit (take_turn below.time (prog heard runs l acts)))
      (turns_awaited k limit (prog heard runs m acts))
  next_turn n limit ih k heard runs l m acts alike enough enough_too later below =
      elim (cases_Bool (list_any (λ x. x == below.time) (awaited (node heard runs m)))) [
        | inl there ↦
            let found = list_any_parts (λ x. x == below.time) (awaited (node heard runs m)) there in
            both_turn n limit ih k heard runs l m acts alike enough enough_too below
            (subst (Contains (awaited (node heard runs m))) (eqb-true found.0 below.time found.2) found.1)
        | inr gone ↦
            let out : Contains (awaited (node heard runs m)) below.time → ⊥ = λ found.
            true≢false (sym (eq-eqb below.time below.time refl)
            ∙ from_any_false (λ x. x == below.time) (awaited (node heard runs m)) below.time gone found) in
            let floor = floor_after l below.time (next_is (node heard runs l) below.time below.is).after in
            subst (λ P. Pair limit (turns_below n limit P) (turns_awaited k limit (prog heard runs m acts)))
            (sym (left_out heard runs l m acts below.time alike out))
            (ih k heard runs (Some below.time) m acts (alike_quiet heard runs l m below.time alike below.is out)
            (omega (arith, enough, floor)) enough_too (lt-ltb below.time limit below.less) later)
      ]

  -- that is so for each n, by induction: no instant is left below the limit, or the next turn is taken by one or both
  turns_alike : (n limit : ℕ) → TurnsAlike n limit
  unfolding turns_below
  turns_alike zero limit k heard runs l m acts alike p q f g = elim (below_or_not limit (next (node heard runs l))) [
    | inr none_below ↦ ended_alike zero k limit heard runs l m acts alike f g none_below
    | inl b ↦ absurd (omega (arith, p, b.less, floor_after l b.time (next_is (node heard runs l) b.time b.is).after))
  ]
  turns_alike (suc n) limit k heard runs l m acts alike p q f g = elim (below_or_not limit (next (node heard runs l))) [
    | inr none_below ↦ ended_alike (suc n) k limit heard runs l m acts alike f g none_below
    | inl below ↦
        subst (λ P. Pair limit (turns_below n limit P) (turns_awaited k limit (prog heard runs m acts)))
        (sym (ap (turn_if (prog heard runs l acts)) below.found))
        (next_turn n limit (turns_alike n limit) k heard runs l m acts alike p q g below)
  ]

  -- if nodes `P` and `Q` are alike up to a limit, they are so after all turns below it
  turned_alike : (limit : ℕ) (P Q : NodeProgress) → Pair limit P Q → Pair limit (turned limit P) (turned_fewer limit Q)
  turned_alike limit P Q pair =
      subst (λ P. Pair limit (turned limit P) (turned_fewer limit Q)) (sym pair.one)
      (subst (λ Q. Pair limit (turned limit (prog pair.heard pair.runs pair.l pair.acts)) (turned_fewer limit Q))
      (sym pair.two) (turns_alike limit limit limit pair.heard pair.runs pair.l pair.m pair.acts pair.alike
      (omega arith) (omega arith) pair.before pair.later))

  -- if time `x` is after the last turn `l`, so is each later time `y`
  after_more : (l : Option ℕ) (x y : ℕ) → x ≤ y → is_after l x ≡ true → is_after l y ≡ true
  after_more l x y le after = after_floor l y (let floor = floor_after l x after in omega (arith, le, floor))

  -- if nodes `P` and `Q` are alike up to time `x`, they are so up to each later time `y`
  pair_later : (x y : ℕ) (P Q : NodeProgress) → x ≤ y → Pair x P Q → Pair y P Q
  pair_later x y P Q le pair =
      record {
        heard = pair.heard;
        runs = pair.runs;
        acts = pair.acts;
        l = pair.l;
        m = pair.m;
        one = pair.one;
        two = pair.two;
        alike = pair.alike;
        before = after_more pair.l x y le pair.before;
        later = after_more pair.m x y le pair.later;
      }

  -- step `s` of the one node and step `z` of the other are alike: in the fault that they find, and in what they leave
  record AreStepsAlike (limit : ℕ) (s z : Step) : Type 0 where
    -- both steps find the same fault, or none
    fault : z.fault ≡ s.fault
    -- the nodes are alike after them
    pair : Pair limit s.progress z.progress

  -- frame `f` is lawful for both nodes `P` and `Q` or for neither, and leaves them alike
  arrived_alike : (time : ℕ) (f : Frame) (P Q : NodeProgress) → Pair time P Q →
      AreStepsAlike time (arrived time f P) (arrived time f Q)
  -- each node is the one of its own last turn
  arrived_alike time f P Q k =
      subst (λ P. AreStepsAlike time (arrived time f P) (arrived time f Q)) (sym k.one)
      (subst (λ Q. AreStepsAlike time (arrived time f (prog k.heard k.runs k.l k.acts)) (arrived time f Q)) (sym k.two)
      (go (is_strange (node k.heard k.runs k.l) time f)))
    where
      -- by whether the frame is strange, as the table, the time and what was heard decide, alike for both nodes
      go : (b : Bool) →
          AreStepsAlike time (cond b (lawless (prog k.heard k.runs k.l k.acts) StrangeFrame)
          (lawful (prog (hear_frame t k.heard f) k.runs k.l k.acts)))
          (cond b (lawless (prog k.heard k.runs k.m k.acts) StrangeFrame)
          (lawful (prog (hear_frame t k.heard f) k.runs k.m k.acts)))
      -- a strange frame changes nothing
      go true = record {
        fault = refl;
        pair = record {
          heard = k.heard;
          runs = k.runs;
          acts = k.acts;
          l = k.l;
          m = k.m;
          one = refl;
          two = refl;
          alike = k.alike;
          before = k.before;
          later = k.later;
        };
      }
      -- any other is heard by both
      go false =
          record {
            fault = refl;
            pair = record {
              heard = hear_frame t k.heard f;
              runs = k.runs;
              acts = k.acts;
              l = k.l;
              m = k.m;
              one = refl;
              two = refl;
              alike = k.alike;
              before = k.before;
              later = k.later;
            };
          }

  -- if the end `e` of `run` may be reported at a time, the time isn't after its planned end
  in_time : (heard : List Range) (runs : List (Option Running)) (l : Option ℕ) (time : ℕ) (e : Ended)
      (o : Option Running) →
      may_end_now (node heard runs l) time e o ≡ true →
      (run : Running) →
      o ≡ Some run → time ≤ run.start + get_or (own_in t.own e.process).times e.faults 0
  in_time heard runs l time e None ok run is = absurd (none-some run is)
  in_time heard runs l time e (Some q) ok run is =
      let tests = and_parts (is_none q.report && nat_lt q.start time)
      (nat_le time (q.start + time_of (node heard runs l) e.process e.faults)) ok in
      subst (λ (run : Running). time ≤ run.start + get_or (own_in t.own e.process).times e.faults 0)
      (same_Some q run is) (leb-true time (q.start + time_of (node heard runs l) e.process e.faults) tests.1)

  -- a report that may come leaves both nodes alike: each end awaited then was awaited before (`moved`) or isn't before
  -- the report, and so is after both last turns
  told_alike : (heard : List Range) (runs : List (Option Running)) (l m : Option ℕ) (time : ℕ) (e : Ended) →
      Alike runs l m →
      is_after l time ≡ true →
      is_after m time ≡ true →
      may_end (node heard runs l) time e ≡ true → Alike (zip_with (with_report e) t.own runs) l m
  told_alike heard runs l m time e alike f g ok =
      let tests = and_parts (may_tell (node heard runs l) e)
      (may_end_now (node heard runs l) time e (running_of (node heard runs l) e.process)) ok in
      let some = and_parts (nat_le e.faults t.faults) _ tests.0 in
      record {
        count = length_zip (with_report e) t.own runs alike.count;
        few =
            few_zip t.faults (with_report e) (few_report t.faults e (leb-true e.faults t.faults some.0))
            t.own runs alike.few;
        reached = λ x c. elim (Contains-append_cases (fixed_times t)
            (ends_in t.faults t.own (zip_with (with_report e) t.own runs)) x c) [
              | inl fixed ↦ alike.reached x (Contains-append_left (fixed_times t) (ends_in t.faults t.own runs) x fixed)
              | inr end ↦ elim (moved t.faults time e t.own runs (own_rise t made)
                  (in_time heard runs l time e (running_of (node heard runs l) e.process) tests.1) x end) [
                    | inl old ↦ alike.reached x
                        (Contains-append_right (fixed_times t) (ends_in t.faults t.own runs) x old)
                    | inr late ↦ after_more l time x late f ∙ sym (after_more m time x late g)
                  ]
            ];
      }

  -- end `e` is lawful for both nodes `P` and `Q` or for neither, and leaves them alike
  ended_step : (time : ℕ) (e : Ended) (P Q : NodeProgress) → Pair time P Q →
      AreStepsAlike time (ended time e P) (ended time e Q)
  ended_step time e P Q k =
      subst (λ P. AreStepsAlike time (ended time e P) (ended time e Q)) (sym k.one)
      (subst (λ Q. AreStepsAlike time (ended time e (prog k.heard k.runs k.l k.acts)) (ended time e Q)) (sym k.two)
      (go (may_end (node k.heard k.runs k.l) time e) refl))
    where
      -- by whether the end may be reported, which is asked of the first node
      go : (b : Bool) → may_end (node k.heard k.runs k.l) time e ≡ b →
          AreStepsAlike time (cond b (lawful (prog k.heard (zip_with (with_report e) t.own k.runs) k.l k.acts))
          (lawless (prog k.heard k.runs k.l k.acts) FalseEnd))
          (cond b (lawful (prog k.heard (zip_with (with_report e) t.own k.runs) k.m k.acts))
          (lawless (prog k.heard k.runs k.m k.acts) FalseEnd))
      -- the end is reported: it leaves what runs alike (`told_alike`)
      go true is = record {
        fault = refl;
        pair = record {
          heard = k.heard;
          runs = zip_with (with_report e) t.own k.runs;
          acts = k.acts;
          l = k.l;
          m = k.m;
          one = refl;
          two = refl;
          alike = told_alike k.heard k.runs k.l k.m time e k.alike k.before k.later is;
          before = k.before;
          later = k.later;
        };
      }
      -- an end that may not be reported changes nothing
      go false is =
          record {
            fault = refl;
            pair = record {
              heard = k.heard;
              runs = k.runs;
              acts = k.acts;
              l = k.l;
              m = k.m;
              one = refl;
              two = refl;
              alike = k.alike;
              before = k.before;
              later = k.later;
            };
          }

  -- how far the instants of turns may have come by a record
  abbrev bound : ℕ → Event → ℕ
  bound time (Arrival f) = time
  bound time (Ending process faults value) = time
  bound time Close = time + 1

  -- an event is lawful for both nodes `P` and `Q` or for neither, and leaves them alike
  step_alike : (time : ℕ) (event : Event) (P Q : NodeProgress) → Pair time P Q →
      AreStepsAlike (bound time event) (step time event P) (step_fewer time event Q)
  step_alike time (Arrival f) P Q k =
      arrived_alike time f (turned time P) (turned_fewer time Q) (turned_alike time P Q k)
  step_alike time (Ending process faults value) P Q k =
      ended_step time (record { process = process; faults = faults; value = value }) (turned time P)
      (turned_fewer time Q) (turned_alike time P Q k)
  step_alike time Close P Q k =
      record { fault = refl; pair = turned_alike (time + 1) P Q (pair_later time (time + 1) P Q (omega arith) k) }

  -- Two streams.
  -- The nodes of both are alike, up to a limit that the time of the last record bounds, and all else is the same.
  record AreStreamsAlike (s z : LiveState) : Type 0 where
    -- the nodes are alike, and their last turns are before this limit
    limit : ℕ
    pair : Pair limit s.progress z.progress
    -- the limit isn't after the time of the last record, unless the stream is refused or closed
    up_to : s.lawless ≡ None → s.closed ≡ false → limit ≤ s.time
    -- all but the nodes is the same
    same : z ≡ record s { progress = z.progress }

  -- streams `s` and `z` that are refused for the same reason stay alike
  refused_twins : (s z : LiveState) (defect : Defect) → AreStreamsAlike s z →
      AreStreamsAlike (refused s defect) (refused z defect)
  refused_twins s z defect k = record {
    limit = k.limit;
    pair = k.pair;
    up_to = λ none _. absurd (none-some _ (sym none));
    same = ap (λ z. refused z defect) k.same;
  }

  -- a record leaves both streams, whose nodes are `P` and `Q`, alike, whatever is wrong with it (`o`)
  settled_twins : (s : LiveState) (P Q : NodeProgress) (time : ℕ) (event : Event) (o : Option Defect) →
      Pair (bound time event) P Q →
      AreStreamsAlike (settled (record s { progress = P }) time event o)
      (settled (record s { progress = Q }) time event o)
  settled_twins s P Q time event None k =
      record { limit = bound time event; pair = k; up_to = λ _ more. far event more; same = refl }
    where
      -- a record other than a close brings the limit no further than its time
      far : (event : Event) → is_close event ≡ false → bound time event ≤ time
      far (Arrival f) e = omega arith
      far (Ending process faults value) e = omega arith
      far Close e = absurd (true≢false e)
  settled_twins s P Q time event (Some defect) k =
      record { limit = bound time event; pair = k; up_to = λ none _. absurd (none-some _ (sym none)); same = refl }

  -- a record with event `o`, if its kind is lawful, leaves both streams, whose nodes are that of `s` and `Q`, alike
  judged_twins : (s : LiveState) (Q : NodeProgress) (limit time : ℕ) (o : Option Event) → Pair limit s.progress Q →
      limit ≤ s.time →
      AreStreamsAlike s (record s { progress = Q }) →
      AreStreamsAlike (judged s time o) (judged_fewer (record s { progress = Q }) time o)
  judged_twins s Q limit time None k le t = refused_twins s (record s { progress = Q }) Kind t
  judged_twins s Q limit time (Some event) k le t = go (nat_lt time s.time) refl
    where
      -- by whether the record's time is before the last one
      go : (b : Bool) → nat_lt time s.time ≡ b →
          AreStreamsAlike (cond b (refused s Order) (stepped s time event (step time event s.progress)))
          (cond b (refused (record s { progress = Q }) Order)
          (stepped (record s { progress = Q }) time event (step_fewer time event Q)))
      go true e = refused_twins s (record s { progress = Q }) Order t
      go false e =
          let k' = step_alike time event s.progress Q
          (pair_later limit time s.progress Q (omega (arith, le, ltb-false time s.time e)) k) in
          subst (λ o. AreStreamsAlike (stepped s time event (step time event s.progress))
          (settled (record s { progress = (step_fewer time event Q).progress }) time event o)) (sym k'.fault)
          (settled_twins s (step time event s.progress).progress (step_fewer time event Q).progress time event
          (step time event s.progress).fault k'.pair)

  -- nodes `P` and `Q` that are alike have the same table
  table_of : (limit : ℕ) (P Q : NodeProgress) → Pair limit P Q → Q.dispatcher.table ≡ P.dispatcher.table
  table_of limit P Q k =
      ap (λ (p : NodeProgress). p.dispatcher.table) k.two ∙ sym (ap (λ (p : NodeProgress). p.dispatcher.table) k.one)

  -- an option that is nothing is None
  is_none_of : {A : Type 0} (o : Option A) → is_some o ≡ false → o ≡ None
  is_none_of None e = refl
  is_none_of (Some x) e = absurd (true≢false e)

  -- a record that is taken leaves both streams, whose nodes are that of `s` and `Q`, alike
  record_twins : (s : LiveState) (Q : NodeProgress) (bytes : List ℕ) → AreStreamsAlike s (record s { progress = Q }) →
      AreStreamsAlike (take_record s bytes) (take_record_fewer (record s { progress = Q }) bytes)
  record_twins s Q bytes k = go (is_some s.lawless) s.closed refl refl
    where
      -- by whether the stream is refused already, and by whether it is closed
      go : (b c : Bool) → is_some s.lawless ≡ b → s.closed ≡ c →
          AreStreamsAlike (cond b s (cond c (refused s Length)
          (judged s (record_of bytes).time (event_of s.progress.dispatcher.table (record_of bytes)))))
          (cond b (record s { progress = Q }) (cond c (refused (record s { progress = Q }) Length)
          (judged_fewer (record s { progress = Q }) (record_of bytes).time
          (event_of Q.dispatcher.table (record_of bytes)))))
      go true c e f = k
      go false true e f = refused_twins s (record s { progress = Q }) Length k
      go false false e f =
          subst (λ t. AreStreamsAlike (judged s (record_of bytes).time
          (event_of s.progress.dispatcher.table (record_of bytes)))
          (judged_fewer (record s { progress = Q }) (record_of bytes).time (event_of t (record_of bytes))))
          (sym (table_of k.limit s.progress Q k.pair))
          (judged_twins s Q k.limit (record_of bytes).time
          (event_of s.progress.dispatcher.table (record_of bytes)) k.pair (k.up_to (is_none_of s.lawless e) f) k)

  -- records that are taken, one after another, leave streams `s` and `z` alike
  twins_whole : (whole : List (List ℕ)) (s z : LiveState) → AreStreamsAlike s z →
      AreStreamsAlike (fold take_record s whole) (fold take_record_fewer z whole)
  twins_whole [] s z k = k
  twins_whole (bytes ∷ whole) s z k = twins_whole whole (take_record s bytes) (take_record_fewer z bytes)
      (subst (λ z. AreStreamsAlike (take_record s bytes) (take_record_fewer z bytes)) (sym k.same)
      (record_twins s z.progress bytes (subst (AreStreamsAlike s) k.same k)))

  -- a node that runs nothing tells few faults
  none_few : (n : ℕ) → All (TellsFew t.faults) (replicate {A = Option Running} n None)
  none_few zero = All-nil (TellsFew t.faults)
  none_few (suc n) = All-cons (TellsFew t.faults) None (replicate n None) tt (none_few n)

  -- both streams are alike before the first byte
  twins_open : AreStreamsAlike (open_stream t) (open_stream t)
  twins_open = record {
    limit = 0;
    pair = record {
      heard = (initial_dispatcher t).heard;
      runs = replicate (length t.own) None;
      acts = [];
      l = None;
      m = None;
      one = refl;
      two = refl;
      alike =
          record { count = length-replicate (length t.own) None; few = none_few (length t.own); reached = λ x c. refl };
      before = refl;
      later = refl;
    };
    up_to = λ _ _. omega arith;
    same = refl;
  }

  -- streams `s` and `z` that are alike differ in the instant of the last turn alone
  twin_is : (s z : LiveState) → AreStreamsAlike s z → z ≡ with_last s z.progress.dispatcher.last
  twin_is s z k = k.same ∙ ap (λ (p : NodeProgress). record s { progress = p })
      (subst (λ P. z.progress ≡ record {
        dispatcher = record P.dispatcher { last = z.progress.dispatcher.last };
        acts = P.acts;
      }) (sym k.pair.one)
      (subst (λ Q. Q ≡ record {
        dispatcher = record (node k.pair.heard k.pair.runs k.pair.l) { last = Q.dispatcher.last };
        acts = k.pair.acts;
      }) (sym k.pair.two) refl))

-- the first bytes of a next record leave the instant `x` of the last turn as it is
rest_last : (s : LiveState) (rest : List ℕ) (x : Option ℕ) →
    with_rest (with_last s x) rest ≡ with_last (with_rest s rest) x
rest_last s rest x = go (is_some s.lawless) (s.closed && nat_lt 0 (length rest))
  where
    -- by whether the stream is refused, and by whether bytes come after its close
    go : (b c : Bool) →
        cond b (with_last s x) (cond c (refused (with_last s x) Length) (record (with_last s x) { rest = rest }))
        ≡ with_last (cond b s (cond c (refused s Length) (record s { rest = rest }))) x
    go true c = refl
    go false true = refl
    go false false = refl

-- the first bytes of a next record leave the node as it is
rest_same : (s : LiveState) (rest : List ℕ) → (with_rest s rest).progress ≡ s.progress
rest_same s rest = go (is_some s.lawless) (s.closed && nat_lt 0 (length rest))
  where
    -- by whether the stream is refused, and by whether bytes come after its close
    go : (b c : Bool) → (cond b s (cond c (refused s Length) (record s { rest = rest }))).progress ≡ s.progress
    go true c = refl
    go false true = refl
    go false false = refl

-- leaving turns out changes nothing but the instant of the last turn
pub turns_may_be_left_out : TurnsMayBeLeftOut
turns_may_be_left_out table bytes made =
    let all_turns : LiveState = fold take_record (open_stream table) (cut bytes).whole in
    let fewer : LiveState = fold take_record_fewer (open_stream table) (cut bytes).whole in
    let is = twin_is table made all_turns fewer
    (twins_whole table made (cut bytes).whole (open_stream table) (open_stream table) (twins_open table made)) in
    let last = ap (λ (p : NodeProgress). p.dispatcher.last) (rest_same fewer (cut bytes).rest) in
    ap (λ z. with_rest z (cut bytes).rest) is ∙ rest_last all_turns (cut bytes).rest fewer.progress.dispatcher.last
    ∙ ap (with_last (with_rest all_turns (cut bytes).rest)) (sym last)
