-- Steps of the loops that place the processes of a track.
use Rattle.std.proofs.Common.{All, ◌≡◌, ◌≢◌, ℕ, suc, ◌+◌, ◌*◌, ◌^◌, ◌<◌, ◌≤◌, Bool, true, false, cond, List, [], ◌∷◌}
use Rattle.std.proofs.Common.{◌++◌, length, get_or, set}
use Rattle.std.proofs.Common.{replicate, map, filter, take, max, Contains, Option, Some}
use Rattle.std.proofs.Common.{None, is_some, unwrap_or, IfSome, IfNone, refl, sym, ap, ap₂, ◌∙◌, subst, arith, inl, inr}
use Rattle.std.proofs.Common.{true≢false}
use Rattle.std.specs.Option.{option_map}
use Rattle.std.proofs.lemmas.List.{take_more, map-append, get_or_default, get_or-set_same, get_or-set_other, length-set}
use Rattle.std.proofs.lemmas.List.{length-replicate, get_or-replicate, ext_get_or}
use Rattle.std.proofs.lemmas.List.FromFn.{length-map-range_with_len}
use Rattle.std.proofs.lemmas.List.Elements.{filter-append, Contains-append_cases, Contains-get_or}
use Rattle.std.proofs.lemmas.Bool.{cases_eq}
use Rattle.cpg_base.specs.Numbers.{numbers_below, greatest}
use Rattle.cpg_base.specs.Graph.{Graph, process_count, edge_count, node_of, source, inputs, is_message, process_at}
use Rattle.cpg_base.specs.Limits.{IsProcessWithin, IsWithinLimits}
use Rattle.cpg_base.specs.WellFormed.{WellFormed}
use Rattle.cpg_base.specs.Activity.{active, live}
use Rattle.cpg_base.specs.Duration.{duration}
use Rattle.cpg_base.specs.Bus.{round}
use Rattle.cpg_base.proofs.Bounds.{round-le, duration-le}
use Rattle.cpg_base.proofs.Lists.{Contains-cases, Contains-nil, Contains-map_parts, Contains-filter}
use Rattle.cpg_base.proofs.Lists.{Contains-filter_parts, numbers-Contains, get_or-map-below, greatest_push}
use Rattle.cpg_base.proofs.Lists.{greatest-le}
use Rattle.cpg_order.specs.Urgency.{IsUrgencyOrder, IsTopological}
use Rattle.cpg_order.proofs.Urgent.{urgent_total}
use Rattle.cpg_order.proofs.UrgencyIsTopological.{urgent_first}
use Rattle.cpg_tracks.specs.Tracks.{IsGreedy, start_in, longest_end, input_ready, ready_at}
use Rattle.cpg_tracks.specs.Placing.{has_start, free_at, would_start, IsFed, IsSooner, IsNext, IsPlacing, IsDone}
use Rattle.cpg_tracks.specs.Track.{Track, IsTrackOf, AreBy}
use Rattle.cpg_tracks.specs.declared.timing.Timing.{Timing}
use Rattle.cpg_tracks.specs.declared.schedule.Candidate.{Candidate}
use Rattle.cpg_tracks.specs.declared.schedule.FedProcess.{FedProcess}
use Rattle.cpg_tracks.specs.Timing.{outcome_of, IsTiming, IsOnTheWay, AreFree, IsFedAt, AreFed, IsCandidate, IsBestOf}
use Rattle.cpg_tracks.specs.Timing.{ComesFirst, IsBetterOf, IsChosen}
use Rattle.cpg_tracks.proofs.GreedyUnique.{live_source}
use Rattle.cpg_tracks.proofs.Feeding.{processes_of, processes_push}
use Rattle.cpg_tracks.proofs.Placing.{free_cases, free_here, free_elsewhere, place_next}
use Rattle.cpg_tracks.proofs.GreedyExists.{unplaced_count, fewer, none_left, at_first, nothing_there, none_placed}
use Rattle.cpg_tracks.proofs.GreedyExists.{place_none, sooner_chain, greedy_from_placing}

-- ---- the tables that are found once

-- given: the look-up tables t of a track of the graph
module _ (g : Graph) (t : Timing) (is : IsTiming g t) where
  -- the table has the duration of each process with all the faults
  pub duration_at : (p d : ℕ) → p < process_count g → get_or t.durations.items p d ≡ duration g p g.faults
  duration_at p d inside =
      ap (λ xs. get_or xs p d) is.durations ∙ get_or-map-below (λ p. duration g p g.faults) (process_count g) p d inside

  -- the table says of each edge whether it is live
  pub live_at : (e : ℕ) (d : Bool) → e < edge_count g → get_or t.live.items e d ≡ live g (outcome_of t) e
  live_at e d inside =
      ap (λ xs. get_or xs e d) is.live ∙ get_or-map-below (live g (outcome_of t)) (edge_count g) e d inside

  -- the table has a duration for each process
  pub durations_long : length t.durations.items ≡ process_count g
  durations_long = ap length is.durations ∙ length-map-range_with_len (λ p. duration g p g.faults) 0 (process_count g)

  -- the table says of each process whether it is active
  pub active_is : (p : ℕ) (d : Bool) → p < process_count g → get_or t.active.items p d ≡ active g (outcome_of t) p
  active_is p d inside =
      ap (λ xs. get_or xs p d) is.active ∙ get_or-map-below (active g (outcome_of t)) (process_count g) p d inside

  -- the table has a mark for each process
  pub active_long : length t.active.items ≡ process_count g
  active_long = ap length is.active ∙ length-map-range_with_len (active g (outcome_of t)) 0 (process_count g)

  -- the table has a mark for each edge
  pub live_long : length t.live.items ≡ edge_count g
  live_long = ap length is.live ∙ length-map-range_with_len (live g (outcome_of t)) 0 (edge_count g)

-- ---- cases of options

-- if `IfSome o P` and o has the value x, P holds of x
pub some_at : {X : Type 0} (P : X → Type 0) (o : Option X) → IfSome o P → (x : X) → o ≡ Some x → P x
some_at P o holds x is = subst (λ z. IfSome z P) is holds

-- if `IfNone o P` and o has no value, P holds
pub none_at : {X : Type 0} (P : Type 0) (o : Option X) → IfNone o P → o ≡ None → P
none_at P o holds is = subst (λ z. IfNone z P) is holds

-- ---- when an input is there

-- if p has the start s in a schedule, read with any default, it has it with the default None
pub start_there : (starts : List (Option ℕ)) (p s : ℕ) (d : Option ℕ) → p < length starts → get_or starts p d ≡ Some s →
    get_or starts p None ≡ Some s
start_there starts p s d inside is = get_or_default starts p None d inside ∙ is

-- the start s of p is no later than b, if no start of the schedule is
pub start_early : (starts : List (Option ℕ)) (p s b : ℕ) → AreBy b starts → get_or starts p None ≡ Some s → s ≤ b
start_early starts p s b early is = omega (arith, early p, ap (λ o. unwrap_or o 0) is)

-- input e, whose source starts at s, is there when the source has ended, and one round later if it is a message (b)
pub input_there : (g : Graph) (starts : List (Option ℕ)) (e s : ℕ) (b : Bool) →
    get_or starts (source g e) None ≡ Some s →
    is_message g e ≡ b →
    Some (s + duration g (source g e) g.faults + cond b (round g) 0)
    ≡ option_map (λ _. input_ready g starts e) (get_or starts (source g e) None)
input_there g starts e s b there is =
    ap Some (ap (λ c. s + duration g (source g e) g.faults + cond c (round g) 0) (sym is)
    ∙ ap (λ o. unwrap_or o 0 + duration g (source g e) g.faults + cond (is_message g e) (round g) 0) (sym there))
    ∙ ap (option_map (λ _. input_ready g starts e)) (sym there)

-- if a function gives no value for the option o, o has none: an input without a time has a source that isn't placed
pub input_missing : {X Y : Type 0} (f : X → Y) (o : Option X) → option_map f o ≡ None → is_some o ≡ false
input_missing f None none = refl
input_missing f (Some x) none = absurd (true≢false (ap is_some none))

-- if the option o gives the value r, where it would give y, o has a value and r is y: an input with a time has a source that
-- is placed
pub input_given : {X Y : Type 0} (y : Y) (o : Option X) (r : Y) → option_map (λ _. y) o ≡ Some r →
    (is_some o ≡ true) × (r ≡ y)
input_given y None r given = absurd (true≢false (sym (ap is_some given)))
input_given y (Some x) r given = (refl, sym (ap (λ o. unwrap_or o y) given))

-- ---- when a process is ready

-- given: an outcome o, the starts so far, and a process p
module _ (g : Graph) (o : List Bool) (starts : List (Option ℕ)) (p : ℕ) where
  -- the live ones of the first inputs
  abbrev live_of : ℕ → List ℕ
  live_of i = filter (live g o) (take i (inputs g p))

  -- the live ones of one input more are those before it, and this one if it is live
  next_live : (i d : ℕ) → i < length (inputs g p) →
      live_of (i + 1) ≡ live_of i ++ filter (live g o) (get_or (inputs g p) i d ∷ [])
  next_live i d inside = ap (filter (live g o)) (take_more (inputs g p) i d inside)
      ∙ filter-append (live g o) (take i (inputs g p)) (get_or (inputs g p) i d ∷ [])

  -- when the process is ready by its release and the first inputs alone
  abbrev ready_by : ℕ → ℕ
  ready_by i = greatest ((process_at g p).release ∷ map (input_ready g starts) (live_of i))

  -- the sources of the first inputs are placed
  abbrev FedBy : ℕ → Type 0
  FedBy i = (e : ℕ) → Contains (live_of i) e → has_start starts (source g e) ≡ true

  -- given: the i-th input of p, edge e
  module _ (i e d : ℕ) (inside : i < length (inputs g p)) (at : get_or (inputs g p) i d ≡ e) where
    -- the live inputs up to the next one, by whether it is live
    more_by : (b : Bool) → live g o e ≡ b → live_of (i + 1) ≡ live_of i ++ cond b (e ∷ []) []
    more_by b is = next_live i d inside ∙ ap (λ x. live_of i ++ filter (live g o) (x ∷ [])) at
        ∙ ap (λ c. live_of i ++ cond c (e ∷ []) []) is

    -- a live input is one more that the process waits for
    pub ready_takes : live g o e ≡ true → (ready : ℕ) → ready ≡ ready_by i →
        max ready (input_ready g starts e) ≡ ready_by (i + 1)
    ready_takes is ready so_far = ap (λ n. max n (input_ready g starts e)) so_far
        ∙ sym
        (greatest_push ((process_at g p).release ∷ map (input_ready g starts) (live_of i)) (input_ready g starts e))
        ∙ ap (λ xs. greatest ((process_at g p).release ∷ xs))
        (sym (map-append (input_ready g starts) (live_of i) (e ∷ [])))
        ∙ ap (λ xs. greatest ((process_at g p).release ∷ map (input_ready g starts) xs)) (sym (more_by true is))

    -- The source of a live input is placed too.
    -- A live input among the first i + 1 is one of the first i, or e.
    pub fed_takes : live g o e ≡ true → has_start starts (source g e) ≡ true → FedBy i → FedBy (i + 1)
    fed_takes is there before_fed f listed =
        elim (Contains-append_cases (live_of i) (e ∷ []) f (subst (λ xs. Contains xs f) (more_by true is) listed)) [
          | inl in_front ↦ before_fed f in_front
          | inr in_last ↦ elim (Contains-cases e [] f in_last) [
            | inl same ↦ ap (λ x. has_start starts (source g x)) (sym same) ∙ there
            | inr none ↦ absurd (Contains-nil f none)
          ]
        ]

    -- an edge that isn't live adds no live input
    skipped : live g o e ≡ false → live_of (i + 1) ≡ live_of i
    skipped is = more_by false is ∙ append_none (live_of i)
      where
        -- an empty list at the end changes nothing
        append_none : (xs : List ℕ) → xs ++ [] ≡ xs
        append_none [] = refl
        append_none (x ∷ xs) = ap (λ ys. x ∷ ys) (append_none xs)

    -- an input that isn't live is passed over
    pub ready_skips : live g o e ≡ false → (ready : ℕ) → ready ≡ ready_by i → ready ≡ ready_by (i + 1)
    ready_skips is ready so_far =
        so_far ∙ ap (λ xs. greatest ((process_at g p).release ∷ map (input_ready g starts) xs)) (sym (skipped is))

    -- an input that isn't live needs no placed source
    pub fed_skips : live g o e ≡ false → FedBy i → FedBy (i + 1)
    fed_skips is before_fed f listed = before_fed f (subst (λ xs. Contains xs f) (skipped is) listed)

    -- a process can't be placed if the source of a live input isn't placed
    pub not_fed : live g o e ≡ true → has_start starts (source g e) ≡ false → IsFed g o starts p → ⊥
    not_fed is absent can = true≢false (sym (can.inputs e (Contains-filter (live g o) (inputs g p) e is
        (subst (Contains (inputs g p)) at (contains_at (inputs g p) i d inside)))) ∙ absent)
      where
        -- what is at a place of a list is in it
        contains_at : (xs : List ℕ) (i d : ℕ) → i < length xs → Contains xs (get_or xs i d)
        contains_at xs i d inside = Contains-get_or xs i d inside

-- ---- no start is late
-- An execution within the limits takes at most 600,000,000,000, a round at most 16,000,000,000, so each process that is
-- placed starts at most 616,000,000,000 after what is there.

-- given: starts that are no later than the bound b (`early`), which is at least 10^9, the latest release (`some`)
module _ (g : Graph) (within : IsWithinLimits g) (well : WellFormed g) (o : List Bool) (starts : List (Option ℕ))
    (b : ℕ)
    (early : AreBy b starts) (some : 1000000000 ≤ b) where
  -- no end is later than the bound by more than the longest execution
  end_by : (p : ℕ) → p < process_count g → longest_end g starts p ≤ b + 600000000000
  end_by p inside = omega (arith, early p, duration-le g p g.faults within inside within.faults)

  -- a live input is there no later than the bound, the longest execution and the longest round
  input_by : (p e : ℕ) → Contains (filter (live g o) (inputs g p)) e → input_ready g starts e ≤ b + 616000000000
  input_by p e is_input = go (is_message g e)
    where
      -- by whether the edge is a message: then a round is added, of at most 1.6 * 10^10
      go : (m : Bool) → longest_end g starts (source g e) + cond m (round g) 0 ≤ b + 616000000000
      go true = omega (arith, end_by (source g e) (live_source g well o p e is_input).0, round-le g within)
      go false = omega (arith, end_by (source g e) (live_source g well o p e is_input).0)

  -- so a process is ready by then: its release is no later than the bound
  ready_at_by : (p : ℕ) → p < process_count g → ready_at g o starts p ≤ b + 616000000000
  ready_at_by p inside = let at : IsProcessWithin (length g.nodes) (process_at g p) = within.processes p _ inside in
      greatest-le ((process_at g p).release ∷ map (input_ready g starts) (filter (live g o) (inputs g p)))
      (b + 616000000000) (λ x listed.
      elim (Contains-cases (process_at g p).release
      (map (input_ready g starts) (filter (live g o) (inputs g p))) x listed) [
        | inl is ↦ omega (arith, at.release)
        | inr is_input ↦ let found = Contains-map_parts (input_ready g starts)
            (filter (live g o) (inputs g p)) x is_input in
            omega (arith, input_by p found.0 found.1, found.2)
      ])

  -- a node is free no later than the bound and the longest execution
  free_by : (node : ℕ) → free_at g starts node ≤ b + 600000000000
  free_by node =
      elim (free_cases g starts node) [
        | inl is_zero ↦ omega (arith, is_zero)
        | inr last_on ↦ omega (arith, last_on.3, end_by last_on.0 (last_on.1).within)
      ]

  -- the next start is later than the bound by at most 616,000,000,000
  pub would_start_by : (p : ℕ) → p < process_count g → would_start g o starts p ≤ b + 616000000000
  would_start_by p inside = omega (arith, ready_at_by p inside, free_by (node_of g p))

-- ---- the best candidate

-- given: an outcome o, the starts so far, and the urgency order
module _ (g : Graph) (o : List Bool) (starts : List (Option ℕ)) (order : List ℕ)
    (urgency : IsUrgencyOrder g order) where
  -- a candidate that comes first would start sooner, or with the other and is more urgent
  sooner_of : (a b : Candidate) → IsCandidate g o starts a → IsCandidate g o starts b → ComesFirst order a b →
      a.process ≢ b.process →
      IsSooner g o starts a.process b.process
  sooner_of a b a_is b_is sooner_or_first different = elim sooner_or_first [
    | inl starts_sooner ↦ inl (omega (arith, a_is.start, b_is.start))
    | inr same_start ↦ elim (urgent_total g a.process b.process different) [
      | inl urgent ↦ inr (sym a_is.start ∙ same_start.0 ∙ b_is.start, urgent)
      | inr urgent ↦
          let starts_sooner = urgent_first g order urgency b.process a.process b_is.fed.within a_is.fed.within urgent in
          absurd (omega (arith, same_start.1))
    ]
  ]

  -- The better of the best and one more candidate is the best of all so far.
  -- By which of the two it is: it is sooner than the other one, and the best so far is sooner than all before.
  pub best_more : (qs : List ℕ) (best : Option Candidate) (other better : Candidate) → IsBestOf g o starts qs best →
      IsBetterOf order best other better →
      IsCandidate g o starts other → IsBestOf g o starts (qs ++ other.process ∷ []) (Some better)
  -- there was none so far: nothing before can be placed, so the candidate is the best
  best_more qs None c better none_before better_is is =
      subst (λ x. IsBestOf g o starts (qs ++ c.process ∷ []) (Some x)) (sym better_is) (record {
        candidate = is;
        best = λ q listed can apart. elim (Contains-append_cases qs (c.process ∷ []) q listed) [
          | inl in_front ↦ absurd (none_before q in_front can)
          | inr in_last ↦
              elim (Contains-cases c.process [] q in_last) [
                | inl same ↦ absurd (apart same)
                | inr nothing ↦ absurd (Contains-nil q nothing)
              ]
        ];
      })
  -- there was one: it stays the best, or the candidate takes its place
  best_more qs (Some b) c better was_best better_is is = elim better_is [
    -- the best so far stays: it is sooner than all before, and than the candidate
    | inl stays ↦ subst (λ x. IsBestOf g o starts (qs ++ c.process ∷ []) (Some x)) (sym stays.0) (record {
      candidate = was_best.candidate;
      best = λ q listed can apart. elim (Contains-append_cases qs (c.process ∷ []) q listed) [
        | inl in_front ↦ was_best.best q in_front can apart
        | inr in_last ↦ elim (Contains-cases c.process [] q in_last) [
          | inl same ↦
              subst (IsSooner g o starts b.process) same
              (sooner_of b c was_best.candidate is stays.1 (λ equal. apart (equal ∙ same)))
          | inr nothing ↦ absurd (Contains-nil q nothing)
        ]
      ];
    })
    -- the candidate is better: it is sooner than the best so far, and so than all before
    | inr better_one ↦ subst (λ x. IsBestOf g o starts (qs ++ c.process ∷ []) (Some x)) (sym better_one.0) (record {
      candidate = is;
      best = λ q listed can apart. elim (Contains-append_cases qs (c.process ∷ []) q listed) [
        | inr in_last ↦ elim (Contains-cases c.process [] q in_last) [
          | inl same ↦ absurd (apart same)
          | inr nothing ↦ absurd (Contains-nil q nothing)
        ]
        | inl in_front ↦ elim (cases_eq b.process q) [
          | inl same ↦
              subst (IsSooner g o starts c.process) same
              (sooner_of c b is was_best.candidate better_one.1 (λ equal. apart (equal ∙ same)))
          | inr other ↦ elim (cases_eq c.process b.process) [
            | inl is_b ↦ subst (λ z. IsSooner g o starts z q) (sym is_b) (was_best.best q in_front can other)
            | inr differ ↦ sooner_chain g o starts c.process b.process q
                (sooner_of c b is was_best.candidate better_one.1 differ)
                (was_best.best q in_front can other)
          ]
        ]
      ];
    })
  ]

-- the better of two processes of the graph is a process of the graph
pub either_within : (n : ℕ) (order : List ℕ) (best : Option Candidate) (other better : Candidate) →
    IsBetterOf order best other better →
    IfSome best (λ c. c.process < n) →
    other.process < n → better.process < n
either_within n order None other better better_is best_within other_within =
    subst (λ (c : Candidate). c.process < n) (sym better_is) other_within
either_within n order (Some b) other better better_is best_within other_within = elim better_is [
  | inl stays ↦ subst (λ (c : Candidate). c.process < n) (sym stays.0) best_within
  | inr replaced ↦ subst (λ (c : Candidate). c.process < n) (sym replaced.0) other_within
]

-- a process that can be placed is a candidate, with the time at which it is ready and its node is free
is_candidate : (g : Graph) (o : List Bool) (starts : List (Option ℕ)) (free : List ℕ) (f : FedProcess) (c : Candidate) →
    AreFree g starts free →
    IsFedAt g o starts f →
    node_of g f.process < length g.nodes → c.process ≡ f.process →
    c.start ≡ max f.ready (get_or free (node_of g f.process) 0) → IsCandidate g o starts c
is_candidate g o starts free f c are is node process start = record {
  fed = subst (IsFed g o starts) (sym process) is.fed;
  start = start ∙ ap₂ max is.ready (ap (λ xs. get_or xs (node_of g f.process) 0) are
      ∙ get_or-map-below (free_at g starts) (length g.nodes) (node_of g f.process) 0 node)
      ∙ ap (would_start g o starts) (sym process);
}

-- The better of the best candidate and the next one is the best so far.
-- `best_more`, since the next one's process is that of the list's next element.
pub best_after : (g : Graph) (o : List Bool) (starts : List (Option ℕ)) (order : List ℕ) → IsUrgencyOrder g order →
    (free : List ℕ) (fed : List FedProcess) →
    AreFree g starts free →
    AreFed g o starts fed → (i : ℕ) (d : FedProcess) → i < length fed →
    (best : Option Candidate) (other better : Candidate) → IsBestOf g o starts (processes_of (take i fed)) best →
    IsBetterOf order best other better → node_of g (get_or fed i d).process < length g.nodes →
    other.process ≡ (get_or fed i d).process →
    other.start ≡ max (get_or fed i d).ready (get_or free (node_of g (get_or fed i d).process) 0) →
    IsBestOf g o starts (processes_of (take (i + 1) fed)) (Some better)
best_after g o starts order urgency free fed are_free are i d inside best other better best_is better_is node process
    start =
    let one = get_or fed i d in
    let more : processes_of (take i fed) ++ other.process ∷ [] ≡ processes_of (take (i + 1) fed) =
    ap (λ p. processes_of (take i fed) ++ p ∷ []) process ∙ sym (processes_push (take i fed) one)
    ∙ ap processes_of (sym (take_more fed i d inside)) in
    subst (λ qs. IsBestOf g o starts qs (Some better)) more
    (best_more g o starts order urgency (processes_of (take i fed)) best other better best_is better_is
    (is_candidate g o starts free one other are_free
    (are.each one (Contains-get_or fed i d inside)) node process start))

-- a process in the list of the active ones is a process of the graph, and active
pub active_at : (g : Graph) (t : Track) → IsTrackOf g t → (i d : ℕ) → i < length t.active →
    (get_or t.active i d < process_count g) × (active g t.outcome (get_or t.active i d) ≡ true)
active_at g t track i d inside =
    let parts = Contains-filter_parts (active g t.outcome) (numbers_below (process_count g)) (get_or t.active i d)
    (subst (λ xs. Contains xs (get_or t.active i d)) track.active (Contains-get_or t.active i d inside)) in
    (numbers-Contains (process_count g) (get_or t.active i d) parts.0, parts.1)

-- the best of all processes that can be placed is the next one
pub chosen : (g : Graph) (o : List Bool) (starts : List (Option ℕ)) (fed : List FedProcess) → AreFed g o starts fed →
    (best : Option Candidate) →
    IsBestOf g o starts (map (λ f. f.process) fed) best → IsChosen g o starts best
chosen g o starts fed are None best_is = λ q can. best_is q (are.all q can) can
chosen g o starts fed are (Some c) best_is = (
  record {
    fed = best_is.candidate.fed;
    best = λ q can apart.
        best_is.best q (are.all q can) can apart;
  },
  best_is.candidate.start,
)

-- if `result` is the process to place next by the lists `frees` and `feds`, whatever they are lists of, `answer` is so by
-- `free` and `fed`, which are equal to these
pub chosen_of : (g : Graph) (o : List Bool) (starts : List (Option ℕ)) (free frees : List ℕ)
    (fed feds : List FedProcess) (result answer : Option Candidate) → frees ≡ free → feds ≡ fed →
    AreFree g starts free → AreFed g o starts fed → ((o : List Bool) (starts : List (Option ℕ)) →
    AreFree g starts frees → AreFed g o starts feds → IsChosen g o starts result) →
    result ≡ answer → IsChosen g o starts answer
chosen_of g o starts free frees fed feds result answer same_free same_fed are_free are_fed says is =
    subst (IsChosen g o starts) is
    (says o starts (same_free ∙ are_free) (subst (AreFed g o starts) (sym same_fed) are_fed))

-- what can be placed is a process of the graph
pub fed_within : (g : Graph) (o : List Bool) (starts : List (Option ℕ)) (fed : List FedProcess) →
    AreFed g o starts fed →
    All (λ f. f.process < process_count g) fed
fed_within g o starts fed are i d inside = (are.each (get_or fed i d) (Contains-get_or fed i d inside)).fed.within

-- ---- one process is placed

-- given: a schedule s on the way, and the process p to place next
module _ (g : Graph) (within : IsWithinLimits g) (well : WellFormed g) (o : List Bool) (s : List (Option ℕ))
    (placing : IsPlacing g o s) (p : ℕ) (is_next : IsNext g o s p) where
  -- after the next process its node is free from its end on
  pub free_more : (free : List ℕ) → AreFree g s free →
      AreFree g (set s p (Some (would_start g o s p)))
      (set free (node_of g p) (would_start g o s p + duration g p g.faults))
  free_more free were_free =
      ext_get_or 0 (set free (node_of g p) end) (map (free_at g next) (numbers_below (length g.nodes)))
      (length-set free (node_of g p) end ∙ long ∙ sym (length-map-range_with_len (free_at g next) 0 (length g.nodes)))
      (λ node below. let inside : node < length g.nodes = omega (arith, length-set free (node_of g p) end, long) in
      elim (cases_eq node (node_of g p)) [
        | inl is_node ↦ ap (λ x. get_or (set free (node_of g p) end) x 0) is_node
            ∙ get_or-set_same free (node_of g p) end 0 (omega (arith, long, well.nodes p is_next.fed.within))
            ∙ sym (free_here g well o s placing p is_next) ∙ ap (free_at g next) (sym is_node)
            ∙ sym (get_or-map-below (free_at g next) (length g.nodes) node 0 inside)
        | inr is_other ↦ get_or-set_other free (node_of g p) node end 0 is_other ∙ ap (λ xs. get_or xs node 0) were_free
            ∙ get_or-map-below (free_at g s) (length g.nodes) node 0 inside
            ∙ sym (free_elsewhere g well o s placing p is_next node is_other)
            ∙ sym (get_or-map-below (free_at g next) (length g.nodes) node 0 inside)
      ])
    where
      -- the schedule with p placed
      next : List (Option ℕ)
      next = set s p (Some (would_start g o s p))

      -- the longest end of the process that is placed
      end : ℕ
      end = would_start g o s p + duration g p g.faults

      -- there is a time for each node
      long : length free ≡ length g.nodes
      long = ap length were_free ∙ length-map-range_with_len (free_at g s) 0 (length g.nodes)

  -- The next process starts within the next bound.
  -- q is the next process, which starts by that bound, or another one, of which nothing changes.
  pub early_more : (b : ℕ) → 1000000000 ≤ b → AreBy b s →
      AreBy (b + 616000000000) (set s p (Some (would_start g o s p)))
  early_more b some early q = elim (cases_eq q p) [
    | inl is_p ↦ omega (
      arith,
      ap (λ x. start_in (set s p (Some (would_start g o s p))) x) is_p,
      ap (λ x. unwrap_or x 0)
          (get_or-set_same s p (Some (would_start g o s p)) None (omega (arith, placing.count, is_next.fed.within))),
      would_start_by g within well o s b early some p is_next.fed.within,
    )
    | inr is_other ↦
        omega (
          arith,
          ap (λ x. unwrap_or x 0)
              (get_or-set_other s p q (Some (would_start g o s p)) None is_other),
          early q,
        )
  ]

  -- after the next process one fewer is unplaced
  pub fewer_left : suc (unplaced_count (set s p (Some (would_start g o s p)))) ≡ unplaced_count s
  fewer_left = fewer s p (would_start g o s p) (omega (arith, placing.count, is_next.fed.within)) is_next.fed.unplaced

-- nothing is placed at first
module _ (g : Graph) (o : List Bool) where
  -- at the start each node is free from 0 on
  pub free_first : AreFree g (replicate (process_count g) None) (replicate (length g.nodes) 0)
  free_first = ext_get_or 0 (replicate (length g.nodes) 0)
      (map (free_at g (replicate (process_count g) None)) (numbers_below (length g.nodes)))
      (length-replicate {A = ℕ} (length g.nodes) 0
      ∙ sym (length-map-range_with_len (free_at g (replicate (process_count g) None)) 0 (length g.nodes)))
      (λ node below. let inside : node < length g.nodes = omega (arith, length-replicate {A = ℕ} (length g.nodes) 0) in
      get_or-replicate (length g.nodes) node 0 0 inside
      ∙ sym (get_or-map-below (free_at g (replicate (process_count g) None)) (length g.nodes) node 0 inside
      ∙ none node))
    where
      -- nothing is placed, so each node is free from 0 on
      none : (node : ℕ) → free_at g (replicate (process_count g) None) node ≡ 0
      none node = elim (free_cases g (replicate (process_count g) None) node) [
        | inl is_zero ↦ is_zero
        | inr found ↦ absurd (none_placed g o found.0 found.1)
      ]

  -- at the start no start is late
  pub early_first : (b : ℕ) → AreBy b (replicate (process_count g) None)
  early_first b p = omega (arith, ap (λ x. unwrap_or x 0) (nothing_there g o p))

  -- at the start all processes are unplaced
  pub left_first : unplaced_count (replicate (process_count g) None) + 0 ≤ process_count g
  left_first = omega (arith, at_first (process_count g))

  -- if no process is unplaced, nothing more can be placed
  pub none_unplaced : (s : List (Option ℕ)) → IsPlacing g o s → unplaced_count s ≡ 0 → IsDone g o s
  none_unplaced s placing none_left_over process fed =
      let some_left = none_left s process (omega (arith, placing.count, fed.within)) fed.unplaced in omega arith

-- ---- after some number of processes

-- what is known after n processes are placed: the placing, how many are left, when nodes are free, and a bound
pub record HavePlaced (g : Graph) (o : List Bool) (starts : List (Option ℕ)) (times : List ℕ) (n : ℕ) : Type 0 where
  -- the schedule is one on the way to a greedy one
  pub placing : IsPlacing g o starts
  -- of the processes, n or more are placed
  pub left : unplaced_count starts + n ≤ process_count g
  -- `times` says when each node has ended all that is placed on it
  pub free : AreFree g starts times
  -- a start is at most 10^9, the latest release, and for each placed process 616 * 10^9, an execution and a round
  pub early : AreBy (1000000000 + n * 616000000000) starts

-- at the start no process is placed
pub placed_first : (g : Graph) (o : List Bool) →
    HavePlaced g o (replicate (process_count g) None) (replicate (length g.nodes) 0) 0
placed_first g o = record {
  placing = place_none g o;
  left = left_first g o;
  free = free_first g o;
  early = early_first g o (1000000000 + 0 * 616000000000);
}

-- given: n processes are placed, with these starts, and `free` is when each node is free
module _ (g : Graph) (within : IsWithinLimits g) (well : WellFormed g) (o : List Bool) (starts : List (Option ℕ))
    (free : List ℕ) (n : ℕ) (so_far : HavePlaced g o starts free n) where
  -- the schedule stays within 2^60 for as many processes as there are
  pub placed_early : n ≤ process_count g → AreBy (2 ^ 60) starts
  placed_early few p = omega (arith, so_far.early p, within.few_processes)

  -- a schedule of at most all processes is early enough to go on
  pub placed_open : n ≤ process_count g → IsOnTheWay g starts
  placed_open few = record { count = so_far.placing.count; early = placed_early few }

  -- there is a free time for each node
  pub frees_long : length free ≡ length g.nodes
  frees_long = ap length so_far.free ∙ length-map-range_with_len (free_at g starts) 0 (length g.nodes)

  -- the next start is at most 2^60
  pub placed_late : (p : ℕ) → n < process_count g → IsNext g o starts p → would_start g o starts p ≤ 2 ^ 60
  placed_late p some_left next = omega (
    arith,
    would_start_by g within well o starts (1000000000 + n * 616000000000) so_far.early (omega arith) p next.fed.within,
    within.few_processes,
  )

  -- with the next process one more is placed, its node is free when it ends, and one less is left
  pub placed_more : (p start node time : ℕ) → IsNext g o starts p → start ≡ would_start g o starts p →
      node ≡ node_of g p →
      time ≡ duration g p g.faults →
      HavePlaced g o (set starts p (Some start)) (set free node (start + time)) (n + 1)
  placed_more p start node time next start_is node_is time_is =
      subst (λ t. HavePlaced g o (set starts p (Some start)) (set free node (start + t)) (n + 1)) (sym time_is)
      (subst (λ m. HavePlaced g o (set starts p (Some start)) (set free m (start + duration g p g.faults)) (n + 1))
      (sym node_is)
      (subst (λ s. HavePlaced g o (set starts p (Some s)) (set free (node_of g p) (s + duration g p g.faults)) (n + 1))
      (sym start_is) (record {
        placing = place_next g well o starts so_far.placing p next;
        left = omega (arith, fewer_left g within well o starts so_far.placing p next, so_far.left);
        free = free_more g within well o starts so_far.placing p next free so_far.free;
        early = λ q. omega (
          arith,
          early_more g within well o starts so_far.placing p next (1000000000 + n * 616000000000)
              (omega arith) so_far.early q,
        );
      })))

  -- after as many steps as there are processes nothing is left to place
  pub placed_whole : process_count g ≤ n → IsDone g o starts
  placed_whole many = none_unplaced g o starts so_far.placing (omega (arith, so_far.left))

  -- a schedule in which nothing more can be placed is greedy
  pub placed_greedy : (order : List ℕ) → IsTopological g order → IsDone g o starts → IsGreedy g o starts
  placed_greedy order top done = greedy_from_placing g o well order top starts so_far.placing done
