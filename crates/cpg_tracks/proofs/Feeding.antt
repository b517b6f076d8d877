-- Steps of the loops that keep what can be placed.
use Rattle.std.proofs.Common.{◌≡◌, ◌≢◌, ℕ, ◌+◌, ◌<◌, ◌==◌, Bool, true, false, not, List, [], ◌∷◌, ◌++◌, length, get_or}
use Rattle.std.proofs.Common.{set, map, filter, Contains, Option, Some}
use Rattle.std.proofs.Common.{sym, ap, ◌∙◌, subst, arith, inl, inr, eqb-true, eq-eqb}
use Rattle.std.proofs.lemmas.List.{map-append, get_or-set_same, get_or-set_other, ext_get_or}
use Rattle.std.proofs.lemmas.List.FromFn.{length-map-range_with_len}
use Rattle.std.proofs.lemmas.List.Elements.{Contains-append_left, Contains-append_right, Contains-append_cases}
use Rattle.std.proofs.lemmas.Bool.{both_ways, cases_eq, not-true, not_from_false, false_from_ne_true}
use Rattle.cpg_base.specs.Graph.{Graph, process_count, target, inputs, outputs}
use Rattle.cpg_base.specs.WellFormed.{WellFormed}
use Rattle.cpg_base.specs.Activity.{active, live}
use Rattle.cpg_base.specs.Numbers.{numbers_below}
use Rattle.cpg_base.proofs.Inputs.{inputs_parts, outputs-Contains}
use Rattle.cpg_base.proofs.Lists.{Contains-first, Contains-cases, Contains-nil, Contains-map, Contains-map_parts}
use Rattle.cpg_base.proofs.Lists.{Contains-filter, Contains-filter_parts}
use Rattle.cpg_base.proofs.Lists.{Contains-numbers, same_truth, get_or-map-below}
use Rattle.cpg_tracks.specs.Tracks.{ready_at}
use Rattle.cpg_tracks.specs.Placing.{IsFed, IsNext, IsPlacing, would_start}
use Rattle.cpg_tracks.specs.Timing.{IsFedAt, AreFed, AreFedBut, Feeds}
use Rattle.cpg_tracks.specs.Track.{Track, IsTrackOf}
use Rattle.cpg_tracks.specs.declared.schedule.FedProcess.{FedProcess}
use Rattle.cpg_tracks.proofs.Placing.{same_ready, fed_not_p, still_fed, was_fed_or_waits}

-- the processes of a list
abbrev pub processes_of : List FedProcess → List ℕ
processes_of fed = map (λ f. f.process) fed

-- the processes of a list with one more at the end
pub processes_push : (fed : List FedProcess) (f : FedProcess) →
    processes_of (fed ++ f ∷ []) ≡ processes_of fed ++ f.process ∷ []
processes_push fed f = map-append (λ (x : FedProcess). x.process) fed (f ∷ [])

-- given: an outcome, and the starts of the processes placed so far
module _ (g : Graph) (o : List Bool) (starts : List (Option ℕ)) where
  -- ---- one process is asked

  -- a process that can't be placed isn't added
  pub feeds_none : (p : ℕ) (fed : List FedProcess) → (IsFed g o starts p → ⊥) → Feeds g o starts p fed fed
  feeds_none p fed cannot =
      record { each = λ listed. listed; kept = λ q listed. listed; added = λ can. absurd (cannot can) }

  -- A process that can be placed is added, with the time at which it is ready.
  -- What is in the new list was in the old one, or is the process itself.
  pub feeds_one : (p ready : ℕ) (fed : List FedProcess) → IsFed g o starts p → ready ≡ ready_at g o starts p →
      Feeds g o starts p fed (fed ++ (record { process = p; ready = ready }) ∷ [])
  feeds_one p ready fed is at = record {
    each = λ old_each entry listed. elim (Contains-append_cases fed (one ∷ []) entry listed) [
      | inl in_old ↦ old_each entry in_old
      | inr in_last ↦ elim (Contains-cases one [] entry in_last) [
        | inl same ↦ subst (IsFedAt g o starts) same (record { fed = is; ready = at })
        | inr none ↦ absurd (Contains-nil entry none)
      ]
    ];
    kept = λ q listed. subst (λ xs. Contains xs q) (sym (processes_push fed one))
        (Contains-append_left (processes_of fed) (p ∷ []) q listed);
    added = λ can. subst (λ xs. Contains xs p) (sym (processes_push fed one))
        (Contains-append_right (processes_of fed) (p ∷ []) p (Contains-first p []));
  }
    where
      -- the entry that is added
      one : FedProcess
      one = record { process = p; ready = ready }

  -- ---- all processes are asked in turn

  -- after one more process all processes up to it that can be placed are there
  pub fed_below : (p : ℕ) (old new : List FedProcess) → Feeds g o starts p old new →
      ((q : ℕ) → q < p → IsFed g o starts q → Contains (processes_of old) q) → (q : ℕ) → q < p + 1 →
      IsFed g o starts q → Contains (processes_of new) q
  fed_below p old new feeds below q up_to can = elim (cases_eq q p) [
    | inl is ↦ subst (Contains (processes_of new)) (sym is) (feeds.added (subst (IsFed g o starts) is can))
    | inr is_other ↦ feeds.kept q (below q (omega (arith, up_to, is_other)) can)
  ]

  -- ---- the targets of p's outputs are asked in turn

  -- the targets of some live edges are there, if they can be placed
  abbrev pub AreTargetsFed : List ℕ → List FedProcess → Type 0
  AreTargetsFed es fed = (e : ℕ) → Contains es e → live g o e ≡ true → IsFed g o starts (target g e) →
      Contains (processes_of fed) (target g e)

  -- of no edges all targets that can be placed are there
  pub no_targets : (fed : List FedProcess) → AreTargetsFed [] fed
  no_targets fed e nothing is can = absurd (Contains-nil e nothing)

  -- The target of one more live edge is there, if it can be placed.
  -- An edge is one of those before, whose target is kept, or e, whose target is fed now.
  pub target_asked : (es : List ℕ) (e : ℕ) (old new : List FedProcess) → Feeds g o starts (target g e) old new →
      AreTargetsFed es old →
      AreTargetsFed (es ++ e ∷ []) new
  target_asked es e old new feeds before x listed is can = elim (Contains-append_cases es (e ∷ []) x listed) [
    | inl in_front ↦ feeds.kept (target g x) (before x in_front is can)
    | inr in_last ↦ elim (Contains-cases e [] x in_last) [
      | inl same ↦ subst (λ y. Contains (processes_of new) (target g y)) same
          (feeds.added (subst (λ y. IsFed g o starts (target g y)) (sym same) can))
      | inr none ↦ absurd (Contains-nil x none)
    ]
  ]

  -- An edge that isn't live needs no target.
  -- A live edge is one of those before.
  pub target_passed : (es : List ℕ) (e : ℕ) (fed : List FedProcess) → live g o e ≡ false → AreTargetsFed es fed →
      AreTargetsFed (es ++ e ∷ []) fed
  target_passed es e fed off before x listed is can = elim (Contains-append_cases es (e ∷ []) x listed) [
    | inl in_front ↦ before x in_front is can
    | inr in_last ↦ elim (Contains-cases e [] x in_last) [
      | inl same ↦ absurd (both_ways (live g o x) (ap (live g o) (sym same) ∙ off) is)
      | inr none ↦ absurd (Contains-nil x none)
    ]
  ]

  -- With the targets of all live outputs of p, the processes that can be placed are complete.
  -- A process that can be placed was in the old list, or is the target of a live output of p.
  pub all_targets_asked : (p : ℕ) (old new : List FedProcess) → AreFedBut g o starts p old →
      ((f : FedProcess) → Contains new f → IsFedAt g o starts f) →
      ((q : ℕ) → Contains (processes_of old) q → Contains (processes_of new) q) → AreTargetsFed (outputs g p) new →
      AreFed g o starts new
  all_targets_asked p old new old_are each kept targets = record {
    each = each;
    all = λ q can. elim (old_are.all q can) [
      | inl in_old ↦ kept q in_old
      | inr waited ↦ subst (Contains (processes_of new)) waited.3
          (targets waited.0 waited.1 waited.2 (subst (IsFed g o starts) (sym waited.3) can))
    ];
  }

-- ---- marks of the active processes

-- One more process is marked, and those before it stay marked.
-- q is p, which is marked now, or one of those before.
pub mark_set : (marks : List Bool) (qs : List ℕ) (p : ℕ) → p < length marks →
    ((q : ℕ) → Contains qs q → get_or marks q false ≡ true) → (q : ℕ) →
    Contains (qs ++ p ∷ []) q →
    get_or (set marks p true) q false ≡ true
mark_set marks qs p inside marked q listed = elim (cases_eq q p) [
  | inl is_p ↦ ap (λ x. get_or (set marks p true) x false) is_p ∙ get_or-set_same marks p true false inside
  | inr is_other ↦ get_or-set_other marks p q true false is_other ∙ elim (Contains-append_cases qs (p ∷ []) q listed) [
    | inl in_front ↦ marked q in_front
    | inr in_last ↦
        elim (Contains-cases p [] q in_last) [
          | inl same ↦ absurd (is_other (sym same))
          | inr none ↦ absurd (Contains-nil q none)
        ]
  ]
]

-- with one more mark only the processes of the list are marked
pub mark_only : (marks : List Bool) (qs : List ℕ) (p : ℕ) → ((q : ℕ) → get_or marks q false ≡ true → Contains qs q) →
    (q : ℕ) → get_or (set marks p true) q false ≡ true →
    Contains (qs ++ p ∷ []) q
mark_only marks qs p only q is_set = elim (cases_eq q p) [
  | inl is_p ↦ subst (Contains (qs ++ p ∷ [])) (sym is_p) (Contains-append_right qs (p ∷ []) p (Contains-first p []))
  | inr is_other ↦ Contains-append_left qs (p ∷ []) q
      (only q (sym (get_or-set_other marks p q true false is_other) ∙ is_set))
]

-- Marks for exactly the active processes say of each process whether it is active.
-- Process by process: a mark is set exactly if the process is listed, and it is listed exactly if it is active.
pub marks_done : (g : Graph) (t : Track) → IsTrackOf g t → (marks : List Bool) → length marks ≡ process_count g →
    ((q : ℕ) → Contains t.active q → get_or marks q false ≡ true) →
    ((q : ℕ) → get_or marks q false ≡ true → Contains t.active q) →
    marks ≡ map (active g t.outcome) (numbers_below (process_count g))
marks_done g t track marks count marked only =
    ext_get_or false marks (map (active g t.outcome) (numbers_below (process_count g)))
    (count ∙ sym (length-map-range_with_len (active g t.outcome) 0 (process_count g)))
    (λ p below. let inside : p < process_count g = omega (arith, below, count) in
    same_truth (get_or marks p false) (active g t.outcome p)
    (λ is_set. (Contains-filter_parts (active g t.outcome) (numbers_below (process_count g)) p
    (subst (λ xs. Contains xs p) track.active (only p is_set))).1)
    (λ is_set. marked p (subst (λ xs. Contains xs p) (sym track.active) (Contains-filter (active g t.outcome)
    (numbers_below (process_count g)) p is_set (Contains-numbers (process_count g) p inside))))
    ∙ sym (get_or-map-below (active g t.outcome) (process_count g) p false inside))

-- ---- a process is placed

-- given: p is the process to place next
module _ (g : Graph) (well : WellFormed g) (o : List Bool) (s : List (Option ℕ)) (placing : IsPlacing g o s) (p : ℕ)
    (is_next : IsNext g o s p) where
  -- whether a process isn't the placed one
  abbrev is_other : FedProcess → Bool
  is_other f = not (f.process == p)

  -- If p is placed at the time at which it would start and taken off the list, only targets of its live outputs may be
  -- missing there: any other process that can be placed now could be before, and is ready at the same time.
  fed_after : (fed : List FedProcess) → AreFed g o s fed →
      AreFedBut g o (set s p (Some (would_start g o s p))) p (filter is_other fed)
  fed_after fed are = record {
    each = λ entry kept.
        let parts = Contains-filter_parts is_other fed entry kept in
        let was = are.each entry parts.0 in
        let not_p : entry.process ≢ p =
        λ is. both_ways (entry.process == p) (not-true (entry.process == p) parts.1) (eq-eqb entry.process p is) in
        record {
          fed = still_fed g well o s placing p is_next entry.process was.fed not_p;
          ready = was.ready ∙ sym (same_ready g well o s placing p is_next entry.process was.fed.inputs);
        };
    all = λ q fed_now. elim (was_fed_or_waits g well o s placing p is_next q fed_now) [
      | inl was ↦
          let found = Contains-map_parts (λ (f : FedProcess). f.process) fed q (are.all q was) in
          let not_p : (found.0).process ≢ p = λ is.
          fed_not_p g well o s placing p is_next q fed_now (sym is ∙ found.2) in
          let kept = Contains-filter is_other fed found.0 (not_from_false ((found.0).process == p)
          (false_from_ne_true ((found.0).process == p) (λ is_p. not_p (eqb-true (found.0).process p is_p)))) found.1 in
          inl (subst (Contains (processes_of (filter is_other fed))) found.2
          (Contains-map (λ (f : FedProcess). f.process) (filter is_other fed) found.0 kept))
      | inr waited ↦
          let edge = waited.0 in
          let parts = Contains-filter_parts (live g o) (inputs g q) edge waited.1 in
          let target_is = inputs_parts g q edge parts.0 in
          inr (
            edge,
            subst (λ a. Contains (outputs g a) edge) waited.2
                (outputs-Contains g edge target_is.0),
            parts.1,
            target_is.1,
          )
    ];
  }

  -- after p is placed and taken out of the list, it lacks at most targets of p; for any names of the new starts and list
  pub fed_next : (fed : List FedProcess) (start : ℕ) (starts : List (Option ℕ)) (kept : List FedProcess) →
      AreFed g o s fed → start ≡ would_start g o s p →
      starts ≡ set s p (Some start) →
      kept ≡ filter is_other fed → AreFedBut g o starts p kept
  fed_next fed start starts kept are at same left =
      subst (AreFedBut g o starts p) (sym left) (subst (λ xs. AreFedBut g o xs p (filter is_other fed)) (sym same)
      (subst (λ time. AreFedBut g o (set s p (Some time)) p (filter is_other fed)) (sym at) (fed_after fed are)))
