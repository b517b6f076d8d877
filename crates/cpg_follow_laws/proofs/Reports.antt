-- Reports of different processes may be told in any order, so also in that of time.
use Rattle.std.proofs.Common.{◌≡◌, ◌≢◌, ℕ, ◌≤◌, Bool, true, false, cond, List, [], ◌∷◌, Contains, refl, sym, ap, ◌∙◌}
use Rattle.std.proofs.Common.{subst, arith, inl, inr, ◌⊎◌, leb, leb-true}
use Rattle.std.proofs.lemmas.Bool.{leb-false}
use Rattle.cpg_base.proofs.Lists.{Contains-first, Contains-rest, Contains-cases, Contains-nil}
use Rattle.cpg_base.proofs.Ordered.{Rises}
use Rattle.cpg_node.specs.Dispatcher.{Dispatcher, Ended, finished}
use Rattle.cpg_node.specs.State.{MayFinish}
use Rattle.cpg_node.proofs.Commuting.{may_then, may_before, swap}
use Rattle.cpg_cluster.specs.Taking.{AllFinish}
use Rattle.cpg_live.specs.Told.{MayReport, after_reports}
use Rattle.cpg_follow_laws.specs.Follow.{inserted, by_time}

-- the two reports are of different processes
abbrev pub Apart : ℕ × Ended → ℕ × Ended → Type 0
Apart a b = a.1.process ≢ b.1.process

-- the first report is not later than the second
abbrev pub NotLater : ℕ × Ended → ℕ × Ended → Type 0
NotLater a b = a.0 ≤ b.0

-- Of reports `es` of different processes that dispatcher `d` may take one after another, each `e` may come first. By
-- induction on the reports: one that may come after the first may come before it, as it is of another process.
pub all_may : (es : List (ℕ × Ended)) (d : Dispatcher) → AllFinish d es → Rises Apart es → (e : ℕ × Ended) →
    Contains es e →
    MayFinish d e.0 e.1
all_may [] d h rising e there = absurd (Contains-nil e there)
all_may (x ∷ es) d h rising e there = elim (Contains-cases x es e there) [
  | inl s ↦ subst (λ (e : ℕ × Ended). MayFinish d e.0 e.1) s h.0
  | inr among ↦ may_before d x.1 e.0 e.1 (rising.0 e among) (all_may es (finished d x.1) h.1 rising.1 e among)
]

-- If dispatcher `d` may take each of the reports `es`, which are of different processes, it may take them one after
-- another in order of time. By induction on the reports: after the first, each of the others may still come first.
may_tell : (es : List (ℕ × Ended)) (d : Dispatcher) (from : ℕ) →
    ((e : ℕ × Ended) → Contains es e → MayFinish d e.0 e.1) → Rises Apart es →
    Rises NotLater es →
    ((e : ℕ × Ended) → Contains es e → from ≤ e.0) → MayReport d from es
may_tell [] d from may rising t lo = tt
may_tell (x ∷ es) d from may rising t lo = (
  lo x (Contains-first x es),
  may x (Contains-first x es),
  may_tell es (finished d x.1) x.0
      (λ e there. may_then d x.1 e.0 e.1 (rising.0 e there) (may e (Contains-rest x es e there))) rising.1 t.1 t.0,
)

-- Reports in order of time.

-- what is in a list with one more report is that report or was there before; by induction on `ys`
in_inserted : (x : ℕ × Ended) (ys : List (ℕ × Ended)) (e : ℕ × Ended) → Contains (inserted x ys) e →
    (x ≡ e) ⊎ Contains ys e
in_inserted x [] e there = elim (Contains-cases x [] e there) [ inl s ↦ inl s | inr n ↦ inr n ]
in_inserted x (y ∷ ys) e there = go (leb x.0 y.0) there (in_inserted x ys e)
  where
    -- by whether the inserted report comes before the first
    go : (b : Bool) → Contains (cond b (x ∷ y ∷ ys) (y ∷ inserted x ys)) e →
        (Contains (inserted x ys) e → (x ≡ e) ⊎ Contains ys e) →
        (x ≡ e) ⊎ Contains (y ∷ ys) e
    go true there ih = elim (Contains-cases x (y ∷ ys) e there) [ inl s ↦ inl s | inr n ↦ inr n ]
    go false there ih = elim (Contains-cases y (inserted x ys) e there) [
      | inl s ↦ inr (subst (Contains (y ∷ ys)) s (Contains-first y ys))
      | inr n ↦ elim (ih n) [ inl s ↦ inl s | inr among ↦ inr (Contains-rest y ys e among) ]
    ]

-- each report in order of time is one of those that are given; by induction on `es`
pub in_by_time : (es : List (ℕ × Ended)) (e : ℕ × Ended) → Contains (by_time es) e → Contains es e
in_by_time [] e there = there
in_by_time (x ∷ es) e there = elim (in_inserted x (by_time es) e there) [
  | inl s ↦ subst (Contains (x ∷ es)) s (Contains-first x es)
  | inr among ↦ Contains-rest x es e (in_by_time es e among)
]

-- reports of different processes stay so if one of another process is inserted; by induction on `ys`
apart_inserted : (x : ℕ × Ended) (ys : List (ℕ × Ended)) → ((e : ℕ × Ended) → Contains ys e → Apart x e) →
    Rises Apart ys →
    Rises Apart (inserted x ys)
apart_inserted x [] each rising = (each, rising)
apart_inserted x (y ∷ ys) each rising = go (leb x.0 y.0)
    (apart_inserted x ys (λ e there. each e (Contains-rest y ys e there)) rising.1)
  where
    -- by whether the inserted report comes before the first
    go : (b : Bool) → Rises Apart (inserted x ys) → Rises Apart (cond b (x ∷ y ∷ ys) (y ∷ inserted x ys))
    go true ih = (each, rising)
    go false ih = (
      λ e there. elim (in_inserted x ys e there) [
        | inl s ↦ (λ z. each y (Contains-first y ys) (ap (λ (e : ℕ × Ended). e.1.process) s ∙ sym z))
        | inr m ↦ rising.0 e m
      ],
      ih,
    )

-- sorted by time, reports are still of different processes; by induction on `es`
apart_by_time : (es : List (ℕ × Ended)) → Rises Apart es → Rises Apart (by_time es)
apart_by_time [] rising = rising
apart_by_time (x ∷ es) rising = apart_inserted x (by_time es) (λ e there. rising.0 e (in_by_time es e there))
    (apart_by_time es rising.1)

-- reports in order of time stay so if one is inserted; by induction on `ys`
rises_inserted : (x : ℕ × Ended) (ys : List (ℕ × Ended)) → Rises NotLater ys → Rises NotLater (inserted x ys)
rises_inserted x [] rising = ((λ e there. absurd (Contains-nil e there)), rising)
rises_inserted x (y ∷ ys) rising = go (leb x.0 y.0) refl (rises_inserted x ys rising.1)
  where
    -- x put into a list by time keeps the list in order: by whether x is no later than the first, y
    go : (b : Bool) → leb x.0 y.0 ≡ b → Rises NotLater (inserted x ys) →
        Rises NotLater (cond b (x ∷ y ∷ ys) (y ∷ inserted x ys))
    go true is ih = (
      λ e there. elim (Contains-cases y ys e there) [
        | inl z ↦ omega (arith, leb-true x.0 y.0 is, ap (λ (e : ℕ × Ended). e.0) z)
        | inr m ↦ omega (arith, leb-true x.0 y.0 is, rising.0 e m)
      ],
      rising,
    )
    go false is ih = (
      λ e there. elim (in_inserted x ys e there) [
        | inl z ↦ omega (arith, leb-false x.0 y.0 is, ap (λ (e : ℕ × Ended). e.0) z)
        | inr m ↦ rising.0 e m
      ],
      ih,
    )

-- sorted by time, reports are in order of time; by induction on `es`
rises_by_time : (es : List (ℕ × Ended)) → Rises NotLater (by_time es)
rises_by_time [] = tt
rises_by_time (x ∷ es) = rises_inserted x (by_time es) (rises_by_time es)

-- What reports leave in order of time.

-- A report `x` that is inserted among reports `ys` of other processes leaves the same dispatcher as if it came first.
-- By induction on `ys`: reports of different processes can be swapped.
told_inserted : (d : Dispatcher) (x : ℕ × Ended) (ys : List (ℕ × Ended)) →
    ((e : ℕ × Ended) → Contains ys e → Apart x e) →
    after_reports d (inserted x ys) ≡ after_reports (finished d x.1) ys
told_inserted d x [] each = refl
told_inserted d x (y ∷ ys) each =
    go (leb x.0 y.0) (told_inserted (finished d y.1) x ys (λ e there. each e (Contains-rest y ys e there)))
  where
    -- by whether the inserted report comes before the first: two reports of different processes may change places
    go : (b : Bool) →
        after_reports (finished d y.1) (inserted x ys) ≡ after_reports (finished (finished d y.1) x.1) ys →
        after_reports d (cond b (x ∷ y ∷ ys) (y ∷ inserted x ys)) ≡ after_reports (finished d x.1) (y ∷ ys)
    go true ih = refl
    go false ih = ih ∙ ap (λ d. after_reports d ys) (sym (swap d x.1 y.1 (each y (Contains-first y ys))))

-- sorted by time, reports of different processes leave the same dispatcher; by induction on `es`
pub told_by_time : (es : List (ℕ × Ended)) (d : Dispatcher) → Rises Apart es →
    after_reports d (by_time es) ≡ after_reports d es
told_by_time [] d rising = refl
told_by_time (x ∷ es) d rising =
    told_inserted d x (by_time es) (λ e there. rising.0 e (in_by_time es e there))
    ∙ told_by_time es (finished d x.1) rising.1

-- reports `es` of different processes that dispatcher `d` may take one after another may be told to it in order of time
pub tells_by_time : (es : List (ℕ × Ended)) (d : Dispatcher) (from : ℕ) → AllFinish d es → Rises Apart es →
    ((e : ℕ × Ended) → MayFinish d e.0 e.1 → from ≤ e.0) →
    MayReport d from (by_time es)
tells_by_time es d from all rising lo = may_tell (by_time es) d from
    (λ e there. all_may es d all rising e (in_by_time es e there))
    (apart_by_time es rising) (rises_by_time es)
    (λ e there. lo e (all_may es d all rising e (in_by_time es e there)))
