-- The runs of all scenarios are found along an order together: at the first place, over one place, and when a frozen
-- time is set.
use Rattle.std.proofs.Common.{◌≡◌, ◌≢◌, ◌∙◌, ℕ, ◌+◌, ◌*◌, ◌<◌, ◌≤◌, List, [], ◌∷◌, ◌++◌, length, length-set}
use Rattle.std.proofs.Common.{length-append, get_or, set, Option, None, arith, sym, ap, ap₂, inl, inr, subst}
use Rattle.std.proofs.Common.{get_or-set_same, get_or-set_other}
use Rattle.std.proofs.lemmas.Bool.{cases_eq, cases_lt}
use Rattle.std.proofs.lemmas.List.{get_or_append_left}
use Rattle.std.proofs.Math.Seq.{get_or-append_seam}
use Rattle.cpg_base.specs.Graph.{Graph, item_count, item_at}
use Rattle.cpg_base.specs.Scenario.{Scenario}
use Rattle.cpg_order.specs.Urgency.{IsTopological}
use Rattle.cpg_order.proofs.Moments.{phase, phases, phase_below, moment, sooner}
use Rattle.cpg_run.specs.Progress.{ProgressState, IsAlong}
use Rattle.cpg_run.proofs.Agreeing.{along_same}
use Rattle.cpg_all_runs.specs.Sweep.{AreAlong, place_of_item}

-- `found` has n progresses before the first place
pub record AreBeginnings (g : Graph) (n : ℕ) (found : List ProgressState) : Type 0 where
  pub count : length found ≡ n
  pub each : (order : List ℕ) (frozen : List (Option ℕ)) (s : Scenario) (j : ℕ) (p : ProgressState) → j < n →
      IsAlong g order frozen s 0 (get_or found j p)

-- with one more progress before the first place there are n + 1
pub beginnings_more : (g : Graph) (n : ℕ) (found more : List ProgressState) (q : ProgressState) →
    AreBeginnings g n found →
    ((order : List ℕ) (frozen : List (Option ℕ)) (s : Scenario) → IsAlong g order frozen s 0 q)
    → more ≡ found ++ q ∷ [] → AreBeginnings g (n + 1) more
beginnings_more g n found more q begun new is = record {
  count = ap length is ∙ length-append found (q ∷ []) ∙ ap (λ m. m + 1) begun.count;
  each = λ order frozen s j p l. elim (cases_lt j n) [
    | inl before ↦ subst (IsAlong g order frozen s 0)
        (sym (ap (λ ps. get_or ps j p) is ∙ get_or_append_left found (q ∷ []) p j (omega (arith, begun.count))))
        (begun.each order frozen s j p before)
    | inr not_before ↦ let at : j ≡ length found = omega (arith, begun.count) in
        subst (IsAlong g order frozen s 0) (sym (ap₂ (λ ps k. get_or ps k p) is at ∙ get_or-append_seam found q [] p))
        (new order frozen s)
  ];
}

-- the runs of the first n scenarios are found before the place i + 1, and those of the others before i
pub record AreStepped (g : Graph) (order : List ℕ) (frozen : List (Option ℕ)) (i n : ℕ) (list : List Scenario)
    (found : List ProgressState) : Type 0 where
  pub count : length found ≡ length list
  -- the first n have come to the next place
  pub stepped : (j : ℕ) (s : Scenario) (p : ProgressState) → j < n → j < length list →
      IsAlong g order frozen (get_or list j s) (i + 1) (get_or found j p)
  -- the others are still before the place i
  pub others : (j : ℕ) (s : Scenario) (p : ProgressState) → n ≤ j → j < length list →
      IsAlong g order frozen (get_or list j s) i (get_or found j p)

-- given: a list of scenarios, and a place i of the order
module _ (g : Graph) (order : List ℕ) (frozen : List (Option ℕ)) (i : ℕ) (list : List Scenario) where
  -- if the n-th progress is replaced by one before the place i + 1, the first n + 1 are found before that
  pub stepped_more : (n : ℕ) (found more : List ProgressState) (q : ProgressState) →
      AreStepped g order frozen i n list found → n < length list
      → ((s : Scenario) → IsAlong g order frozen (get_or list n s) (i + 1) q) → more ≡ set found n q →
      AreStepped g order frozen i (n + 1) list more
  stepped_more n found more q so_far within new is = record {
    count = ap length is ∙ length-set found n q ∙ so_far.count;
    stepped = λ j s p before inside. elim (cases_eq j n) [
      | inl is_n ↦ subst (λ m. IsAlong g order frozen (get_or list m s) (i + 1) (get_or more m p)) (sym is_n)
          (subst (IsAlong g order frozen (get_or list n s) (i + 1))
          (sym (ap (λ ps. get_or ps n p) is ∙ get_or-set_same found n q p (omega (arith, so_far.count)))) (new s))
      | inr other ↦ subst (IsAlong g order frozen (get_or list j s) (i + 1))
          (sym (ap (λ ps. get_or ps j p) is ∙ get_or-set_other found n j q p other))
          (so_far.stepped j s p (omega arith) inside)
    ];
    others = λ j s p not_before inside. subst (IsAlong g order frozen (get_or list j s) i)
        (sym (ap (λ ps. get_or ps j p) is
        ∙ get_or-set_other found n j q p (λ same. omega arith))) (so_far.others j s p (omega arith) inside);
  }

  -- after the last scenario the runs of all are found before the place i + 1
  pub stepped_all : (n : ℕ) (found : List ProgressState) → AreStepped g order frozen i n list found → n ≡ length list →
      AreAlong g order frozen (i + 1) list found
  stepped_all n found so_far is_all =
      record { count = so_far.count; each = λ j s p inside. so_far.stepped j s p (omega arith) inside }

  -- what is found before the place i stays right if an item of that place gets a frozen time, as it rests on earlier
  -- ones alone
  pub along_kept : IsTopological g order → (more : List (Option ℕ)) (x : ℕ) (found : List ProgressState) →
      place_of_item g order x ≡ i →
      ((y : ℕ) → y ≢ x → get_or more y None ≡ get_or frozen y None)
      → AreAlong g order frozen i list found → AreAlong g order more i list found
  along_kept topological more x found at same along = record {
    count = along.count;
    each = λ j s p inside. along_same g order topological frozen more (get_or list j s) i (get_or found j p)
        (λ y below earlier. sym (same y (λ is_x. omega (arith, ap (place_of_item g order) is_x, at))))
        (along.each j s p inside);
  }

-- over plain numbers: if a * m + f is less than b * m + h, with h below m, a is at most b
no_earlier_place : (a b f h m : ℕ) → a * m + f < b * m + h → h < m → a ≤ b
no_earlier_place a b f h m less_in_all h_below =
    elim (cases_lt b a) [
      | inl b_less ↦ absurd (let by_b = sooner b a h m b_less h_below in omega arith)
      | inr more ↦ more
    ]

-- what has a later moment has no earlier place
pub later_place : (g : Graph) (order : List ℕ) (x y : ℕ) → y < item_count g → moment g order x < moment g order y →
    place_of_item g order x ≤ place_of_item g order y
later_place g order x y below later =
    no_earlier_place (place_of_item g order x) (place_of_item g order y) (phase (item_at g x))
    (phase (item_at g y)) (phases g) later (phase_below g y below)
