-- A list of runs with one more, and numbers that are read off runs.
use Rattle.std.proofs.Common.{◌≡◌, ◌∙◌, ℕ, ◌+◌, ◌<◌, List, [], ◌∷◌, ◌++◌, map, length, get_or, Option, arith, sym, ap}
use Rattle.std.proofs.Common.{ap₂, subst, inl, inr, length-append}
use Rattle.std.proofs.lemmas.Bool.{cases_lt}
use Rattle.std.proofs.lemmas.List.{get_or_append_left, get_or-map, length-map}
use Rattle.std.proofs.Math.Seq.{get_or-append_seam}
use Rattle.cpg_base.specs.Graph.{Graph}
use Rattle.cpg_base.specs.Scenario.{Scenario}
use Rattle.cpg_run.specs.Run.{Times, IsRun}
use Rattle.cpg_all_runs.specs.Runs.{AreFirstRuns, AreRuns}

-- some run of the scenario has the number
abbrev pub HasIn : Graph → List ℕ → List (Option ℕ) → (Times → ℕ) → ℕ → Scenario → Type 0
HasIn g order frozen value n s = (t : Times) × IsRun g order frozen s t × (value t ≡ n)

-- the number at each place of `numbers` is that of some run of the scenario there
pub record AreMeasured (g : Graph) (order : List ℕ) (frozen : List (Option ℕ)) (value : Times → ℕ)
    (list : List Scenario) (numbers : List ℕ) : Type 0 where
  pub long : length numbers ≡ length list
  pub each : (i : ℕ) (s : Scenario) → i < length list →
      HasIn g order frozen value (get_or numbers i 0) (get_or list i s)

-- given: a graph, an order and frozen times, under which runs are taken
module _ (g : Graph) (order : List ℕ) (frozen : List (Option ℕ)) where
  -- if t, the run of the n-th scenario, is added to the runs of the first n, these are the runs of the first n + 1
  pub runs_more : (n : ℕ) (list : List Scenario) (runs more : List Times) (t : Times) →
      AreFirstRuns g order frozen n list runs →
      ((d : Scenario) → IsRun g order frozen (get_or list n d) t) →
      more ≡ runs ++ t ∷ [] → AreFirstRuns g order frozen (n + 1) list more
  runs_more n list runs more t runs_are new is = record {
    count = ap length is ∙ length-append runs (t ∷ []) ∙ ap (λ m. m + 1) runs_are.count;
    -- the runs so far stay where they are, and the new one is at n
    each = λ i s d within. elim (cases_lt i n) [
      | inl less ↦ subst (IsRun g order frozen (get_or list i s))
          (sym (ap (λ ts. get_or ts i d) is ∙ get_or_append_left runs (t ∷ []) d i (omega (arith, runs_are.count))))
          (runs_are.each i s d less)
      | inr not_less ↦
          let at : i ≡ length runs = omega (arith, runs_are.count) in
          let same : n ≡ i = omega arith in
          subst (IsRun g order frozen (get_or list i s))
          (sym (ap₂ (λ ts j. get_or ts j d) is at ∙ get_or-append_seam runs t [] d))
          (subst (λ j. IsRun g order frozen (get_or list j s) t) same (new s))
    ];
  }

  -- the numbers that are read off runs are those of their scenarios
  pub measured : (value : Times → ℕ) (list : List Scenario) (runs : List Times) (numbers : List ℕ) →
      AreRuns g order frozen list runs →
      numbers ≡ map value runs →
      AreMeasured g order frozen value list numbers
  measured value list runs numbers runs_are is = record {
    long = ap length is ∙ length-map runs value ∙ runs_are.count;
    each = λ i s within. let t = get_or runs i no_run in (
      t,
      runs_are.each i s no_run within,
      sym (ap (λ ns. get_or ns i 0) is ∙ get_or-map value runs i no_run 0 (omega (arith, runs_are.count))),
    );
  }
    where
      -- the default where there is no run
      no_run : Times
      no_run = record { times = []; ends = []; finish = 0 }
