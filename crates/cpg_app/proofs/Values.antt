-- A scenario whose values are made true one by one, with two faults of the first process.
use Rattle.std.proofs.Common.{ℕ, zero, suc, ◌+◌, ◌-◌, ◌<◌, ◌≤◌, ◌≡◌, ◌∙◌, Bool, true, false, List, ◌∷◌, ◌++◌, length}
use Rattle.std.proofs.Common.{replicate, refl, ap, arith}
use Rattle.std.specs.Prelude.{slice_set}
use Rattle.std.proofs.lemmas.List.Folds.{sum_by-replicate}
use Rattle.std.proofs.lemmas.List.Sums.{sum_by-set}
use Rattle.std.proofs.lemmas.List.{length-replicate, length-set}
use Rattle.cpg_base.specs.Graph.{Graph, process_count, condition_count}
use Rattle.cpg_base.specs.Scenario.{IsScenario}
use Rattle.cpg_app.specs.Trial.{true_scenario}

-- setting the first of `n + 1` false values after `c` true ones gives one true value more; by induction on `c`
one_true : (c n : ℕ) →
    slice_set (replicate c true ++ replicate (suc n) false) c true ≡ replicate (suc c) true ++ replicate n false
one_true zero n = refl
one_true (suc c) n = ap (λ vs. true ∷ vs) (one_true c n)

-- setting the value after `c` true ones of `vs` to true makes one true value more, in `new`
pub next_true : (count c : ℕ) (vs new : List Bool) → c < count → vs ≡ replicate c true ++ replicate (count - c) false →
    new ≡ slice_set vs c true →
    new ≡ replicate (c + 1) true ++ replicate (count - (c + 1)) false
next_true count c vs new below is made =
    let left : count - c ≡ suc (count - (c + 1)) = omega arith in
    let more : suc c ≡ c + 1 = omega arith in
    made ∙ ap (λ xs. slice_set xs c true) (is ∙ ap (λ n. replicate c true ++ replicate n false) left)
    ∙ one_true c (count - (c + 1)) ∙
    ap (λ n. replicate n true ++ replicate (count - (c + 1)) false) more

-- the scenario with all values true and two faults of the first process is one of the graph
pub true_lawful : (g : Graph) → 0 < process_count g → 2 ≤ g.faults → IsScenario g (true_scenario g)
true_lawful g some h =
    let none = replicate {A = ℕ} (process_count g) 0 in
    let count : length none ≡ process_count g = length-replicate {A = ℕ} (process_count g) 0 in
    record {
      values = length-replicate (condition_count g) true;
      faults = length-set none 0 2 ∙ count;
      budget = omega (
        arith,
        sum_by-set (λ (x : ℕ). x) none 0 2 0 (omega (arith, some, count)),
        sum_by-replicate (λ (x : ℕ). x) (process_count g) 0,
        h,
      );
    }
