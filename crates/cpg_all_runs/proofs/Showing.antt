-- Lists of scenarios that show all runs of others: each of those has the runs of some scenario of the list.
use Rattle.std.proofs.Common.{◌≡◌, ◌≢◌, ◌∙◌, ℕ, ◌+◌, ◌<◌, List, [], ◌∷◌, ◌++◌, length, length-append, get_or, Contains}
use Rattle.std.proofs.Common.{arith, refl, sym, ap, subst, inl, inr}
use Rattle.std.proofs.lemmas.Bool.{cases_eq}
use Rattle.std.proofs.lemmas.List.{get_or_append_left, get_or_default}
use Rattle.std.proofs.lemmas.List.Elements.{Contains-append_cases}
use Rattle.std.proofs.Math.Seq.{get_or-append_seam}
use Rattle.cpg_base.specs.Graph.{Graph}
use Rattle.cpg_base.specs.Scenario.{Scenario, IsScenario, zero_scenario}
use Rattle.cpg_base.proofs.Lists.{Contains-cases, Contains-nil}
use Rattle.cpg_all_runs.specs.Active.{HaveSameRuns, IsShown, AreExamples}
use Rattle.cpg_all_runs.specs.FirstAlike.{scenario_at, AreFirstAlike}
use Rattle.cpg_all_runs.specs.Listing.{AreScenarios}

-- the list has scenarios of the graph, and shows the first n of `scenarios`
pub record AreFirstExamples (g : Graph) (n : ℕ) (scenarios list : List Scenario) : Type 0 where
  pub lawful : (s : Scenario) → Contains list s → IsScenario g s
  pub shown : (i : ℕ) → i < n → IsShown g list (scenario_at g scenarios i)

module _ (g : Graph) where
  -- a scenario has the same runs as itself
  same_itself : (s : Scenario) → HaveSameRuns g s s
  same_itself s =
      record { onward = λ order frozen t topological run. run; back = λ order frozen t topological run. run }

  -- if s has the runs of r, and r those of u, s has those of u
  same_through : (s r u : Scenario) → HaveSameRuns g s r → HaveSameRuns g r u → HaveSameRuns g s u
  same_through s r u s_to_r r_to_u = record {
    onward =
        λ order frozen t topological run. r_to_u.onward order frozen t topological
        (s_to_r.onward order frozen t topological run);
    back = λ order frozen t topological run. s_to_r.back order frozen t topological
        (r_to_u.back order frozen t topological run);
  }

  -- what a list shows, it shows with one more scenario too
  shown_longer : (list : List Scenario) (r s : Scenario) → IsShown g list s → IsShown g (list ++ r ∷ []) s
  shown_longer list r s shown = (
    shown.0,
    omega (arith, shown.1, length-append list (r ∷ [])),
    λ d. subst (λ z. HaveSameRuns g z s) (sym (get_or_append_left list (r ∷ []) d shown.0 shown.1)) (shown.2 d),
  )

  -- a list shows its last scenario
  shown_itself : (list : List Scenario) (r : Scenario) → IsShown g (list ++ r ∷ []) r
  shown_itself list r = (
    length list,
    omega (arith, length-append list (r ∷ [])),
    λ d. subst (λ z. HaveSameRuns g z r) (sym (get_or-append_seam list r [] d)) (same_itself r),
  )

  -- a list of scenarios of the graph, with one more of the graph, has scenarios of the graph alone
  lawful_longer : (list : List Scenario) (r : Scenario) → IsScenario g r →
      ((s : Scenario) → Contains list s → IsScenario g s) → (s : Scenario) → Contains (list ++ r ∷ []) s →
      IsScenario g s
  lawful_longer list r is lawful s listed = elim (Contains-append_cases list (r ∷ []) s listed) [
    | inl in_list ↦ lawful s in_list
    | inr is_last ↦ elim (Contains-cases r [] s is_last) [
      | inl same ↦ subst (IsScenario g) same is
      | inr none ↦ absurd (Contains-nil s none)
    ]
  ]

  -- given: a list that shows the first n scenarios
  module _ (n : ℕ) (scenarios list : List Scenario) (so_far : AreFirstExamples g n scenarios list)
      (within : n < length scenarios) where
    -- with the n-th scenario added, the list shows the first n + 1
    pub examples_more : (more : List Scenario) (r : Scenario) → r ≡ scenario_at g scenarios n → IsScenario g r →
        more ≡ list ++ r ∷ [] →
        AreFirstExamples g (n + 1) scenarios more
    examples_more more r at is grown = record {
      lawful = λ s listed. lawful_longer list r is so_far.lawful s (subst (λ l. Contains l s) grown listed);
      shown = λ i inside. subst (λ l. IsShown g l (scenario_at g scenarios i)) (sym grown) (elim (cases_eq i n) [
        | inl is_n ↦ subst (IsShown g (list ++ r ∷ [])) (at ∙ ap (scenario_at g scenarios) (sym is_n))
            (shown_itself list r)
        | inr apart ↦ shown_longer list r (scenario_at g scenarios i) (so_far.shown i (omega arith))
      ]);
    }

    -- if an earlier scenario has the active numbers of the n-th, the list shows the first n + 1 as it is
    pub examples_kept : (firsts : List ℕ) → AreFirstAlike g scenarios firsts → get_or firsts n 0 ≢ n →
        AreFirstExamples g (n + 1) scenarios list
    examples_kept firsts alike other = record {
      lawful = so_far.lawful;
      shown = λ i inside. elim (cases_eq i n) [
        -- what is shown of the first scenario with the active numbers of scenario n shows scenario n too
        | inl is_n ↦
            let shown_at = get_or firsts n 0 in
            let up = alike.places.least n n within refl in
            let shown = so_far.shown shown_at (omega arith) in
            subst (λ j. IsShown g list (scenario_at g scenarios j)) (sym is_n) (
              shown.0,
              shown.1,
              λ d. same_through (get_or list shown.0 d) (scenario_at g scenarios shown_at) (scenario_at g scenarios n)
                  (shown.2 d)
                  (alike.runs n within),
            )
        | inr apart ↦ so_far.shown i (omega arith)
      ];
    }

  -- a list that shows all scenarios of the graph is one of examples
  pub examples_all : (n : ℕ) (scenarios list : List Scenario) → AreScenarios g scenarios → n ≡ length scenarios →
      AreFirstExamples g n scenarios list →
      AreExamples g list
  examples_all n scenarios list all is_length so_far = record {
    lawful = so_far.lawful;
    all = λ s is. let listed = all.all s is in subst (IsShown g list)
        (get_or_default scenarios listed.0 (zero_scenario g) s listed.1 ∙ listed.2)
        (so_far.shown listed.0 (omega (arith, listed.1)));
  }
