-- The space of a cube: it has each scenario of the graph that the cube matches.
use Rattle.std.proofs.Common.{ℕ, ◌≡◌, true, false, List, Option, None, Some, sym, subst, ap, ◌∙◌}
use Rattle.std.specs.Prelude.{IfNone, IfSome}
use Rattle.std.proofs.lemmas.Bool.{both_ways}
use Rattle.std.proofs.lemmas.Option.{none-some}
use Rattle.cpg_base.specs.Graph.{Graph}
use Rattle.cpg_base.specs.Scenario.{Scenario, IsScenario}
use Rattle.cpg_cube.specs.Cube.{matches}
use Rattle.cpg_cube.specs.declared.literal.Literal.{Literal}
use Rattle.cpg_tree.specs.declared.space.Space.{Space}
use Rattle.cpg_tree.specs.Space.{HasAtMostFaults, IsInSpace}
use Rattle.cpg_tree.proofs.OnePath.{scenario_few}

-- given: a scenario of a graph, and the most faults as a space counts them
module _ (g : Graph) (k : ℕ) (faults : k ≡ g.faults) (s : Scenario) (lawful : IsScenario g s) where
  -- a scenario of the graph has at most the graph's faults
  pub few_of : HasAtMostFaults k s
  few_of = subst (λ k. HasAtMostFaults k s) (sym faults) (scenario_few g s lawful)

  -- given: a cube that the scenario matches, and the space that may have been made of its literals
  module _ (cube literals : List Literal) (same : literals ≡ cube) (matched : matches cube s ≡ true)
      (o : Option Space) where
    -- there is a space, since without one no scenario would match
    pub not_none : o ≡ None → IfNone o ((s : Scenario) → HasAtMostFaults k s → matches literals s ≡ false) → ⊥
    not_none is_none none = go o is_none none
      where
        -- by cases of whether there is one
        go : (o : Option Space) → o ≡ None →
            IfNone o ((s : Scenario) → HasAtMostFaults k s → matches literals s ≡ false) → ⊥
        go (Some space) is_none none = none-some space (sym is_none)
        go None is_none none = both_ways (matches literals s) (none s few_of) (ap (λ c. matches c s) same ∙ matched)

    -- the scenario lies in the space
    pub lies_in : (space : Space) → o ≡ Some space →
        IfSome o (λ r. (s : Scenario) → HasAtMostFaults k s → matches literals s ≡ true → IsInSpace r s) →
        IsInSpace space s
    lies_in space is_space some =
        subst (λ o. IfSome o (λ r. (s : Scenario) → HasAtMostFaults k s → matches literals s ≡ true → IsInSpace r s))
        is_space
        some s few_of (ap (λ c. matches c s) same ∙ matched)
