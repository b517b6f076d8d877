-- The first scenario that passes a test, if there is one, and the first of the answers to a list of questions.
use Rattle.std.specs.Prelude.{ℕ, ◌≡◌, Bool, false, if◌then◌else◌, IsTrue, List, [], ◌∷◌, Option, None, Some}
use Rattle.cpg_base.specs.Graph.{Graph}
use Rattle.cpg_base.specs.Scenario.{Scenario, IsScenario, IsLeast, is_before}

-- The answer is the first scenario of the graph that passes the test, along the order, and None if there is no such
-- scenario.
abbrev pub IsFirst : Graph → List ℕ → (Scenario → Bool) → Option Scenario → Type 0
IsFirst g order test None = (s : Scenario) → IsScenario g s → test s ≡ false
IsFirst g order test (Some s) = IsLeast g order (λ t. IsTrue (test t)) s

-- the earlier of two answers: the only one if the other is None, and the first if neither comes before the other
abbrev pub earlier : Graph → List ℕ → Option Scenario → Option Scenario → Option Scenario
earlier g order None b = b
earlier g order (Some s) None = Some s
earlier g order (Some s) (Some t) = if is_before g order t s then Some t else Some s

-- the earliest of the answers to these questions, and None if each of them is None
abbrev pub first_of : {X : Type 0} → Graph → List ℕ → (X → Option Scenario) → List X → Option Scenario
first_of g order answer [] = None
first_of g order answer (x ∷ xs) = earlier g order (answer x) (first_of g order answer xs)
