-- How processes stand along the order. The walk goes both ways at each active process that has a condition.
use Rattle.std.specs.Prelude.{ℕ, ◌+◌, Bool, true, false, if◌then◌else◌, List, [], ◌∷◌, Option, Some, None, get_or}
use Rattle.std.specs.Prelude.{slice_set}
use Rattle.std.specs.List.{list_all}
use Rattle.cpg_base.specs.declared.activation.Activation.{Activation}
use Rattle.cpg_base.specs.declared.activation.Activation.TheVariants.{Inactive, Plain, By}
use Rattle.cpg_base.specs.Activity.{is_active, takes}
use Rattle.cpg_rules.specs.declared.steps.Input.{Input}
use Rattle.cpg_rules.specs.Steps.{ActivationStep}

-- On a way each process so far has a standing: None if it is inactive, and otherwise the value of its condition, false
-- if it has none. A list of standings is by process; processes that are still to come have None.

-- whether an edge with this `when` is live, by the standing of its source
abbrev pub is_taken : Option Bool → Option Bool → Bool
is_taken when None = false
is_taken when (Some value) = takes when value

-- whether an input is live by these standings
abbrev pub is_live_in : List (Option Bool) → Input → Bool
is_live_in standings i = is_taken i.when (get_or standings i.source None)

-- how a join is active: by the first of its inputs that is live, or not at all
abbrev pub first_live : List (Option Bool) → List Input → Activation
first_live standings [] = Inactive
first_live standings (i ∷ is) = if is_live_in standings i then By i.edge else first_live standings is

-- How a process with these inputs is active, by the standings of its sources. The cases are those of `activation_by`.
abbrev pub activation_from : Bool → List (Option Bool) → List Input → Activation
activation_from join standings [] = Plain
activation_from true standings (i ∷ is) = first_live standings (i ∷ is)
activation_from false standings (i ∷ is) = if list_all (is_live_in standings) (i ∷ is) then Plain else Inactive

-- how the process of a step is active, by the standings of its sources
abbrev pub activation_in : List (Option Bool) → ActivationStep → Activation
activation_in standings step = activation_from step.join standings step.inputs

-- the standing of a process with this activation, if its condition has the value
abbrev pub standing : Activation → Bool → Option Bool
standing a value = if is_active a then Some value else None

-- the condition whose two values both have to be tried: that of an active process, if it has one
abbrev pub choice : Activation → Option ℕ → Option ℕ
choice a condition = if is_active a then condition else None

-- the standings with that of the step's process too, if its condition has the value
abbrev pub settled : List (Option Bool) → ActivationStep → Bool → List (Option Bool)
settled standings step value = slice_set standings step.process (standing (activation_in standings step) value)

-- n if there is a condition to choose, and 0 if there is none, since then there is no second way
abbrev pub if_both : Option ℕ → ℕ → ℕ
if_both None n = 0
if_both (Some c) n = n

-- how many tracks begin with the standings so far, if these steps are left: both ways at a choice, else one
abbrev pub tracks_from : List ActivationStep → List (Option Bool) → ℕ
tracks_from [] standings = 1
tracks_from (step ∷ steps) standings =
    tracks_from steps (settled standings step false)
    + if_both (choice (activation_in standings step) step.condition) (tracks_from steps (settled standings step true))
