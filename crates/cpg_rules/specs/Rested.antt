-- The steps that a walk rests on: those that it is for, and before them those that they have inputs from.
use Rattle.std.specs.Prelude.{ℕ, Bool, ◌||◌, ◌==◌, if◌then◌else◌, List, [], ◌∷◌, is_some}
use Rattle.std.specs.List.{list_any}
use Rattle.cpg_rules.specs.declared.steps.Aim.{Aim}
use Rattle.cpg_rules.specs.declared.steps.Aim.TheVariants.{Process, Conditions}
use Rattle.cpg_rules.specs.Steps.{ActivationStep}

-- whether a walk with this aim is for a step: for the process, or, if the aim is the conditions, for each that has one
abbrev pub is_aim : Aim → ActivationStep → Bool
is_aim (Process p) step = step.process == p
is_aim Conditions step = is_some step.condition

-- whether a step has an input from a process
abbrev pub reads : ℕ → ActivationStep → Bool
reads p step = list_any (λ i. i.source == p) step.inputs

-- whether one of the steps has an input from a process
abbrev pub are_reading : List ActivationStep → ℕ → Bool
are_reading steps p = list_any (reads p) steps

-- whether the walk rests on a step, if these are the later ones that it rests on: it is for the step, or one of these has
-- an input from it
abbrev pub is_rested : Aim → ActivationStep → List ActivationStep → Bool
is_rested aim step later = is_aim aim step || are_reading later step.process

-- the steps among these that the walk rests on, in the same order; the last is judged first
abbrev pub rested : Aim → List ActivationStep → List ActivationStep
rested aim [] = []
rested aim (step ∷ steps) = if is_rested aim step (rested aim steps) then step ∷ rested aim steps else rested aim steps
