-- The processes along an order, each with what its activation rests on.
use Rattle.std.specs.Prelude.{ℕ, ◌<◌, Bool, List, Option, All, map}
use Rattle.cpg_base.specs.Graph.{Graph, process_at, edge_at, source, inputs, condition_of}
use Rattle.cpg_rules.specs.declared.steps.Input.{Input}

-- a process with what says how it is active
pub record ActivationStep : Type 0 where
  -- the number of the process
  pub process : ℕ
  -- whether it is a join
  pub join : Bool
  -- its inputs, by edge number
  pub inputs : List Input
  -- the number of its condition, if it has one
  pub condition : Option ℕ

-- an edge as an input of its target
abbrev pub input_of : Graph → ℕ → Input
input_of g e = record { edge = e; source = source g e; when = (edge_at g e).when }

-- the step of a process
abbrev pub step_of : Graph → ℕ → ActivationStep
step_of g p = record {
  process = p;
  join = (process_at g p).join;
  inputs = map (input_of g) (inputs g p);
  condition = condition_of g p;
}

-- a step refers only to numbers of processes below `count`
pub record IsStepBelow (count : ℕ) (step : ActivationStep) : Type 0 where
  -- its own process
  pub process : step.process < count
  -- the sources of its inputs
  pub inputs : All (λ i. i.source < count) step.inputs
