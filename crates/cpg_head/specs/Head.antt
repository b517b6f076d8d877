-- The head of a pack: what its tables were made for.
use Rattle.std.specs.Prelude.{ℕ, ◌≡◌, ◌+◌, ◌^◌, ◌≤◌, ◌<◌, List, Option, length, is_some, slice_get, option_and_then}
use Rattle.std.specs.Prelude.{count_by, All, IfSome, if◌then◌else◌}
use Rattle.cpg_base.specs.declared.limits.TheConstants.{MOST_FAULTS, MOST_NODES, MOST_PROCESSES, MOST_EDGES}
use Rattle.cpg_base.specs.declared.limits.TheConstants.{MOST_CONDITIONS, LONGEST}
pub use Rattle.cpg_head.specs.declared.head_parts.HeadProcess.{HeadProcess}
pub use Rattle.cpg_head.specs.declared.head_parts.Extra.{Extra}

-- What the head of a pack says.
pub record Head : Type 0 where
  -- the most faults in a cycle that the tables tolerate
  pub faults : ℕ
  -- the names of the nodes, each as its bytes, by number
  pub nodes : List (List ℕ)
  -- what is said of each process, by number
  pub processes : List HeadProcess
  -- the processes that each edge leads from and to
  pub edges : List (ℕ × ℕ)
  -- a release and perhaps a deadline for each process; None in version 1 of the pack, which has neither
  pub extras : Option (List Extra)

-- what a head says of a process is in range
pub record IsHeadProcess (faults nodes : ℕ) (p : HeadProcess) : Type 0 where
  -- its node is one of `nodes` nodes
  pub node : p.node < nodes
  -- it has a duration for each number of faults from 0 to `faults`
  pub count : length p.times ≡ faults + 1
  -- all durations are below 2 ^ 60
  pub times : All (λ t. t < 2 ^ 60) p.times

-- an edge leads from one of `processes` processes to one of them
pub record IsHeadEdge (processes : ℕ) (e : ℕ × ℕ) : Type 0 where
  -- the process that it leads from is one of them
  pub from : e.0 < processes
  -- the process that it leads to is one of them
  pub to : e.1 < processes

-- what version 2 adds for a process is in range
pub record IsExtra (e : Extra) : Type 0 where
  -- its release is at most the longest time
  pub release : e.release ≤ LONGEST
  -- its deadline is at most the longest time, if it has one of its own
  pub deadline : IfSome e.deadline (λ d. d ≤ LONGEST)

-- what version 2 adds for `processes` processes is in range
pub record AreExtras (processes : ℕ) (extras : List Extra) : Type 0 where
  -- there is an `Extra` for each process
  pub count : length extras ≡ processes
  -- each is in range
  pub each : All IsExtra extras

-- a head that a pack can have
pub record IsHead (h : Head) : Type 0 where
  -- a cycle has few enough faults
  pub faults : h.faults ≤ MOST_FAULTS
  -- there are few enough nodes, processes, conditions and edges
  pub few_nodes : length h.nodes ≤ MOST_NODES
  pub few_processes : length h.processes ≤ MOST_PROCESSES
  pub few_conditions : count_by (λ p. p.condition) h.processes ≤ MOST_CONDITIONS
  pub few_edges : length h.edges ≤ MOST_EDGES
  -- what is said of each process is in range
  pub processes : All (IsHeadProcess h.faults (length h.nodes)) h.processes
  -- each edge leads from one of the processes to one of them
  pub edges : All (IsHeadEdge (length h.processes)) h.edges
  -- in version 2 there is an `Extra` for each process, in range
  pub extras : IfSome h.extras (AreExtras (length h.processes))

-- the version of a pack with this head: 2 if it adds releases and deadlines
abbrev pub version_of : Head → ℕ
version_of h = if is_some h.extras then 2 else 1

-- what version 2 adds for process p; None in version 1, or if there is no such process
abbrev pub extra_at : Head → ℕ → Option Extra
extra_at h p = option_and_then (λ extras. slice_get extras p) h.extras
