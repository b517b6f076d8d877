-- Generated graphs keep the rules of admission, each for every number.
use Rattle.std.specs.Prelude.{ℕ, ◌≡◌, ◌≤◌}
use Rattle.cpg_base.specs.WellFormed.{HasSingleJoins}
use Rattle.cpg_order.specs.Cycle.{HasCycle}
use Rattle.cpg_order.specs.Track.{track_count}
use Rattle.cpg_rules.specs.declared.admission.RuleFault.{RuleFault}
use Rattle.cpg_rules.specs.declared.admission.RuleFault.TheVariants.{OutOfMemory}
use Rattle.cpg_rules.specs.Rules.{AllFit}
use Rattle.cpg_rules.specs.Faults.{ShowsFault}
use Rattle.cpg_gen.specs.Generated.{generated}

-- no generated graph has a cycle
abbrev pub GeneratedHaveNoCycle : Type 0
GeneratedHaveNoCycle = (number : ℕ) → HasCycle (generated number) → ⊥

-- a generated graph has at most four tracks: it has two conditions
abbrev pub GeneratedHaveFewTracks : Type 0
GeneratedHaveFewTracks = (number : ℕ) → track_count (generated number) ≤ 4

-- no outcome makes two inputs of the join live
abbrev pub GeneratedHaveSingleJoins : Type 0
GeneratedHaveSingleJoins = (number : ℕ) → HasSingleJoins (generated number)

-- each message fits into its sender's slot
abbrev pub GeneratedMessagesFit : Type 0
GeneratedMessagesFit = (number : ℕ) → AllFit (generated number)

-- no generated graph is refused, except that memory may run out
abbrev pub GeneratedShowNoFault : Type 0
GeneratedShowNoFault = (number : ℕ) (fault : RuleFault) → ShowsFault (generated number) fault → fault ≡ OutOfMemory
