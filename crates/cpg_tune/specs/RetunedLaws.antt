-- A graph that keeps the rules of admission keeps them with other parts and another fault number: no rule looks at these.
use Rattle.std.specs.Prelude.{ℕ, ◌≡◌, List, length}
use Rattle.cpg_base.specs.Graph.{Graph, process_count}
use Rattle.cpg_base.specs.WellFormed.{HasSingleJoins, HasSenderSlots}
use Rattle.cpg_order.specs.Cycle.{HasCycle}
use Rattle.cpg_order.specs.Track.{track_count}
use Rattle.cpg_rules.specs.Guards.{Guards}
use Rattle.cpg_rules.specs.declared.admission.RuleFault.{RuleFault}
use Rattle.cpg_rules.specs.declared.admission.RuleFault.TheVariants.{OutOfMemory}
use Rattle.cpg_rules.specs.Rules.{AllFit}
use Rattle.cpg_rules.specs.Given.{GivesTopological}
use Rattle.cpg_rules.specs.Admission.{IsAdmitted}
use Rattle.cpg_rules.specs.Faults.{ShowsFault}
use Rattle.cpg_tune.specs.Retuned.{retuned}
use Rattle.cpg_tune.specs.Asked.{row_graph}

-- graph h keeps each rule of admission that graph g keeps
pub record KeepsRules (g h : Graph) : Type 0 where
  -- if h has a cycle, g has one
  pub cycle : HasCycle h → HasCycle g
  -- both have equally many tracks
  pub tracks : track_count h ≡ track_count g
  -- the other rules: on joins, on slots, on sizes of messages, and on a given order
  pub joins : HasSingleJoins g → HasSingleJoins h
  pub slots : HasSenderSlots g → HasSenderSlots h
  pub sizes : AllFit g → AllFit h
  pub given : GivesTopological g → GivesTopological h

-- a graph with any parts and any fault number keeps the rules that the graph itself keeps
abbrev pub RetunedKeepRules : Type 0
RetunedKeepRules =
    (g : Graph) (parts : List ℕ) (faults : ℕ) → length parts ≡ process_count g → KeepsRules g (retuned g parts faults)

-- the graph isn't refused, except that memory may run out
abbrev pub ShowsNoFault : Graph → Type 0
ShowsNoFault g = (fault : RuleFault) → ShowsFault g fault → fault ≡ OutOfMemory

-- an admitted graph is not refused with other parts and another fault number, unless memory runs out
abbrev pub RetunedShowNoFault : Type 0
RetunedShowNoFault =
    (g : Graph) (order : List ℕ) (guards : Guards) → IsAdmitted g order guards → (parts : List ℕ) (faults : ℕ) →
    length parts ≡ process_count g → ShowsNoFault (retuned g parts faults)

-- an admitted graph is not refused with its best parts and another fault number, unless memory runs out
abbrev pub TunedShowNoFault : Type 0
TunedShowNoFault = (g : Graph) (order : List ℕ) (guards : Guards) → IsAdmitted g order guards → (faults : ℕ) →
    ShowsNoFault (row_graph g faults)
