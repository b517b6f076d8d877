-- Laws on the refusal of graphs.
use Rattle.std.specs.Prelude.{ℕ, ◌≡◌, ◌≢◌, ◌<◌, ◌≤◌, ◌↔◌, List, Result, Ok, Err, ⊤}
use Rattle.cpg_base.specs.Graph.{Graph}
use Rattle.cpg_base.specs.Scenario.{Scenario}
use Rattle.cpg_base.specs.WellFormed.{HasSingleJoins, HasSenderSlots}
use Rattle.cpg_order.specs.Cycle.{IsCycle, HasCycle}
use Rattle.cpg_order.specs.Track.{track_count, most_tracks}
use Rattle.cpg_order.specs.Urgency.{IsUrgencyOrder}
use Rattle.cpg_rules.specs.Alternatives.{AreAlternatives}
use Rattle.cpg_rules.specs.Admission.{Admission, IsAdmitted}
use Rattle.cpg_rules.specs.Faults.{ShowsFault}
use Rattle.cpg_rules.specs.Given.{IsBadOrder}
use Rattle.cpg_rules.specs.Rules.{AllFit, LacksSlot, IsAboveSlot}
use Rattle.cpg_rules.specs.declared.admission.RuleFault.{RuleFault}
use Rattle.cpg_rules.specs.declared.admission.RuleFault.TheVariants.{Cycle, TooManyTracks, TwoAlternatives, NoSlot}
use Rattle.cpg_rules.specs.declared.admission.RuleFault.TheVariants.{TooBig, BadOrder, OutOfMemory}

-- what `admit` may return for a graph, by its contract
abbrev pub MayAnswer : Graph → Result Admission RuleFault → Type 0
MayAnswer g (Ok a) = (a.graph ≡ g) × IsAdmitted a.graph a.order a.guards
MayAnswer g (Err fault) = ShowsFault g fault

-- the answer is that the graph has a cycle
abbrev pub IsForCycle : Result Admission RuleFault → Type 0
IsForCycle answer = (walk : List ℕ) × (answer ≡ Err (Cycle walk))

-- the answer tells cycles exactly
pub record RefusesCycles (g : Graph) (answer : Result Admission RuleFault) : Type 0 where
  -- the graph is refused for a cycle exactly if it has one
  pub exact : IsForCycle answer ↔ HasCycle g
  -- the cycle shown is one of the graph's
  pub shown : (walk : List ℕ) → answer ≡ Err (Cycle walk) → IsCycle g walk

-- each graph is refused for a cycle exactly if it has one, whatever else is wrong with it, unless memory runs out
abbrev pub CyclesAreRefusedFirst : Type 0
CyclesAreRefusedFirst = (g : Graph) (answer : Result Admission RuleFault) → MayAnswer g answer →
    answer ≢ Err OutOfMemory → RefusesCycles g answer

-- the place of a refusal's cause in the order in which causes are looked for
abbrev pub rank_of_fault : RuleFault → ℕ
rank_of_fault (Cycle walk) = 0
rank_of_fault TooManyTracks = 1
rank_of_fault (TwoAlternatives p least) = 2
rank_of_fault (NoSlot node) = 3
rank_of_fault (TooBig e) = 4
rank_of_fault (BadOrder p) = 5
rank_of_fault OutOfMemory = 6

-- p is the least join with two live inputs, and `least` the least scenario along the urgency order that gives it these
pub record HasTwoInputs (g : Graph) (p : ℕ) (least : Scenario) : Type 0 where
  -- the urgency order
  pub order : List ℕ
  pub urgency : IsUrgencyOrder g order
  -- p and `least` are the least, along this order
  pub two : AreAlternatives g order p least

-- the cause of this refusal is there, and none that is looked for before it; memory that runs out is no cause
abbrev pub IsFirstCause : Graph → RuleFault → Type 0
IsFirstCause g (Cycle walk) = IsCycle g walk
IsFirstCause g TooManyTracks = (HasCycle g → ⊥) × (most_tracks < track_count g)
IsFirstCause g (TwoAlternatives p least) = (HasCycle g → ⊥) × (track_count g ≤ most_tracks) × HasTwoInputs g p least
IsFirstCause g (NoSlot node) = (HasCycle g → ⊥) × (track_count g ≤ most_tracks) × HasSingleJoins g × LacksSlot g node
IsFirstCause g (TooBig e) =
    (HasCycle g → ⊥) × (track_count g ≤ most_tracks) × HasSingleJoins g × HasSenderSlots g × IsAboveSlot g e
IsFirstCause g (BadOrder p) =
    (HasCycle g → ⊥) × (track_count g ≤ most_tracks) × HasSingleJoins g × HasSenderSlots g × AllFit g × IsBadOrder g p
IsFirstCause g OutOfMemory = ⊤

-- What a refusal shows is the first cause. All first causes of a graph are of one kind, and there is only one unless
-- they are cycles.
pub record AreFirstCauses (g : Graph) : Type 0 where
  -- what a refusal shows is a first cause
  pub first : (fault : RuleFault) → ShowsFault g fault → IsFirstCause g fault
  -- two first causes are of one kind
  pub one : (fault other : RuleFault) → fault ≢ OutOfMemory → other ≢ OutOfMemory → IsFirstCause g fault →
      IsFirstCause g other →
      rank_of_fault fault ≡ rank_of_fault other
  -- two first causes that aren't cycles are the same
  pub same : (fault other : RuleFault) → fault ≢ OutOfMemory → other ≢ OutOfMemory → 0 < rank_of_fault fault →
      IsFirstCause g fault →
      IsFirstCause g other → fault ≡ other

-- this holds of each graph
abbrev pub GraphsShowFirstCauses : Type 0
GraphsShowFirstCauses = (g : Graph) → AreFirstCauses g
