-- What each refusal means: its own cause is there, and no earlier one is.
use Rattle.std.specs.Prelude.{ℕ, ◌≡◌, ◌<◌, ◌≤◌, List, ⊤}
use Rattle.cpg_base.specs.Graph.{Graph}
use Rattle.cpg_base.specs.WellFormed.{HasSingleJoins, HasSenderSlots}
use Rattle.cpg_order.specs.Urgency.{IsUrgencyOrder, IsTopological}
use Rattle.cpg_order.specs.Track.{track_count, most_tracks}
use Rattle.cpg_order.specs.Cycle.{IsCycle}
use Rattle.cpg_rules.specs.Alternatives.{AreAlternatives}
use Rattle.cpg_rules.specs.Guards.{Guards}
use Rattle.cpg_rules.specs.declared.admission.RuleFault.{RuleFault}
use Rattle.cpg_rules.specs.declared.admission.RuleFault.TheVariants.{Cycle, TooManyTracks, TwoAlternatives, NoSlot}
use Rattle.cpg_rules.specs.declared.admission.RuleFault.TheVariants.{TooBig, BadOrder, OutOfMemory}
use Rattle.cpg_rules.specs.Rules.{AllFit, LacksSlot, IsAboveSlot}
use Rattle.cpg_rules.specs.Given.{IsBadOrder}
use Rattle.cpg_rules.specs.Admission.{IsAdmitted}

-- The records below name what a graph has kept when the next cause is looked for. Each adds one rule to the one before.

-- the graph has no cycle, and this is its urgency order
pub record IsOrdered (g : Graph) (order : List ℕ) : Type 0 where
  -- each edge leads forward in the urgency order, so there is no cycle
  pub urgency : IsUrgencyOrder g order
  pub topological : IsTopological g order

-- it has no cycle, and few enough tracks
pub record HasFewTracks (g : Graph) (order : List ℕ) : Type 0 where
  -- it has no cycle
  pub ordered : IsOrdered g order
  -- it has at most 16,384 tracks
  pub few : track_count g ≤ most_tracks

-- it has no cycle, few enough tracks, and no join with two live inputs
pub record HasFewInputs (g : Graph) (order : List ℕ) : Type 0 where
  -- what is looked at before joins
  pub tracks : HasFewTracks g order
  -- no outcome gives a join two live inputs
  pub joins : HasSingleJoins g

-- it has all this, and a slot for each node that sends
pub record HasSlots (g : Graph) (order : List ℕ) : Type 0 where
  -- what is looked at before slots
  pub inputs : HasFewInputs g order
  -- each node that sends has a slot
  pub slots : HasSenderSlots g

-- it has all this, and no message that is larger than its sender's slot holds
pub record HasSizes (g : Graph) (order : List ℕ) : Type 0 where
  -- what is looked at before sizes
  pub slots : HasSlots g order
  -- no message is larger than its sender's slot holds
  pub sizes : AllFit g

-- What each refusal means: its cause is there, and the graph keeps the rules that are looked at before it. Memory that runs
-- out means nothing about the graph.
abbrev pub ShowsFault : Graph → RuleFault → Type 0
ShowsFault g (Cycle walk) = IsCycle g walk
ShowsFault g TooManyTracks = (order : List ℕ) × IsOrdered g order × (most_tracks < track_count g)
ShowsFault g (TwoAlternatives p least) = (order : List ℕ) × HasFewTracks g order × AreAlternatives g order p least
ShowsFault g (NoSlot node) = (order : List ℕ) × HasFewInputs g order × LacksSlot g node
ShowsFault g (TooBig e) = (order : List ℕ) × HasSlots g order × IsAboveSlot g e
ShowsFault g (BadOrder p) = (order : List ℕ) × HasSizes g order × IsBadOrder g p
ShowsFault g OutOfMemory = ⊤

-- An admitted graph has no fault, except that memory may run out. So `admit` rejects exactly the other graphs.
abbrev pub AdmittedShowNoFault : Type 0
AdmittedShowNoFault = (g : Graph) (order : List ℕ) (trees : Guards) → IsAdmitted g order trees → (fault : RuleFault) →
    ShowsFault g fault → fault ≡ OutOfMemory
