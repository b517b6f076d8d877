-- The answers of unrolling.
use Rattle.std.proofs.Common.{◌≡◌, ℕ, ◌≤◌, List, length, get_or, filter, Err, None, ap, ap₂, ◌∙◌}
use Rattle.cpg_base.specs.Numbers.{numbers_below}
use Rattle.cpg_base.specs.Graph.{Graph, process_count, condition_count}
use Rattle.cpg_base.specs.Conditions.{has_conditional_output}
use Rattle.cpg_base.specs.Limits.{IsWithinLimits}
use Rattle.cpg_base.specs.declared.process.Process.{Process}
use Rattle.cpg_base.specs.declared.process.Edge.{Edge}
use Rattle.cpg_base.specs.declared.process.Slot.{Slot}
use Rattle.cpg_base.proofs.Found.{conditions_found}
use Rattle.cpg_hyper.specs.declared.part.Part.{Part}
use Rattle.cpg_hyper.specs.declared.part.HyperFault.{HyperFault}
use Rattle.cpg_hyper.specs.declared.part.HyperFault.TheVariants.{Range, Differ, Over, Period, Count, LongName, Order}
use Rattle.cpg_hyper.specs.declared.part.HyperFault.TheVariants.{OutOfMemory}
use Rattle.cpg_hyper.specs.Unrolled.{processes_from, edges_from, first_graph, unrolled}
use Rattle.cpg_hyper.specs.Refusals.{HoldsOfEach, HasFewEnough, AreOver, ShowsProcesses, ShowsUnrolled}
use Rattle.cpg_hyper.proofs.Whole.{unrolled_within, first_there}

-- the graph made of the first part's faults, nodes and slots, and all processes and edges, is within the limits
pub made_within : (whole : ℕ) (parts : List Part) → 1 ≤ length parts → length parts ≤ 4 → AreOver parts whole →
    HoldsOfEach (λ p part. IsWithinLimits part.problem) parts →
    HasFewEnough (unrolled whole parts)
    → (first : Graph) (faults : ℕ) (nodes : List (List ℕ)) (slots : List Slot) (ps : List Process) (es : List Edge)
    → first ≡ first_graph parts → faults ≡ first.faults → nodes ≡ first.nodes → slots ≡ first.slots →
    ps ≡ processes_from whole 0 parts → es ≡ edges_from whole 0 parts
    → IsWithinLimits (record { faults = faults; deadline = whole; nodes = nodes; slots = slots; processes = ps; edges = es; order = None })
made_within whole parts some few over within counts first faults nodes slots ps es is f_is n_is s_is p_is e_is =
    rw (f_is, n_is, s_is, p_is, e_is, is) (unrolled_within whole parts some few over within counts)

-- the graph of the first part
pub first_problem : (parts : List Part) (part : Part) → 1 ≤ length parts → part ≡ get_or parts 0 part →
    part.problem ≡ first_graph parts
first_problem parts part some is = ap (λ (d : Part). d.problem) is ∙ first_there parts part some

-- counting the processes with conditional outputs counts the conditions
pub count_is : (g : Graph) (es : List Edge) (n total : ℕ) → es ≡ g.edges → n ≡ process_count g →
    total ≡ length (filter (has_conditional_output es) (numbers_below n)) →
    total ≡ condition_count g
count_is g es n total es_are n_is counted =
    counted ∙ ap length (ap₂ (λ ds m. filter (has_conditional_output ds) (numbers_below m)) es_are n_is
    ∙ conditions_found g)

-- a fault in making the processes is a fault of unrolling, if there are few enough of each
pub from_processes : (whole : ℕ) (parts : List Part) → AreOver parts whole → HasFewEnough (unrolled whole parts) →
    (f : HyperFault) → ShowsProcesses whole parts (Err f) →
    ShowsUnrolled parts (Err f)
-- making the processes fails only for a long name or for memory
from_processes whole parts over few (Range p) shown = absurd shown
from_processes whole parts over few (Differ p) shown = absurd shown
from_processes whole parts over few (Over p) shown = absurd shown
from_processes whole parts over few Period shown = absurd shown
from_processes whole parts over few (Count what) shown = absurd shown
from_processes whole parts over few (LongName p) shown = (whole, over, few, shown)
from_processes whole parts over few (Order p) shown = absurd shown
from_processes whole parts over few OutOfMemory shown = tt
