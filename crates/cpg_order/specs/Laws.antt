-- The laws on orders, activations, tails and deciding conditions.
use Rattle.std.specs.Prelude.{ℕ, ◌+◌, ◌≡◌, ◌<◌, true, if◌then◌else◌, Bool, List, length, map}
use Rattle.cpg_base.specs.Numbers.{greatest}
use Rattle.cpg_base.specs.Graph.{Graph, process_count, condition_count, process_of, process_at, target, inputs, outputs}
use Rattle.cpg_base.specs.Graph.{is_message}
use Rattle.cpg_base.specs.Activity.{activation, activation_by, active, live}
use Rattle.cpg_base.specs.Duration.{duration}
use Rattle.cpg_base.specs.Bus.{round}
use Rattle.cpg_base.specs.Limits.{IsWithinLimits}
use Rattle.cpg_order.specs.Urgency.{tail, IsUrgencyOrder, IsTopological}
use Rattle.cpg_order.specs.Cycle.{HasCycle}
use Rattle.cpg_order.specs.Deciding.{decides, deciding, agree_on}

-- each graph has exactly one urgency order
abbrev pub HasOneUrgencyOrder : Type 0
HasOneUrgencyOrder = (g : Graph) →
    ((order : List ℕ) × IsUrgencyOrder g order) × ((a b : List ℕ) → IsUrgencyOrder g a → IsUrgencyOrder g b → a ≡ b)

-- if a graph within the limits has some topological order, its urgency order is topological too
abbrev pub UrgencyOrderIsTopological : Type 0
UrgencyOrderIsTopological = (g : Graph) (some order : List ℕ) → IsWithinLimits g → IsTopological g some →
    IsUrgencyOrder g order → IsTopological g order

-- a graph that has a topological order has no cycle
abbrev pub OrderLeavesNoCycle : Type 0
OrderLeavesNoCycle = (g : Graph) (order : List ℕ) → IsTopological g order → HasCycle g → ⊥

-- In a graph with a topological order, a process is active by its inputs as `activation_by` says: depths play no part.
abbrev pub ActivationFollowsInputs : Type 0
ActivationFollowsInputs =
    (g : Graph) (order : List ℕ) → IsTopological g order → (values : List Bool) (p : ℕ) → p < process_count g →
    activation g values p ≡ activation_by (process_at g p).join (inputs g p) (live g values)

-- in a graph with a topological order, a tail is the process's execution and then the longest way over one of its outputs
abbrev pub TailFollowsOutputs : Type 0
TailFollowsOutputs = (g : Graph) (order : List ℕ) → IsTopological g order → (p : ℕ) → p < process_count g →
    tail g p ≡ duration g p 0
    + greatest (map (λ e. (if is_message g e then round g else 0) + tail g (target g e)) (outputs g p))

-- in a graph whose urgency order is topological, a condition that decides a process in an outcome is of a process that
-- is active in that outcome
abbrev pub DecidingIsActive : Type 0
DecidingIsActive = (g : Graph) (order : List ℕ) → IsUrgencyOrder g order → IsTopological g order →
    (values : List Bool) (p c : ℕ) → c < condition_count g →
    decides g values p c ≡ true → active g values (process_of g c) ≡ true

-- two outcomes that agree on each condition that decides a process in the first give it the same activation
abbrev pub DecidingFixesActivation : Type 0
DecidingFixesActivation = (g : Graph) (order : List ℕ) → IsUrgencyOrder g order → (a b : List Bool) (p : ℕ) →
    length a ≡ condition_count g → length b ≡ condition_count g →
    agree_on (deciding g a p) a b ≡ true → activation g a p ≡ activation g b p
