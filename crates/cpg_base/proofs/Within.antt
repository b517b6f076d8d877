-- A graph within the limits is well formed if its senders have slots.
use Rattle.cpg_base.specs.Graph.{Graph}
use Rattle.cpg_base.specs.Limits.{IsWithinLimits}
use Rattle.cpg_base.specs.WellFormed.{WellFormed, HasSenderSlots}

-- A graph within the limits is well formed if its senders have slots.
-- Each field is one of the limits.
pub well_formed : (g : Graph) → IsWithinLimits g → HasSenderSlots g → WellFormed g
well_formed g limits senders = record {
  sources = λ e inside. (limits.edges e _ inside).from;
  targets = λ e inside. (limits.edges e _ inside).to;
  nodes = λ p inside. (limits.processes p _ inside).node;
  works = λ p d inside. (limits.processes p d inside).works;
  parts = λ p d inside. (limits.processes p d inside).divided;
  slot_nodes = λ s d inside. (limits.slots s d inside).node;
  slot_lengths = λ s d inside. (limits.slots s d inside).lasts;
  own_slots = limits.own_slots;
  senders = senders;
  few_processes = limits.few_processes;
  few_conditions = limits.few_conditions;
}
