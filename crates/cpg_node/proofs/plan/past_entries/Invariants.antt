-- Loops of `past_entries`: the place of the first entry that is after `time`.
use Rattle.std.proofs.Common.{◌≤◌, ◌<◌, ◌-◌, ℕ, length, get_or}
use Rattle.cpg_node.specs.Plan.{Planned}
use Rattle.cpg_node.proofs.plan.past_entries.Given as goal

-- the place lies between `from` and the end of the plan, and no entry from `from` up to it is later than the time
abbrev pub invariant-loop-place : goal.invariant-loop-place
invariant-loop-place l = record {
  from : l.from ≤ l.place;
  within : l.place ≤ length l.plan;
  before : (i : ℕ) (d : Planned) → l.from ≤ i → i < l.place → (get_or l.plan i d).time ≤ l.time;
}

-- each turn goes one entry further, so fewer are left
abbrev pub decreases-loop-place : goal.decreases-loop-place
decreases-loop-place l = length l.plan - l.place
