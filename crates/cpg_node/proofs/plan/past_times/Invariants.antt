-- Loops of `past_times`: the place of the first time that is after `time`.
use Rattle.std.proofs.Common.{◌≤◌, ◌<◌, ◌-◌, ℕ, length, get_or}
use Rattle.cpg_node.proofs.plan.past_times.Given as goal

-- the place lies between `from` and the end of the times, and no time from `from` up to it is later than `time`
abbrev pub invariant-loop-place : goal.invariant-loop-place
invariant-loop-place l = record {
  from : l.from ≤ l.place;
  within : l.place ≤ length l.times;
  before : (i d : ℕ) → l.from ≤ i → i < l.place → get_or l.times i d ≤ l.time;
}

-- each turn goes one time further, so fewer are left
abbrev pub decreases-loop-place : goal.decreases-loop-place
decreases-loop-place l = length l.times - l.place
