-- Loops of `Conditions::of`: returns the conditions of `processes` processes with these edges, and `None` exactly if
-- there are more than 32.
use Rattle.std.proofs.Common.{◌≡◌, ◌≤◌, false, filter, get_or, length}
use Rattle.cpg_base.specs.Numbers.{numbers_below}
use Rattle.cpg_base.proofs.conditions.Conditions.of.Given as goal

-- the conditions so far are those of the marked processes below `process`, and there are at most 32
abbrev pub invariant-loop-process : goal.invariant-loop-process
invariant-loop-process l = record {
  -- the conditions are those of the marked processes so far
  found : l.conditions ≡ filter (λ p. get_or l.found p false) (numbers_below l.process);
  -- there are at most 32, which is what there is room for
  few : length l.conditions ≤ 32;
}
