-- Loops of `composed_along`: returns the numbers of the parts with the trees of the processes, by process, after these
-- steps.
use Rattle.std.proofs.Common.{◌≡◌, drop}
use Rattle.cpg_base.specs.Graph.{process_count}
use Rattle.cpg_rules.specs.Composing.{composed_along}
use Rattle.cpg_rules.specs.Sharing.{trees_of, AreRoots}
use Rattle.cpg_rules.proofs.composing.composed_along.Given as goal

-- after each step, its process has the part of its composed tree
abbrev pub invariant-loop-step : goal.invariant-loop-step
invariant-loop-step l = record {
  -- each process has a root, which is the number of a part
  roots : AreRoots l.parts.parts (process_count l.problem) l.roots.items;
  -- the ranks are those of the start
  ranks : l.parts.ranks ≡ l.fn.parts.ranks;
  -- the steps that are left lead to the same trees as all steps from the start
  same : composed_along l.problem l.fn.parts.ranks l.steps (trees_of l.fn.parts.parts l.fn.roots.items)
      ≡ composed_along l.problem l.parts.ranks (drop l.step-index l.steps)
      (trees_of l.parts.parts l.roots.items);
}
