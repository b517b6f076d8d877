-- Loops of `add_part`, which adds the edges of all instances of a part whose first process has the number `first`.
use Rattle.std.proofs.Common.{◌≡◌, ◌++◌}
use Rattle.std.specs.List.{flat_map}
use Rattle.cpg_base.specs.Numbers.{numbers_below}
use Rattle.cpg_hyper.specs.Unrolled.{edges_in}
use Rattle.cpg_hyper.proofs.edges.add_part.Given as goal

-- after each instance, the list has the edges from before and those of each instance so far
abbrev pub invariant-loop-instance : goal.invariant-loop-instance
invariant-loop-instance l =
    l.out.items ≡ l.fn.out.items ++ flat_map (edges_in l.first l.part) (numbers_below l.instance)
