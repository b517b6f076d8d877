-- Loops of `edge_guards`: returns the guards of all edges, by number.
use Rattle.std.proofs.Common.{◌≡◌, map}
use Rattle.cpg_base.specs.Numbers.{numbers_below}
use Rattle.cpg_rules.specs.Guards.{edge_guard_of}
use Rattle.cpg_rules.proofs.edges.edge_guards.Given as goal

-- after each edge, `guards` has the guards of the edges so far
abbrev pub invariant-loop-edge : goal.invariant-loop-edge
invariant-loop-edge l = l.guards.items ≡ map (edge_guard_of l.problem) (numbers_below l.edge-index)
