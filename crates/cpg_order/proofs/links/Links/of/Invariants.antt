-- Loops of `Links::of`: returns the links of a graph.
use Rattle.std.proofs.Common.{◌≡◌, map}
use Rattle.cpg_base.specs.Numbers.{numbers_below}
use Rattle.cpg_base.specs.Graph.{process_count, source, target}
use Rattle.cpg_order.proofs.Filing.{with_key}
use Rattle.cpg_order.proofs.links.Links.of.Given as goal

-- each process has its inputs and its outputs among the edges so far
abbrev pub invariant-loop-number : goal.invariant-loop-number
invariant-loop-number l = record {
  -- by the targets of the edges so far
  inputs : l.inputs.items ≡ map (with_key (target l.problem) l.number) (numbers_below (process_count l.problem));
  -- by the sources of the edges so far
  outputs : l.outputs.items ≡ map (with_key (source l.problem) l.number) (numbers_below (process_count l.problem));
}
