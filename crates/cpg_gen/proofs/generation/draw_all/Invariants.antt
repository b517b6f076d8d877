-- Loops of `draw_all`, which returns the processes and edges of the graph.
use Rattle.std.proofs.Common.{◌≡◌, map}
use Rattle.std.specs.List.{flat_map}
use Rattle.cpg_base.specs.Numbers.{numbers_below}
use Rattle.cpg_gen.specs.Generated.{number_before, generated_process, generated_edges}
use Rattle.cpg_gen.proofs.generation.draw_all.Given as goal

-- after each process: the draws stand where this process's begin, and `processes` and `edges` are those generated so
-- far
abbrev pub invariant-loop-process_number : goal.invariant-loop-process_number
invariant-loop-process_number l = record {
  draws : l.draws.number ≡ number_before l.number l.process_number;
  processes : l.processes.items ≡ map (generated_process l.number) (numbers_below l.process_number);
  edges : l.edges.items ≡ flat_map (generated_edges l.number) (numbers_below l.process_number);
}
