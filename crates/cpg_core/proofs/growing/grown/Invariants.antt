-- The loop of `grown`, which goes over the processes in their order and adds the trees and the frozen times of each and
-- of what it sends.
use Rattle.std.proofs.Common.{◌≡◌}
use Rattle.cpg_expand.specs.Grown.{IsGrown}
use Rattle.cpg_core.proofs.growing.grown.Given as goal

-- after each process of the order, the forest is the one grown for the processes so far, and its `wide` item, which
-- an error would name, is the one given
abbrev pub invariant-loop-process : goal.invariant-loop-process
invariant-loop-process l = record {
  grown : IsGrown l.admitted.graph l.order l.process-index l.frozen l.forest;
  wide : l.forest.wide ≡ l.fn.wide;
}
