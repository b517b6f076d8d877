-- Loops of `process_total`, which returns how many processes there are in all instances.
use Rattle.std.proofs.Common.{◌≡◌, ◌≤◌, ◌+◌, ◌*◌, length, drop}
use Rattle.cpg_hyper.specs.Unrolled.{processes_from}
use Rattle.cpg_hyper.proofs.edges.process_total.Given as goal

-- `total`: the processes of all parts are those counted so far and those of the parts that are left. `short`: each part adds
-- at most 128 processes in each of 10^9 instances, so the sum can't overflow.
abbrev pub invariant-loop-part : goal.invariant-loop-part
invariant-loop-part l = record {
  total : length (processes_from l.whole 0 l.parts)
      ≡ l.total + length (processes_from l.whole l.part-index (drop l.part-index l.parts));
  short : l.total ≤ l.part-index * 128000000000;
}
