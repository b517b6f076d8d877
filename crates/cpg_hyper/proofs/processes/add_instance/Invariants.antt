-- Loops of `add_instance`, which adds the processes of an instance, and returns true; false exactly if some name is too
-- long, and then nothing is said of what was added.
use Rattle.std.proofs.Common.{◌≡◌, ◌≤◌, ◌++◌, map, take, length}
use Rattle.std.specs.Prelude.{All}
use Rattle.cpg_hyper.specs.Unrolled.{copied_process, name_in}
use Rattle.cpg_hyper.proofs.processes.add_instance.Given as goal

-- after each process, the list has the processes from before and a copy of each process so far, and the copies' names have
-- at most 32 bytes
abbrev pub invariant-loop-process : goal.invariant-loop-process
invariant-loop-process l = record {
  added : l.out.items ≡ l.fn.out.items
      ++ map (copied_process l.number l.instance l.part) (take l.process-index l.process-items);
  short : All (λ q. length (name_in l.number l.instance q.name) ≤ 32) (take l.process-index l.process-items);
}
