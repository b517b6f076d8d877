-- Loops of `add_part`, which adds the processes of all instances of a part, and returns true; false exactly if some
-- name is too long, and then nothing is said of what was added.
use Rattle.std.proofs.Common.{◌≡◌, ◌<◌, ◌++◌, ℕ}
use Rattle.std.specs.List.{flat_map}
use Rattle.cpg_base.specs.Numbers.{numbers_below}
use Rattle.cpg_hyper.specs.Unrolled.{processes_in}
use Rattle.cpg_hyper.specs.Refusals.{AreShort}
use Rattle.cpg_hyper.proofs.processes.add_part.Given as goal

-- after each instance, the list has the processes from before and those of each instance so far, whose names are short
abbrev pub invariant-loop-instance : goal.invariant-loop-instance
invariant-loop-instance l = record {
  added : l.out.items ≡ l.fn.out.items ++ flat_map (processes_in l.number l.part) (numbers_below l.instance);
  short : (i : ℕ) → i < l.instance →
      AreShort l.number l.part i;
}
