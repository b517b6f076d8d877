-- Proof of `add_part`, which adds the processes of all instances of a part, and returns true; false exactly if some
-- name is too long, and then nothing is said of what was added.
use Rattle.std.proofs.Common.{◌≡◌, length, ap, ◌∙◌, sym, rules}
use Rattle.cpg_hyper.specs.Unrolled.{processes_in}
use Rattle.cpg_hyper.specs.Refusals.{AreShort}
use Rattle.cpg_hyper.proofs.Counted.{next_instance}
use Rattle.cpg_hyper.proofs.Added.{added_true, nothing_added, below_more}
use Rattle.cpg_hyper.proofs.processes.add_part.Goals as goal

-- nothing is added of a part without processes
pub returns-then-is_empty : goal.returns-then-is_empty
returns-then-is_empty c =
    let none : length c.processes.result.now ≡ 0 = search rules in
    nothing_added c.args.out.now.items c.args.whole c.args.number c.args.part.now
    (ap length (sym c.processes.ensures.processes) ∙ none)

-- the processes of one more instance are added, and their names are short enough
pub loop-instance-preserved : goal.loop-instance-preserved
loop-instance-preserved c =
    let here = added_true _ c.loop-instance.out.items c.add_instance.new.out.items
    (processes_in c.args.number c.args.part.now c.loop-instance.instance)
    (AreShort c.args.number c.args.part.now c.loop-instance.instance) c.if-not-branch.false
    c.in_ok-add_instance.ensures in
    record {
      added = next_instance (processes_in c.args.number c.args.part.now) c.loop-instance.instance c.args.out.now.items
          c.loop-instance.out.items c.add_instance.new.out.items
          c.loop-instance.invariant.added here.0;
      short = below_more (AreShort c.args.number c.args.part.now) c.loop-instance.instance
          c.loop-instance.invariant.short here.1;
    }
