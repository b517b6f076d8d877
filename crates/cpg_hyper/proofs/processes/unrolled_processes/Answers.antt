-- Proof of `unrolled_processes`, which returns the processes of all instances of all parts.
use Rattle.cpg_hyper.specs.Unrolled.{processes_of}
use Rattle.cpg_hyper.specs.Refusals.{HasShortNames}
use Rattle.cpg_hyper.proofs.Added.{added_false, fails_at}
use Rattle.cpg_hyper.proofs.processes.unrolled_processes.Goals as goal

-- this part is the first that has too long a name
pub returns-then-not-branch : goal.returns-then-not-branch
returns-then-not-branch c =
    fails_at (HasShortNames c.args.whole) c.args.parts.now c.loop-place.place c.index-parts-place.result
    c.loop-place-test.true c.index-parts-place.is
    (added_false _ c.loop-place.processes.items c.add_part.new.out.items
    (processes_of c.args.whole c.loop-place.place c.index-parts-place.result)
    (HasShortNames c.args.whole c.loop-place.place c.index-parts-place.result) c.if-not-branch.true
    c.in_ok-add_part.ensures)
    c.loop-place.invariant.short
