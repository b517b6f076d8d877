-- Proof of `add_instance`, which adds the processes of an instance, and returns true; false exactly if some name is too
-- long, and then nothing is said of what was added.
use Rattle.std.proofs.Common.{◌≡◌, ◌≤◌, ◌++◌, ◌∷◌, [], ◌∙◌, ap, length, rules}
use Rattle.cpg_base.specs.declared.process.Process.{Process}
use Rattle.cpg_hyper.specs.Unrolled.{copied_process, name_in}
use Rattle.cpg_hyper.proofs.Taken.{all_more}
use Rattle.cpg_hyper.proofs.Added.{made_more}
use Rattle.cpg_hyper.proofs.processes.add_instance.Goals as goal

-- the copy of one more process is added, and its name is short enough
pub loop-process-preserved : goal.loop-process-preserved
loop-process-preserved c =
    let processes = c.processes-process-items.result.now in
    let index = c.loop-process.process-index in
    -- the copy, whose name is short enough
    let made : c.in-Some.copy ≡ copied_process c.args.number c.args.instance c.args.part.now c.process-item.result =
    search rules in
    let short : length (name_in c.args.number c.args.instance c.process-item.result.name) ≤ 32 = search rules in
    record {
      added = made_more processes index c.process-item.result c.loop-process-test.true c.process-item.is
          (copied_process c.args.number c.args.instance c.args.part.now) c.args.out.now.items c.loop-process.out.items
          c.push.new.self.items c.loop-process.invariant.added
          (c.in_ok-push-in-Some.ensures.items ∙ ap (λ q. c.loop-process.out.items ++ q ∷ []) made);
      short = all_more processes index c.process-item.result c.loop-process-test.true c.process-item.is
          (λ (q : Process). length (name_in c.args.number c.args.instance q.name) ≤ 32)
          c.loop-process.invariant.short short;
    }
