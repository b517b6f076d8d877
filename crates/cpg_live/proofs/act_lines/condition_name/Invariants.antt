-- Loops of `condition_name`: the name of the process of a condition; empty if there is no such condition.
use Rattle.std.proofs.Common.{◌≡◌, [], drop, filter, get_or, map}
use Rattle.cpg_head.specs.declared.head_parts.HeadProcess.{HeadProcess}
use Rattle.cpg_label.specs.Labels.{condition_name, head_labels}
use Rattle.cpg_live.proofs.act_lines.condition_name.Given as goal

-- the name of the condition is that of the process at place `before` among those left that have a condition; empty if
-- there are fewer
abbrev pub invariant-loop-process : goal.invariant-loop-process
invariant-loop-process l =
    get_or (map (λ (p : HeadProcess). p.name)
    (filter (λ (p : HeadProcess). p.condition) (drop l.process-index l.process-items))) l.before []
    ≡ condition_name (head_labels l.head) l.condition
