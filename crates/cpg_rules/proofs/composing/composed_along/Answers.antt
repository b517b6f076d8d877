-- Proof of `composed_along`: returns the numbers of the parts with the trees of the processes, by process, after these
-- steps.
use Rattle.std.proofs.Common.{◌+◌, ◌∙◌, ◌∷◌, drop, ap, sym, subst}
use Rattle.std.proofs.lemmas.List.{drop_more}
use Rattle.cpg_base.specs.Graph.{process_count}
use Rattle.cpg_rules.specs.Composing.{composed}
use Rattle.cpg_rules.specs.Sharing.{Makes, trees_of}
use Rattle.cpg_rules.proofs.SharedSteps.{step_roots, step_along}
use Rattle.cpg_rules.proofs.composing.composed_along.Goals as goal

-- the part of one more process is made, and its root is set
pub loop-step-preserved : goal.loop-step-preserved
loop-step-preserved c =
    let here = drop_more c.args.steps.now c.loop-step.step-index c.step-item.result c.loop-step-test.true ∙
    ap (λ step. step ∷ drop (c.loop-step.step-index + 1) c.args.steps.now) (sym c.step-item.is) in
    -- the part that is made has the tree composed of those of the inputs
    let made = subst (λ roots. Makes c.loop-step.parts c.composed.new.parts
    (composed c.args.problem.now c.is_join.result c.loop-step.parts.ranks
    (trees_of c.loop-step.parts.parts roots) c.inputs-inputs.result.now) c.in_ok-part.part)
    c.as_slice.ensures.value c.in_ok-part.ensures in
    -- the roots with this one, the ranks as they were, and the same trees along the steps
    record {
      roots = step_roots c.loop-step.parts c.composed.new.parts
          (process_count c.args.problem.now) c.process.result c.in_ok-part.part c.loop-step.roots.items
          (composed c.args.problem.now c.is_join.result c.loop-step.parts.ranks (trees_of c.loop-step.parts.parts
          c.loop-step.roots.items) c.inputs-inputs.result.now) c.loop-step.invariant.roots made;
      ranks = made.more.ranks ∙ c.loop-step.invariant.ranks;
      same = c.loop-step.invariant.same ∙ step_along c.args.problem.now c.loop-step.parts c.composed.new.parts
          (process_count c.args.problem.now) c.process.result c.in_ok-part.part c.loop-step.roots.items
          c.loop-step.invariant.roots c.is_join.result c.inputs-inputs.result.now made
          (drop c.loop-step.step-index c.args.steps.now) (drop (c.loop-step.step-index + 1) c.args.steps.now)
          c.step-item.result here c.process.ensures c.is_join.ensures c.inputs-inputs.ensures;
    }
