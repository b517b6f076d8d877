-- Proof of `best_of`: returns the least number of parts from 1 to 255 with which an execution with `faults` faults is
-- shortest.
use Rattle.std.proofs.Common.{rules, ◌∙◌, ◌-◌, sym, ap, arith}
use Rattle.cpg_tune.specs.Best.{duration_in}
use Rattle.cpg_tune.proofs.Fewest.{takes_next, keeps_best, best_is_fewest}
use Rattle.cpg_tune.proofs.best.best_of.Goals as goal
use Rattle.cpg_tune.proofs.best.best_of.Goals.{then-duration-least, else-duration-least}

-- a number of parts with which the execution is shorter becomes the best, and any other leaves it
pub loop-parts-preserved : goal.loop-parts-preserved
loop-parts-preserved c =
    let some = c.loop-parts.auto.parts in
    let lasts = c.loop-parts.invariant.least in
    let next = c.duration_in-duration.ensures in
    elim c.if-duration-least.branch [
      -- the execution is shorter with these parts: they are the best
      | then-duration-least w ↦ record {
        best = w.best-is ∙ takes_next c.args.process.now c.args.faults c.loop-parts.best c.loop-parts.parts some
            c.loop-parts.invariant.best (omega (arith, w.if-duration-least, lasts, next));
        least = w.least-is ∙ (next ∙ ap (duration_in c.args.process.now c.args.faults) (sym w.best-is));
      }
      -- it isn't: the best stays
      | else-duration-least w ↦ record {
        best = w.best-is ∙ keeps_best c.args.process.now c.args.faults c.loop-parts.best c.loop-parts.parts some
            c.loop-parts.invariant.best (omega (arith, w.if-duration-least, lasts, next));
        least = w.least-is ∙ (lasts ∙ ap (duration_in c.args.process.now c.args.faults) (sym w.best-is));
      }
    ]

-- with more parts than units of work no execution is shorter, so the best of the numbers up to that is the best of all
pub returns : goal.returns
returns c =
    let within = c.requires.within.1 in
    let last = c.loop-parts-test.false in
    c.loop-parts.invariant.best
    ∙ best_is_fewest c.args.process.now c.args.faults (c.loop-parts.parts - 1) within.works (search rules)
