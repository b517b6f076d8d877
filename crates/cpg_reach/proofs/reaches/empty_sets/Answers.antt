-- Proof of `empty_sets`, which returns `count` empty sets of variables.
use Rattle.std.proofs.Common.{◌+◌, sym, subst}
use Rattle.cpg_reach.specs.Walked.{AreEmpty}
use Rattle.cpg_reach.proofs.Empty.{empty_next}
use Rattle.cpg_reach.proofs.reaches.empty_sets.Goals as goal

-- the set that is added is empty too
pub loop-preserved : goal.loop-preserved
loop-preserved c = subst (AreEmpty (c.loop.counter + 1)) (sym c.in_ok-push.ensures.items)
    (empty_next c.loop.counter c.loop.sets.items c.none.result c.loop.invariant c.none.ensures)
