-- Proof of `Tuned::tolerates`: the greatest fault number whose row is accepted, or `None` exactly if no row is.
use Rattle.cpg_tune.proofs.Tolerating.{tolerated_greatest}
use Rattle.cpg_tune.proofs.tuning.Tuned.tolerates.Goals as goal

-- what is tolerated is the greatest number whose row is accepted
pub returns-clause-greatest : goal.returns-clause-greatest
returns-clause-greatest c = rw (c.self.invariant, ← c.self.view_is) (tolerated_greatest c.self.inside.rows.items)
