-- Proof of `put_columns`, which puts the columns of a row, each later by a delay: from a list, or from a tree.
use Rattle.std.proofs.Common.{ℕ, sym, subst}
use Rattle.cpg_tree.specs.Decision.{HasCuts}
use Rattle.cpg_tree.proofs.PathLaws.{good_cuts}
use Rattle.cpg_packing.proofs.rows.put_columns.Goals as goal

-- a kept tree is good, so each cut leaves a number of its variable above it
pub put_paths-requires-clause-cuts : goal.put_paths-requires-clause-cuts
put_paths-requires-clause-cuts g c n are = subst (λ (k : ℕ). HasCuts k n) (sym c.faults.ensures)
    (good_cuts c.in-Kept.tree.now.faults n (c.items.ensures.good n are))
