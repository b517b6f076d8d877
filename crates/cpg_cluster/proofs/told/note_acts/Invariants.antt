-- Loops of `note_acts`, which notes acts at their items, one after another.
use Rattle.std.proofs.Common.{◌≡◌, drop, fold}
use Rattle.cpg_cluster.specs.Keeping.{note}
use Rattle.cpg_cluster.proofs.told.note_acts.Given as goal

-- noting the acts that are left in the notes so far gives what noting all acts in the old notes gives
abbrev pub invariant-loop-act : goal.invariant-loop-act
invariant-loop-act l = fold note l.noted.items (drop l.act-index l.acts) ≡ fold note l.fn.noted.items l.acts
