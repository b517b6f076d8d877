-- Loops of `Log::time_of`: when an item is logged, and `None` exactly if it isn't.
use Rattle.std.proofs.Common.{◌≡◌, drop}
use Rattle.cpg_log.specs.Log.{logged_time}
use Rattle.cpg_log.proofs.log.Log.time_of.Given as goal

-- no act so far is of the item, so the item's time is to be found in the acts that are left
abbrev pub invariant-loop-act : goal.invariant-loop-act
invariant-loop-act l = logged_time l.self.acts l.item ≡ logged_time (drop l.act-index l.act-items) l.item
