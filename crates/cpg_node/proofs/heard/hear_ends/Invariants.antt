-- Loops of `hear_ends`: hears ends, one after another.
use Rattle.std.proofs.Common.{◌≡◌, drop, fold}
use Rattle.cpg_node.specs.Dispatcher.{hear_end}
use Rattle.cpg_node.proofs.heard.hear_ends.Given as goal

-- hearing the ends left from here gives what hearing all the ends gives from the beginning
abbrev pub invariant-loop-end : goal.invariant-loop-end
invariant-loop-end l =
    fold (hear_end l.table) l.heard (drop l.end-index l.ended) ≡ fold (hear_end l.table) l.fn.heard l.ended
