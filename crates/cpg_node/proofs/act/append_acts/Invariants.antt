-- Loops of `append_acts`: adds acts to those so far.
use Rattle.std.proofs.Common.{◌≡◌, ◌++◌, drop}
use Rattle.std.specs.Vec.{vec_capacity}
use Rattle.cpg_node.proofs.act.append_acts.Given as goal

-- the acts so far and those left are together the acts before and all of `more`; the room has not changed
abbrev pub invariant-loop-act : goal.invariant-loop-act
invariant-loop-act l = record {
  acts : l.acts.items ++ drop l.act-index l.more ≡ l.fn.acts.items ++ l.more;
  room : vec_capacity l.acts ≡ vec_capacity l.fn.acts;
}
