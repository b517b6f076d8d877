-- Loops of `append_acts`: appends the lines of acts, one after another.
use Rattle.std.proofs.Common.{◌≡◌, ◌+◌, ◌*◌, ◌≤◌, ◌++◌, drop, length}
use Rattle.std.specs.Vec.{vec_len, vec_capacity}
use Rattle.cpg_live.specs.declared.act_lines.TheConstants.{MOST_LINE}
use Rattle.cpg_live.specs.Streams.{act_lines}
use Rattle.cpg_live.proofs.act_lines.append_acts.Given as goal

-- `bytes`: the bytes so far, followed by the lines of the acts that are left, are the old bytes followed by all
-- lines. `few`: there is room for a line of each act that is left. `room`: the capacity doesn't shrink.
abbrev pub invariant-loop-act : goal.invariant-loop-act
invariant-loop-act l = record {
  bytes : l.out.items ++ act_lines l.head (drop l.act-index l.acts) ≡ l.fn.out.items ++ act_lines l.head l.acts;
  few : vec_len l.out + MOST_LINE * length (drop l.act-index l.acts) ≤ vec_capacity l.out;
  room : vec_capacity l.fn.out ≤ vec_capacity l.out;
}
