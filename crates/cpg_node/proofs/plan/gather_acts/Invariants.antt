-- Loops of `gather_acts`: gathers the acts of entries whose literals have all been heard.
use Rattle.std.proofs.Common.{◌≡◌, ◌≤◌, ◌++◌, map, filter, drop}
use Rattle.std.specs.Vec.{vec_len, vec_capacity}
use Rattle.cpg_node.specs.Plan.{act_of, takes}
use Rattle.cpg_node.proofs.plan.gather_acts.Given as goal

-- `acts`: those so far and those that the entries left give are together all acts. `few`: at most one for each entry so
-- far, so there is room for the next. `room`: the capacity is as before.
abbrev pub invariant-loop-planned : goal.invariant-loop-planned
invariant-loop-planned l = record {
  acts : l.acts.items ++ map act_of
      (filter (takes (l.table.sends ++ l.table.starts) l.heard) (drop l.planned-index l.plan)) ≡ map act_of
      (filter (takes (l.table.sends ++ l.table.starts) l.heard) l.plan);
  few : vec_len l.acts ≤ l.planned-index;
  room : vec_capacity l.acts ≡ vec_capacity l.fn.acts;
}
