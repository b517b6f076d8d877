-- Proof of `gather_acts`: gathers the acts of entries whose literals have all been heard.
use Rattle.std.proofs.Common.{arith, ◌∙◌, ◌++◌}
use Rattle.cpg_node.specs.Plan.{takes}
use Rattle.cpg_node.proofs.Planning.{acts_next}
use Rattle.cpg_node.proofs.plan.gather_acts.Goals as goal

-- this entry gives its act if its literals follow from what has been heard, and no act if not
pub loop-planned-preserved : goal.loop-planned-preserved
loop-planned-preserved c = record {
  acts = acts_next (takes (c.args.table.now.sends ++ c.args.table.now.starts) c.args.heard.now) c.args.plan.now
      c.loop-planned.planned-index _ c.loop-planned.acts.items c.add_act.new.acts.items
      c.loop-planned-test.true c.loop-planned.invariant.acts c.add_act.ensures.added;
  few = omega arith;
  room = c.add_act.ensures.room ∙ c.loop-planned.invariant.room;
}
