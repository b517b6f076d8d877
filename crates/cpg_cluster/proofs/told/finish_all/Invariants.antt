-- Loops of `finish_all`, which gives the node these reports, each at its time, one after another.
use Rattle.std.proofs.Common.{◌≡◌, drop}
use Rattle.cpg_cluster.specs.Taking.{AllFinish, all_finished}
use Rattle.cpg_cluster.proofs.told.finish_all.Given as goal

-- `may`: the node may take the reports that are left. `is`: they lead it to where all reports lead it from the start.
-- `acts`: a report doesn't change what the node did in its last turn.
abbrev pub invariant-loop-report : goal.invariant-loop-report
invariant-loop-report l = record {
  may : AllFinish l.node.dispatcher (drop l.report-index l.ended);
  is : all_finished l.node.dispatcher (drop l.report-index l.ended) ≡ all_finished l.fn.node.dispatcher l.ended;
  acts : l.node.acts ≡ l.fn.node.acts;
}
