-- Loops of `gather_due`: gathers the reports whose planned end is at the time.
use Rattle.std.proofs.Common.{◌≡◌, ◌≤◌, ◌++◌, drop}
use Rattle.std.specs.List.{flat_map}
use Rattle.std.specs.Vec.{vec_len, vec_capacity}
use Rattle.cpg_node.specs.Dispatcher.{zip_with, due_reports_of}
use Rattle.cpg_node.proofs.executions.gather_due.Given as goal

-- `reports`: those so far and those due at the places left are together all that are due. `few`: at most one for each
-- place so far, so there is room for the next. `room`: the capacity is as before.
abbrev pub invariant-loop-place : goal.invariant-loop-place
invariant-loop-place l = record {
  reports : l.due.items ++ flat_map (λ es. es)
      (zip_with (due_reports_of l.time) (drop l.place l.own) (drop l.place l.running)) ≡ flat_map (λ es. es)
      (zip_with (due_reports_of l.time) l.own l.running);
  few : vec_len l.due ≤ l.place;
  room : vec_capacity l.due ≡ vec_capacity l.fn.due;
}
