-- Loops of `note_report`: notes a report: the execution that it belongs to keeps it.
use Rattle.std.proofs.Common.{◌≡◌}
use Rattle.cpg_node.specs.Dispatcher.{with_report}
use Rattle.cpg_node.proofs.Places.{zip_front}
use Rattle.cpg_node.proofs.executions.note_report.Given as goal

-- the places so far have taken the report, and those left are as before
abbrev pub invariant-loop-place : goal.invariant-loop-place
invariant-loop-place l = l.running ≡ zip_front (with_report l.ended) l.place l.own l.fn.running
