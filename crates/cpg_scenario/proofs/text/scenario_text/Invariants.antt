-- Loops of `scenario_text`, which returns the faults and the true values of a scenario by process number, as `A
-- faults 1, A true`, or `none` if there are none.
use Rattle.std.proofs.Common.{◌≡◌, [], flat_map, string_bytes}
use Rattle.cpg_base.specs.Numbers.{numbers_below}
use Rattle.cpg_scenario.specs.Pieces.{with_pieces}
use Rattle.cpg_scenario.specs.Text.{pieces_of}
use Rattle.cpg_scenario.proofs.text.scenario_text.Given as goal

-- after each process, the text has the pieces of the processes so far
abbrev pub invariant-loop-process : goal.invariant-loop-process
invariant-loop-process l =
    string_bytes l.out ≡ with_pieces [] (flat_map (pieces_of l.problem l.scenario) (numbers_below l.process))
