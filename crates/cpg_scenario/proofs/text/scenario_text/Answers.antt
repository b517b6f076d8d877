-- Proof of `scenario_text`, which returns the faults and the true values of a scenario by process number, as `A
-- faults 1, A true`, or `none` if there are none.
use Rattle.std.proofs.Common.{◌≡◌, ◌∙◌, ap, flat_map, string_bytes, length, arith}
use Rattle.cpg_base.specs.Numbers.{numbers_below}
use Rattle.cpg_base.specs.Graph.{process_count}
use Rattle.cpg_scenario.specs.Text.{pieces_of, listed}
use Rattle.cpg_scenario.specs.Pieces.{or_none}
use Rattle.cpg_scenario.proofs.Pieces.{next_pieces, finished, pieces_some}
use Rattle.cpg_scenario.proofs.text.scenario_text.Goals as goal

-- the pieces of the next process are written after those of the processes so far
pub loop-process-preserved : goal.loop-process-preserved
loop-process-preserved c = next_pieces (pieces_of c.args.problem.now c.args.scenario.now) c.loop-process.process
    (string_bytes c.loop-process.out)
    (string_bytes c.write_process.new.out) c.loop-process.invariant c.in_ok-write_process.ensures

-- the pieces of all processes are written, so this is the text of the scenario
pub returns : goal.returns
returns c =
    let pieces = pieces_of c.args.problem.now c.args.scenario.now in
    let count : c.loop-process.process ≡ process_count c.args.problem.now =
    omega (arith, ap length c.processes.ensures.processes) in
    c.in_ok-write_none.ensures ∙ ap or_none c.loop-process.invariant
    ∙ finished (flat_map pieces (numbers_below c.loop-process.process))
    (pieces_some c.args.problem.now c.args.scenario.now (numbers_below c.loop-process.process))
    ∙ ap (λ n. listed (flat_map pieces (numbers_below n))) count
