-- Proof of `least_lacking`: the least scenario in which a column matches, and input `edge` is there only after the
-- column's time.
use Rattle.std.proofs.Common.{◌≡◌, ◌&&◌, ◌∙◌, true, false, sym, ap}
use Rattle.cpg_base.specs.Graph.{is_message}
use Rattle.cpg_base.specs.Scenario.{Scenario}
use Rattle.cpg_cube.specs.Cube.{matches}
use Rattle.cpg_check_time.specs.Inputs.{is_asked}
use Rattle.cpg_check_time.proofs.InputLaws.{lacks_frame, lacks_source}
use Rattle.cpg_check_time.proofs.inputs.least_lacking.Goals as goal

-- the edge is a message, so its input is missing exactly if the frame is late
pub returns-then-is_message : goal.returns-then-is_message
returns-then-is_message c =
    let on : is_message c.args.admitted.now.graph c.args.edge ≡ true =
    rw (← c.problem-problem.ensures.problem) (sym c.if-is_message.ensures) in
    -- the answer of the search, said of the graph and its message
    let found = rw (
      c.slot_length.ensures,
      c.home.ensures.home,
      c.processes.ensures.processes,
      c.problem-problem.ensures.problem,
    ) at c.in_ok-found.ensures in
    lacks_frame c.args.admitted.now.graph c.args.admitted.now.order c.args.tables.now.nodes c.args.column.now
    c.args.edge c.in_ok-found.found on found

-- the edge leads to a process of the same node, so its input is missing exactly if the source has the value and ends
-- late
pub returns : goal.returns
returns c =
    let graph = c.args.admitted.now.graph in
    let off : is_message graph c.args.edge ≡ false =
    rw (← c.problem-problem.ensures.problem) (sym c.if-is_message.ensures) in
    -- the part matches where the column does and the source has the value
    let both : (s : Scenario) →
    matches c.in-Some.part s ≡ (matches c.args.column.now.cube s && matches c.in_ok-asked.asked s) =
    rw c.in-Some.is at c.in_ok-part.ensures.both in
    let asked : (s : Scenario) → matches c.in_ok-asked.asked s ≡ is_asked graph c.args.edge s =
    rw (← c.problem-problem.ensures.problem) c.in_ok-asked.ensures.passed in
    -- the answer of the search for columns of the source that are late for the part
    let found = rw (c.source-process.ensures.source, c.problem-problem.ensures.problem) at c.in_ok-found-2.ensures in
    lacks_source graph c.args.admitted.now.order c.args.tables.now.nodes c.args.column.now c.args.edge
    c.in_ok-found-2.found
    off c.in-Some.part
    (λ s. both s ∙ ap (λ b. matches c.args.column.now.cube s && b) (asked s)) found
