-- Proof of `started`: the entry of the start of an active process, or `None` if the scenario isn't the least of its
-- cube; narrows the cube by what the messages to the process told, unless it is frozen.
use Rattle.std.proofs.Common.{◌≡◌, ◌∙◌, ◌++◌, false, sym, subst}
use Rattle.cpg_base.specs.Graph.{process_at}
use Rattle.cpg_run.specs.Carried.{decided, heard, received}
use Rattle.cpg_run.specs.Found.{columns_of_rows}
use Rattle.cpg_list.specs.Narrowing.{IsEntryOf}
use Rattle.cpg_list.proofs.CodeStarts.{kept_of, frozen_start, start_plain}
use Rattle.cpg_list.proofs.starts.started.Goals as goal

-- the cube has what was carried before, what decides the process, and what its node heard and received
pub returns-clause-entry : goal.returns-clause-entry
returns-clause-entry c earlier is =
    let graph = c.args.frames.now.problem.now in
    let scenario = c.args.frames.now.scenario.now in
    let process = c.args.process in
    let rows = columns_of_rows c.args.frames.now.rows.now in
    let literals = earlier ++ decided graph scenario process ++ heard graph rows scenario process in
    let plain : (process_at graph process).frozen ≡ false =
    sym (c.is_frozen.ensures ∙ frozen_start graph process c.requires.process) ∙ c.if-is_frozen.false in
    subst (λ ls. IsEntryOf graph scenario c.args.time ls c.in_ok-entry-2.entry)
    (sym (start_plain graph rows scenario process earlier plain))
    (kept_of graph scenario c.args.time (literals ++ received graph rows scenario process) c.narrow_by_received.new.cube
    (c.in_ok-narrow_by_received.ensures.by literals is) c.in_ok-entry-2.entry c.in_ok-entry-2.ensures)
