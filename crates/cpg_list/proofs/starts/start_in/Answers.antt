-- Proof of `start_in`: the entry of the start of a process in a scenario, or `None` if it is inactive or the scenario
-- isn't the least of its cube; narrows what the node carries on.
use Rattle.std.proofs.Common.{◌≡◌, ◌∙◌, ℕ, ◌++◌, ◌∷◌, [], true, false, is_some, Contains, sym, ap, subst}
use Rattle.cpg_base.specs.Graph.{Graph, inputs, broadcast_item, message_item}
use Rattle.cpg_base.specs.Activity.{active}
use Rattle.cpg_order.specs.Deciding.{deciding}
use Rattle.cpg_run.specs.Carried.{decided, heard, number_known}
use Rattle.cpg_list.specs.Learning.{RowTells, start_after, received_unless_frozen}
use Rattle.cpg_run.specs.Found.{columns_of_rows}
use Rattle.cpg_list.specs.Narrowing.{IsNarrowed, IsEntryOf, IsEntryAt}
use Rattle.cpg_run.specs.Rows.{IsCubeOf}
use Rattle.cpg_list.proofs.CodeCubes.{narrowed_then}
use Rattle.cpg_list.proofs.CodeStarts.{passed_idle, passed_active, process_active}
use Rattle.cpg_list.proofs.starts.start_in.Goals as goal

-- the row of each deciding condition's broadcast is made; the frames are of the same graph
pub narrow_by_heard-requires-clause-told : goal.narrow_by_heard-requires-clause-told
narrow_by_heard-requires-clause-told c =
    subst (λ (h : Graph). (d : ℕ) → Contains (deciding h c.args.frames.now.scenario.now.values c.args.process) d →
    RowTells h (columns_of_rows c.args.frames.now.rows.now) c.args.frames.now.scenario.now c.args.frames.now.times.now
    (broadcast_item h d)) (sym c.requires.graph) c.requires.heard

-- the row of each input's message is made; the frames are of the same graph
pub started-requires-clause-told : goal.started-requires-clause-told
started-requires-clause-told c =
    subst (λ (h : Graph). (e : ℕ) → Contains (inputs h c.args.process) e → RowTells h
    (columns_of_rows c.args.frames.now.rows.now) c.args.frames.now.scenario.now c.args.frames.now.times.now
    (message_item h e)) (sym c.requires.graph) c.requires.received

-- the process is inactive, so it passes on only what decides it and what its node heard
pub returns-in_default-clause-carried : goal.returns-in_default-clause-carried
returns-in_default-clause-carried c =
    let graph = c.args.admitted.now.graph in
    let scenario = c.args.frames.now.scenario.now in
    let process = c.args.process in
    let rows = columns_of_rows c.args.frames.now.rows.now in
    let same_graph = c.requires.graph in
    -- the cube is narrowed by what decides the process, and then by what its node hears
    let by_decided = subst (λ (h : Graph). IsNarrowed h.faults (decided h scenario process) c.args.cube.now
    c.narrow_by_decided.new.cube)
    same_graph c.in_ok-narrow_by_decided.ensures in
    let by_heard = subst
    (λ (h : Graph). IsNarrowed h.faults (heard h rows scenario process) c.narrow_by_decided.new.cube
    c.narrow_by_heard.new.cube)
    same_graph c.in_ok-narrow_by_heard.ensures in
    -- the run has no time for the process, so it is inactive
    let off : active graph scenario.values process ≡ false =
    sym (process_active graph rows scenario process c.requires.process c.args.frames.now.times.now c.requires.active)
    ∙ ap is_some (sym c.time.ensures ∙ c.in_default.is) in
    subst (λ ls. IsNarrowed graph.faults ls c.args.cube.now c.narrow_by_heard.new.cube)
    (sym (passed_idle graph rows scenario process off))
    (narrowed_then graph.faults (decided graph scenario process)
    (heard graph rows scenario process) c.args.cube.now c.narrow_by_decided.new.cube
    c.narrow_by_heard.new.cube by_decided by_heard)

-- the process is active and starts at its time, frozen or not
pub returns-clause-entry : goal.returns-clause-entry
returns-clause-entry c earlier is =
    let graph = c.args.admitted.now.graph in
    let scenario = c.args.frames.now.scenario.now in
    let process = c.args.process in
    let rows = columns_of_rows c.args.frames.now.rows.now in
    let same_graph = c.requires.graph in
    -- the cube is narrowed by what decides the process, and then by what its node hears
    let by_decided = subst (λ (h : Graph). IsNarrowed h.faults (decided h scenario process) c.args.cube.now
    c.narrow_by_decided.new.cube)
    same_graph c.in_ok-narrow_by_decided.ensures in
    let by_heard = subst
    (λ (h : Graph). IsNarrowed h.faults (heard h rows scenario process) c.narrow_by_decided.new.cube
    c.narrow_by_heard.new.cube)
    same_graph c.in_ok-narrow_by_heard.ensures in
    -- so it is the cube of what was passed on before, what decides the process and what is heard
    let is_cube = by_heard.by (earlier ++ decided graph scenario process) (by_decided.by earlier is) in
    let found = subst
    (λ (h : Graph). IsCubeOf h.faults (earlier ++ decided h scenario process ++ heard h rows scenario process)
    c.narrow_by_heard.new.cube →
    IsEntryOf h scenario c.in-Some.time (start_after h rows scenario process earlier) c.in_ok-entry.entry) same_graph
    (c.in_ok-entry.ensures.entry earlier) in
    subst (λ o. IsEntryAt graph scenario o (start_after graph rows scenario process earlier) c.in_ok-entry.entry)
    (sym c.in-Some.is ∙ c.time.ensures) (found is_cube)

-- the process is active, so it also passes on its count and, unless it is frozen, what it receives
pub returns-clause-carried : goal.returns-clause-carried
returns-clause-carried c =
    let graph = c.args.admitted.now.graph in
    let scenario = c.args.frames.now.scenario.now in
    let process = c.args.process in
    let rows = columns_of_rows c.args.frames.now.rows.now in
    let same_graph = c.requires.graph in
    -- the cube is narrowed by what decides the process, by what is heard, by what is received, and by its count
    -- the cube was narrowed by what decides the process, and then by what the broadcasts told of that
    let by_decided = subst (λ (h : Graph). IsNarrowed h.faults (decided h scenario process) c.args.cube.now
    c.narrow_by_decided.new.cube)
    same_graph c.in_ok-narrow_by_decided.ensures in
    let by_heard = subst
    (λ (h : Graph). IsNarrowed h.faults (heard h rows scenario process) c.narrow_by_decided.new.cube
    c.narrow_by_heard.new.cube)
    same_graph c.in_ok-narrow_by_heard.ensures in
    let by_received = subst (λ (h : Graph). IsNarrowed h.faults (received_unless_frozen h rows scenario process)
    c.narrow_by_heard.new.cube
    c.started.new.cube) same_graph c.in_ok-entry.ensures.carried in
    let by_count = subst
    (λ (h : Graph). IsNarrowed h.faults (number_known scenario process ∷ []) c.started.new.cube
    c.narrow_to_number.new.cube) same_graph
    c.in_ok-narrow_to_number.ensures in
    -- the process is active, since it has a time
    let on : active graph scenario.values process ≡ true =
    sym (process_active graph rows scenario process c.requires.process c.args.frames.now.times.now c.requires.active)
    ∙ ap is_some (sym c.time.ensures ∙ c.in-Some.is) in
    -- together these are what an active process passes on
    subst (λ ls. IsNarrowed graph.faults ls c.args.cube.now c.narrow_to_number.new.cube)
    (sym (passed_active graph rows scenario process on))
    (narrowed_then graph.faults (decided graph scenario process ++ heard graph rows scenario process)
    (received_unless_frozen graph rows scenario process
    ++ number_known scenario process ∷ []) c.args.cube.now c.narrow_by_heard.new.cube c.narrow_to_number.new.cube
    (narrowed_then graph.faults (decided graph scenario process)
    (heard graph rows scenario process) c.args.cube.now c.narrow_by_decided.new.cube
    c.narrow_by_heard.new.cube by_decided by_heard)
    (narrowed_then graph.faults (received_unless_frozen graph rows scenario process)
    (number_known scenario process ∷ []) c.narrow_by_heard.new.cube c.started.new.cube
    c.narrow_to_number.new.cube by_received by_count))
