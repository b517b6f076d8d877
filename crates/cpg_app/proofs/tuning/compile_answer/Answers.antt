-- Proof of `compile_answer`, which compiles an admitted graph.
use Rattle.cpg_core.specs.declared.fault.CompileFault.{CompileFault}
use Rattle.cpg_core.specs.Accepted.{ShowsNoFinish}
use Rattle.cpg_core.proofs.AcceptedTables.{accepted_have_tables}
use Rattle.cpg_app.proofs.tuning.compile_answer.Goals as goal

-- the compile accepted the graph, so its tables have this greatest finish
pub returns-in-Ok : goal.returns-in-Ok
returns-in-Ok c =
    let graph = c.args.admitted.now.graph in
    let urgency = c.args.admitted.now.order in
    let narrow = c.in-Ok.ensures.narrow in
    let tables = accepted_have_tables graph urgency c.args.admitted.now.guards c.in-Ok.finish
    c.first_order-order.ensures.admitted narrow c.in-Ok.ensures.accepted in
    (narrow, tables.0, tables.1, tables.2)

-- the graph is late, by the scenario and the process that the fault names
pub returns-in-Err-Late : goal.returns-in-Err-Late
returns-in-Err-Late c =
    let graph = c.args.admitted.now.graph in
    let urgency = c.args.admitted.now.order in
    let shows : ShowsNoFinish graph urgency
    (CompileFault.Late c.in-Err-Late.field-0-0 c.in-Err-Late.field-0-1 c.in-Err-Late.finish) =
    rw c.in-Err-Late.field-0-is at c.in-Err-Late.ensures.fault in
    (shows.0, c.in-Err-Late.field-0-0, c.in-Err-Late.field-0-1, shows.1)
