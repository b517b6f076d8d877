-- Proof of `compile_taken`: returns the rows of the order that is taken, given that nothing is late under it, or the
-- fault that shows why there are none.
use Rattle.std.proofs.Common.{subst}
use Rattle.cpg_order.specs.Urgency.{first_order}
use Rattle.cpg_core.specs.Accepted.{order_taken}
use Rattle.cpg_core.specs.Compiled.{IsCompileOrder}
use Rattle.cpg_core.proofs.compiling.compile_taken.Goals as goal

-- an order is handed in, so the track order is the one that is taken
pub compile_tracks-requires-clause-taken : goal.compile_tracks-requires-clause-taken
compile_tracks-requires-clause-taken c =
    let g = c.args.admitted.now.graph in
    let urgency = c.args.admitted.now.order in
    subst (λ o. IsCompileOrder g urgency (order_taken (first_order g urgency) o)) c.in-Some.is c.requires.taken

-- no order is handed in, so the first order is the one that is taken
pub compile_first-requires-clause-taken : goal.compile_first-requires-clause-taken
compile_first-requires-clause-taken c =
    let g = c.args.admitted.now.graph in
    let urgency = c.args.admitted.now.order in
    subst (λ o. IsCompileOrder g urgency (order_taken (first_order g urgency) o)) c.in-None.is c.requires.taken
