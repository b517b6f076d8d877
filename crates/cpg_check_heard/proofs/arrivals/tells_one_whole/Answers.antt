-- Proof of `tells_one_whole`: whether one of these columns tells a bound by a time, by a literal of its frame, wherever
-- a cube matches.
use Rattle.std.proofs.Common.{All}
use Rattle.std.proofs.iter.Serving.{serving}
use Rattle.cpg_cube.specs.Fit.{IsKnown}
use Rattle.cpg_check_heard.specs.declared.arrivals.Arrival.{Arrival}
use Rattle.cpg_check_heard.proofs.arrivals.tells_one_whole.Goals as goal

-- the test may be called on each column, since its cube is on variables of the graph
pub any-requires-clause-callable : goal.any-requires-clause-callable
any-requires-clause-callable c =
    let known : All (λ (a : Arrival). IsKnown c.args.problem.now a.column.now.cube) c.args.arrivals.now =
    λ i d l. (c.requires.arrivals i d l).known in
    grind (serving, known)
