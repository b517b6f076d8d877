-- Proof of `is_late`, which says whether the part needn't be searched: true only if a scenario is found, and none that
-- the part matches comes before it.
use Rattle.std.proofs.Common.{◌∙◌, Some, sym, not}
use Rattle.std.proofs.lemmas.Bool.{OnTrue_from, not-true}
use Rattle.cpg_base.specs.First.{IsFirst}
use Rattle.cpg_base.proofs.ScenarioOrder.{not_before_transitive}
use Rattle.cpg_cube.specs.Cube.{matches}
use Rattle.cpg_cover.specs.Late.{IsLate}
use Rattle.cpg_cover.proofs.cover.is_late.Goals as goal

-- the least scenario of the part is one of the graph
pub is_before-requires-clause-first : goal.is_before-requires-clause-first
is_before-requires-clause-first c =
    let first : IsFirst c.args.problem.now c.args.order.now (matches c.args.part.now) (Some c.in-Some-2.least) =
    rw c.in-Some-2.is at (c.in_ok-least.ensures.first c.args.order.now) in
    first.lawful

-- the least scenario of the part isn't before the one that is found, so none of the part is
pub returns : goal.returns
returns c =
    let graph = c.args.problem.now in
    let order = c.args.order.now in
    -- the least scenario that the cube matches
    let first : IsFirst graph order (matches c.args.part.now) (Some c.in-Some-2.least) =
    rw c.in-Some-2.is at (c.in_ok-least.ensures.first order) in
    rw c.in-Some.is (OnTrue_from (not c.is_before.result) (IsLate graph order c.args.part.now (Some c.in-Some.found))
    (λ not_before s lawful matched. not_before_transitive graph order c.in-Some.found c.in-Some-2.least s
    (sym c.is_before.ensures ∙ not-true c.is_before.result not_before) (first.least s lawful matched)))
