-- Proof of `covers`, which says whether a list covers a cube.
use Rattle.std.proofs.Common.{◌≡◌, ◌∙◌, List, Bor, map, ap}
use Rattle.cpg_base.specs.First.{IsFirst}
use Rattle.cpg_cube.specs.declared.literal.Literal.{Literal}
use Rattle.cpg_cube.specs.Fit.{IsKnown}
use Rattle.cpg_cover.specs.Cover.{is_left}
use Rattle.cpg_cover.proofs.Kept.{all_unmapped}
use Rattle.cpg_cover.proofs.CoverLaws.{least_if_some}
use Rattle.cpg_cover.proofs.cover.covers.Goals as goal

-- the cubes of the list are of variables of the graph
pub uncovered-requires-clause-list : goal.uncovered-requires-clause-list
uncovered-requires-clause-list c =
    let graph = c.args.problem.now in
    rw c.as_slice.ensures.value
    (all_unmapped (IsKnown graph) (λ (b : Bor (List Literal)). b.now) c.in_ok-cubes.cubes.items
    (rw c.in_ok-cubes.ensures c.requires.list))

-- the scenario that was found is the first that is left of the cube by the cubes of the list
pub returns-clause-least : goal.returns-clause-least
returns-clause-least c =
    let graph = c.args.problem.now in
    -- the cubes referred to are those of the columns
    let same : map (λ (b : Bor (List Literal)). b.now) c.as_slice.result.now ≡ c.args.by.now =
    ap (map (λ (b : Bor (List Literal)). b.now)) c.as_slice.ensures.value ∙ c.in_ok-cubes.ensures in
    let first : IsFirst graph c.args.order.now (is_left c.args.by.now c.args.cube.now) c.in_ok-found.found =
    rw same at c.in_ok-found.ensures.first in
    least_if_some graph c.args.order.now (is_left c.args.by.now c.args.cube.now) c.in_ok-found.found first
