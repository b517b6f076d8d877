-- Proof of `least_uncarried`: the least scenario in which an edge is live and none of these columns matches.
use Rattle.std.proofs.Common.{◌≡◌, ◌&&◌, ◌∙◌, map, ap, subst}
use Rattle.cpg_base.specs.Activity.{active, live}
use Rattle.cpg_base.specs.Graph.{condition_of, edge_at, source}
use Rattle.cpg_rules.specs.Guards.{is_passed, test_of}
use Rattle.cpg_base.specs.First.{IsFirst}
use Rattle.cpg_base.specs.Scenario.{Scenario}
use Rattle.cpg_cube.specs.Cube.{matches}
use Rattle.cpg_cover.specs.Cover.{is_left}
use Rattle.cpg_cube.specs.declared.column.Column.{Column}
use Rattle.cpg_check_rows.proofs.PresentLaws.{absent_from, live_where}
use Rattle.cpg_check_rows.proofs.present.least_uncarried.Goals as goal

-- the edge is live exactly where its source is active and the cube of the asked value matches, and `least_without` was
-- asked for that
pub returns : goal.returns
returns c =
    let graph = c.args.admitted.now.graph in
    let order = c.args.admitted.now.order in
    let edge = c.args.edge in
    let same = c.problem-problem.ensures.problem in
    -- where the cube matches, and the answer, said of the edge's source
    let passed = subst (λ h. (s : Scenario) → matches c.in_ok-cube.cube s ≡ is_passed
    (test_of (condition_of h (source h edge)) (edge_at h edge).when) s.values) same c.in_ok-cube.ensures.passed in
    let is : c.source-process.result ≡ source graph edge = c.source-process.ensures.source
    ∙ ap (λ h. source h edge) same in
    let found =
    subst (λ p. IsFirst graph order (λ s. is_left (map (λ (c : Column). c.cube) c.args.columns.now) c.in_ok-cube.cube s
    && active graph s.values p) c.in_ok-found.found) is c.in_ok-found.ensures in
    absent_from graph order c.args.columns.now (λ s. live graph s.values edge) (source graph edge) c.in_ok-cube.cube
    (λ s lawful. live_where c.problem-problem.ensures.admitted s lawful edge c.requires.edge
    c.in_ok-cube.cube (passed s))
    c.in_ok-found.found found
