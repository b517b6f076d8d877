-- Proof of `least_unlive`: the least scenario that a cube matches and in which an edge isn't live: its source isn't
-- active, or has the other value.
use Rattle.std.proofs.Common.{◌≡◌, ◌&&◌, ◌∙◌, not, ap, subst}
use Rattle.cpg_base.specs.Activity.{active, live}
use Rattle.cpg_base.specs.Graph.{condition_of, edge_at, source}
use Rattle.cpg_rules.specs.Guards.{is_passed, test_of}
use Rattle.cpg_base.specs.First.{IsFirst}
use Rattle.cpg_cube.specs.Cube.{matches, holds}
use Rattle.cpg_cover.proofs.AlongLaws.{lawful_if_some}
use Rattle.cpg_violation.proofs.LiveEdges.{live_tested}
use Rattle.cpg_violation.proofs.Violations.{long_order}
use Rattle.cpg_check_rows.proofs.ActivityLaws.{unlive_idle, unlive_either}
use Rattle.cpg_check_rows.proofs.activity.least_unlive.Goals as goal

-- the edge asks for no value, so it isn't live exactly if its source isn't active
pub returns-in_default : goal.returns-in_default
returns-in_default c =
    let graph = c.args.admitted.now.graph in
    let order = c.args.admitted.now.order in
    let admitted = c.problem-problem.ensures.admitted in
    let edge = c.args.edge in
    let is : c.source-process.result ≡ source graph edge =
    c.source-process.ensures.source ∙ ap (λ h. source h edge) c.problem-problem.ensures.problem in
    -- the least scenario in which the source isn't active
    let idle =
    subst (λ p. IsFirst graph order
    (λ s. matches c.args.cube.now s && not (active graph s.values p)) c.in_ok-idle.idle) is
    c.in_ok-idle.ensures in
    -- the source always has the value that the edge asks for, as it asks for none
    let none = rw (c.in_default.is, c.problem-problem.ensures.problem) at c.other_value.ensures.none in
    unlive_idle graph order c.args.cube.now (λ s. active graph s.values (source graph edge))
    (λ s. is_passed (test_of (condition_of graph (source graph edge)) (edge_at graph edge).when) s.values)
    (λ s. live graph s.values edge) c.in_ok-idle.idle
    (λ s i. live_tested graph order admitted.topological c.args.admitted.now.guards admitted.guards s.values
    i.values edge c.requires.edge)
    none idle

-- the urgency order has each process
pub earlier-requires-clause-order : goal.earlier-requires-clause-order
earlier-requires-clause-order c =
    rw (c.order-order.ensures.order, c.problem-problem.ensures.problem) (long_order c.order-order.ensures.admitted)

-- the scenario with the other value, if there is one, is lawful
pub earlier-requires-clause-second : goal.earlier-requires-clause-second
earlier-requires-clause-second c = lawful_if_some c.problem-problem.result.now c.order-order.result.now
    (λ s. matches c.args.cube.now s && holds s c.in-Some.literal) c.in_ok-other.other
    (c.in_ok-other.ensures c.order-order.result.now)

-- the edge isn't live if its source isn't active or has the other value, so the earlier of both is the least
pub returns : goal.returns
returns c =
    let graph = c.args.admitted.now.graph in
    let order = c.args.admitted.now.order in
    let admitted = c.problem-problem.ensures.admitted in
    let edge = c.args.edge in
    -- the edge's source
    let is : c.source-process.result ≡ source graph edge =
    c.source-process.ensures.source ∙ ap (λ h. source h edge) c.problem-problem.ensures.problem in
    -- the least scenario in which it isn't active, and the least in which it has the other value
    let idle =
    subst (λ p. IsFirst graph order
    (λ s. matches c.args.cube.now s && not (active graph s.values p)) c.in_ok-idle.idle) is
    c.in_ok-idle.ensures in
    let other = rw c.problem-problem.ensures.problem at (c.in_ok-other.ensures order) in
    let some = rw c.problem-problem.ensures.problem at c.in-Some.ensures.some in
    rw (c.earlier.ensures, c.problem-problem.ensures.problem, c.order-order.ensures.order)
    (unlive_either graph order c.args.cube.now (λ s. active graph s.values (source graph edge))
    (λ s. is_passed (test_of (condition_of graph (source graph edge)) (edge_at graph edge).when) s.values)
    (λ s. live graph s.values edge) c.in-Some.literal c.in_ok-idle.idle c.in_ok-other.other
    (λ s i. live_tested graph order admitted.topological c.args.admitted.now.guards admitted.guards s.values
    i.values edge c.requires.edge)
    some idle other)
