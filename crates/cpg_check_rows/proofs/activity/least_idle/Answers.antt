-- Proof of `least_idle`: the least scenario that a cube matches and in which a process isn't active.
use Rattle.std.proofs.Common.{◌≡◌, ◌&&◌, ◌∙◌, [], false, ap}
use Rattle.cpg_base.specs.First.{IsFirst}
use Rattle.cpg_cover.specs.Cover.{is_left}
use Rattle.cpg_rules.specs.Guards.{tree_of}
use Rattle.cpg_violation.specs.Activity.{comes_to}
use Rattle.cpg_check_rows.proofs.ActivityLaws.{idle_found}
use Rattle.cpg_check_rows.proofs.activity.least_idle.Goals as goal

-- the process is inactive exactly where its guard says so, and `least_at` was asked for that
pub returns : goal.returns
returns c =
    let graph = c.args.admitted.now.graph in
    let tree : c.guard_of-tree.result.now ≡ tree_of c.args.admitted.now.guards c.args.process =
    c.guard_of-tree.ensures.tree ∙ ap (λ guards. tree_of guards c.args.process) c.guards.ensures.guards in
    -- the answer, said of the guard of the process
    let found : IsFirst graph c.args.admitted.now.order
    (λ s. is_left [] c.args.cube.now s && comes_to (tree_of c.args.admitted.now.guards c.args.process) false s)
    c.in_ok-found.found =
    rw (← tree) c.in_ok-found.ensures in
    idle_found c.guards.ensures.admitted c.args.cube.now c.args.process c.requires.process c.in_ok-found.found found
