-- Proof of `least_without`: the least scenario that a cube matches and none of these columns does, and in which a
-- process is active.
use Rattle.std.proofs.Common.{◌≡◌, ◌&&◌, ◌∙◌, true, sym, ap, subst, map, List, All, Bor}
use Rattle.cpg_base.specs.First.{IsFirst}
use Rattle.cpg_cube.specs.declared.literal.Literal.{Literal}
use Rattle.cpg_cube.specs.Fit.{IsKnown}
use Rattle.cpg_cover.specs.Cover.{is_left}
use Rattle.cpg_cover.proofs.Kept.{all_unmapped}
use Rattle.cpg_rules.specs.Guards.{tree_of}
use Rattle.cpg_cube.specs.declared.column.Column.{Column}
use Rattle.cpg_violation.specs.Activity.{comes_to}
use Rattle.cpg_check_rows.proofs.PresentLaws.{all_mapped, active_found}
use Rattle.cpg_check_rows.proofs.present.least_without.Goals as goal

-- what the list's references point to
abbrev seen : Bor (List Literal) → List Literal
seen b = b.now

-- the cubes of the columns have variables of the graph alone
pub least_at-requires-clause-list : goal.least_at-requires-clause-list
least_at-requires-clause-list c =
    let graph = c.args.admitted.now.graph in
    let cubes : All (IsKnown graph) (map seen c.in_ok-by.by.items) = subst (All (IsKnown graph))
    (sym c.in_ok-by.ensures)
    (all_mapped (IsKnown graph) (λ (c : Column). c.cube) c.args.columns.now c.requires.columns) in
    rw (c.as_slice.ensures.value) (all_unmapped (IsKnown graph) seen c.in_ok-by.by.items cubes)

-- the process is active exactly where its guard says so, and `least_at` was asked for that in what the columns leave of
-- the cube
pub returns : goal.returns
returns c =
    let graph = c.args.admitted.now.graph in
    let by : map seen c.as_slice.result.now ≡ map (λ (c : Column). c.cube) c.args.columns.now =
    ap (map seen) c.as_slice.ensures.value ∙ c.in_ok-by.ensures in
    let tree : c.guard_of-tree.result.now ≡ tree_of c.args.admitted.now.guards c.args.process =
    c.guard_of-tree.ensures.tree ∙ ap (λ guards. tree_of guards c.args.process) c.guards.ensures.guards in
    let found : IsFirst graph c.args.admitted.now.order
    (λ s. is_left (map (λ (c : Column). c.cube) c.args.columns.now) c.args.cube.now s
    && comes_to (tree_of c.args.admitted.now.guards c.args.process) true s) c.in_ok-found.found =
    rw (← by, ← tree) c.in_ok-found.ensures in
    active_found c.guards.ensures.admitted (map (λ (c : Column). c.cube) c.args.columns.now) c.args.cube.now
    c.args.process c.requires.process c.in_ok-found.found found
