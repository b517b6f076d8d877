-- Proof of `is_idle`: whether a process is active in no scenario of a space.
use Rattle.std.proofs.Common.{◌≡◌, ◌≤◌, ◌∙◌, ap, arith}
use Rattle.cpg_base.specs.declared.limits.TheConstants.{MOST_CONDITIONS}
use Rattle.cpg_rules.specs.Guards.{Guards, tree_of}
use Rattle.cpg_tree.proofs.Passes.{of_true}
use Rattle.cpg_violation.proofs.GuardLaws.{idle_of}
use Rattle.cpg_violation.proofs.guards.is_idle.Goals as goal

-- the conditions of the guards are few, and the guard of the process tests no others
pub is_never-requires : goal.is_never-requires
is_never-requires c =
    let few : c.guards.result.now.conditions ≤ MOST_CONDITIONS =
    omega (
      arith,
      ap (λ (t : Guards). t.conditions) c.guards.ensures.guards,
      c.guards.ensures.admitted.guards.conditions,
      c.guards.ensures.admitted.limits.few_conditions,
    ) in
    (c.guards.result.now.conditions, few, c.guard_of.ensures.below)

-- the guard of the process says active in no scenario of the space, so the process is inactive in each
pub returns : goal.returns
returns c =
    let tree : c.guard_of.result.now ≡ tree_of c.args.admitted.now.guards c.args.process =
    c.guard_of.ensures.tree ∙ ap (λ guards. tree_of guards c.args.process) c.guards.ensures.guards in
    of_true c.is_never.result c.is_never.ensures (λ never s lawful lies.
    idle_of c.guards.ensures.admitted c.args.process c.requires s lawful (rw tree at (never s lies)))
