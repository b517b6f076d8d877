-- Proof of `value`, which returns the tree that has in each scenario of at most `k` faults the value of a condition.
use Rattle.std.proofs.Common.{ℕ, ◌+◌, ◌≡◌, Bool, sym, subst, arith}
use Rattle.cpg_base.specs.Scenario.{number_of_value}
use Rattle.cpg_tree.specs.Tree.{TreeState, DoPathsPass, IsNumber}
use Rattle.cpg_tree.proofs.Flats.{all_added}
use Rattle.cpg_tree.proofs.Numbers.{some_whole, number_paths, value_at_most}
use Rattle.cpg_tree.proofs.Passing.{paths_of_forks}
use Rattle.cpg_tree.proofs.variables.value.Goals as goal

-- the tree of false and true fits the space of all scenarios, so its list is good
pub of-requires : goal.of-requires
of-requires c =
    let w = some_whole c.args.k in
    let r = c.in_ok-push_value.ensures in (
      r.0,
      all_added c.in_ok-items.items.items c.push_value.new.out.items r.0 c.in_ok-items.ensures.items r.1,
      (w.0, w.1, r.2.fit c.args.k w.0 w.1),
    )

-- in each path the tree has the value of the condition, and its forks are on that value alone
pub returns-clause-is : goal.returns-clause-is
returns-clause-is c =
    let k : ℕ = c.args.k in
    let v : ℕ = 128 + c.args.condition in
    let w = some_whole k in
    let r = c.in_ok-push_value.ensures in
    subst (IsNumber v k number_of_value) (sym (c.of.ensures.is r.0
    (all_added c.in_ok-items.items.items c.push_value.new.out.items r.0 c.in_ok-items.ensures.items r.1)))
    (number_paths v k number_of_value r.0 (w.0, w.1, r.2.fit k w.0 w.1)
    (λ s few. r.2.value.value s (value_at_most k s few v (omega arith))) r.2.value.only)

-- all forks are on the value, so what passes for it passes for the tree
pub returns-clause-pass : goal.returns-clause-pass
returns-clause-pass c test on =
    let r = c.in_ok-push_value.ensures in
    subst (λ (x : TreeState Bool). DoPathsPass test x.paths) (sym (c.of.ensures.is r.0
    (all_added c.in_ok-items.items.items c.push_value.new.out.items r.0 c.in_ok-items.ensures.items r.1)))
    (paths_of_forks test c.args.k r.0 (r.2.pass test on))
