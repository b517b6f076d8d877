-- Proof of `fault`, which returns the tree that has in each scenario of at most `k` faults the fault count of a
-- process.
use Rattle.std.proofs.Common.{ℕ, ◌≡◌, sym, subst, arith}
use Rattle.cpg_tree.specs.Tree.{TreeState, DoPathsPass, IsNumber}
use Rattle.cpg_tree.proofs.Flats.{all_added}
use Rattle.cpg_tree.proofs.Numbers.{some_whole, whole_counts, number_paths, count_at_most}
use Rattle.cpg_tree.proofs.Passing.{paths_of_forks}
use Rattle.cpg_tree.proofs.variables.fault.Goals as goal

-- the tree of all counts from 0 on fits the space of all scenarios, so its list is good
pub of-requires : goal.of-requires
of-requires c =
    let w = some_whole c.args.k in
    let r = c.in_ok-push_counts.ensures.made in (
      r.0,
      all_added c.in_ok-items.items.items c.push_counts.new.out.items r.0 c.in_ok-items.ensures.items r.1,
      (
        w.0,
        w.1,
        r.2.fit w.0
            (whole_counts c.args.k w.0 c.args.process c.requires.process w.1),
      ),
    )

-- in each path the tree has the count of the process, and its forks are on that count alone
pub returns-clause-is : goal.returns-clause-is
returns-clause-is c =
    let k : ℕ = c.args.k in
    let p : ℕ = c.args.process in
    let w = some_whole k in
    let r = c.in_ok-push_counts.ensures.made in
    subst (IsNumber p k (λ (n : ℕ). n)) (sym (c.of.ensures.is r.0
    (all_added c.in_ok-items.items.items c.push_counts.new.out.items r.0 c.in_ok-items.ensures.items r.1)))
    (number_paths p k (λ (n : ℕ). n) r.0 (w.0, w.1, r.2.fit w.0 (whole_counts k w.0 p c.requires.process w.1))
    (λ s few. r.2.counts.value s (omega arith) (count_at_most k s few p c.requires.process)) r.2.counts.only)

-- all forks are on the count, so what passes for it passes for the tree
pub returns-clause-pass : goal.returns-clause-pass
returns-clause-pass c test on =
    let r = c.in_ok-push_counts.ensures.made in
    subst (λ (x : TreeState ℕ). DoPathsPass test x.paths) (sym (c.of.ensures.is r.0
    (all_added c.in_ok-items.items.items c.push_counts.new.out.items r.0 c.in_ok-items.ensures.items r.1)))
    (paths_of_forks test c.args.k r.0 (r.2.pass test on))
