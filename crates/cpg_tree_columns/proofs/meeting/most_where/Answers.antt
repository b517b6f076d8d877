-- Proof of `most_where`, which returns the greatest number that `tree` has in a scenario in which `wanted` is true;
-- `None` exactly if there is none. `root` is the tree that the items are of, as `are` says; `good`: it is in the form
-- that trees are kept in; `seen_paths`: callers see its paths. `other` and `also` are the same for the second tree.
use Rattle.std.proofs.Common.{ℕ, Bool, Option, sym, subst}
use Rattle.cpg_tree.specs.Space.{HasAtMostFaults, IsWhole}
use Rattle.cpg_tree.specs.TreeNode.{TreeNode}
use Rattle.cpg_tree_columns.proofs.Meetings.{none_where, some_where}
use Rattle.cpg_tree_columns.proofs.meeting.most_where.Goals as goal

-- no number is found in the space of all scenarios, so callers see none where the other tree is true
pub returns-clause-none : goal.returns-clause-none
returns-clause-none c =
    let root : TreeNode (Option ℕ) = c.items.ensures.flat.0 in
    let are = c.items.ensures.flat.1 in
    let other : TreeNode Bool = c.items-2.ensures.flat.0 in
    let also = c.items-2.ensures.flat.1 in
    -- the tree's list is that of a good root
    let good = c.items.ensures.good root are in
    let seen_paths = c.items.ensures.paths root are in
    let good_too = c.items-2.ensures.good other also in
    let seen_too = c.items-2.ensures.paths other also in
    none_where c.args.tree.now c.args.wanted.now root other good seen_paths good_too seen_too
    c.requires.same
    c.whole-space.result (subst (λ (k : ℕ). IsWhole k c.whole-space.result) c.faults.ensures c.whole-space.ensures.is)
    (λ s few. c.whole-space.ensures.lies s (subst (λ (k : ℕ). HasAtMostFaults k s) (sym c.faults.ensures) few))
    c.most_in_space.result (c.most_in_space.ensures.most root other are also)

-- all scenarios lie in the whole space, so the greatest number found there is the greatest that callers see where the
-- other tree is true
pub returns-clause-some : goal.returns-clause-some
returns-clause-some c =
    let root : TreeNode (Option ℕ) = c.items.ensures.flat.0 in
    let are = c.items.ensures.flat.1 in
    let other : TreeNode Bool = c.items-2.ensures.flat.0 in
    let also = c.items-2.ensures.flat.1 in
    -- the tree's list is that of a good root
    let good = c.items.ensures.good root are in
    let seen_paths = c.items.ensures.paths root are in
    let good_too = c.items-2.ensures.good other also in
    let seen_too = c.items-2.ensures.paths other also in
    some_where c.args.tree.now c.args.wanted.now root other good seen_paths good_too seen_too
    c.requires.same
    c.whole-space.result (subst (λ (k : ℕ). IsWhole k c.whole-space.result) c.faults.ensures c.whole-space.ensures.is)
    (λ s few. c.whole-space.ensures.lies s (subst (λ (k : ℕ). HasAtMostFaults k s) (sym c.faults.ensures) few))
    c.most_in_space.result (c.most_in_space.ensures.most root other are also)
