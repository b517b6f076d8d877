-- Proof of `fork_by_sides`, which does what `fork` does, by comparing the whole of both lists.
use Rattle.std.proofs.Common.{◌≡◌, drop, take, subst, List}
use Rattle.cpg_tree.specs.Added.{RepeatsBelow}
use Rattle.cpg_tree.specs.declared.item.TreeItem.{TreeItem}
use Rattle.cpg_tree.proofs.Forks.{from_true}
use Rattle.cpg_tree.proofs.ForkLaws.{forks_same, forks_repeated}
use Rattle.cpg_tree.proofs.fork.fork_by_sides.Goals as goal

-- both sides are equal: the side above is cut off, and the side below alone is the fork
pub returns-then-sides_are_same-clause-made : goal.returns-then-sides_are_same-clause-made
returns-then-sides_are_same-clause-made g c before below above split =
    forks_same c.args.start c.args.middle c.args.out.now.items before below above split c.args.variable c.args.cut
    c.truncate.new.self.items
    (subst (λ (xs : List (TreeItem g.row.T.Denot)). drop c.args.start (take c.args.middle xs) ≡ drop c.args.middle xs)
    c.as_slice.ensures.value
    (from_true c.sides_are_same.result c.if-sides_are_same.true c.sides_are_same.ensures))
    c.truncate.ensures.items

-- the side below is repeated on the side above: it is taken out, and the side above alone is the fork
pub returns-then-above_repeats_below-clause-made : goal.returns-then-above_repeats_below-clause-made
returns-then-above_repeats_below-clause-made g c before below above split =
    forks_repeated c.args.start c.args.middle c.args.out.now.items before below above split c.args.variable c.args.cut
    c.take_out.new.out.items
    (subst (λ (xs : List (TreeItem g.row.T.Denot)). RepeatsBelow (drop c.args.start (take c.args.middle xs))
    (drop c.args.middle xs) c.args.variable c.args.cut) c.as_slice-2.ensures.value
    (from_true c.above_repeats_below.result c.if-above_repeats_below.true c.above_repeats_below.ensures))
    c.take_out.ensures
