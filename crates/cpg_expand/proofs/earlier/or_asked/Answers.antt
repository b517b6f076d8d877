-- Proof of `or_asked`, which returns a tree that is true where `asked` is, or where the guard of process `other` tests
-- the condition on the scenario's way. If `other` isn't in the span or not before `to`, `asked` itself is returned.
use Rattle.std.proofs.Common.{true, subst, sym, ◌∙◌}
use Rattle.cpg_order.specs.Guard.{Guard}
use Rattle.cpg_tree.specs.Tree.{IsConstant}
use Rattle.cpg_tree.specs.Variables.{is_variable}
use Rattle.cpg_expand.specs.Guarded.{IsTestedOn}
use Rattle.cpg_expand.proofs.EarlierFound.{asked_same, asked_too, between_from, not_between}
use Rattle.cpg_expand.proofs.GuardTrees.{constant_tree}
use Rattle.cpg_tree.proofs.GraphTrees.{same_tree}
use Rattle.cpg_expand.proofs.earlier.or_asked.Goals as goal

-- the tree has the faults and variables of the graph, as those that it is picked from have
pub returns-clause-tree : goal.returns-clause-tree
returns-clause-tree c =
    let g = c.args.span.now.problem.now in
    let of_tested = c.in_ok-tested.ensures.tree in
    same_tree g c.in_ok-tested.tested c.in_ok-either.either of_tested.faults c.in_ok-either.ensures.is.faults
    c.in_ok-either.ensures.each
    (c.in_ok-either.ensures.pass (is_variable g) of_tested.known
    (c.in_ok-always.ensures.pass (is_variable g)) c.requires.tree.known)

-- the process stands between the places, so the tree is true where its guard tests the condition, too
pub returns-clause-asked : goal.returns-clause-asked
returns-clause-asked c =
    let g = c.args.span.now.problem.now in
    let span = c.args.span.now in
    asked_too g span.order.now span.guards.now span.node span.from c.args.to c.args.condition c.args.other
    c.in_ok-tested.tested c.in_ok-always.always c.args.asked c.in_ok-either.either
    (between_from g span.order.now span.node span.from c.args.to c.args.other c.requires.other
    (sym c.stands_between.ensures ∙ c.if-not-stands_between.false))
    c.in_ok-tested.ensures.tree
    (constant_tree g true c.faults.result c.in_ok-always.always c.faults.ensures.faults c.in_ok-always.ensures.each
    c.in_ok-always.ensures.is (c.in_ok-always.ensures.pass (is_variable g)))
    c.requires.tree (subst (λ (guard : Guard). IsTestedOn g.faults guard c.args.condition c.in_ok-tested.tested)
    c.guard_of.ensures.tree c.in_ok-tested.ensures.tested)
    (subst (λ n. IsConstant true n c.in_ok-always.always) c.faults.ensures.faults c.in_ok-always.ensures.is)
    c.in_ok-either.ensures.is c.requires.asked

-- the process does not stand between the places, so the tree stays as it is
pub returns-then-not-stands_between-clause-asked : goal.returns-then-not-stands_between-clause-asked
returns-then-not-stands_between-clause-asked c =
    let g = c.args.span.now.problem.now in
    let span = c.args.span.now in
    asked_same g span.order.now span.guards.now span.node span.from c.args.to c.args.condition c.args.other c.args.asked
    (not_between g span.order.now span.node span.from c.args.to c.args.other
    (sym c.stands_between.ensures ∙ c.if-not-stands_between.true)) c.requires.asked
