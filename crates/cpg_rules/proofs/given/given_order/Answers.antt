-- Proof of `given_order`: returns the order that a graph without a cycle gives, and `None` if it gives none.
use Rattle.std.proofs.Common.{◌≡◌, ◌<◌, ◌∙◌, ℕ, false, ap, subst, length}
use Rattle.cpg_base.specs.Graph.{process_count}
use Rattle.cpg_rules.specs.Given.{is_early}
use Rattle.cpg_rules.proofs.GivenOrders.{given_within, gives_topological, order_lawful, whole_long, none_early}
use Rattle.cpg_rules.proofs.given.given_order.Goals as goal

-- the list has only numbers of processes, none twice, and lacks none, so it has each number below its length once
pub order_of-requires : goal.order_of-requires
order_of-requires c =
    let within = given_within c.args.problem.now c.in-Some.list.now c.in-Some.ensures.order c.in-Some.ensures.within in
    order_lawful c.args.problem.now c.in-Some.list.now within c.in_default-lacking.ensures.none c.in-Some.ensures.within

-- a list that lacks no process is as long as there are processes
pub first_early-requires : goal.first_early-requires
first_early-requires c =
    let within = given_within c.args.problem.now c.in-Some.list.now c.in-Some.ensures.order c.in-Some.ensures.within in
    ap length c.in_ok-order.ensures
    ∙ whole_long c.args.problem.now c.in-Some.list.now within c.in_default-lacking.ensures.none

-- no process is lacking and none is early, so the given order is topological
pub returns-clause-topological : goal.returns-clause-topological
returns-clause-topological c =
    let g = c.args.problem.now in
    let within = given_within g c.in-Some.list.now c.in-Some.ensures.order c.in-Some.ensures.within in
    let late : (p : ℕ) → p < process_count g → is_early g c.in-Some.list.now p ≡ false = subst
    (λ xs. (p : ℕ) → p < process_count g → is_early g xs p ≡ false) c.in_ok-order.ensures
    c.in_default-first_early.ensures.none in
    gives_topological g c.in-Some.list.now c.in-Some.ensures.order
    (none_early g c.in-Some.list.now within c.in_default-lacking.ensures.none c.requires.0 c.requires.1
    c.in-Some.ensures.within late)
