-- Proof of `Listener::is_over`: whether a process is over by a time in the scenarios of a space.
use Rattle.std.proofs.lemmas.Bool.{OnTrue_at}
use Rattle.cpg_tree.proofs.Passes.{of_true}
use Rattle.cpg_check_quick.specs.Order.{execution}
use Rattle.cpg_check_quick.proofs.OrderLaws.{row_at}
use Rattle.cpg_check_quick.proofs.listening.Listener.is_over.Goals as goal

-- the execution is over by the time in each scenario, so in those of the space
pub returns-then-is_early : goal.returns-then-is_early
returns-then-is_early c = λ tables s sequences law lies.
    let graph = c.args.self.now.admitted.now.graph in
    OnTrue_at c.if-is_early.true c.is_early.ensures graph tables (execution graph c.args.process) c.args.process s
    (row_at sequences.rows c.args.process c.in-Some.row.now c.deref.result.now c.deref.ensures.value
    c.in-Some.ensures.lookup.3.0 c.in-Some.ensures.lookup.1) law

-- the execution is over by the time in each scenario of the space
pub returns : goal.returns
returns c = of_true c.is_over.result c.is_over.ensures (λ over tables s sequences law lies.
    let graph = c.args.self.now.admitted.now.graph in
    over graph tables (execution graph c.args.process) c.args.process s
    (row_at sequences.rows c.args.process c.in-Some.row.now c.deref.result.now c.deref.ensures.value
    c.in-Some.ensures.lookup.3.0 c.in-Some.ensures.lookup.1) law lies)
