-- Proof of `InputRows::is_over`: whether what an input comes by is over by a time in those scenarios of a space in
-- which the input is live.
use Rattle.std.proofs.Common.{true≢false, sym, ◌∙◌}
use Rattle.std.proofs.lemmas.Bool.{OnTrue_at, and_parts}
use Rattle.cpg_base.specs.Activity.{active}
use Rattle.cpg_base.specs.Graph.{source}
use Rattle.cpg_tree.proofs.Passes.{of_true}
use Rattle.cpg_check_quick.proofs.InputRowLaws.{input_over}
use Rattle.cpg_check_quick.proofs.input_rows.InputRows.is_over.Goals as goal

-- the source never has the value that the edge asks for in the space, so the edge is live nowhere there
pub returns-then-is_refused : goal.returns-then-is_refused
returns-then-is_refused c = λ tables s w law lies on.
    let graph = c.args.self.now.admitted.now.graph in
    let refused = rw c.problem.ensures.problem at c.is_refused.ensures in
    absurd (true≢false (sym (and_parts (active graph s.values (source graph c.args.edge)) _ on).1
    ∙ OnTrue_at c.if-is_refused.true refused s lies))

-- the row is that of what the input comes by, which is over by the time in each scenario of the space
pub returns-in-Some : goal.returns-in-Some
returns-in-Some c = of_true c.is_over.result c.is_over.ensures
    (λ over tables s w law lies on. input_over (c.in-Some.ensures tables w) c.args.time s
    (λ lasts x is. over c.args.self.now.admitted.now.graph tables lasts x s is law lies))
