-- Proof of `InputRows::are_early`: whether what each of these inputs comes by is over by a time even if it begins by
-- its last column and lasts longest.
use Rattle.std.proofs.lemmas.Bool.{OnTrue_at}
use Rattle.std.proofs.lemmas.List.Elements.{All-more}
use Rattle.cpg_check_quick.specs.Inputs.{IsInputOver}
use Rattle.cpg_violation.proofs.SureLaws.{each_all}
use Rattle.cpg_check_quick.proofs.input_rows.InputRows.are_early.Goals as goal

-- the test passed for the next input, so what it guarantees holds of one input more
pub loop-edge-preserved : goal.loop-edge-preserved
loop-edge-preserved c =
    λ tables s w law. All-more (λ e. IsInputOver c.args.self.now.admitted.now.graph tables e c.args.time s)
    c.args.edges.now c.loop-edge.edge-index 0 c.loop-edge-test.true
    (c.loop-edge.invariant tables s w law) (OnTrue_at c.if-not-is_early.false c.is_early.ensures tables s w law)

-- the loop has gone over all inputs, so what its invariant says of those so far holds of each
pub returns : goal.returns
returns c = λ tables s w law. each_all (λ e. IsInputOver c.args.self.now.admitted.now.graph tables e c.args.time s)
    c.args.edges.now c.loop-edge.edge-index c.loop-edge-test.false
    (c.loop-edge.invariant tables s w law)
