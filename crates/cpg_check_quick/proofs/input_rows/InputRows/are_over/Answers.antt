-- Proof of `InputRows::are_over`: whether what each of these inputs comes by is over by a time in those scenarios of a
-- space in which the input is live.
use Rattle.std.proofs.Common.{◌≡◌, true}
use Rattle.std.proofs.lemmas.Bool.{OnTrue_at}
use Rattle.std.proofs.lemmas.List.Elements.{All-more}
use Rattle.cpg_base.specs.Activity.{live}
use Rattle.cpg_check_quick.specs.Inputs.{IsInputOver}
use Rattle.cpg_violation.proofs.SureLaws.{each_all}
use Rattle.cpg_check_quick.proofs.input_rows.InputRows.are_over.Goals as goal

-- the test passed for the next input, so what it guarantees holds of one input more
pub loop-edge-preserved : goal.loop-edge-preserved
loop-edge-preserved c =
    λ tables s w law lies. All-more (λ e. live c.args.self.now.admitted.now.graph s.values e ≡ true →
    IsInputOver c.args.self.now.admitted.now.graph tables e c.args.time s)
    c.args.edges.now c.loop-edge.edge-index 0 c.loop-edge-test.true
    (c.loop-edge.invariant tables s w law lies) (OnTrue_at c.if-not-is_over.false c.is_over.ensures tables s w law lies)

-- the loop has gone over all inputs, so what its invariant says of those so far holds of each
pub returns : goal.returns
returns c = λ tables s w law lies. each_all (λ e. live c.args.self.now.admitted.now.graph s.values e ≡ true →
    IsInputOver c.args.self.now.admitted.now.graph tables e c.args.time s) c.args.edges.now
    c.loop-edge.edge-index c.loop-edge-test.false (c.loop-edge.invariant tables s w law lies)
