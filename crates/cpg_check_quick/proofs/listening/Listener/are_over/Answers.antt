-- Proof of `Listener::are_over`: whether the process of each of these literals is on the node, and over by a time in
-- the scenarios of a space.
use Rattle.std.proofs.lemmas.Bool.{OnTrue_at}
use Rattle.std.proofs.lemmas.List.Elements.{All-more}
use Rattle.cpg_cube.specs.declared.literal.Literal.{Literal}
use Rattle.cpg_violation.proofs.SureLaws.{each_all}
use Rattle.cpg_check_quick.specs.Hearing.{IsOwnOver}
use Rattle.cpg_check_quick.proofs.listening.Listener.are_over.Goals as goal

-- the process of the next literal is on the node and over by the time, too
pub loop-literal-preserved : goal.loop-literal-preserved
loop-literal-preserved c =
    λ tables s sequences law lies. All-more (λ (m : Literal). IsOwnOver c.args.self.now.admitted.now.graph tables
    c.args.self.now.node m.variable c.args.time s) c.args.literals.now
    c.loop-literal.literal-index (record { variable = 0; low = 0; high = 0 }) c.loop-literal-test.true
    (c.loop-literal.invariant tables s sequences law lies)
    (OnTrue_at c.if-not-is_own_over.false c.is_own_over.ensures tables s sequences law lies)

-- the loop has gone over all literals, so what its invariant says of those so far holds of each
pub returns : goal.returns
returns c = λ tables s sequences law lies.
    each_all (λ (m : Literal). IsOwnOver c.args.self.now.admitted.now.graph tables
    c.args.self.now.node m.variable c.args.time s) c.args.literals.now
    c.loop-literal.literal-index c.loop-literal-test.false (c.loop-literal.invariant tables s sequences law lies)
