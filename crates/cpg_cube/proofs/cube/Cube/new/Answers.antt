-- Proof of `Cube::new`, which returns the cube of these literals; `None` exactly if their variables don't rise.
use Rattle.std.proofs.Common.{◌∙◌, sym, arith}
use Rattle.std.proofs.lemmas.Bool.{both_ways}
use Rattle.cpg_cube.proofs.Rising.{rising_from, rises_by}
use Rattle.cpg_cube.proofs.cube.Cube.new.Goals as goal

-- the variables don't rise, so the literals are those of no cube
pub returns-then-not-do_variables_rise-clause-refused : goal.returns-then-not-do_variables_rise-clause-refused
returns-then-not-do_variables_rise-clause-refused c rising = both_ways _ c.if-not-do_variables_rise.true
    (c.do_variables_rise.ensures ∙ rises_by 0 c.args.literals.now rising (λ l member. omega arith))

-- the variables rise, as the test says
pub returns-clause-rising : goal.returns-clause-rising
returns-clause-rising c =
    rising_from 0 c.args.literals.now (sym c.do_variables_rise.ensures ∙ c.if-not-do_variables_rise.false)

-- the copy has the literals, whose variables rise
pub invariant_of-result : goal.invariant_of-result
invariant_of-result c = rw c.in_ok-literals.ensures (returns-clause-rising c)
