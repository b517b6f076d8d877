-- Proof of `has_lows`: whether each of the variables from `first` up to `end`, which it leaves out, has in a scenario
-- the least number that the literals allow.
use Rattle.std.proofs.Common.{◌≡◌, ◌∙◌, sym, ap, inl, inr, subst, arith}
use Rattle.std.proofs.lemmas.Bool.{cases_lt, false≢true}
use Rattle.cpg_base.specs.Scenario.{number_of}
use Rattle.cpg_cube.specs.Cube.{low_in}
use Rattle.cpg_list.specs.Narrowing.{as_number}
use Rattle.cpg_list.proofs.CodeLeast.{from-rising, from-low, from-front}
use Rattle.cpg_list.proofs.least.has_lows.Goals as goal

-- the scenario's number of this variable isn't the least that the literals allow, so not all are
pub returns-then-number-as_number : goal.returns-then-number-as_number
returns-then-number-as_number c =
    let variable = c.loop-variable.variable in
    let front = ap (as_number variable)
    (c.front_low.ensures ∙ ap (Rattle.cpg_list.specs.Narrowing.front_low variable) c.from_variable-rest.ensures
    ∙ from-front variable c.loop-variable.rest.now c.loop-variable.invariant.rising
    ∙ c.loop-variable.invariant.later variable (omega arith)) in (
      λ t. absurd (false≢true t),
      λ h. absurd (c.if-number-as_number.true (c.number.ensures
          ∙ h variable c.loop-variable.auto.variable c.loop-variable-test.true ∙ sym front ∙ sym c.as_number.ensures)),
    )

-- the scenario's number of this variable is the least that the literals allow, and so are those up to the next variable
pub loop-variable-preserved : goal.loop-variable-preserved
loop-variable-preserved c =
    let variable = c.loop-variable.variable in
    -- the front of the literals has the low of this variable, and the scenario's number is that
    let front = ap (as_number variable)
    (c.front_low.ensures ∙ ap (Rattle.cpg_list.specs.Narrowing.front_low variable) c.from_variable-rest.ensures
    ∙ from-front variable c.loop-variable.rest.now c.loop-variable.invariant.rising
    ∙ c.loop-variable.invariant.later variable (omega arith)) in
    let here : number_of c.args.scenario.now variable ≡ as_number variable (low_in c.args.literals.now variable) =
    sym c.number.ensures ∙ c.if-number-as_number.false ∙ c.as_number.ensures ∙ front in
    -- the rest is rising, has the lows of later variables, and all up to this one are at their lows
    record {
      rising = subst Rattle.cpg_cube.specs.Cube.IsRising (sym c.from_variable-rest.ensures)
          (from-rising variable c.loop-variable.rest.now c.loop-variable.invariant.rising);
      later = λ w h. ap (λ ls. low_in ls w) c.from_variable-rest.ensures ∙ from-low variable c.loop-variable.rest.now w
          (omega (arith, h)) ∙ c.loop-variable.invariant.later w (omega (arith, h));
      so_far = λ w h k. elim (cases_lt w variable) [
        | inl l ↦ c.loop-variable.invariant.so_far w h l
        | inr l ↦ let here_is : variable ≡ w = omega (arith, k, l) in
            subst (λ u. number_of c.args.scenario.now u ≡ as_number u (low_in c.args.literals.now u)) here_is here
      ];
    }
