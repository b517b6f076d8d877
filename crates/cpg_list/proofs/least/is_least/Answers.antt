-- Proof of `is_least`: whether a scenario is the least that a cube matches.
use Rattle.std.proofs.Common.{◌∙◌, length, sym, ap, arith}
use Rattle.std.proofs.lemmas.Bool.{both_ways, false≢true}
use Rattle.cpg_base.specs.Scenario.{number_of}
use Rattle.cpg_cube.specs.Cube.{low_in}
use Rattle.cpg_list.specs.Narrowing.{as_number}
use Rattle.cpg_list.proofs.CodeLeast.{lows_are, counts_are, values_are}
use Rattle.cpg_list.proofs.least.is_least.Goals as goal

-- some fault count isn't the least that the cube allows, but those of the least scenario are
pub returns-then-not-has_lows : goal.returns-then-not-has_lows
returns-then-not-has_lows c =
    let graph = c.args.problem.now in (
      λ t. absurd (false≢true t),
      λ is. absurd (both_ways c.has_lows.result c.if-not-has_lows.true (c.has_lows.ensures.1 (λ v at_most h.
          ap (λ ls. number_of c.args.scenario.now v) c.literals-literals.ensures.literals
          ∙ counts_are graph c.processes.ensures.within.few_processes c.args.cube.now c.args.scenario.now is v at_most
          (omega (arith, h, ap length c.processes.ensures.processes))
          ∙ ap (λ ls. as_number v (low_in ls v)) (sym c.literals-literals.ensures.literals)))),
    )

-- the fault counts are the least that the cube allows; so the scenario is the least exactly if the values are, too
pub returns : goal.returns
returns c =
    let graph = c.args.problem.now in
    let few = c.processes.ensures.within.few_processes in (
      λ t. lows_are graph few c.args.cube.now c.args.scenario.now c.requires
          (λ v z h. c.has_lows.ensures.0 c.if-not-has_lows.false v z
          (omega (arith, h, ap length c.processes.ensures.processes)) ∙
          ap (λ ls. as_number v (low_in ls v)) c.literals-literals.ensures.literals)
          (λ v z h. c.has_lows-2.ensures.0 t v z (omega (arith, h, c.conditions.ensures.count))
          ∙ ap (λ ls. as_number v (low_in ls v)) c.literals-literals.ensures.literals),
      λ is. c.has_lows-2.ensures.1 (λ v at_most h.
          values_are graph few c.args.cube.now c.args.scenario.now is v at_most
          (omega (arith, h, c.conditions.ensures.count))
          ∙ ap (λ ls. as_number v (low_in ls v)) (sym c.literals-literals.ensures.literals)),
    )
