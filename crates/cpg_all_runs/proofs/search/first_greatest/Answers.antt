-- Proof of `first_greatest`: the place of the greatest of the numbers of scenarios, and of several the one whose
-- scenario comes first in the urgency order.
use Rattle.std.proofs.Common.{◌≡◌, ◌∙◌, get_or, sym, ap₂, arith, inl, inr}
use Rattle.std.proofs.lemmas.Bool.{cases_lt, both_ways}
use Rattle.std.proofs.lemmas.List.{get_or_default}
use Rattle.cpg_base.specs.Scenario.{Scenario, is_before}
use Rattle.cpg_all_runs.proofs.Firsts.{starts_it, takes_it, skips_it}
use Rattle.cpg_all_runs.proofs.search.first_greatest.Goals as goal
use Rattle.cpg_all_runs.proofs.search.first_greatest.Goals.{then-goes_first, else-goes_first}

-- of one number, the first is the greatest
pub loop-next-init : goal.loop-next-init
loop-next-init c = starts_it c.args.problem.now c.args.urgency.now c.args.scenarios.now c.args.numbers.now

-- the next scenario takes the place exactly if it has a greater number, or the same and comes before the one that has it
pub loop-next-preserved : goal.loop-next-preserved
loop-next-preserved c =
    let list = c.args.scenarios.now in
    -- the scenarios at the next place and at the best one so far
    let at_next : (d : Scenario) → get_or list c.loop-next.next d ≡ c.index-scenarios-next.result =
    λ d. get_or_default list c.loop-next.next d c.index-scenarios-next.result c.loop-next-test.true ∙
    sym c.index-scenarios-next.is in
    let at_at : (d : Scenario) → get_or list c.loop-next.at d ≡ c.index-scenarios-at.result =
    λ d. get_or_default list c.loop-next.at d c.index-scenarios-at.result
    (omega (arith, c.loop-next.invariant.there, c.loop-next-test.true)) ∙ sym c.index-scenarios-at.is in
    elim c.if-goes_first.branch [
      -- it goes first: its number isn't less, and if it is the same its scenario comes before
      | then-goes_first w ↦ rw w.at-is
          (takes_it c.args.problem.now c.args.urgency.now c.loop-next.next list c.args.numbers.now c.loop-next.at
          c.loop-next.invariant
          (elim (cases_lt (get_or c.args.numbers.now c.loop-next.next 0) (get_or c.args.numbers.now c.loop-next.at 0)) [
            | inl less ↦ absurd (both_ways c.goes_first.result (c.goes_first.ensures.below less) w.if-goes_first.true)
            | inr not_less ↦ not_less
          ])
          (λ e d. ap₂ (is_before c.args.problem.now c.args.urgency.now) (at_next d) (at_at d)
          ∙ sym (c.goes_first.ensures.level e) ∙ w.if-goes_first.true))
      -- it doesn't: its number isn't greater, and if it is the same its scenario doesn't come before
      | else-goes_first w ↦ rw w.at-is
          (skips_it c.args.problem.now c.args.urgency.now c.loop-next.next list c.args.numbers.now c.loop-next.at
          c.loop-next.invariant
          (elim (cases_lt (get_or c.args.numbers.now c.loop-next.at 0) (get_or c.args.numbers.now c.loop-next.next 0)) [
            | inl less ↦ absurd (both_ways c.goes_first.result w.if-goes_first.false (c.goes_first.ensures.above less))
            | inr not_less ↦ not_less
          ])
          (λ e d. ap₂ (is_before c.args.problem.now c.args.urgency.now) (at_next d) (at_at d)
          ∙ sym (c.goes_first.ensures.level e) ∙ w.if-goes_first.false))
    ]
