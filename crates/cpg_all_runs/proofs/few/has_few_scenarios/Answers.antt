-- Proof of `has_few_scenarios`: whether a graph has at most 16,384 scenarios.
use Rattle.std.proofs.Common.{◌≡◌, ◌∙◌, ◌*◌, ◌^◌, sym, ap, ap₂, length, arith}
use Rattle.std.proofs.lemmas.Bool.{leb-true, le-leb, false≢true}
use Rattle.cpg_order.specs.Counting.{ways}
use Rattle.cpg_order.specs.Scenario.{scenarios}
use Rattle.cpg_order.proofs.ScenariosApart.{length-scenarios}
use Rattle.cpg_all_runs.specs.declared.few.TheConstants.{MOST_SCENARIOS}
use Rattle.cpg_all_runs.proofs.FewWays.{all_fit, too_many}
use Rattle.cpg_all_runs.proofs.few.has_few_scenarios.Goals as goal

-- with more than 14 conditions there are more than 16,384 scenarios, so the answer is false
pub returns-then-conditions-gt-MOST_DOUBLINGS : goal.returns-then-conditions-gt-MOST_DOUBLINGS
returns-then-conditions-gt-MOST_DOUBLINGS c = (
  λ n. absurd (false≢true n),
  λ few. absurd (too_many c.args.problem.now
      (omega (arith, c.if-conditions-gt-MOST_DOUBLINGS.true, c.conditions-conditions.ensures.count)) few),
)

-- with at most 14 conditions the number of scenarios fits in 64 bits
pub overflow_mul-result : goal.overflow_mul-result
overflow_mul-result c =
    let product_fits = all_fit c.conditions-conditions.result (length c.processes.result.now) c.faults.result
    (omega (arith, c.if-conditions-gt-MOST_DOUBLINGS.false))
    (omega (arith, ap length c.processes.ensures.processes, c.processes.ensures.within.processes))
    (omega (arith, c.faults.ensures.faults, c.faults.ensures.within.faults)) in
    omega (arith, product_fits, ap₂ ◌*◌ c.pow.ensures c.ways-ways.ensures)

-- the product of the outcomes and of the ways to place faults is the number of scenarios, so the comparison tells
pub returns : goal.returns
returns c =
    let g = c.args.problem.now in
    let same : c.pow.result * c.ways-ways.result ≡ length (scenarios g) =
    ap₂ ◌*◌ (c.pow.ensures ∙ ap (λ n. 2 ^ n) c.conditions-conditions.ensures.count)
    (c.ways-ways.ensures ∙ ap₂ ways (ap length c.processes.ensures.processes) c.faults.ensures.faults) ∙
    sym (length-scenarios g) in (
      λ few. omega (arith, same, leb-true (c.pow.result * c.ways-ways.result) MOST_SCENARIOS few),
      λ few. le-leb (c.pow.result * c.ways-ways.result) MOST_SCENARIOS (omega (arith, same, few)),
    )
