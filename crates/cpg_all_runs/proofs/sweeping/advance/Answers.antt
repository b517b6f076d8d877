-- Proof of `advance`: for each scenario, finds its run on from a place up to another that isn't before it.
use Rattle.std.proofs.Common.{◌≡◌, subst, arith}
use Rattle.cpg_all_runs.specs.Sweep.{AreAlong}
use Rattle.cpg_all_runs.proofs.sweeping.advance.Goals as goal

-- at the end of the loop the place is reached
pub returns : goal.returns
returns c =
    let place_is : c.loop-place.place ≡ c.args.to =
    omega (arith, c.loop-place-test.false, c.loop-place.auto.place-end, c.requires.ahead) in
    subst (λ i. AreAlong c.args.setting.now.problem.now c.args.setting.now.order.now c.args.frozen.now i
    c.args.scenarios.now c.loop-place.found.items) place_is c.loop-place.invariant
