-- Proof of `hyperperiod`, which returns the hyperperiod of parts; `None` exactly if it is above the longest time.
use Rattle.std.proofs.Common.{◌≤◌, length, arith, subst}
use Rattle.std.proofs.lemmas.List.{take_all}
use Rattle.cpg_hyper.proofs.Multiples.{IsSoFar, none_so_far, more_so_far, least_below}
use Rattle.cpg_hyper.proofs.period.hyperperiod.Goals as goal

-- the hyperperiod of no part is 1
pub loop-part-init : goal.loop-part-init
loop-part-init c = record { some = omega arith; short = omega arith; whole = none_so_far c.args.parts.now }

-- the hyperperiod is no less than the least common multiple so far, which is too long
pub returns-then-whole-gt-LONGEST-clause-long : goal.returns-then-whole-gt-LONGEST-clause-long
returns-then-whole-gt-LONGEST-clause-long c whole is_hyperperiod =
    let next = more_so_far c.args.parts.now c.loop-part.part-index c.part-item.result c.loop-part.whole
    c.least_common-whole.result c.loop-part-test.true c.part-item.is c.loop-part.invariant.whole
    c.least_common-whole.ensures.least in
    omega (
      arith,
      least_below c.args.parts.now _ whole c.least_common-whole.result next is_hyperperiod,
      c.if-whole-gt-LONGEST.true,
    )

-- the least common multiple of this and the next period is that of one period more
pub loop-part-preserved : goal.loop-part-preserved
loop-part-preserved c = record {
  some = c.least_common-whole.ensures.some;
  short = omega (arith, c.if-whole-gt-LONGEST.false);
  whole = more_so_far c.args.parts.now c.loop-part.part-index c.part-item.result c.loop-part.whole
      c.least_common-whole.result c.loop-part-test.true c.part-item.is c.loop-part.invariant.whole
      c.least_common-whole.ensures.least;
}

-- all periods have been visited, so this is their least common multiple
pub returns-clause-whole : goal.returns-clause-whole
returns-clause-whole c =
    let end : length c.args.parts.now ≤ c.loop-part.part-index = omega (arith, c.loop-part-test.false) in
    let all = subst (λ ps. IsSoFar ps c.loop-part.whole)
    (take_all c.loop-part.part-index c.args.parts.now end) c.loop-part.invariant.whole in
    record { some = omega (arith, c.loop-part.invariant.some); common = all.common; least = all.least }
