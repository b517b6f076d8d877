-- Proof of `end_and_ready`, which returns the ends of a process, and from when on its node goes on after it. `active` says
-- where it is active, `start` has its starts, and `wait` says what it waits for on its node. `TooWide` names the
-- forest's item if the tree of the starts or that of the ends has too many leaves.
use Rattle.std.proofs.Common.{ap, inl, inr}
use Rattle.cpg_expand.specs.Forest.{ForestState}
use Rattle.cpg_expand.specs.Large.{IsLarge, IsLargeEnd}
use Rattle.cpg_expand.proofs.LargeShown.{handed_as, named_as}
use Rattle.cpg_expand.proofs.ending.end_and_ready.Goals as goal

-- the tree of the starts has too many leaves, which is one of the two faults on the way to the ends
pub returns-in_err-few-clause-fault : goal.returns-in_err-few-clause-fault
returns-in_err-few-clause-fault c =
    handed_as (IsLarge c.args.start.now) (IsLargeEnd c.args.problem.now c.args.process c.args.start.now)
    c.args.forest.now.wide c.from_residual.result c.in_err-few.field-0.0 c.from_residual.ensures.1
    (λ x. inl x)
    (named_as (IsLarge c.args.start.now) c.forest.inside.wide c.args.forest.now.wide c.in_err-few.field-0.0
    (ap (λ (x : ForestState). x.wide) c.forest.view_is) c.in_err-few.ensures)

-- the tree of the ends has too many leaves, which is the other fault
pub returns-in_err-few-2-clause-fault : goal.returns-in_err-few-2-clause-fault
returns-in_err-few-2-clause-fault c =
    handed_as (IsLarge c.in_ok-end.end) (IsLargeEnd c.args.problem.now c.args.process c.args.start.now)
    c.args.forest.now.wide c.from_residual-in_err-few-2.result c.in_err-few-2.field-0.0
    c.from_residual-in_err-few-2.ensures.1
    (λ x. inr (c.in_ok-end.end, c.in_ok-end.ensures.end, x))
    (named_as (IsLarge c.in_ok-end.end) c.forest.inside.wide c.args.forest.now.wide c.in_err-few-2.field-0.0
    (ap (λ (x : ForestState). x.wide) c.forest.view_is) c.in_err-few-2.ensures)
