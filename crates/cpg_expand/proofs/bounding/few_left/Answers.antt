-- Proof of `few_left`, which answers `TooWide` of the forest's item if a tree that the process leaves behind has too
-- many leaves: one of what it sends, or that of when its node's slots are free.
use Rattle.std.proofs.Common.{◌≡◌, ◌+◌, subst, inl, inr}
use Rattle.cpg_base.specs.Graph.{node_of}
use Rattle.cpg_base.specs.Order.{place}
use Rattle.cpg_expand.specs.Large.{HasLargeFree, HasLargeSend, IsLargeLeft}
use Rattle.cpg_expand.proofs.LargeShown.{handed_as}
use Rattle.cpg_expand.proofs.bounding.few_left.Goals as goal

-- an item that the process sends has too large a tree, which is one that the process leaves behind
pub returns-in_err-few_sent : goal.returns-in_err-few_sent
returns-in_err-few_sent c =
    handed_as (HasLargeSend c.args.problem.now c.args.process c.args.forest.now)
    (IsLargeLeft c.args.problem.now c.args.order.now c.args.process c.args.forest.now) c.args.forest.now.wide
    c.from_residual.result c.in_err-few_sent.field-0.0 c.from_residual.ensures.1 (λ x. inl x) c.in_err-few_sent.ensures

-- the tree of when the slots of the process's node are free is too large, and it is one that the process leaves behind
pub returns-in_err-few_free : goal.returns-in_err-few_free
returns-in_err-few_free c =
    let g = c.args.problem.now in
    let order = c.args.order.now in
    let p = c.args.process in
    let f = c.args.forest.now in
    handed_as (HasLargeFree g order (c.place.result + 1) c.node_of-node.result f) (IsLargeLeft g order p f) f.wide
    c.from_residual-in_err-few_free.result c.in_err-few_free.field-0.0 c.from_residual-in_err-few_free.ensures.1
    (λ x. inr (subst (λ i. HasLargeFree g order (i + 1) (node_of g p) f) c.place.ensures.place
    (subst (λ n. HasLargeFree g order (c.place.result + 1) n f) c.node_of-node.ensures.node x)))
    c.in_err-few_free.ensures
