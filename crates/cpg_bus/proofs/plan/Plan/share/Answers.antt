-- Proof of `Plan::share`: returns the share of a node that has a slot.
use Rattle.std.proofs.Common.{◌<◌, ◌∙◌, None, sym, ap, length, get_or, arith}
use Rattle.std.proofs.lemmas.Bool.{cond-true}
use Rattle.std.proofs.lemmas.List.{get_or_default}
use Rattle.std.proofs.lemmas.List.FromFn.{length-map-range_with_len}
use Rattle.std.proofs.lemmas.Option.{same_Some}
use Rattle.cpg_base.proofs.Lists.{get_or-map-below}
use Rattle.cpg_bus.specs.Share.{share_of}
use Rattle.cpg_bus.specs.Plan.{share_if}
use Rattle.cpg_bus.proofs.plan.Plan.share.Goals as goal

-- the plan has a place for the share of each node
pub index-requires : goal.index-requires
index-requires c =
    let is = ap length (ap (λ p. p.shares) (c.self.view_is ∙ c.requires.plan)) in
    omega (
      arith,
      is,
      length-map-range_with_len (share_if c.args.problem.now) 0 (length c.args.problem.now.nodes),
      c.requires.node,
    )

-- the share at the place of the node is the one of the plan
pub returns-in-Some : goal.returns-in-Some
returns-in-Some c =
    let is = ap (λ p. p.shares) (c.self.view_is ∙ c.requires.plan) in
    -- the node has a place in the list of shares
    let long : c.args.node < length c.self.inside.shares.items =
    omega (
      arith,
      ap length is,
      length-map-range_with_len (share_if c.args.problem.now) 0 (length c.args.problem.now.nodes),
      c.requires.node,
    ) in
    -- the share there is the node's, since it has a slot
    same_Some c.in-Some.share (share_of c.args.problem.now c.args.node)
    (sym c.in-Some.is ∙ c.index.ensures
    ∙ get_or_default c.self.inside.shares.items c.args.node c.index.result.now None long
    ∙ ap (λ ss. get_or ss c.args.node None) is ∙ get_or-map-below (share_if c.args.problem.now)
    (length c.args.problem.now.nodes) c.args.node None c.requires.node
    ∙ cond-true _ _ _ c.requires.slot)
