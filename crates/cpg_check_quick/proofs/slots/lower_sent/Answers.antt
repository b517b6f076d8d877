-- Proof of `lower_sent`: the items with lower numbers that the node of an item sends, by number.
use Rattle.std.proofs.Common.{◌≡◌, ◌==◌, ◌&&◌, ◌∙◌, ap, sym}
use Rattle.cpg_base.specs.Graph.{home, is_sent}
use Rattle.cpg_base.proofs.Lists.{filter_below_skips, filter_below_takes}
use Rattle.cpg_check_quick.proofs.slots.lower_sent.Goals as goal
use Rattle.cpg_check_quick.proofs.slots.lower_sent.Goals.{then-is_sent_from+in_ok-push, else-is_sent_from}

-- the next item is added exactly if the node of the given one sends it
pub loop-other-preserved : goal.loop-other-preserved
loop-other-preserved c =
    let graph = c.args.problem.now in
    let same : (is_sent graph c.loop-other.other && (home graph c.loop-other.other == home graph c.args.item))
    ≡ c.is_sent_from.result =
    ap (λ h. is_sent graph c.loop-other.other && (home graph c.loop-other.other == h)) (sym c.home-node.ensures.home)
    ∙ sym c.is_sent_from.ensures in
    elim c.if-is_sent_from.branch [
      -- the node sends it
      | then-is_sent_from+in_ok-push w ↦
          filter_below_takes (λ y. is_sent graph y && (home graph y == home graph c.args.item))
          c.loop-other.lower.items c.if-is_sent_from.lower.items c.loop-other.other
          c.loop-other.invariant
          (same ∙ w.if-is_sent_from.true) (ap (λ v. v.items) w.lower-is ∙ w.in_ok-push.ensures.items)
      -- it doesn't
      | else-is_sent_from w ↦ ap (λ v. v.items) w.lower-is ∙ filter_below_skips
          (λ y. is_sent graph y && (home graph y == home graph c.args.item)) c.loop-other.lower.items c.loop-other.other
          c.loop-other.invariant
          (same ∙ w.if-is_sent_from.false)
    ]
