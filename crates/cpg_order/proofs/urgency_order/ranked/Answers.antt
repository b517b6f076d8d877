-- Proof of `ranked`: returns the processes by falling tails, and for equal ones by number.
use Rattle.std.proofs.Common.{◌∙◌, sym, ap, subst, map, IsPermutation, arith}
use Rattle.cpg_order.specs.Ranking.{AreRanked}
use Rattle.cpg_order.proofs.RankOrders.{in_order, ranked_from_sorted}
use Rattle.cpg_order.proofs.urgency_order.ranked.Goals as goal

-- the processes of the sorted ranks are ranked
pub returns : goal.returns
returns c = subst (AreRanked c.args.tails.now)
    (sym (c.in_ok-order.ensures ∙ ap (map (λ r. r.process)) c.as_slice.ensures.value))
    (ranked_from_sorted c.args.tails.now c.sort_unstable.new.self.items
    (subst (λ xs. IsPermutation xs c.sort_unstable.new.self.items) c.in_ok-ranks.ensures
    c.sort_unstable.ensures.permutation)
    (λ k d next_inside. in_order _ _ _ _ (c.sort_unstable.ensures.sorted k d (omega arith) next_inside)))
