-- Proof of `by_key`: returns the processes by rising keys, and for equal ones by number.
use Rattle.std.proofs.Common.{subst}
use Rattle.cpg_order.specs.Ranking.{AreRanked}
use Rattle.cpg_tracks.proofs.Ranked.{all_ranked, rising_by_key}
use Rattle.cpg_tracks.proofs.order.by_key.Goals as goal

-- the order ranks the processes by their rests, and has each of them
pub returns-clause-all : goal.returns-clause-all
returns-clause-all c =
    all_ranked c.args.keys.now c.in_ok-rests.rests.items c.in_ok-order.order.items c.in_ok-rests.ensures
    (subst (λ xs. AreRanked xs c.in_ok-order.order.items) c.as_slice.ensures.value c.in_ok-order.ensures)

-- greater rests are lesser keys, so the keys rise along the order
pub returns-clause-rising : goal.returns-clause-rising
returns-clause-rising c =
    rising_by_key c.args.keys.now c.in_ok-rests.rests.items c.in_ok-order.order.items c.in_ok-rests.ensures
    (subst (λ xs. AreRanked xs c.in_ok-order.order.items) c.as_slice.ensures.value c.in_ok-order.ensures)
