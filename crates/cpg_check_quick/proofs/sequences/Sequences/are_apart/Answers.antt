-- Proof of `Sequences::are_apart`: whether each of these items of a node and another are apart wherever a column of
-- each matches.
use Rattle.std.proofs.Common.{All, subst}
use Rattle.cpg_tree.proofs.Passes.{of_true}
use Rattle.cpg_check_quick.specs.Order.{IsApart}
use Rattle.cpg_check_quick.proofs.OrderLaws.{row_at, known_apart}
use Rattle.cpg_check_quick.proofs.sequences.Sequences.are_apart.Goals as goal

-- the items of which the sequence says nothing are apart by their rows, so all are
pub returns-in-Some : goal.returns-in-Some
returns-in-Some c = of_true c.are_apart.result c.are_apart.ensures (λ all g tables lasts are.
    let row = row_at are.rows c.args.other c.in-Some.row.now c.deref.result.now c.deref.ensures.value
    c.in-Some.ensures.lookup.3.0 c.in-Some.ensures.lookup.1 in
    known_apart lasts g tables c.args.other c.in_ok-left.left.items c.args.items.now
    (c.in_ok-left.ensures g tables lasts are)
    (subst (λ xs. All (λ y. IsApart lasts g tables y c.args.other) xs) c.as_slice.ensures.value
    (all g tables lasts c.args.other are.rows row)))
