-- Proof of `SpannedRows::in_sequence`: these items in an order in which each is over before each later one: as they
-- are, or by their first times.
use Rattle.std.proofs.Common.{◌≡◌, ◌∙◌, ◌++◌, ap, subst, sym}
use Rattle.std.proofs.lemmas.Bool.{OnTrue_at}
use Rattle.cpg_check_quick.specs.Order.{IsInSequence}
use Rattle.cpg_check_quick.proofs.spanned_rows.SpannedRows.in_sequence.Goals as goal

-- the order has the items as they were given, which were found to be in sequence
pub returns-then-are_in_sequence : goal.returns-then-are_in_sequence
returns-then-are_in_sequence c = λ g tables lasts are present.
    let same : c.extend_from_slice.new.self.items ≡ c.args.items.now =
    c.in_ok-extend_from_slice.ensures.items ∙ ap (λ xs. xs ++ c.args.items.now) c.new-order.ensures.items in
    subst (IsInSequence lasts g tables) (sym same)
    (OnTrue_at c.if-are_in_sequence.true c.are_in_sequence.ensures g tables lasts are present)

-- the sorted items were found to be in sequence
pub returns-then-are_in_sequence-2 : goal.returns-then-are_in_sequence-2
returns-then-are_in_sequence-2 c = λ g tables lasts are present.
    subst (IsInSequence lasts g tables) c.as_slice.ensures.value
    (OnTrue_at c.if-are_in_sequence-2.true c.are_in_sequence-2.ensures g tables lasts are present)
