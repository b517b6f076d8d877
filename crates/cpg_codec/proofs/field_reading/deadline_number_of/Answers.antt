-- Proof of `deadline_number_of`: the number of an own deadline, which is `u64::MAX` if there is none.
use Rattle.std.proofs.Common.{arith, ◌≡◌, ℕ, Bool, true, false}
use Rattle.std.specs.Prelude.{IsTrue}
use Rattle.cpg_codec.proofs.Own.{deadline_none, deadline_some}
use Rattle.cpg_codec.proofs.field_reading.deadline_number_of.Goals as goal

-- bytes that begin with ff may only be eight times ff, so the test of a deadline is then the one for that number
pub returns-then-begins_none : goal.returns-then-begins_none
returns-then-begins_none c =
    rw (deadline_none c.args.bytes.now (c.begins_none.ensures.0 c.if-begins_none.true)) c.long_of.ensures

-- what a test says that is false isn't so: the first byte isn't ff
is_not : (n : ℕ) (t : Bool) → t ≡ false → (n ≡ 255 → IsTrue t) → n ≡ 255 → ⊥
is_not n true is_false means is_ff = cc
is_not n false is_false means is_ff = let found : IsTrue false = means is_ff in cc

-- bytes that don't begin with ff may only be a number up to 10^9, so the test of a deadline is then the one for that
pub returns-else-begins_none : goal.returns-else-begins_none
returns-else-begins_none c = rw (deadline_some c.args.bytes.now (omega (arith, c.type_inv.bytes 0))
    (is_not _ c.begins_none.result c.if-begins_none.false c.begins_none.ensures.1))
    c.long_of-else-begins_none.ensures
