-- Proof of `number_of`: a number of `width` bytes from `low` to `high`.
use Rattle.std.proofs.Common.{arith, rules, ◌≡◌, ◌+◌, ◌*◌, ◌/◌, ◌-◌, ◌≤◌, ◌^◌, ℕ, sym, ◌∙◌, suc, get_or, subst}
use Rattle.cpg_codec.proofs.Digits.{digit_goes_on, digit_stops, digit_none, digit_done, number_only, digit_falls_short}
use Rattle.cpg_codec.proofs.Digits.{under_shift, reaches_shift, above_shift, within_shift, fits_more}
use Rattle.cpg_codec.proofs.field_reading.number_of.Goals as goal

-- no byte is left, so the reader of the grammar fails here too, with nothing left
pub returns-in-empty-clause-gives : goal.returns-in-empty-clause-gives
returns-in-empty-clause-gives c =
    let ends = digit_none c.args.low c.args.high (c.args.width - c.loop-done.done) (c.args.width - 1 - c.loop-done.done)
    c.loop-done.number c.loop-done.rest.now (omega arith) c.in-empty.len_below in
    sym c.loop-done.invariant.same ∙ ends

-- the number so far is at most `high` without the bytes that are left, so 256 times it doesn't overflow
pub overflow_mul-next : goal.overflow_mul-next
overflow_mul-next c =
    let fits = fits_more c.args.high (c.args.width - c.loop-done.done) (c.args.width - 1 - c.loop-done.done)
    c.loop-done.number (omega arith) c.loop-done.invariant.small (omega arith) in
    omega (arith, fits)

-- the byte is added without an overflow, for the same reason
pub overflow_add-next : goal.overflow_add-next
overflow_add-next c =
    let fits = fits_more c.args.high (c.args.width - c.loop-done.done) (c.args.width - 1 - c.loop-done.done)
    c.loop-done.number (omega arith) c.loop-done.invariant.small (omega arith) in
    omega (arith, fits, c.type_inv.bytes 0)

-- with this byte the number is above `high`, whatever follows: the grammar refuses the byte too
pub returns-then-high-after-clause-gives : goal.returns-then-high-after-clause-gives
returns-then-high-after-clause-gives c =
    let one_more : c.args.width - c.loop-done.done ≡ suc (c.args.width - 1 - c.loop-done.done) = omega arith in
    let refuses = digit_stops c.args.low c.args.high (c.args.width - c.loop-done.done)
    (c.args.width - 1 - c.loop-done.done) c.loop-done.number c.loop-done.rest.now one_more c.in-len1-up.len_at_least
    (above_shift c.args.high (c.args.width - 1 - c.loop-done.done)
    (c.loop-done.number * 256 + get_or c.loop-done.rest.now 0 0) c.if-high-after.true) in
    sym c.loop-done.invariant.same ∙ refuses

-- with this byte the number is below `low`, whatever follows: the grammar refuses the byte too
pub returns-then-next-low-clause-gives : goal.returns-then-next-low-clause-gives
returns-then-next-low-clause-gives c =
    let one_more : c.args.width - c.loop-done.done ≡ suc (c.args.width - 1 - c.loop-done.done) = omega arith in
    let refuses = digit_falls_short c.args.low c.args.high (c.args.width - c.loop-done.done)
    (c.args.width - 1 - c.loop-done.done) c.loop-done.number c.loop-done.rest.now one_more c.in-len1-up.len_at_least
    (under_shift c.args.low (c.args.width - 1 - c.loop-done.done)
    (c.loop-done.number * 256 + get_or c.loop-done.rest.now 0 0) c.if-next-low.true) in
    sym c.loop-done.invariant.same ∙ refuses

-- with this byte the number may still be in range (`reached`, `kept`), so the grammar takes it and goes on
pub loop-done-preserved : goal.loop-done-preserved
loop-done-preserved c =
    let one_more : c.args.width - c.loop-done.done ≡ suc (c.args.width - (c.loop-done.done + 1)) = omega arith in
    let one_less : c.args.width - 1 - c.loop-done.done ≡ c.args.width - (c.loop-done.done + 1) = omega arith in
    let reached = reaches_shift c.args.low (c.args.width - (c.loop-done.done + 1))
    (c.loop-done.number * 256 + get_or c.loop-done.rest.now 0 0)
    (subst (λ (w : ℕ). c.args.low / 2 ^ (8 * w) ≤ c.loop-done.number * 256 + get_or c.loop-done.rest.now 0 0) one_less
    c.if-next-low.false) in
    let kept = within_shift c.args.high (c.args.width - (c.loop-done.done + 1))
    (c.loop-done.number * 256 + get_or c.loop-done.rest.now 0 0)
    (subst (λ (w : ℕ). c.loop-done.number * 256 + get_or c.loop-done.rest.now 0 0 ≤ c.args.high / 2 ^ (8 * w)) one_less
    c.if-high-after.false) in
    record {
      same = sym (digit_goes_on c.args.low c.args.high (c.args.width - c.loop-done.done)
          (c.args.width - (c.loop-done.done + 1)) c.loop-done.number c.loop-done.rest.now one_more
          c.in-len1-up.len_at_least (search rules) reached kept) ∙ c.loop-done.invariant.same;
      small = kept;
    }

-- no byte of the number is left, so by the invariant it is what the grammar reads
pub returns-clause-gives : goal.returns-clause-gives
returns-clause-gives c =
    let done =
    digit_done c.args.low c.args.high (c.args.width - c.loop-done.done) c.loop-done.number c.loop-done.rest.now
    (omega arith) in
    sym c.loop-done.invariant.same ∙ done

-- a number that the grammar reads is from `low` to `high`
pub returns-clause-range : goal.returns-clause-range
returns-clause-range c = number_only c.args.width c.args.low c.args.high c.args.bytes.now c.loop-done.number
    c.loop-done.rest.now c.requires.some c.requires.fits
    (sym c.loop-done.invariant.same ∙ digit_done c.args.low c.args.high
    (c.args.width - c.loop-done.done) c.loop-done.number c.loop-done.rest.now (omega arith))
