-- Proof of `number`, which returns the number that 1 to 20 decimal digits write, if it is below 2^64; `None` for every
-- other text.
use Rattle.std.proofs.Common.{◌∙◌, sym, ℕ, Ok, Err}
use Rattle.cpg_words.proofs.Numbers.{digits_all, number_parsed}
use Rattle.cpg_words.proofs.number.number.Goals as goal

-- the text is digits, and the parser gives the number that they write
pub returns-in-Ok : goal.returns-in-Ok
returns-in-Ok c = number_parsed {E = ℕ} c.args.text.now (Ok c.in-Ok.number) c.in-Ok.ensures.value.0
    (sym (digits_all c.args.text.now) ∙ sym c.is_digits.ensures ∙ c.if-not-is_digits.false) c.if-text-gt-LONGEST.false

-- the text is digits, but their number is too great
pub returns-in-Err : goal.returns-in-Err
returns-in-Err c = number_parsed {E = ℕ} c.args.text.now (Err 0) c.in-Err.ensures.value.0
    (sym (digits_all c.args.text.now) ∙ sym c.is_digits.ensures ∙ c.if-not-is_digits.false) c.if-text-gt-LONGEST.false
