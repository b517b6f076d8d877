-- Proof of `number`: the number below 2^60 whose decimal digits these are, if they are those of one; for other bytes any
-- number below 2^60, or `None`.
use Rattle.std.proofs.Common.{ℕ, ◌≡◌, ◌<◌, ◌^◌, List, Some, Result, Ok, Err, arith, sym, ap, ◌∙◌, subst}
use Rattle.std.specs.Fmt.{decimal}
use Rattle.std.specs.Str.{IsUtf8}
use Rattle.std.proofs.lemmas.Fmt.{IsAscii-decimal, parse-decimal}
use Rattle.std.proofs.lemmas.Str.{IsUtf8-from_ascii}
use Rattle.cpg_log.proofs.number.number.Goals as goal

-- the digits of a number are valid UTF-8
utf8 : (digits : List ℕ) (n : ℕ) → n < 2 ^ 60 → digits ≡ decimal n → IsUtf8 digits
utf8 digits n l e = subst IsUtf8 (sym e) (IsUtf8-from_ascii (decimal n) (IsAscii-decimal n (omega arith)))

-- the value of a result, and 0 if it is an error
abbrev given : {E : Type 0} → Result ℕ E → ℕ
given (Ok x) = x
given (Err e) = 0

-- bytes that aren't UTF-8 are the digits of no number, since digits are
pub returns-in_default-clause-is : goal.returns-in_default-clause-is
returns-in_default-clause-is c = λ n l e. absurd (c.in_default.ensures.cases.0 (utf8 c.args.digits.now n l e))

-- the digits of a number below 2^60 would be parsed, and these weren't
pub returns-in_default-parse-clause-is : goal.returns-in_default-parse-clause-is
returns-in_default-parse-clause-is c = λ n l e. absurd
    (c.in_default-parse.not-Ok n (parse-decimal 64 n c.in-Ok.text.now c.parse.result (omega arith) (omega arith)
    (c.in-Ok.ensures.cases.0 ∙ e) c.parse.ensures.value.0))

-- the digits of n are parsed as n, so n is the number that was parsed
pub returns-then-number-lt-TOO_LATE-clause-is : goal.returns-then-number-lt-TOO_LATE-clause-is
returns-then-number-lt-TOO_LATE-clause-is c =
    λ n l e. ap Some (ap given (sym c.in-Ok-parse.is ∙ parse-decimal 64 n c.in-Ok.text.now c.parse.result (omega arith)
    (omega arith) (c.in-Ok.ensures.cases.0 ∙ e) c.parse.ensures.value.0))

-- the digits of n are parsed as n, and what was parsed isn't below 2^60, so n isn't either
pub returns-else-number-lt-TOO_LATE-clause-is : goal.returns-else-number-lt-TOO_LATE-clause-is
returns-else-number-lt-TOO_LATE-clause-is c = λ n l e. absurd (omega (
  arith,
  c.if-number-lt-TOO_LATE.false,
  l,
  ap given (sym c.in-Ok-parse.is ∙ parse-decimal 64 n c.in-Ok.text.now c.parse.result (omega arith) (omega arith)
      (c.in-Ok.ensures.cases.0 ∙ e) c.parse.ensures.value.0),
))
