-- What `clap` and the rule see in one word.
use Rattle.std.proofs.Common.{◌≡◌, ◌∙◌, ◌==◌, ℕ, Bool, true, false, [], ◌∷◌, Option, Some, None, codes, refl, sym, ap}
use Rattle.std.proofs.Common.{subst, suc, ◌+◌, arith}
use Rattle.std.specs.Str.{bytes_eq, chars, IsUtf8, encode_utf8_all}
use Rattle.std.specs.Char.{encode_utf8}
use Rattle.std.proofs.lemmas.Str.{encodes-chars}
use Rattle.std.specs.Prelude.{slice_get, take, drop, not}
use Rattle.std.specs.List.{before_first, after_first, prefix_len}
use Rattle.std.proofs.lemmas.Bool.Decides.{nat_tests}
use Rattle.std.proofs.lemmas.Bool.{eqb-true}
use Rattle.clap.specs.Lexer.{long_of, short_of, name_and_value}
use Rattle.cpg_words.specs.Parts.{Text, is_option, is_turns, value_in, is_equals}
use Rattle.cpg_words.specs.Number.{number}

-- how `clap` and the rule see a word: no option, two dashes alone, `--turns`, a strange long option, or a short one
pub data Look (w : Text) : Type 0 where
  plain : is_option w ≡ false → bytes_eq w (codes "--") ≡ false → long_of w ≡ None → short_of w ≡ None → Look w
  dashes : is_option w ≡ true → bytes_eq w (codes "--") ≡ true → Look w
  turns : (name : Text) (v : Option Text) → is_option w ≡ true → bytes_eq w (codes "--") ≡ false → is_turns w ≡ true →
      value_in w ≡ v
      → long_of w ≡ Some (name, v) → bytes_eq (codes "turns") name ≡ true → Look w
  strange : (name : Text) (v : Option Text) → is_option w ≡ true → bytes_eq w (codes "--") ≡ false → is_turns w ≡ false
      → long_of w ≡ Some (name, v) → bytes_eq (codes "turns") name ≡ false → Look w
  short : (flags : Text) (c : ℕ) → is_option w ≡ true → bytes_eq w (codes "--") ≡ false → is_turns w ≡ false
      → long_of w ≡ None → short_of w ≡ Some flags → slice_get (chars flags) 0 ≡ Some c → Look w

-- how a word of one byte looks to both
look_one : (x : ℕ) (b : Bool) → (x == 45) ≡ b → Look (x ∷ [])
look_one x true is = plain refl (rw is refl) (rw is refl) (rw is refl)
look_one x false is = plain refl (rw is refl) (rw is refl) (rw is refl)

-- a word of a minus (45), a byte y and a rest has a first flag
first_flag : (y : ℕ) (rest cs : Text) → chars (y ∷ rest) ≡ cs → IsUtf8 (45 ∷ y ∷ rest) →
    (c : ℕ) × (slice_get cs 0 ≡ Some c)
unfolding chars encode_utf8
first_flag y rest [] no_flags text =
    let encoded : encode_utf8_all (45 ∷ chars (y ∷ rest)) ≡ 45 ∷ y ∷ rest = encodes-chars (45 ∷ y ∷ rest) text in
    let alone : 45 ∷ [] ≡ 45 ∷ y ∷ rest = ap (λ (cs : Text). encode_utf8_all (45 ∷ cs)) (sym no_flags) ∙ encoded in
    cc
first_flag y rest (c ∷ cs) no_flags text = (c, refl)

-- the first n + 1 bytes of a text are its first byte and then n more
take_one : (n x : ℕ) (xs : Text) → take (1 + n) (x ∷ xs) ≡ x ∷ take n xs
take_one n x xs = let sums : 1 + n ≡ suc n = omega arith in rw sums refl

-- leaving out a byte and then n + 1 more is leaving out n + 1 behind it
drop_one : (n x : ℕ) (xs : Text) → drop (1 + n + 1) (x ∷ xs) ≡ drop (n + 1) xs
drop_one n x xs = let sums : 1 + n + 1 ≡ suc (n + 1) = omega arith in rw sums refl

-- what is before the first `=` of a word with a minus in front is the minus and what is before it in the word
before_minus : (w : Text) → before_first is_equals (45 ∷ w) ≡ 45 ∷ before_first is_equals w
before_minus w = take_one (prefix_len (λ x. not (is_equals x)) w) 45 w

-- what is after an equals sign, behind a minus
after_minus : (w : Text) → after_first is_equals (45 ∷ w) ≡ after_first is_equals w
after_minus w = drop_one (prefix_len (λ x. not (is_equals x)) w) 45 w

-- a word with two minuses names the turns if what is before its equals sign does
turns_long : (w : Text) → is_turns (45 ∷ 45 ∷ w) ≡ bytes_eq (codes "turns") (before_first is_equals w)
turns_long w = rw (before_minus (45 ∷ w), before_minus w) refl

-- what is after the equals sign of a word with two minuses is the value
value_long : (w : Text) → value_in (45 ∷ 45 ∷ w) ≡ (name_and_value w).1
value_long w = rw (after_minus (45 ∷ w), after_minus w) refl

-- a byte that isn't a minus (45), with the sides of the test exchanged
not_minus : (y : ℕ) → (y == 45) ≡ false → (45 == y) ≡ false
not_minus y is_false = grind (arith, nat_tests)

-- a second byte that isn't a minus makes the word no name of the turns
other_second : (y : ℕ) (rest : Text) (b : Bool) → (y == 61) ≡ b → (45 == y) ≡ false →
    bytes_eq (codes "-turns") (before_first is_equals (y ∷ rest)) ≡ false
other_second y rest true is is_false = rw is refl
other_second y rest false is is_false = rw
    (is, take_one (prefix_len (λ x. not (is_equals x)) rest) y rest, is_false) refl

-- a word that begins with two dashes and goes on is the option `turns` or a strange option; 45 is the dash
look_long : (x y z : ℕ) (zs : Text) → (x == 45) ≡ true → (y == 45) ≡ true → (b : Bool) →
    bytes_eq (codes "turns") (name_and_value (z ∷ zs)).0 ≡ b
    → Look (x ∷ y ∷ z ∷ zs)
-- by whether what is before an equals sign is `turns`
look_long x y z zs e d true n =
    let x_is : x ≡ 45 = eqb-true x 45 e in
    let y_is : y ≡ 45 = eqb-true y 45 d in
    turns (name_and_value (z ∷ zs)).0 (name_and_value (z ∷ zs)).1 e (rw (e, d) refl)
    (rw (x_is, y_is) (turns_long (z ∷ zs) ∙ n)) (rw (x_is, y_is) (value_long (z ∷ zs))) (rw (e, d) refl) n
look_long x y z zs e d false n =
    let x_is : x ≡ 45 = eqb-true x 45 e in
    let y_is : y ≡ 45 = eqb-true y 45 d in
    strange (name_and_value (z ∷ zs)).0 (name_and_value (z ∷ zs)).1 e (rw (e, d) refl)
    (rw (x_is, y_is) (turns_long (z ∷ zs) ∙ n)) (rw (e, d) refl) n

-- a word of two bytes or more is plain, two dashes alone, a long option or a short one; by its first two bytes
look_two : (x y : ℕ) (rest : Text) (b c : Bool) → (x == 45) ≡ b → (y == 45) ≡ c → IsUtf8 (x ∷ y ∷ rest) →
    Look (x ∷ y ∷ rest)
-- no dash first; two dashes alone; two dashes and more; one dash alone
look_two x y rest false c e d text = plain e (rw e refl) (rw e refl) (rw e refl)
look_two x y [] true true e d text = dashes e (rw (e, d) refl)
look_two x y (z ∷ zs) true true e d text = look_long x y z zs e d _ refl
look_two x y rest true false e d text =
    let x_is : x ≡ 45 = eqb-true x 45 e in
    let word_is : x ∷ y ∷ rest ≡ 45 ∷ y ∷ rest = ap (λ (k : ℕ). k ∷ y ∷ rest) x_is in
    let flag = first_flag y rest _ refl (subst IsUtf8 word_is text) in
    short (y ∷ rest) flag.0 e (rw (e, d) refl) (rw x_is (ap (bytes_eq (codes "--turns")) (before_minus (y ∷ rest))
    ∙ other_second y rest (y == 61) refl (not_minus y d))) (rw (e, d) refl)
    (rw (e, d) refl) flag.1

-- each word has a look: one way in which `clap` and the rule see it
pub look : (w : Text) → IsUtf8 w → Look w
look [] text = plain refl refl refl refl
look (x ∷ []) text = look_one x (x == 45) refl
look (x ∷ y ∷ rest) text = look_two x y rest (x == 45) (y == 45) refl refl text

-- an option is no number
pub option_number : (w : Text) → is_option w ≡ true → number w ≡ None
option_number [] is_true = cc
option_number (b ∷ []) is_true = cc
option_number (b ∷ c ∷ rest) is_true = let is : b ≡ 45 = eqb-true b 45 is_true in rw is refl
