-- Names are ASCII, and so UTF-8.
use Rattle.std.proofs.Common.{◌≡◌, ℕ, zero, suc, refl, [], ◌∷◌, ◌<◌, ◌≤◌, true, List, length, get_or, arith, subst, sym}
use Rattle.std.proofs.Common.{inl, inr}
use Rattle.std.specs.Str.{IsUtf8, IsAscii}
use Rattle.std.proofs.lemmas.Bool.{cases_lt}
use Rattle.std.proofs.lemmas.Bool.Decides.{nat_tests}
use Rattle.std.proofs.lemmas.Str.{IsUtf8-from_ascii}
use Rattle.cpg_base.specs.Name.{IsName, is_name_byte}

-- a byte of a name is below 128
letter_is_ascii : (b : ℕ) → is_name_byte b ≡ true → b < 128
letter_is_ascii b name_byte = grind (arith, nat_tests)

-- a place past the end of a list gives the default
get_or_past : (xs : List ℕ) (i : ℕ) → length xs ≤ i → get_or xs i 0 ≡ 0
get_or_past [] i le = refl
get_or_past (x ∷ xs) zero le = absurd (omega arith)
get_or_past (x ∷ xs) (suc i) le = get_or_past xs i (omega arith)

-- all bytes of a name are below 128
name_is_ascii : (text : List ℕ) → IsName text → IsAscii text
name_is_ascii text is_name i = elim (cases_lt i (length text)) [
  | inl lt ↦ letter_is_ascii (get_or text i 0) (is_name.plain i 0 lt)
  | inr le ↦ subst (λ (b : ℕ). b < 128) (sym (get_or_past text i le)) (omega arith)
]

-- the bytes of a name are a text in UTF-8
pub name_is_utf8 : (text : List ℕ) → IsName text → IsUtf8 text
name_is_utf8 text is_name = IsUtf8-from_ascii text (name_is_ascii text is_name)
