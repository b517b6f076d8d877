-- What copies are called.
use Rattle.std.proofs.Common.{◌≡◌, ℕ, zero, suc, ◌+◌, ◌%◌, ◌^◌, ◌<◌, ◌≤◌, List, [], ◌∷◌, ◌++◌, codes, length}
use Rattle.std.proofs.Common.{length-append, append_assoc, get_or, Option, Some, None, Result, Ok, Err, refl, sym, ap}
use Rattle.std.proofs.Common.{◌∙◌, subst, arith, ⊎_elim, le-leb, rules}
use Rattle.std.specs.Prelude.{All, IfOk, IfNone, IsTrue}
use Rattle.std.specs.Fmt.{decimal}
use Rattle.std.proofs.lemmas.Fmt.{decimal_by_steps, decimal_injective}
use Rattle.std.proofs.lemmas.Bool.{cases_lt}
use Rattle.std.proofs.lemmas.List.Elements.{All-append}
use Rattle.cpg_base.specs.Name.{IsName, is_name_byte}
use Rattle.cpg_hyper.specs.Unrolled.{name_in}

-- a byte from `0` to `9`
abbrev IsDigit : ℕ → Type 0
IsDigit b = (48 ≤ b) × (b ≤ 57)

-- every fact holds of all elements of the empty list
all_nil : {X : Type 0} (P : X → Type 0) → All P []
all_nil P k d inside = absurd (omega arith)

-- a fact of one element holds of all elements of the list of this one
all_one : {X : Type 0} (P : X → Type 0) (x : X) → P x → All P (x ∷ [])
all_one P x holds zero d inside = holds
all_one P x holds (suc k) d inside = absurd (omega (arith, inside))

-- the decimal text of a number has digits alone
pub digits_only : (n : ℕ) → n < 2 ^ 64 → All IsDigit (decimal n)
digits_only n small = decimal_by_steps (λ n ds. All IsDigit ds)
    (λ n below_ten. all_one IsDigit (48 + n) (omega arith, omega (arith, below_ten)))
    (λ n ds l p.
    All-append IsDigit ds ((48 + n % 10) ∷ []) p (all_one IsDigit (48 + n % 10) (omega arith, omega arith)))
    n small

-- a digit may stand in a name
digit_in_name : (b : ℕ) → IsDigit b → IsTrue (is_name_byte b)
digit_in_name b is_digit = search (le-leb 48 b is_digit.0, le-leb b 57 is_digit.1, rules)

-- a weaker fact holds of all elements too
all_weaker : {X : Type 0} (P R : X → Type 0) (xs : List X) → ((x : X) → P x → R x) → All P xs → All R xs
all_weaker P R xs weaker all_hold k d inside = weaker (get_or xs k d) (all_hold k d inside)

-- a point may stand in a name
point : All (λ b. IsTrue (is_name_byte b)) (codes ".")
point = all_one (λ b. IsTrue (is_name_byte b)) 46 refl

-- a made name is a number, a point, a number, a point, and a name
made_is : (p i : ℕ) (name : List ℕ) → name_in p i name ≡ decimal p ++ (46 ∷ (decimal i ++ (46 ∷ name)))
made_is p i name = append_assoc ((decimal p ++ codes ".") ++ decimal i) (codes ".") name
    ∙ append_assoc (decimal p ++ codes ".") (decimal i) (46 ∷ name) ∙
    append_assoc (decimal p) (codes ".") (decimal i ++ (46 ∷ name))

-- a made name has only bytes that names may have
pub made_plain : (p i : ℕ) (name : List ℕ) → p < 2 ^ 64 → i < 2 ^ 64 → IsName name →
    All (λ b. IsTrue (is_name_byte b)) (name_in p i name)
-- a made name is put together from the end: the name, a point, the instance's digits, a point and the part's digits
made_plain p i name p_small i_small is_name =
    let plain : ℕ → Type 0 = λ b. IsTrue (is_name_byte b) in
    let last = All-append plain (codes ".") name point is_name.plain in
    let rest = All-append plain (decimal i) (46 ∷ name)
    (all_weaker IsDigit plain (decimal i) digit_in_name (digits_only i i_small)) last in
    let after = All-append plain (codes ".") (decimal i ++ (46 ∷ name)) point rest in
    subst (All plain) (sym (made_is p i name)) (All-append plain (decimal p) (46 ∷ (decimal i ++ (46 ∷ name)))
    (all_weaker IsDigit plain (decimal p) digit_in_name (digits_only p p_small)) after)

-- a made name isn't empty
pub made_some : (p i : ℕ) (name : List ℕ) → 1 ≤ length (name_in p i name)
made_some p i name =
    omega (arith, ap length (made_is p i name), length-append (decimal p) (46 ∷ (decimal i ++ (46 ∷ name))))

-- a made name that isn't a name is too long
pub long_name : (p i : ℕ) (name : List ℕ) → p < 2 ^ 64 → i < 2 ^ 64 → IsName name → (IsName (name_in p i name) → ⊥) →
    32 < length (name_in p i name)
-- by whether 32 is below `length (name_in p i name)`
long_name p i name p_small i_small is_name not_name = ⊎_elim
    (λ (long : 32 < length (name_in p i name)). long)
    (λ (short : length (name_in p i name) ≤ 32).
    absurd (not_name
    (record { some = made_some p i name; short = short; plain = made_plain p i name p_small i_small is_name })))
    (cases_lt 32 (length (name_in p i name)))

-- a text that isn't taken as a name is a made name that is too long
pub long_if : {E : Type 0} (r : Result (Option (List ℕ)) E) (text made : List ℕ) →
    IfOk r (λ r. IfNone r (IsName text → ⊥)) → text ≡ made →
    ((IsName made → ⊥) → 32 < length made) →
    IfOk r (λ r. IfNone r (32 < length made))
long_if (Ok (Some name)) text made not_name is long = tt
long_if (Ok None) text made not_name is long = long (subst (λ t. IsName t → ⊥) is not_name)
long_if (Err e) text made not_name is long = tt

-- ---- names differ

-- a text without its first byte
tail : List ℕ → List ℕ
tail [] = []
tail (c ∷ cs) = cs

-- if two texts of digits, a point and more are equal, the digits are equal, and so is the rest
no_point : (xs ys us vs : List ℕ) → All IsDigit xs → All IsDigit ys → xs ++ 46 ∷ us ≡ ys ++ 46 ∷ vs →
    (xs ≡ ys) × (us ≡ vs)
unfolding tail
-- by induction on the numbers
no_point [] [] us vs xs_digits ys_digits equal = (refl, ap tail equal)
no_point [] (y ∷ ys) us vs xs_digits ys_digits equal =
    absurd (omega (arith, (ys_digits 0 y (omega arith)).0, ap (λ cs. get_or cs 0 0) equal))
no_point (x ∷ xs) [] us vs xs_digits ys_digits equal =
    absurd (omega (
      arith,
      (xs_digits 0 x (omega arith)).0,
      (xs_digits 0 x (omega arith)).0,
      ap (λ cs. get_or cs 0 0) equal,
    ))
no_point (x ∷ xs) (y ∷ ys) us vs xs_digits ys_digits equal =
    let first : x ≡ y = ap (λ cs. get_or cs 0 0) equal in
    let (rest, after) = no_point xs ys us vs (λ j d inside. xs_digits (suc j) d (omega (arith, inside)))
    (λ j d inside. ys_digits (suc j) d (omega (arith, inside))) (ap tail equal) in
    (rw (first, rest) refl, after)

-- equal made names are of the same part and instance, and of equal names
pub same_copy : (p i q j : ℕ) (a b : List ℕ) → p < 2 ^ 64 → i < 2 ^ 64 → q < 2 ^ 64 → j < 2 ^ 64 →
    name_in p i a ≡ name_in q j b →
    (p ≡ q) × (i ≡ j) × (a ≡ b)
same_copy p i q j a b p_small i_small q_small j_small equal =
    let (parts, rest) = no_point (decimal p) (decimal q) (decimal i ++ (46 ∷ a)) (decimal j ++ (46 ∷ b))
    (digits_only p p_small) (digits_only q q_small) (sym (made_is p i a) ∙ equal ∙ made_is q j b) in
    let (instances, names) = no_point (decimal i) (decimal j) a b (digits_only i i_small)
    (digits_only j j_small) rest in
    (decimal_injective p q p_small q_small parts, decimal_injective i j i_small j_small instances, names)
