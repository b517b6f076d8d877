-- What is known of steps in a row if all of them succeed.
use Rattle.std.proofs.Common.{◌≡◌, ℕ, zero, suc, ◌+◌, ◌<◌, List, [], ◌∷◌, length, get_or, Ok, Err, refl, sym, ap, ◌∙◌}
use Rattle.std.proofs.Common.{arith}
use Rattle.cpg_reader.specs.Reading.{Reading, pure, ◌>>=◌, ◌>>◌, each}

-- if two steps in a row succeed, each of them does
pub then-parts : {T U : Type 0} (a : Reading T) (b : Reading U) (y : U) → (a >> b) ≡ Ok y →
    (x : T) × (a ≡ Ok x) × (b ≡ Ok y)
then-parts (Ok x) b y is = (x, refl, is)
then-parts (Err fault) b y is = cc

-- if a step and a step on its value succeed, each of them does
pub bind-parts : {T U : Type 0} (a : Reading T) (next : T → Reading U) (y : U) → (a >>= next) ≡ Ok y →
    (x : T) × (a ≡ Ok x) × (next x ≡ Ok y)
bind-parts (Ok x) next y is = (x, refl, is)
bind-parts (Err fault) next y is = cc

-- the value of a reading, or d if it refuses
ok_value : {T : Type 0} → T → Reading T → T
ok_value d (Ok x) = x
ok_value d (Err fault) = d

-- equal readings have equal values
pub same_ok : {T : Type 0} (x y : T) → pure x ≡ pure y → x ≡ y
unfolding ok_value
same_ok x y is = ap (ok_value x) is

-- given a step that is taken for each element
module _ {T U : Type 0} (step : ℕ → T → Reading U) where
  -- if the steps for all elements succeed, so does the first, and so do the others
  pub each-parts : (i : ℕ) (x : T) (xs : List T) (ys : List U) → each step i (x ∷ xs) ≡ Ok ys →
      (y : U) × (zs : List U) × (ys ≡ y ∷ zs) × (step i x ≡ Ok y) × (each step (i + 1) xs ≡ Ok zs)
  each-parts i x xs ys is =
      let (y, first, more) = bind-parts (step i x) (λ y. each step (i + 1) xs >>= (λ ys. pure (y ∷ ys))) ys is in
      let (zs, rest, last) = bind-parts (each step (i + 1) xs) (λ ys. pure (y ∷ ys)) ys more in
      (y, zs, sym (same_ok (y ∷ zs) ys last), first, rest)

  -- there are as many values as elements
  pub each-length : (i : ℕ) (xs : List T) (ys : List U) → each step i xs ≡ Ok ys → length ys ≡ length xs
  each-length i [] ys i_is = sym (ap length (same_ok [] ys i_is))
  each-length i (x ∷ xs) ys i_is =
      let (y, zs, is, first, rest) = each-parts i x xs ys i_is in
      ap length is ∙ ap suc (each-length (i + 1) xs zs rest)

  -- the element at place k gives the value at place k, if the first element has the index i; by the place
  pub each-at : (i : ℕ) (xs : List T) (ys : List U) → each step i xs ≡ Ok ys → (k j : ℕ) (d : T) (e : U) → i + k ≡ j →
      k < length xs →
      step j (get_or xs k d) ≡ Ok (get_or ys k e)
  each-at i [] ys i_is k j d e at below = absurd (omega arith)
  each-at i (x ∷ xs) ys i_is zero j d e at below =
      let (y, zs, is, first, rest) = each-parts i x xs ys i_is in
      let here : j ≡ i = omega arith in
      rw (is, here) first
  each-at i (x ∷ xs) ys i_is (suc k) j d e at below =
      let (y, zs, is, first, rest) = each-parts i x xs ys i_is in
      rw is (each-at (i + 1) xs zs rest k j d e (omega arith) (omega arith))
