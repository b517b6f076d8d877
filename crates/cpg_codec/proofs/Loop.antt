-- Loops that read value after value: the values so far, in front of what reading the others gives, are the whole
-- (`total`).
use Rattle.std.proofs.Common.{◌≡◌, ℕ, suc, ◌+◌, ◌-◌, ◌<◌, ◌≤◌, List, [], ◌∷◌, ◌++◌, Result, Ok, Err, refl, sym, ap, ◌∙◌}
use Rattle.std.proofs.Common.{append_assoc, arith}
use Rattle.std.proofs.lemmas.List.{append-nil}
use Rattle.cpg_codec.specs.Reading.{Reader, pure, onward, ◌>>=◌, read_each, down}
use Rattle.cpg_codec.specs.declared.fault.ReadError.{ReadError}
use Rattle.cpg_codec.specs.declared.fault.ReadError.TheVariants as errors
use Rattle.cpg_codec.specs.Gives.{Fails}

-- the values that were read before, put in front of what reading on gives; an error stays
abbrev pub with_front : {A : Type 0} → List A → Result (List A × List ℕ) ℕ → Result (List A × List ℕ) ℕ
with_front front (Ok x) = Ok (front ++ x.0, x.1)
with_front front (Err n) = Err n

-- with no value in front, a result stays as it is
pub nothing_in_front : {A : Type 0} (r : Result (List A × List ℕ) ℕ) → with_front [] r ≡ r
nothing_in_front (Ok x) = refl
nothing_in_front (Err n) = refl

-- given: a reader for each label and state, and the state after a value
module _ {L S A : Type 0} (step : S → A → S) (one : L → S → Reader A) where
  -- a first value of the result may as well be the last one in front
  regroup : (front : List A) (x : A) (r : Result (List A × List ℕ) ℕ) →
      with_front front (onward (λ (xs : List A). pure (x ∷ xs)) r) ≡ with_front (front ++ x ∷ []) r
  regroup front x (Ok y) = ap (λ (xs : List A). Ok (xs, y.1)) (sym (append_assoc front (x ∷ []) y.0))
  regroup front x (Err n) = refl

  -- if the next value is read, it goes to those in front, and the total is the same with the labels and bytes left; the
  -- first step of the rest is unfolded, and its value moved to those in front
  pub goes_on : (front : List A) (labels : List L) (l : L) (ls : List L) (s : S) (bytes : List ℕ) (x : A)
      (after : List ℕ) (total : Result (List A × List ℕ) ℕ) →
      labels ≡ l ∷ ls →
      one l s bytes ≡ Ok (x, after)
      → with_front front (read_each step one labels s bytes) ≡ total →
      with_front (front ++ x ∷ []) (read_each step one ls (step s x) after) ≡ total
  goes_on front labels l ls s bytes x after total labels_are read_as so_far =
      sym (regroup front x (read_each step one ls (step s x) after)) ∙
      sym (ap (λ (ms : List L). with_front front (read_each step one ms s bytes)) labels_are ∙
      ap (λ (r : Result (A × List ℕ) ℕ).
      with_front front (onward (λ (y : A). read_each step one ls (step s y) >>= λ ys. pure (y ∷ ys)) r)) read_as)
      ∙ so_far

  -- if the next value can't be read, the total is the same error, unless memory ran out
  pub ends : (error : ReadError) (front : List A) (labels : List L) (l : L) (ls : List L) (s : S) (bytes : List ℕ)
      (total : Result (List A × List ℕ) ℕ) → labels ≡ l ∷ ls →
      Fails error (one l s bytes)
      → with_front front (read_each step one labels s bytes) ≡ total → Fails error total
  ends errors.Memory front labels l ls s bytes total labels_are fails so_far = tt
  ends (errors.Left n) front labels l ls s bytes total labels_are fails so_far =
      sym so_far ∙ ap (λ (ms : List L). with_front front (read_each step one ms s bytes)) labels_are ∙
      ap (λ (r : Result (A × List ℕ) ℕ).
      with_front front (onward (λ (y : A). read_each step one ls (step s y) >>= λ ys. pure (y ∷ ys)) r)) fails

  -- without labels left, the values in front are the total
  pub is_done : (front : List A) (labels : List L) (s : S) (bytes : List ℕ) (total : Result (List A × List ℕ) ℕ) →
      labels ≡ [] →
      with_front front (read_each step one labels s bytes) ≡ total →
      total ≡ Ok (front, bytes)
  is_done front labels s bytes total labels_are so_far =
      sym so_far ∙ ap (λ (ms : List L). with_front front (read_each step one ms s bytes)) labels_are
      ∙ ap (λ (xs : List A). Ok (xs, bytes)) (append-nil front)

-- the labels that are left after i values begin with the next one
pub down_more : (count i : ℕ) → i < count → down (count - i) ≡ (count - (i + 1)) ∷ down (count - (i + 1))
unfolding down
down_more count i lt = let one_more : count - i ≡ suc (count - (i + 1)) = omega arith in ap down one_more

-- after all values no label is left
pub down_none : (count i : ℕ) → count ≤ i → down (count - i) ≡ []
unfolding down
down_none count i le = let none_left : count - i ≡ 0 = omega arith in ap down none_left

-- ---- a loop over a count

-- the reader of the rest of `count` values, after the first i
abbrev pub left_of : {A : Type 0} → Reader A → ℕ → ℕ → Reader (List A)
left_of one count i = read_each (λ (s : ℕ) x. s) (λ (l : ℕ) s. one) (down (count - i)) 0

-- `goes_on` for `count` values of one kind
pub times_on : {A : Type 0} (one : Reader A) (front : List A) (count i : ℕ) (bytes : List ℕ) (x : A) (after : List ℕ)
    (total : Result (List A × List ℕ) ℕ) → i < count →
    one bytes ≡ Ok (x, after)
    → with_front front (left_of one count i bytes) ≡ total →
    with_front (front ++ x ∷ []) (left_of one count (i + 1) after) ≡ total
times_on one front count i bytes x after total lt read_as so_far =
    goes_on (λ (s : ℕ) x. s) (λ (l : ℕ) s. one) front (down (count - i)) (count - (i + 1))
    (down (count - (i + 1))) 0 bytes x after total (down_more count i lt) read_as so_far

-- `ends` for `count` values of one kind
pub times_end : {A : Type 0} (one : Reader A) (error : ReadError) (front : List A) (count i : ℕ) (bytes : List ℕ)
    (total : Result (List A × List ℕ) ℕ) → i < count →
    Fails error (one bytes)
    → with_front front (left_of one count i bytes) ≡ total → Fails error total
times_end one error front count i bytes total lt fails so_far =
    ends (λ (s : ℕ) x. s) (λ (l : ℕ) s. one) error front (down (count - i)) (count - (i + 1))
    (down (count - (i + 1))) 0 bytes total (down_more count i lt) fails so_far

-- `is_done` for `count` values of one kind
pub times_done : {A : Type 0} (one : Reader A) (front : List A) (count i : ℕ) (bytes : List ℕ)
    (total : Result (List A × List ℕ) ℕ) → count ≤ i
    → with_front front (left_of one count i bytes) ≡ total → total ≡ Ok (front, bytes)
times_done one front count i bytes total le so_far =
    is_done (λ (s : ℕ) x. s) (λ (l : ℕ) s. one) front (down (count - i)) 0 bytes total (down_none count i le) so_far
