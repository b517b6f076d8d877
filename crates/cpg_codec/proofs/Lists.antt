-- Readers of lists read exactly the spellings of lists (`Reads`, of Laws), if those of the elements do so. In the
-- lemmas l is a label, ls are labels, s is a state, and ys are values.
use Rattle.std.proofs.Common.{◌≡◌, ℕ, zero, suc, ◌<◌, List, [], ◌∷◌, ◌++◌, length, refl, sym, ap, subst, ◌∙◌, arith}
use Rattle.std.specs.List.{flat_map, AllByRecursion}
use Rattle.std.proofs.lemmas.List.{append-nil}
use Rattle.cpg_codec.specs.Reading.{Reader, pure, ◌>>=◌, read_each, down, read_repeated}
use Rattle.cpg_codec.proofs.Laws.{Reads, pure_reads, then_reads, adapt}

-- the first element of a list; a default if it is empty
abbrev head_or : {A : Type 0} → A → List A → A
head_or d [] = d
head_or d (x ∷ xs) = x

-- the elements after the first
abbrev tail_of : {A : Type 0} → List A → List A
tail_of [] = []
tail_of (x ∷ xs) = xs

-- Given a reader `one` for each label and state, an invariant `Inv` of the labels left and the state, and what is said of
-- a value (`Fits`) and of the list of all values (`G`): `item`: a reader reads exactly the spellings of values that fit.
-- `keeps`: the invariant stays. The others: G holds of the empty list exactly without labels, and of a list with an
-- element exactly if that fits the first label and G holds of the others.
module _ {L S A : Type 0} (step : S → A → S) (one : L → S → Reader A)
    (Inv : List L → S → Type 0) (Fits : L → List L → S → A → Type 0) (spell : A → List ℕ)
    (G : List L → S → List A → Type 0)
    (item : (l : L) (ls : List L) (s : S) → Inv (l ∷ ls) s → Reads (Fits l ls s) spell (one l s))
    (keeps : (l : L) (ls : List L) (s : S) (x : A) → Inv (l ∷ ls) s → Fits l ls s x → Inv ls (step s x))
    (nil : (s : S) → Inv [] s → G [] s [])
    (nil_only : (s : S) (x : A) (xs : List A) → G [] s (x ∷ xs) → ⊥)
    (cons_only : (l : L) (ls : List L) (s : S) → G (l ∷ ls) s [] → ⊥)
    (cons : (l : L) (ls : List L) (s : S) (x : A) (xs : List A) → Inv (l ∷ ls) s → Fits l ls s x → G ls (step s x) xs →
    G (l ∷ ls) s (x ∷ xs))
    (uncons : (l : L) (ls : List L) (s : S) (x : A) (xs : List A) → Inv (l ∷ ls) s → G (l ∷ ls) s (x ∷ xs) →
    Fits l ls s x × G ls (step s x) xs) where
  -- what is said of a list that is read with a label: its first element fits, G holds of the others, and it is made of
  -- both (d is the first element of an empty list)
  Parts : L → List L → S → A → List A → Type 0
  Parts l ls s d ys =
      Fits l ls s (head_or d ys) × (G ls (step s (head_or d ys)) (tail_of ys) × (ys ≡ head_or d ys ∷ tail_of ys))

  -- if that is so of a list, G holds of it
  parts_to : (l : L) (ls : List L) (s : S) (d : A) → Inv (l ∷ ls) s → (ys : List A) → Parts l ls s d ys →
      G (l ∷ ls) s ys
  unfolding Parts
  parts_to l ls s d inv [] parts = absurd (let equal : [] ≡ d ∷ [] = parts.1.1 in cc)
  parts_to l ls s d inv (x ∷ xs) parts = cons l ls s x xs inv parts.0 parts.1.0

  -- if G holds of a list, that is so of it
  parts_from : (l : L) (ls : List L) (s : S) (d : A) → Inv (l ∷ ls) s → (ys : List A) → G (l ∷ ls) s ys →
      Parts l ls s d ys
  unfolding Parts
  parts_from l ls s d inv [] holds = absurd (cons_only l ls s holds)
  parts_from l ls s d inv (x ∷ xs) holds = let parts = uncons l ls s x xs inv holds in (parts.0, (parts.1, refl))

  -- the spelling of the first element and those of the others are that of the list
  parts_spell : (l : L) (ls : List L) (s : S) (d : A) (ys : List A) → G (l ∷ ls) s ys →
      spell (head_or d ys) ++ (flat_map spell (tail_of ys) ++ []) ≡ flat_map spell ys
  parts_spell l ls s d [] holds = absurd (cons_only l ls s holds)
  parts_spell l ls s d (x ∷ xs) holds = ap (λ (t : List ℕ). spell x ++ t) (append-nil (flat_map spell xs))

  -- without labels G holds of the empty list
  nil_to : (s : S) → Inv [] s → (ys : List A) → ys ≡ [] → G [] s ys
  nil_to s inv ys is_empty = subst (λ (zs : List A). G [] s zs) (sym is_empty) (nil s inv)

  -- without labels G holds of no other list
  nil_from : (s : S) (ys : List A) → G [] s ys → ys ≡ []
  nil_from s [] holds = refl
  nil_from s (y ∷ ys) holds = absurd (nil_only s y ys holds)

  -- its spelling is empty
  nil_spell : (s : S) (ys : List A) → G [] s ys → [] ≡ flat_map spell ys
  nil_spell s ys holds = ap (flat_map spell) (sym (nil_from s ys holds))

  -- the readers of all labels, one after another, read exactly the spellings of the lists of which G holds; by induction on
  -- the labels: the reader of the first, then those of the others, by `then_reads` twice
  pub each_reads : (ls : List L) (s : S) → Inv ls s → Reads (G ls s) (flat_map spell) (read_each step one ls s)
  unfolding Parts
  each_reads [] s inv = adapt (pure_reads []) (nil_to s inv) (nil_from s) (nil_spell s)
  each_reads (l ∷ ls) s inv =
      let some = (item l ls s inv).some in
      adapt
      (then_reads (Fits l ls s) spell (one l s)
      (λ x ys. G ls (step s x) (tail_of ys) × (ys ≡ x ∷ tail_of ys)) (λ x ys. flat_map spell (tail_of ys) ++ [])
      (λ x. read_each step one ls (step s x) >>= λ xs. pure (x ∷ xs)) (head_or some)
      (item l ls s inv)
      (λ x fx. then_reads (G ls (step s x)) (flat_map spell) (read_each step one ls (step s x))
      (λ xs ys. ys ≡ x ∷ xs) (λ xs ys. []) (λ xs. pure (x ∷ xs)) tail_of
      (each_reads ls (step s x) (keeps l ls s x inv fx)) (λ xs g. pure_reads (x ∷ xs)) (λ xs ys g e. ap tail_of e))
      (λ x ys fx p. ap (head_or some) p.1))
      (parts_to l ls s some inv) (parts_from l ls s some inv) (parts_spell l ls s some)

-- a list of n values with a property
abbrev pub AreAll : {A : Type 0} → (A → Type 0) → ℕ → List A → Type 0
AreAll P n xs = (length xs ≡ n) × AllByRecursion P xs

-- counting down from n has n steps
pub down_is : (n : ℕ) → length (down n) ≡ n
unfolding down
down_is zero = refl
down_is (suc n) = ap suc (down_is n)

-- a reader that is repeated n times reads exactly the spellings of n values: `each_reads` with no state
pub times_reads : {A : Type 0} (Fits : A → Type 0) (spell : A → List ℕ) (r : Reader A) (n : ℕ) →
    (0 < n → Reads Fits spell r) →
    Reads (AreAll Fits n) (flat_map spell) (read_repeated r n)
times_reads Fits spell r n one =
    adapt
    (each_reads (λ (s : ℕ) x. s) (λ (l : ℕ) s. r) (λ ls s. 0 < length ls → Reads Fits spell r)
    (λ l ls s x. Fits x) spell (λ ls s xs. AreAll Fits (length ls) xs)
    (λ l ls s i. i (omega arith)) (λ l ls s x i f _. i (omega arith)) (λ s i. (refl, tt))
    (λ s x xs g. absurd (let none : suc (length xs) ≡ 0 = g.0 in omega arith))
    (λ l ls s g. absurd (let none : 0 ≡ suc (length ls) = g.0 in omega arith))
    (λ l ls s x xs i f g. (ap suc g.0, (f, g.1)))
    (λ l ls s x xs i g. let counts : suc (length xs) ≡ suc (length ls) = g.0 in (g.1.0, (omega arith, g.1.1)))
    (down n) 0 (λ some. one (omega (arith, down_is n))))
    (λ xs g. (g.0 ∙ down_is n, g.1)) (λ xs g. (g.0 ∙ sym (down_is n), g.1)) (λ xs g. refl)
