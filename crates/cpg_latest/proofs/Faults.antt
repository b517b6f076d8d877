-- Fault counts: how many faults some of the processes have together, and a list with more faults in one process.
use Rattle.std.proofs.Common.{◌≡◌, ℕ, zero, suc, ◌+◌, ◌<◌, ◌≤◌, Bool, true, false, if◌then◌else◌, List, [], ◌∷◌, length}
use Rattle.std.proofs.Common.{get_or, sum, arith, refl, ap, ◌∙◌}
use Rattle.std.proofs.lemmas.Bool.{cond-true, cond-false}
use Rattle.std.proofs.lemmas.List.{get_or_past}
use Rattle.std.proofs.lemmas.List.Sums.{sum_by-cons}

-- ---- of some processes

-- how many faults the processes have that pass the test; the first of the list has the number i
abbrev pub spent : (ℕ → Bool) → ℕ → List ℕ → ℕ
spent b i [] = 0
spent b i (f ∷ fs) = (if b i then f else 0) + spent b (suc i) fs

-- a count, or 0 in its place, is at most the count
if_le : (b : Bool) (f : ℕ) → (if b then f else 0) ≤ f
if_le true f = omega arith
if_le false f = omega arith

-- a count that is taken on a weaker condition is no less
if_more : (b c : Bool) (f : ℕ) → (b ≡ true → c ≡ true) → (if b then f else 0) ≤ (if c then f else 0)
if_more true c f implies = omega (arith, cond-true c f 0 (implies refl))
if_more false c f implies = omega arith

-- some of the processes have no more faults than all: by induction on the list
pub spent-le : (b : ℕ → Bool) (i : ℕ) (fs : List ℕ) → spent b i fs ≤ sum fs
spent-le b i [] = omega arith
spent-le b i (f ∷ fs) = omega (arith, if_le (b i) f, spent-le b (suc i) fs, sum_by-cons (λ (n : ℕ). n) f fs)

-- if all that pass one test pass another, those that pass the other have no fewer faults: by induction on the list
pub spent-more : (b c : ℕ → Bool) (i : ℕ) (fs : List ℕ) → ((q : ℕ) → b q ≡ true → c q ≡ true) →
    spent b i fs ≤ spent c i fs
spent-more b c i [] h = omega arith
spent-more b c i (f ∷ fs) h = omega (arith, if_more (b i) (c i) f (h i), spent-more b c (suc i) fs h)

-- an empty list has no faults at any place
none_at : (fs : List ℕ) (j : ℕ) → length fs ≡ 0 → get_or fs j 0 ≡ 0
none_at fs j is = get_or_past fs j 0 (omega (arith, is))

-- if the process q passes the second test only, those that pass that one have at least the faults of q more: by induction down
-- to the place j of q
pub spent-one : (b c : ℕ → Bool) (i j q : ℕ) (fs : List ℕ) → ((r : ℕ) → b r ≡ true → c r ≡ true) → i + j ≡ q →
    b q ≡ false → c q ≡ true
    → spent b i fs + get_or fs j 0 ≤ spent c i fs
spent-one b c i j q [] h is off on = omega (arith, none_at [] j refl)
spent-one b c i zero q (f ∷ fs) h same off on =
    let is : i ≡ q = omega (arith, same) in
    omega (arith, cond-false (b i) f 0 (ap b is ∙ off), cond-true (c i) f 0 (ap c is ∙ on), spent-more b c (suc i) fs h)
spent-one b c i (suc j) q (f ∷ fs) h same off on =
    omega (
      arith,
      if_more (b i) (c i) f (h i),
      spent-one b c (suc i) j q fs h (let is : suc i + j ≡ q = omega (arith, same) in is) off on,
    )

-- ---- one process with more

-- the list with j added at the place p; a place past the end changes nothing
abbrev pub add_at : List ℕ → ℕ → ℕ → List ℕ
add_at [] p j = []
add_at (f ∷ fs) zero j = (f + j) ∷ fs
add_at (f ∷ fs) (suc p) j = f ∷ add_at fs p j

-- adding faults to a process leaves the number of counts as it is
pub length-add_at : (fs : List ℕ) (p j : ℕ) → length (add_at fs p j) ≡ length fs
length-add_at [] p j = refl
length-add_at (f ∷ fs) zero j = refl
length-add_at (f ∷ fs) (suc p) j = ap suc (length-add_at fs p j)

-- all faults grow by no more than is added
pub sum-add_at : (fs : List ℕ) (p j : ℕ) → sum (add_at fs p j) ≤ sum fs + j
sum-add_at [] p j = omega arith
sum-add_at (f ∷ fs) zero j = omega (arith, sum_by-cons (λ (n : ℕ). n) (f + j) fs, sum_by-cons (λ (n : ℕ). n) f fs)
sum-add_at (f ∷ fs) (suc p) j =
    omega (arith, sum_by-cons (λ (n : ℕ). n) f (add_at fs p j), sum_by-cons (λ (n : ℕ). n) f fs, sum-add_at fs p j)

-- no process has fewer faults than before
pub add_at-grows : (fs : List ℕ) (p j q : ℕ) → get_or fs q 0 ≤ get_or (add_at fs p j) q 0
add_at-grows [] p j q = omega arith
add_at-grows (f ∷ fs) zero j zero = omega arith
add_at-grows (f ∷ fs) zero j (suc q) = omega arith
add_at-grows (f ∷ fs) (suc p) j zero = omega arith
add_at-grows (f ∷ fs) (suc p) j (suc q) = add_at-grows fs p j q

-- the process itself has at least the faults that were added
pub add_at-there : (fs : List ℕ) (p j : ℕ) → p < length fs → j ≤ get_or (add_at fs p j) p 0
add_at-there [] p j within = absurd (omega arith)
add_at-there (f ∷ fs) zero j within = omega arith
add_at-there (f ∷ fs) (suc p) j within = add_at-there fs p j (omega arith)
