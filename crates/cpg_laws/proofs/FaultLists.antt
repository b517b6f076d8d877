-- Lists of faults: facts that hold for each of them, and which of them are there.
use Rattle.std.proofs.Common.{◌≡◌, ℕ, zero, suc, ◌+◌, Bool, true, false, cond, ◌||◌, List, [], ◌∷◌, ◌++◌, Some, is_some}
use Rattle.std.proofs.Common.{Contains, map, position, slice_get, refl, sym, ap, ◌∙◌, subst, ⊎_elim, arith}
use Rattle.std.proofs.Common.{add-zero, zero-add}
use Rattle.std.specs.List.{list_any, position_from}
use Rattle.std.proofs.lemmas.Bool.{false≢true}
use Rattle.std.proofs.lemmas.List.Elements.{Contains-append_left, Contains-append_right}
use Rattle.std.proofs.lemmas.Iterator.Adapters.{position_from-zero}
use Rattle.cpg_base.proofs.Lists.{Contains-first, Contains-cases, Contains-nil}
use Rattle.cpg_reader.specs.declared.place.ReadFault.{ReadFault}
use Rattle.cpg_laws.specs.GraphFiles.{unless, of_each}

-- a fact that holds for each fault of a list
abbrev pub Each : (ReadFault → Type 0) → List ReadFault → Type 0
Each P [] = Unit {0}
Each P (fault ∷ faults) = P fault × Each P faults

-- what holds of each element with its index
abbrev pub Stand : {T : Type 0} → (ℕ → T → Type 0) → ℕ → List T → Type 0
Stand Q i [] = Unit {0}
Stand Q i (x ∷ xs) = Q i x × Stand Q (i + 1) xs

-- given a fact on faults
module _ (P : ReadFault → Type 0) where
  -- what holds for each fault of a list holds for one that is in it
  pub each_contained : (faults : List ReadFault) → Each P faults → (fault : ReadFault) → Contains faults fault → P fault
  each_contained [] all_hold fault within = absurd (Contains-nil fault within)
  each_contained (f ∷ faults) all_hold fault within =
      ⊎_elim (λ same. subst P same all_hold.0)
      (λ rest. each_contained faults all_hold.1 fault rest) (Contains-cases f faults fault within)

  -- what holds for each fault of two lists holds for each of both together
  pub each_joined : (faults others : List ReadFault) → Each P faults → Each P others → Each P (faults ++ others)
  each_joined [] others these_hold others_hold = others_hold
  each_joined (f ∷ faults) others these_hold others_hold =
      (these_hold.0, each_joined faults others these_hold.1 others_hold)

  -- what holds for a fault if a test fails holds for each of the faults that the test leaves
  pub each_unless : (b : Bool) (fault : ReadFault) → (b ≡ false → P fault) → Each P (unless b fault)
  each_unless true fault holds = tt
  each_unless false fault holds = (holds refl, tt)

  -- if one fact implies another for each fault, so it does for a list
  pub each_weaker : (Q : ReadFault → Type 0) → ((fault : ReadFault) → P fault → Q fault) → (faults : List ReadFault) →
      Each P faults → Each Q faults
  each_weaker Q weaker [] all_hold = tt
  each_weaker Q weaker (f ∷ faults) all_hold = (weaker f all_hold.0, each_weaker Q weaker faults all_hold.1)

  -- if `P` holds of the faults of each element of which `Q` holds, and `Q` holds of all of `xs`, numbered from `i`,
  -- then `P` holds of all their faults
  pub each_of_each : {T : Type 0} (Q : ℕ → T → Type 0) (faults : ℕ → T → List ReadFault) →
      ((i : ℕ) (x : T) → Q i x → Each P (faults i x)) → (i : ℕ) (xs : List T) → Stand Q i xs →
      Each P (of_each faults i xs)
  each_of_each Q faults each i [] stand = tt
  each_of_each Q faults each i (x ∷ xs) stand =
      each_joined (faults i x) (of_each faults (i + 1) xs) (each i x stand.0)
      (each_of_each Q faults each (i + 1) xs stand.1)

-- if the test fails, the fault is there
pub unless_contains : (b : Bool) (fault : ReadFault) → b ≡ false → Contains (unless b fault) fault
unless_contains true fault fails = absurd (false≢true (sym fails))
unless_contains false fault fails = Contains-first fault []

-- place `k + 1` from `i` on is place `k` from `i + 1` on
onward : (i k : ℕ) → i + suc k ≡ (i + 1) + k
onward i k = omega arith

module _ {T : Type 0} where
  -- if `Q` holds of each element `x` of `xs` at its number, `i + k` for place `k`, it stands for the whole list,
  -- numbered from `i`
  stand_from : (Q : ℕ → T → Type 0) (i : ℕ) (xs : List T) → ((k : ℕ) (x : T) → slice_get xs k ≡ Some x → Q (i + k) x) →
      Stand Q i xs
  stand_from Q i [] holds = tt
  stand_from Q i (x ∷ xs) holds = (
    subst (λ n. Q n x) (add-zero i) (holds 0 x refl),
    stand_from Q (i + 1) xs (λ k y here. subst (λ n. Q n y) (onward i k) (holds (suc k) y here)),
  )

  -- if `Q` holds of each element `x` of `xs` at its place `k`, it stands for the whole list, numbered from 0
  pub stand_all : (Q : ℕ → T → Type 0) (xs : List T) → ((k : ℕ) (x : T) → slice_get xs k ≡ Some x → Q k x) →
      Stand Q 0 xs
  stand_all Q xs holds = stand_from Q 0 xs (λ k x here. subst (λ n. Q n x) (sym (zero-add k)) (holds k x here))

  -- A fault of the element `x` at place `k` of `xs`, which are numbered from `i`, is among those of all elements. By
  -- induction on the place: the faults of the first come first.
  contains_from : (faults : ℕ → T → List ReadFault) (fault : ReadFault) (i k : ℕ) (xs : List T) (x : T) →
      slice_get xs k ≡ Some x →
      Contains (faults (i + k) x) fault →
      Contains (of_each faults i xs) fault
  contains_from faults fault i k [] x here within = cc
  contains_from faults fault i zero (y ∷ ys) x here within =
      Contains-append_left (faults i y) (of_each faults (i + 1) ys) fault
      (subst (λ z. Contains (faults i z) fault) (let same : x ≡ y = cc in
      same) (subst (λ n. Contains (faults n x) fault) (add-zero i) within))
  contains_from faults fault i (suc k) (y ∷ ys) x here within =
      Contains-append_right (faults i y) (of_each faults (i + 1) ys) fault
      (contains_from faults fault (i + 1) k ys x here (subst (λ n. Contains (faults n x) fault) (onward i k) within))

  -- a fault of the element `x` at place `k` of `xs` is among those of the whole list, numbered from 0
  pub of_each_contains : (faults : ℕ → T → List ReadFault) (fault : ReadFault) (k : ℕ) (xs : List T) (x : T) →
      slice_get xs k ≡ Some x →
      Contains (faults k x) fault →
      Contains (of_each faults 0 xs) fault
  of_each_contains faults fault k xs x here within =
      contains_from faults fault 0 k xs x here (subst (λ n. Contains (faults n x) fault) (sym (zero-add k)) within)

-- the faults of the elements that `f` makes of `xs` are those that each `f x` has, numbered from `i`
pub of_each_mapped : {S T : Type 0} (faults : ℕ → T → List ReadFault) (f : S → T) (i : ℕ) (xs : List S) →
    of_each faults i (map f xs) ≡ of_each (λ i x. faults i (f x)) i xs
of_each_mapped faults f i [] = refl
of_each_mapped faults f i (x ∷ xs) = ap (λ rest. faults i (f x) ++ rest) (of_each_mapped faults f (i + 1) xs)

-- ---- a position is found where some element passes

-- A place, numbered from `i`, passes a test exactly if some element of `xs` does. By induction on the list.
some_from : {T : Type 0} (test : T → Bool) (i : ℕ) (xs : List T) → is_some (position_from test i xs) ≡ list_any test xs
some_from test i [] = refl
some_from test i (x ∷ xs) = by (test x) (some_from test (i + 1) xs)
  where
    -- by whether the first element passes
    by : (b : Bool) → is_some (position_from test (i + 1) xs) ≡ list_any test xs →
        is_some (cond b (Some i) (position_from test (i + 1) xs)) ≡ (b || list_any test xs)
    by true same = refl
    by false same = same

-- an element that passes has a place exactly if some element passes
pub some_position : {T : Type 0} (test : T → Bool) (xs : List T) → is_some (position test xs) ≡ list_any test xs
some_position test xs = ap is_some (position_from-zero test xs) ∙ some_from test 0 xs
