-- A step for each element, as a loop takes them one after another.
use Rattle.std.proofs.Common.{◌≡◌, ℕ, ◌+◌, ◌<◌, ◌≤◌, List, [], ◌∷◌, ◌++◌, length, drop, get_or, map, Ok, Err, refl, sym}
use Rattle.std.proofs.Common.{ap, ◌∙◌, append-nil}
use Rattle.std.proofs.Math.ListN.{drop_of_length-le}
use Rattle.std.proofs.lemmas.List.{drop_more}
use Rattle.cpg_reader.specs.declared.place.ReadFault.{ReadFault}
use Rattle.cpg_reader.specs.declared.place.ReadFault.TheVariants.{NotToml, BadField, DoubleName, UnknownName, OverLimit}
use Rattle.cpg_reader.specs.declared.place.ReadFault.TheVariants.{OutOfMemory}
use Rattle.cpg_reader.specs.Reading.{Reading, pure, ◌>>=◌, each, Refuses}

-- if each refusal of one reading is one of another, code that fails as the first fails as the second; by the fault
pub Refuses-along : {T U : Type 0} (fault : ReadFault) (a : Reading T) (b : Reading U) →
    ((f : ReadFault) → a ≡ Err f → b ≡ Err f) → Refuses fault a → Refuses fault b
Refuses-along NotToml a b h r = h NotToml r
Refuses-along (BadField place) a b h r = h (BadField place) r
Refuses-along (DoubleName place) a b h r = h (DoubleName place) r
Refuses-along (UnknownName place) a b h r = h (UnknownName place) r
Refuses-along (OverLimit what) a b h r = h (OverLimit what) r
Refuses-along OutOfMemory a b h r = tt

-- what was read of the elements so far, followed by what is read of the rest
abbrev pub after : {U : Type 0} → List U → Reading (List U) → Reading (List U)
after ys rest = rest >>= (λ zs. pure (ys ++ zs))

-- a step for each f x is the step of f x for each element x
pub each-map : {S T U : Type 0} (f : S → T) (step : ℕ → T → Reading U) (i : ℕ) (xs : List S) →
    each step i (map f xs) ≡ each (λ i x. step i (f x)) i xs
each-map f step i [] = refl
each-map f step i (x ∷ xs) = rw (each-map f step (i + 1) xs) refl

-- the elements from a place on begin with the one at the place
pub drop-here : {T : Type 0} (xs : List T) (i : ℕ) (x : T) → i < length xs → x ≡ get_or xs i x →
    drop i xs ≡ x ∷ drop (i + 1) xs
drop-here xs i x below is = drop_more xs i x below ∙ ap (λ y. y ∷ drop (i + 1) xs) (sym is)

-- given a step, where `whole` is what a loop's reading of all elements comes to, with ys for those before i
module _ {T U : Type 0} (step : ℕ → T → Reading U) where
  -- if the element at i is refused, the whole list is
  pub refused : (xs : List T) (i : ℕ) (x : T) (ys : List U) (fault : ReadFault) (whole : Reading (List U)) →
      i < length xs → x ≡ get_or xs i x →
      Refuses fault (step i x)
      → after ys (each step i (drop i xs)) ≡ whole → Refuses fault whole
  refused xs i x ys fault whole below is r so_far =
      let here = rw (drop-here xs i x below is) at so_far in
      Refuses-along fault (step i x) whole (λ f e. sym here ∙ rw e refl) r

  -- if i is past the last element, the whole list was read as ys
  pub ends : (xs : List T) (i : ℕ) (ys : List U) (whole : Reading (List U)) → length xs ≤ i →
      after ys (each step i (drop i xs)) ≡ whole → whole ≡ Ok ys
  ends xs i ys whole at_most so_far =
      let read = rw (drop_of_length-le xs at_most) at so_far in
      sym read ∙ ap (λ l. Ok l) (append-nil ys)
