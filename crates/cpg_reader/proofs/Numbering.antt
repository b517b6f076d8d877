-- What is known if the tests of names pass: names differ, and the number of a name is its place. Also, which names are
-- among the different ones.
use Rattle.std.proofs.Common.{◌≡◌, ◌≢◌, ◌⊎◌, inl, inr, ⊎_elim, ℕ, ◌+◌, ◌<◌, Bool, true, false, List, [], ◌∷◌, ◌++◌}
use Rattle.std.proofs.Common.{length, get_or, Option, Some, None, Ok, Err, AllPairs, Contains, refl, sym, ◌∙◌}
use Rattle.std.proofs.Common.{subst, cond, arith, append_assoc, append-nil, true≢false}
use Rattle.std.specs.Prelude.{bytes_eq, position}
use Rattle.std.specs.List.{list_any}
use Rattle.std.proofs.lemmas.Slice.Eq.{bytes_eq-Decides}
use Rattle.std.proofs.lemmas.List.Elements.{Contains-get_or, Contains-append_left, Contains-push}
use Rattle.std.proofs.lemmas.List.Quantifiers.{all_pairs_push, position-Some}
use Rattle.cpg_base.proofs.Lists.{Contains-cases, Contains-nil, from_any_false, list_any_parts}
use Rattle.cpg_reader.specs.declared.place.Table.{Table}
use Rattle.cpg_reader.specs.declared.place.Key.{Key}
use Rattle.cpg_reader.specs.declared.place.Place.{Place}
use Rattle.cpg_reader.specs.declared.place.ReadFault.{ReadFault}
use Rattle.cpg_reader.specs.Reading.{Reading}
use Rattle.cpg_reader.specs.Ranges.{different}
use Rattle.cpg_reader.specs.Names.{apart_from, apart, known, number_of}

-- if a name isn't refused as unknown, its number was found
known-parts : (place : Place) (found : Option ℕ) (n : ℕ) → known place found ≡ Ok n → found ≡ Some n
known-parts place (Some m) n is = cc
known-parts place None n is = cc

-- if a name has a number, it stands among the names at that place
pub number-is : (names : List (List ℕ)) (place : Place) (name : List ℕ) (n : ℕ) → number_of names place name ≡ Ok n →
    (d : List ℕ) →
    (n < length names) × (get_or names n d ≡ name)
unfolding number_of
number-is names place name n is d =
    let found = position-Some (bytes_eq name) names n d (known-parts place (position (bytes_eq name) names) n is) in
    (found.0, sym ((bytes_eq-Decides name (get_or names n d)).0 found.1))

-- names that the test tells apart are different
differ : (x y : List ℕ) → bytes_eq y x ≡ false → x ≢ y
differ x y is_false is = true≢false (sym ((bytes_eq-Decides y x).1 (sym is)) ∙ is_false)

-- if a step after a test succeeds, where the test refuses, the test didn't hold, and the step succeeds
goes_by : {T : Type 0} (b : Bool) (next : Reading T) (fault : ReadFault) (x : T) → cond b (Err fault) next ≡ Ok x →
    (b ≡ false) × (next ≡ Ok x)
goes_by true next fault x is = cc
goes_by false next fault x is = (refl, is)

-- If the test for double names passes, the names differ from each other and from the earlier ones, given that these do.
-- By induction on the names: the first isn't among the earlier ones, and becomes one of them.
apart_from-pairs : (table : Table) (key : Key) (i : ℕ) (earlier names : List (List ℕ)) (x : Unit {0}) →
    AllPairs (λ a b. a ≢ b) earlier →
    apart_from table key i earlier names ≡ Ok x
    → AllPairs (λ a b. a ≢ b) (earlier ++ names)
apart_from-pairs table key i earlier [] x pairs is = subst (AllPairs (λ a b. a ≢ b)) (sym (append-nil earlier)) pairs
apart_from-pairs table key i earlier (name ∷ names) x pairs is =
    let (new, rest) =
    goes_by (list_any (bytes_eq name) earlier) (apart_from table key (i + 1) (earlier ++ name ∷ []) names) _ x is in
    let more = all_pairs_push (λ a b. a ≢ b) earlier name pairs
    (λ k d l. differ (get_or earlier k d) name
    (from_any_false (bytes_eq name) earlier (get_or earlier k d) new (Contains-get_or earlier k d l))) in
    subst (AllPairs (λ a b. a ≢ b)) (append_assoc earlier (name ∷ []) names)
    (apart_from-pairs table key (i + 1) (earlier ++ name ∷ []) names x more rest)

-- names that pass the test for double names differ
pub apart-pairs : (table : Table) (key : Key) (names : List (List ℕ)) (x : Unit {0}) → apart table key names ≡ Ok x →
    AllPairs (λ a b. a ≢ b) names
unfolding apart
apart-pairs table key names x is = apart_from-pairs table key 0 [] names x (λ i j d lt l. absurd (omega arith)) is

-- a name is among those that were seen once it is seen
noted_if : (seen : List (List ℕ)) (name : List ℕ) (b : Bool) → list_any (bytes_eq name) seen ≡ b →
    Contains (cond b seen (seen ++ name ∷ [])) name
noted_if seen name true is =
    let (other, there, same) = list_any_parts (bytes_eq name) seen is in
    subst (Contains seen) (sym ((bytes_eq-Decides name other).0 same)) there
noted_if seen name false is = Contains-push seen name

-- a name that was seen stays so if a further name is put behind, or left out
kept_if : (seen : List (List ℕ)) (name other : List ℕ) (b : Bool) → Contains seen other →
    Contains (cond b seen (seen ++ name ∷ [])) other
kept_if seen name other true among = among
kept_if seen name other false among = Contains-append_left seen (name ∷ []) other among

-- each name, and each that was seen before, is among the different ones; by induction on the names
pub different-Contains : (seen names : List (List ℕ)) (x : List ℕ) → Contains seen x ⊎ Contains names x →
    Contains (different seen names) x
different-Contains seen [] x either =
    ⊎_elim (λ (c : Contains seen x). c) (λ (c : Contains [] x). absurd (Contains-nil x c)) either
different-Contains seen (name ∷ names) x either =
    let next = cond (list_any (bytes_eq name) seen) seen (seen ++ name ∷ []) in
    different-Contains next names x (⊎_elim
    (λ (c : Contains seen x). inl (kept_if seen name x (list_any (bytes_eq name) seen) c))
    (λ (c : Contains (name ∷ names) x). ⊎_elim
    (λ (e : name ≡ x). inl (subst (Contains next) e (noted_if seen name (list_any (bytes_eq name) seen) refl)))
    (λ (d : Contains names x). inr d)
    (Contains-cases name names x c))
    either)
