-- What stands under a name in a list of files: the bytes of the first file with the name.
use Rattle.std.proofs.Common.{◌≡◌, ◌≢◌, ℕ, suc, zero, ◌+◌, ◌<◌, Bool, true, false, cond, List, [], ◌∷◌, ◌++◌, Option}
use Rattle.std.proofs.Common.{Some, None, length, get_or, arith, refl, sym, ap, ◌∙◌}
use Rattle.std.specs.Prelude.{position, slice_set, is_some, MatchBool}
use Rattle.std.specs.List.{position_from}
use Rattle.std.proofs.lemmas.List.Quantifiers.{position-Some}
use Rattle.std.proofs.lemmas.Iterator.Adapters.{position_from-zero}
use Rattle.std.proofs.lemmas.Bool.{false_from_ne_true}
use Rattle.std.proofs.lemmas.Slice.Eq.{bytes_eq-Decides}
use Rattle.cpg_io.specs.MemoryShelf.{File, stands_in, bytes_at, is_named, PutsUnder}

-- ---- a place where the first file with the name stands

-- at the place is the first file with the name; d is what `get_or` answers behind the last file, so it plays no part
pub record IsFirst (name : List ℕ) (files : List File) (place : ℕ) (d : File) : Type 0 where
  -- there is a file at the place
  pub within : place < length files
  -- it has the name
  pub named : is_named name (get_or files place d) ≡ true
  -- no file before it has the name
  pub before : (k : ℕ) → k < place → is_named name (get_or files k d) ≡ false

-- if the first file with the name isn't the first of all, it is the first with the name of the files behind
IsFirst-rest : (name : List ℕ) (file : File) (files : List File) (place : ℕ) (d : File) →
    IsFirst name (file ∷ files) (suc place) d →
    IsFirst name files place d
IsFirst-rest name file files place d h = record {
  within = omega (arith, h.within);
  named = h.named;
  before = λ k below. h.before (suc k) (omega (arith, below));
}

-- the position of the first file with the name is its first place
pub IsFirst-place : (name : List ℕ) (files : List File) (place : ℕ) (d : File) →
    position (is_named name) files ≡ Some place →
    IsFirst name files place d
IsFirst-place name files place d found =
    let first = position-Some (is_named name) files place d found in
    record { within = first.0; named = first.1; before = first.2 }

-- a file with another name is passed over
stands_in-passed : (name : List ℕ) (file : File) (files : List File) → is_named name file ≡ false →
    stands_in (file ∷ files) name ≡ stands_in files name
stands_in-passed name file files off = rw off refl

-- the first file has the name, so its bytes stand under it
stands_in-named : (name : List ℕ) (file : File) (files : List File) → is_named name file ≡ true →
    stands_in (file ∷ files) name ≡ Some file.bytes
stands_in-named name file files on = rw on refl

-- the bytes of the first file with the name stand under the name: by induction on the files, those before are passed over
pub stands_in-first : (name : List ℕ) (files : List File) (place : ℕ) (d : File) → IsFirst name files place d →
    stands_in files name ≡ Some (get_or files place d).bytes
stands_in-first name [] place d h = absurd (omega (arith, h.within))
stands_in-first name (file ∷ files) zero d h = stands_in-named name file files h.named
stands_in-first name (file ∷ files) (suc place) d h =
    stands_in-passed name file files (h.before 0 (omega arith))
    ∙ stands_in-first name files place d (IsFirst-rest name file files place d h)

-- if the first file with the name is replaced by one with the name, that one's bytes stand under it: by induction on the files
stands_in-set : (name : List ℕ) (files : List File) (place : ℕ) (d file : File) → IsFirst name files place d →
    is_named name file ≡ true →
    stands_in (slice_set files place file) name ≡ Some file.bytes
stands_in-set name [] place d file h on = absurd (omega (arith, h.within))
stands_in-set name (old ∷ files) zero d file h on = stands_in-named name file files on
stands_in-set name (old ∷ files) (suc place) d file h on =
    stands_in-passed name old (slice_set files place file) (h.before 0 (omega arith))
    ∙ stands_in-set name files place d file (IsFirst-rest name old files place d h) on

-- if a file is replaced, what stands under a name stays that neither the old nor the new file has: by induction on the files
stands_in-set_other : (other : List ℕ) (files : List File) (place : ℕ) (d file : File) →
    is_named other (get_or files place d) ≡ false →
    is_named other file ≡ false →
    stands_in (slice_set files place file) other ≡ stands_in files other
stands_in-set_other other [] place d file old new = refl
stands_in-set_other other (x ∷ files) zero d file old new =
    stands_in-passed other file files new ∙ sym (stands_in-passed other x files old)
stands_in-set_other other (x ∷ files) (suc place) d file old new =
    ap (λ rest. cond (is_named other x) (Some x.bytes) rest) (stands_in-set_other other files place d file old new)

-- ---- no place

-- if nothing is found in a list, its first element doesn't pass, and nothing is found in the rest
none_rest : (b : Bool) (i : ℕ) (rest : Option ℕ) → cond b (Some i) rest ≡ None → (b ≡ false) × (rest ≡ None)
none_rest true i rest is = absurd (cc is)
none_rest false i rest is = (refl, is)

-- a search that counts from i on and finds no place meets no file with the name: by induction on the files
none_from : (name : List ℕ) (files : List File) (i : ℕ) → position_from (is_named name) i files ≡ None →
    stands_in files name ≡ None
none_from name [] i is = refl
none_from name (file ∷ files) i is =
    let rest = none_rest (is_named name file) i _ is in
    stands_in-passed name file files rest.0 ∙ none_from name files (i + 1) rest.1

-- if no file has the name, nothing stands under it
pub stands_in-no_place : (name : List ℕ) (files : List File) → position (is_named name) files ≡ None →
    stands_in files name ≡ None
stands_in-no_place name files is = none_from name files 0 (sym (position_from-zero (is_named name) files) ∙ is)

-- a step of the next lemma: the first file doesn't have the name, so what holds of the rest holds of all
none_passed : (b : Bool) (bytes : List ℕ) (rest longer goal : Option (List ℕ)) → (rest ≡ None → longer ≡ goal) →
    cond b (Some bytes) rest ≡ None →
    cond b (Some bytes) longer ≡ goal
none_passed true bytes rest longer goal each is = absurd (cc is)
none_passed false bytes rest longer goal each is = each is

-- if nothing stands under a name, what stands there after a file is added is what that file puts there: by induction on the
-- files
stands_in-push : (name : List ℕ) (files : List File) (file : File) → stands_in files name ≡ None →
    stands_in (files ++ file ∷ []) name ≡ stands_in (file ∷ []) name
stands_in-push name [] file is = refl
stands_in-push name (x ∷ files) file is = none_passed (is_named name x) x.bytes _ _ _
    (stands_in-push name files file) is

-- a file that is added at the end leaves what stands under a name that it doesn't have: by induction on the files
stands_in-push_other : (other : List ℕ) (files : List File) (file : File) → is_named other file ≡ false →
    stands_in (files ++ file ∷ []) other ≡ stands_in files other
stands_in-push_other other [] file off = stands_in-passed other file [] off
stands_in-push_other other (x ∷ files) file off =
    ap (λ rest. cond (is_named other x) (Some x.bytes) rest) (stands_in-push_other other files file off)

-- ---- bytes put under a name

-- a file is named by its own name
is_named-own : (file : File) (name : List ℕ) → file.name ≡ name → is_named name file ≡ true
is_named-own file name same = (bytes_eq-Decides file.name name).1 same

-- a file isn't named by any other name than its own
is_named-other : (file : File) (name other : List ℕ) → file.name ≡ name → other ≢ name → is_named other file ≡ false
is_named-other file name other same differs =
    false_from_ne_true _ (λ on. differs (sym ((bytes_eq-Decides file.name other).0 on) ∙ same))

-- Setting the bytes of the first file with the name puts them under the name. The file keeps its name, so it changes nothing
-- under other names.
pub PutsUnder-set : (name : List ℕ) (files : List File) (place : ℕ) (d old : File) (bytes : List ℕ) →
    position (is_named name) files ≡ Some place →
    old ≡ get_or files place d
    → PutsUnder files (slice_set files place (record { name = old.name; bytes = bytes })) name bytes
PutsUnder-set name files place d old bytes found same =
    let first = IsFirst-place name files place d found in
    let named : (get_or files place d).name ≡ name =
    (bytes_eq-Decides (get_or files place d).name name).0 first.named in
    let kept : old.name ≡ name = ap (λ (f : File). f.name) same ∙ named in
    let file : File = record { name = old.name; bytes = bytes } in
    record {
      there = stands_in-set name files place d file first (is_named-own file name kept);
      others = λ other differs. stands_in-set_other other files place d file (is_named-other (get_or files place d) name
          other named differs) (is_named-other file name other kept differs);
    }

-- adding a file with a new name puts its bytes under the name
pub PutsUnder-push : (name : List ℕ) (files : List File) (own bytes : List ℕ) → position (is_named name) files ≡ None →
    own ≡ name
    → PutsUnder files (files ++ record { name = own; bytes = bytes } ∷ []) name bytes
PutsUnder-push name files own bytes none same =
    let file : File = record { name = own; bytes = bytes } in
    record {
      there = stands_in-push name files file (stands_in-no_place name files none)
          ∙ stands_in-named name file [] (is_named-own file name same);
      others = λ other differs. stands_in-push_other other files file (is_named-other file name other same differs);
    }

-- ---- what a fetch finds

-- the bytes at the place that was found stand under the name, or nothing does if there is none
pub stands_in-found : (name : List ℕ) (files : List File) (place : Option ℕ) → position (is_named name) files ≡ place
    → MatchBool (is_some place) (stands_in files name ≡ Some (bytes_at files place)) (stands_in files name ≡ None)
stands_in-found name files None none = stands_in-no_place name files none
stands_in-found name files (Some place) found =
    stands_in-first name files place _ (IsFirst-place name files place _ found)
