-- A document with another value at one key keeps the values at the other keys.
use Rattle.std.proofs.Common.{◌≡◌, ℕ, true, List, Option, Some, None, Ordering, Less, Equal, Greater, is_eq, refl, sym}
use Rattle.std.proofs.Common.{ap, ◌∙◌, subst}
use Rattle.std.specs.Prelude.{bytes_eq, ⊤}
use Rattle.std.specs.List.{list_any}
use Rattle.std.specs.Ordering.{nat_cmp, match_ordering}
use Rattle.std.specs.Cmp.Lexicographic.{slice_cmp}
use Rattle.std.proofs.lemmas.Bool.{and_parts}
use Rattle.std.proofs.lemmas.Cmp.{tied_itself, nat_list_cmp_total}
use Rattle.std.proofs.lemmas.Map.Text.{is_eq-slice_cmp}
use Rattle.std.proofs.lemmas.Slice.Eq.{bytes_eq-Decides}
use Rattle.toml.specs.Data.{Data, Members, no_members, member, get_member}
use Rattle.cpg_reader.specs.declared.place.Key.{Key}
use Rattle.cpg_reader.specs.Rows.{text_of, are_listed}
use Rattle.cpg_reader.specs.WrittenTree.{with_member}

-- two texts that are compared like this aren't the same
abbrev pub Differs : Ordering → Type 0
Differs Less = ⊤
Differs Equal = ⊥
Differs Greater = ⊤

-- texts that compare as equal are the same
same_text : (text other : List ℕ) → slice_cmp nat_cmp text other ≡ Equal → text ≡ other
same_text text other equal = (bytes_eq-Decides text other).0 (sym (is_eq-slice_cmp text other) ∙ ap is_eq equal)

-- a key that compares by `o` as different is passed over: `found`, not `d`, is the answer
passed : (o : Ordering) → Differs o → (found : Option Data) (d : Data) → match_ordering o found (Some d) found ≡ found
passed Less differs found d = refl
passed Equal differs found d = elim differs [ ]
passed Greater differs found d = refl

-- given a key and a value
module _ (k : List ℕ) (d : Data) where
  -- a value that is put at a key leaves those at other keys
  pub other_key : (other : List ℕ) (ms : Members) → Differs (slice_cmp nat_cmp other k) →
      get_member other (with_member k d ms) ≡ get_member other ms
  other_key other no_members differs = passed (slice_cmp nat_cmp other k) differs None d
  other_key other (member l e ms) differs = by (slice_cmp nat_cmp k l) refl (other_key other ms differs)
    where
      -- by where the new key stands to the first one of the document
      by : (o : Ordering) → slice_cmp nat_cmp k l ≡ o → get_member other (with_member k d ms) ≡ get_member other ms
          → get_member other
          (match_ordering o (member k d (member l e ms)) (member l d ms) (member l e (with_member k d ms)))
          ≡ get_member other (member l e ms)
      by Less is rest = passed (slice_cmp nat_cmp other k) differs (get_member other (member l e ms)) d
      by Equal is rest =
          let apart : Differs (slice_cmp nat_cmp other l) =
          subst (λ t. Differs (slice_cmp nat_cmp other t)) (same_text k l is) differs in
          passed (slice_cmp nat_cmp other l) apart (get_member other ms) d
          ∙ sym (passed (slice_cmp nat_cmp other l) apart (get_member other ms) e)
      by Greater is rest = ap (λ found. match_ordering (slice_cmp nat_cmp other l) found (Some e) found) rest

  -- a value that is put at a key stands there
  pub own_key : (ms : Members) → get_member k (with_member k d ms) ≡ Some d
  own_key no_members = ap (λ o. match_ordering o None (Some d) None) (tied_itself nat_list_cmp_total k)
  own_key (member l e ms) = by (slice_cmp nat_cmp k l) refl (own_key ms)
    where
      -- by where the key stands to the first one of the document
      by : (o : Ordering) → slice_cmp nat_cmp k l ≡ o → get_member k (with_member k d ms) ≡ Some d
          → get_member k
          (match_ordering o (member k d (member l e ms)) (member l d ms) (member l e (with_member k d ms))) ≡ Some d
      by Less is rest =
          ap (λ o. match_ordering o (get_member k (member l e ms)) (Some d) (get_member k (member l e ms)))
          (tied_itself nat_list_cmp_total k)
      by Equal is rest = ap (λ o. match_ordering o (get_member k ms) (Some d) (get_member k ms)) is
      by Greater is rest =
          ap (λ o. match_ordering o (get_member k (with_member k d ms)) (Some e) (get_member k (with_member k d ms))) is
          ∙ rest

  -- if the key is one of a table's, all keys are still the table's once a value is put there
  pub still_listed : (keys : List Key) → list_any (λ key. bytes_eq (text_of key) k) keys ≡ true → (ms : Members) →
      are_listed keys ms ≡ true →
      are_listed keys (with_member k d ms) ≡ true
  still_listed keys new no_members all_listed = rw new refl
  still_listed keys new (member l e ms) all_listed =
      let (here, rest) = and_parts (list_any (λ key. bytes_eq (text_of key) l) keys) (are_listed keys ms) all_listed in
      by (slice_cmp nat_cmp k l) here rest (still_listed keys new ms rest)
    where
      -- by where the key stands to the first one of the document
      by : (o : Ordering) → list_any (λ key. bytes_eq (text_of key) l) keys ≡ true → are_listed keys ms ≡ true →
          are_listed keys (with_member k d ms) ≡ true
          → are_listed keys
          (match_ordering o (member k d (member l e ms)) (member l d ms) (member l e (with_member k d ms))) ≡ true
      by Less here rest more = rw (new, here) rest
      by Equal here rest more = rw here rest
      by Greater here rest more = rw here more
