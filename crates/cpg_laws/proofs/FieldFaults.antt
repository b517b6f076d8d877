-- The bad fields of a document are those that its tables have.
use Rattle.std.proofs.Common.{◌≡◌, ℕ, zero, suc, Bool, true, false, ◌&&◌, List, [], ◌∷◌, Some, Contains, map, slice_get}
use Rattle.std.proofs.Common.{refl, sym, ap, ◌∙◌, subst, inl, inr, Ordering, Less, Equal, Greater, is_eq}
use Rattle.std.proofs.Common.{nat_cmp, true≢false}
use Rattle.std.specs.Prelude.{bytes_eq}
use Rattle.std.specs.List.{list_any}
use Rattle.std.specs.Ordering.{match_ordering}
use Rattle.std.specs.Cmp.{tied_itself}
use Rattle.std.specs.Cmp.Lexicographic.{slice_cmp}
use Rattle.std.proofs.lemmas.Cmp.{nat_list_cmp_total}
use Rattle.std.proofs.lemmas.Bool.{and_parts, false_from_ne_true}
use Rattle.std.proofs.lemmas.List.Elements.{Contains-append_left, Contains-append_right}
use Rattle.std.proofs.lemmas.Map.Text.{is_eq-slice_cmp}
use Rattle.std.proofs.lemmas.Slice.Eq.{bytes_eq-Decides}
use Rattle.toml.specs.Data.{Data, Members, no_members, member, get_member}
use Rattle.cpg_base.proofs.Lists.{Contains-first, Contains-rest, Contains-cases, Contains-nil, Contains-map}
use Rattle.cpg_base.proofs.Lists.{Contains-map_parts, list_any_true, list_any_parts}
use Rattle.cpg_reader.specs.declared.place.Table.{Table}
use Rattle.cpg_reader.specs.declared.place.Table.TheVariants as tables
use Rattle.cpg_reader.specs.declared.place.Key.{Key}
use Rattle.cpg_reader.specs.declared.place.Key.TheVariants.{Node, Slot, Process, Edge, Unknown}
use Rattle.cpg_reader.specs.declared.place.Place.{Place}
use Rattle.cpg_reader.specs.declared.place.ReadFault.{ReadFault}
use Rattle.cpg_reader.specs.declared.place.ReadFault.TheVariants.{BadField}
use Rattle.cpg_reader.specs.Rows.{DocumentRow, place_in, value_at, text_of, are_listed}
use Rattle.cpg_laws.specs.GraphFiles.{unless, Field, is_good_value, top_fields, node_fields, slot_fields}
use Rattle.cpg_laws.specs.GraphFiles.{process_fields, edge_fields, bad_fields, bad_in, top_of, elements, bad_elements}
use Rattle.cpg_laws.specs.GraphFiles.{field_faults}
use Rattle.cpg_laws.specs.DocumentFaults.{table_at, fields_of, HasOtherKey, IsBadField, HasGoodFields}
use Rattle.cpg_laws.proofs.FaultLists.{Each, each_joined, each_unless, each_of_each, unless_contains, stand_all}
use Rattle.cpg_laws.proofs.FaultLists.{of_each_contains}

-- ---- keys

-- the keys of fields
abbrev keys_of : List Field → List Key
keys_of fields = map (λ f. f.key) fields

-- whether a text is one of the keys
abbrev is_key : List Field → List ℕ → Bool
is_key fields text = list_any (λ key. bytes_eq (text_of key) text) (keys_of fields)

-- the text of a field's key is one of the keys
key_is : (fields : List Field) (text : List ℕ) (f : Field) → Contains fields f → text_of f.key ≡ text →
    is_key fields text ≡ true
key_is fields text f within same = list_any_true (λ key. bytes_eq (text_of key) text) (keys_of fields) f.key
    (Contains-map (λ f. f.key) fields f within) ((bytes_eq-Decides (text_of f.key) text).1 same)

-- a text that is one of the keys is the text of a field's key
is_some_key : (fields : List Field) (text : List ℕ) → is_key fields text ≡ true →
    (f : Field) × Contains fields f × (text_of f.key ≡ text)
is_some_key fields text passes =
    let (key, key_within, same) = list_any_parts (λ key. bytes_eq (text_of key) text) (keys_of fields) passes in
    let (f, field_within, is) = Contains-map_parts (λ f. f.key) fields key key_within in
    (f, field_within, ap text_of is ∙ (bytes_eq-Decides (text_of key) text).0 same)

-- what stands at a key of a table that has the member of this key in front, besides `ms`, is its value `d`
at_own_key : (text : List ℕ) (d : Data) (ms : Members) → get_member text (member text d ms) ≡ Some d
at_own_key text d ms =
    ap (λ o. match_ordering o (get_member text ms) (Some d) (get_member text ms)) (tied_itself nat_list_cmp_total text)

-- if `d` stands at key `text`, something (`z`) stands there still when another member is put in front
still_there : (text : List ℕ) (d : Data) (other : List ℕ) (front : Data) (ms : Members) → get_member text ms ≡ Some d →
    (z : Data) × (get_member text (member other front ms) ≡ Some z)
still_there text d other front ms is = by (slice_cmp nat_cmp text other)
  where
    -- by how the key compares with that of the member in front
    by : (o : Ordering) → (z : Data)
        × (match_ordering o (get_member text ms) (Some front) (get_member text ms) ≡ Some z)
    by Less = (d, is)
    by Equal = (front, refl)
    by Greater = (d, is)

-- A table whose keys aren't all listed has another key.
-- By induction on the table: the first key isn't a field's, or a later one isn't.
unlisted : (fields : List Field) (members : Members) → are_listed (keys_of fields) members ≡ false →
    HasOtherKey members fields
unlisted fields no_members not_listed = absurd (true≢false not_listed)
unlisted fields (member text d ms) not_listed = by (is_key fields text) refl not_listed (unlisted fields ms)
  where
    -- by whether the first key is that of a field
    by : (b : Bool) → is_key fields text ≡ b → (b && are_listed (keys_of fields) ms) ≡ false →
        (are_listed (keys_of fields) ms ≡ false → HasOtherKey ms fields) →
        HasOtherKey (member text d ms) fields
    by true is rest more =
        let (other, z, there, apart) = more rest in
        let (y, still) = still_there other z text d ms there in
        (other, y, still, apart)
    by false is rest more =
        (text, d, at_own_key text d ms, λ f within same. true≢false (sym (key_is fields text f within same) ∙ is))

-- texts that compare as equal are equal
same_text : (text other : List ℕ) → slice_cmp nat_cmp text other ≡ Equal → text ≡ other
same_text text other equal = (bytes_eq-Decides text other).0 (sym (is_eq-slice_cmp text other) ∙ ap is_eq equal)

-- If all keys of a table are listed, each of its keys is a field's.
-- By induction on the table: the text is the first key, or a later one.
listed : (fields : List Field) (text : List ℕ) (d : Data) (members : Members) →
    are_listed (keys_of fields) members ≡ true → get_member text members ≡ Some d →
    is_key fields text ≡ true
listed fields text d no_members all_listed is = cc
listed fields text d (member other z ms) all_listed is =
    let (here, rest) = and_parts (is_key fields other) (are_listed (keys_of fields) ms) all_listed in
    by (slice_cmp nat_cmp text other) refl here is (listed fields text d ms rest)
  where
    -- by how the key compares with the first one of the table
    by : (o : Ordering) → slice_cmp nat_cmp text other ≡ o → is_key fields other ≡ true →
        match_ordering o (get_member text ms) (Some z) (get_member text ms) ≡ Some d →
        (get_member text ms ≡ Some d → is_key fields text ≡ true) → is_key fields text ≡ true
    by Less compared here is more = more is
    by Equal compared here is more = subst (λ t. is_key fields t ≡ true) (sym (same_text text other compared)) here
    by Greater compared here is more = more is

-- a table with another key has keys that aren't all listed
other_key : (fields : List Field) (members : Members) → HasOtherKey members fields →
    are_listed (keys_of fields) members ≡ false
other_key fields members (text, d, is, apart) = false_from_ne_true (are_listed (keys_of fields) members)
    (λ all_listed. let (f, within, same) = is_some_key fields text (listed fields text d members all_listed is) in
    apart f within same)

-- ---- one table

-- the fault is that of a bad field of the document
abbrev pub IsBad : Members → ReadFault → Type 0
IsBad ms fault = (place : Place) × (fault ≡ BadField place) × IsBadField ms place

-- given a row of the document, with its place
module _ (ms : Members) (row : DocumentRow) (at : table_at ms row.table row.index ≡ Some row.members) where
  -- Each bad field found by a list of fields is one of the document.
  -- By induction on the fields: the first is bad, or a later one, or last the row has another key.
  bad_keys : (fields : List Field) → ((f : Field) → Contains fields f → Contains (fields_of row.table) f) →
      Each (IsBad ms) (bad_fields row (keys_of (fields_of row.table)) fields)
  bad_keys [] those =
      each_unless (IsBad ms) (are_listed (keys_of (fields_of row.table)) row.members) (BadField (place_in row Unknown))
      (λ not_listed. (
        place_in row Unknown,
        refl,
        (row.members, at, inr (refl, unlisted (fields_of row.table) row.members not_listed)),
      ))
  bad_keys (f ∷ fields) those =
      each_joined (IsBad ms) (unless (is_good_value f (value_at row f.key)) (BadField (place_in row f.key)))
      (bad_fields row (keys_of (fields_of row.table)) fields)
      (each_unless (IsBad ms) (is_good_value f (value_at row f.key)) (BadField (place_in row f.key))
      (λ not_good. (
        place_in row f.key,
        refl,
        (row.members, at, inl (f, those f (Contains-first f fields), refl, not_good)),
      )))
      (bad_keys fields (λ g within. those g (Contains-rest f fields g within)))

  -- each bad field found in a row is one of the document
  row_is_bad : Each (IsBad ms) (bad_in (fields_of row.table) row)
  row_is_bad = bad_keys (fields_of row.table) (λ f within. within)

-- given a row, and the keys that are listed for it
module _ (row : DocumentRow) (keys : List Key) where
  -- a bad value at a key of the fields is found
  value_there : (fields : List Field) (f : Field) → Contains fields f → is_good_value f (value_at row f.key) ≡ false →
      Contains (bad_fields row keys fields) (BadField (place_in row f.key))
  value_there [] f within not_good = absurd (Contains-nil f within)
  value_there (g ∷ fields) f within not_good = elim (Contains-cases g fields f within) [
    | inl same ↦ Contains-append_left (unless (is_good_value g (value_at row g.key)) (BadField (place_in row g.key)))
        (bad_fields row keys fields) (BadField (place_in row f.key))
        (subst (λ z. Contains (unless (is_good_value z (value_at row z.key)) (BadField (place_in row z.key)))
        (BadField (place_in row f.key))) (sym same)
        (unless_contains (is_good_value f (value_at row f.key)) (BadField (place_in row f.key)) not_good))
    | inr rest ↦ Contains-append_right (unless (is_good_value g (value_at row g.key)) (BadField (place_in row g.key)))
        (bad_fields row keys fields) (BadField (place_in row f.key))
        (value_there fields f rest not_good)
  ]

  -- if a key isn't listed, the row has the fault of an unknown key
  key_there : (fields : List Field) → are_listed keys row.members ≡ false →
      Contains (bad_fields row keys fields) (BadField (place_in row Unknown))
  key_there [] not_listed = unless_contains (are_listed keys row.members) (BadField (place_in row Unknown)) not_listed
  key_there (g ∷ fields) not_listed =
      Contains-append_right (unless (is_good_value g (value_at row g.key)) (BadField (place_in row g.key)))
      (bad_fields row keys fields) (BadField (place_in row Unknown))
      (key_there fields not_listed)

-- ---- the document

-- an element of a table as a row of the document
abbrev row_of : Table → ℕ → Members → DocumentRow
row_of table i ms = record { table = table; index = i; members = ms }

-- each bad field found in the elements that a document `ms` has in a table is one of the document
elements_are_bad : (ms : Members) (table : Table) (members : List Members) →
    ((i : ℕ) → table_at ms table i ≡ slice_get members i) →
    Each (IsBad ms) (bad_elements table (fields_of table) members)
elements_are_bad ms table members are =
    each_of_each (IsBad ms) (λ i x. slice_get members i ≡ Some x) (λ i x. bad_in (fields_of table) (row_of table i x))
    (λ i x here. row_is_bad ms (row_of table i x) (are i ∙ here)) 0 members
    (stand_all (λ i x. slice_get members i ≡ Some x) members (λ k x here. here))

-- each fault in the list of field faults is a bad field of the document
pub fields_are_bad : (ms : Members) → Each (IsBad ms) (field_faults ms)
fields_are_bad ms =
    each_joined (IsBad ms) _ _ (row_is_bad ms (top_of ms) refl)
    (each_joined (IsBad ms) _ _ (elements_are_bad ms tables.Node (elements ms Node) (λ i. refl))
    (each_joined (IsBad ms) _ _ (elements_are_bad ms tables.Slot (elements ms Slot) (λ i. refl))
    (each_joined (IsBad ms) _ _ (elements_are_bad ms tables.Process (elements ms Process) (λ i. refl))
    (elements_are_bad ms tables.Edge (elements ms Edge) (λ i. refl)))))

-- what stands in the faults of a table stands in those of the document
module _ (ms : Members) (fault : ReadFault) where
  -- the bad fields of the elements at a key
  abbrev part : Table → Key → List Field → List ReadFault
  part table key fields = bad_elements table fields (elements ms key)

  -- a fault of a row's fields is among the field faults of the document; by cases on the table, each with its part of
  -- the list
  row_there : (table : Table) (i : ℕ) (row : Members) → table_at ms table i ≡ Some row →
      Contains (bad_in (fields_of table) (row_of table i row)) fault →
      Contains (field_faults ms) fault
  row_there tables.Top zero row at within = Contains-append_left (bad_in top_fields (top_of ms)) _ fault
      (subst (λ z. Contains (bad_in top_fields (top_of z)) fault) (let same : row ≡ ms = cc in same) within)
  row_there tables.Top (suc i) row at within = cc
  row_there tables.Node i row at within = Contains-append_right (bad_in top_fields (top_of ms)) _ fault
      (Contains-append_left (part tables.Node Node node_fields) _ fault
      (of_each_contains (λ i x. bad_in node_fields (row_of tables.Node i x)) fault i (elements ms Node) row at within))
  row_there tables.Slot i row at within = Contains-append_right (bad_in top_fields (top_of ms)) _ fault
      (Contains-append_right (part tables.Node Node node_fields) _ fault
      (Contains-append_left (part tables.Slot Slot slot_fields) _ fault
      (of_each_contains (λ i x. bad_in slot_fields (row_of tables.Slot i x)) fault i (elements ms Slot) row at within)))
  row_there tables.Process i row at within = Contains-append_right (bad_in top_fields (top_of ms)) _ fault
      (Contains-append_right (part tables.Node Node node_fields) _ fault
      (Contains-append_right (part tables.Slot Slot slot_fields) _ fault
      (Contains-append_left (part tables.Process Process process_fields) _ fault
      (of_each_contains (λ i x. bad_in process_fields (row_of tables.Process i x)) fault i
      (elements ms Process) row at within))))
  row_there tables.Edge i row at within = Contains-append_right (bad_in top_fields (top_of ms)) _ fault
      (Contains-append_right (part tables.Node Node node_fields) _ fault
      (Contains-append_right (part tables.Slot Slot slot_fields) _ fault
      (Contains-append_right (part tables.Process Process process_fields) _ fault
      (of_each_contains (λ i x. bad_in edge_fields (row_of tables.Edge i x)) fault i
      (elements ms Edge) row at within))))

-- Each bad field of the document is in the list of field faults.
-- The bad value stands among the faults of its row, or the unknown key does, and the row's faults are in the list.
pub bad_field_there : (ms : Members) (place : Place) → IsBadField ms place → Contains (field_faults ms) (BadField place)
bad_field_there ms place (members, at, inl (f, within, same, not_good)) =
    row_there ms (BadField place) place.table place.index members at
    (subst (λ key. Contains (bad_in (fields_of place.table) (row_of place.table place.index members))
    (BadField (record { table = place.table; index = place.index; key = key }))) same
    (value_there (row_of place.table place.index members) (keys_of (fields_of place.table))
    (fields_of place.table) f within
    (ap (λ key. is_good_value f (get_member (text_of key) members)) same ∙ not_good)))
bad_field_there ms place (members, at, inr (unknown, other)) =
    row_there ms (BadField place) place.table place.index members at
    (subst (λ key. Contains (bad_in (fields_of place.table) (row_of place.table place.index members))
    (BadField (record { table = place.table; index = place.index; key = key }))) (sym unknown)
    (key_there (row_of place.table place.index members) (keys_of (fields_of place.table)) (fields_of place.table)
    (other_key (fields_of place.table) members other)))

-- ---- a document has no fault of a field if its fields are good

-- a document with good fields has no field faults
pub good_fields : (ms : Members) → HasGoodFields ms → field_faults ms ≡ []
good_fields ms good = by (field_faults ms) (fields_are_bad ms)
  where
    -- by whether there is a fault
    by : (faults : List ReadFault) → Each (IsBad ms) faults → faults ≡ []
    by [] bad = refl
    by (f ∷ faults) bad = absurd (good bad.0.0 bad.0.2)

-- a document without field faults has good fields
pub fields_are_good : (ms : Members) → field_faults ms ≡ [] → HasGoodFields ms
fields_are_good ms none place bad = Contains-nil (BadField place)
    (subst (λ faults. Contains faults (BadField place)) none (bad_field_there ms place bad))
