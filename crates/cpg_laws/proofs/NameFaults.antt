-- The faults of a graph's names, which stand twice or name nothing, are those of its document.
use Rattle.std.proofs.Common.{◌≡◌, ◌≢◌, ℕ, zero, suc, ◌+◌, ◌<◌, ◌⊎◌, Bool, true, false, not, ◌&&◌, ◌||◌, List, [], ◌∷◌}
use Rattle.std.proofs.Common.{◌++◌, Option, Some, None, is_some, unwrap_or, option_and_then, option_map}
use Rattle.std.proofs.Common.{Contains, length, map, position, append_assoc, cond, slice_get, refl, sym, ap, ◌∙◌, subst}
use Rattle.std.proofs.Common.{inl, inr, true≢false, arith, add-zero, zero-add}
use Rattle.std.specs.Prelude.{bytes_eq}
use Rattle.std.specs.List.{list_any, list_all}
use Rattle.std.proofs.Math.Bool.{or-false}
use Rattle.std.proofs.lemmas.Bool.{false_from_ne_true, not-false, or_cases, or_left, or_right}
use Rattle.std.proofs.lemmas.Option.{slice_get-map}
use Rattle.std.proofs.lemmas.List.Folds.{list_any-append}
use Rattle.std.proofs.lemmas.List.Elements.{Contains-append_left, Contains-append_right}
use Rattle.std.proofs.lemmas.Slice.Eq.{bytes_eq-Decides}
use Rattle.toml.specs.Data.{Data, string, integer, float, boolean, datetime, array, table, Members, get_member}
use Rattle.cpg_base.proofs.Lists.{Contains-first, Contains-rest, Contains-cases, Contains-nil, Contains-slice_get}
use Rattle.cpg_base.proofs.Lists.{slice_get-Contains, list_any_true, list_any_parts}
use Rattle.cpg_reader.specs.declared.place.Table.{Table}
use Rattle.cpg_reader.specs.declared.place.Table.TheVariants as tables
use Rattle.cpg_reader.specs.declared.place.Key.{Key}
use Rattle.cpg_reader.specs.declared.place.Key.TheVariants.{Node, Slot, Process, Edge, Name, From, To}
use Rattle.cpg_reader.specs.declared.place.Place.{Place}
use Rattle.cpg_reader.specs.declared.place.ReadFault.{ReadFault}
use Rattle.cpg_reader.specs.declared.place.ReadFault.TheVariants.{DoubleName, UnknownName}
use Rattle.cpg_reader.specs.Rows.{text_of, as_name, is_name}
use Rattle.cpg_reader.specs.Names.{place, slot_names, process_names}
use Rattle.cpg_laws.specs.GraphFiles.{unless, of_each, is_good_value, needed_name, elements, doubles_from, differ_from}
use Rattle.cpg_laws.specs.GraphFiles.{order_place, order_doubles, double_faults, is_known, order_unknowns, unknown}
use Rattle.cpg_laws.specs.GraphFiles.{unknown_ends, unknown_faults}
use Rattle.cpg_laws.specs.DocumentFaults.{table_at, found_at, fields_of, HasGoodFields, is_own_name, order_names}
use Rattle.cpg_laws.specs.DocumentFaults.{HasTwice, IsDouble, named_in, IsUnknown}
use Rattle.cpg_laws.proofs.DocumentValues.{name_in, slot_in, process_in, edge_in, graph_in}
use Rattle.cpg_laws.proofs.FaultLists.{Each, Stand, each_joined, each_unless, each_of_each, unless_contains, stand_all}
use Rattle.cpg_laws.proofs.FaultLists.{of_each_contains, of_each_mapped, some_position}
use Rattle.cpg_laws.proofs.LimitFaults.{good_value, found_in, found_parts}

-- ---- names that are good

-- if a name is read of text `s` at all, as `b` says, it is the text itself
name_by : (s : List ℕ) (b : Bool) → is_some (cond b (Some s) None) ≡ true → unwrap_or (cond b (Some s) None) [] ≡ s
name_by s true is_read = refl
name_by s false is_read = absurd (true≢false (sym is_read))

-- A good name stands in the document as it is read.
-- Only a string can be a good name.
said : (o : Option Data) → is_good_value (needed_name Name) o ≡ true →
    o ≡ Some (string (unwrap_or (option_and_then as_name o) []))
said None good = absurd (true≢false (sym good))
said (Some (string s)) good = ap (λ n. Some (string n)) (sym (name_by s (is_name s) good))
said (Some (integer z)) good = absurd (true≢false (sym good))
said (Some (float x)) good = absurd (true≢false (sym good))
said (Some (boolean b)) good = absurd (true≢false (sym good))
said (Some (datetime t)) good = absurd (true≢false (sym good))
said (Some (array ds)) good = absurd (true≢false (sym good))
said (Some (table m)) good = absurd (true≢false (sym good))

-- if `f` made value `y` of what is in option `o`, there is an `x` in it, and `y` is `f x`
mapped_parts : {S T : Type 0} (f : S → T) (o : Option S) (y : T) → option_map f o ≡ Some y →
    (x : S) × (o ≡ Some x) × (f x ≡ y)
mapped_parts f None y gives = cc
mapped_parts f (Some x) y gives = (x, refl, cc)

-- an option without a value has none
nothing : {T : Type 0} (x : T) → None ≡ Some x → ⊥
nothing x given = cc

-- to map `xs` by `f` and then by `g` is to map them once by both
mapped_twice : {S T U : Type 0} (f : S → T) (g : T → U) (xs : List S) → map g (map f xs) ≡ map (λ x. g (f x)) xs
mapped_twice f g [] = refl
mapped_twice f g (x ∷ xs) = ap (λ ys. g (f x) ∷ ys) (mapped_twice f g xs)

-- texts `a` and `b` that the test finds equal are equal
same_bytes : (a b : List ℕ) → bytes_eq a b ≡ true → a ≡ b
same_bytes a b passes = (bytes_eq-Decides a b).0 passes

-- given a document all of whose fields are good
module _ (ms : Members) (good : HasGoodFields ms) where
  -- a name of row `i` of table `t`: the name that is read is the one that the document has
  name_stands : (t : Table) (i : ℕ) (row : Members) (key : Key) → table_at ms t i ≡ Some row →
      Contains (fields_of t) (needed_name key) →
      found_at ms t i key ≡ Some (string (name_in row key))
  name_stands t i row key at field = found_in ms t i row key at
      ∙ said (get_member (text_of key) row) (good_value ms good t i row at (needed_name key) field)

  -- a name that stands in row `i` of table `t` is the one read there
  name_is : (t : Table) (i : ℕ) (key : Key) (name : List ℕ) → Contains (fields_of t) (needed_name key) →
      found_at ms t i key ≡ Some (string name) →
      (row : Members) × (table_at ms t i ≡ Some row) ×
      (name_in row key ≡ name)
  name_is t i key name field found =
      let (row, at, value) = found_parts (table_at ms t i) (text_of key) (string name) found in
      let stands = name_stands t i row key at field in
      (row, at, let same : name_in row key ≡ name = cc in same)

  -- the rows of a table of the document that have a name at a key
  -- `t`, `key`, `field`: a table, and a key of it that holds a name; `rows`, `are`: its rows in the document
  module _ (t : Table) (key : Key) (rows : List Members) (are : (i : ℕ) → table_at ms t i ≡ slice_get rows i)
      (field : Contains (fields_of t) (needed_name key)) where
    -- the names that were read
    abbrev names : List (List ℕ)
    names = map (λ row. name_in row key) rows

    -- a name that was read stands at its place in the document
    name_found : (i : ℕ) (name : List ℕ) → slice_get names i ≡ Some name → found_at ms t i key ≡ Some (string name)
    name_found i name here =
        let (row, at, same) = mapped_parts (λ row. name_in row key) (slice_get rows i) name
        (sym (slice_get-map (λ row. name_in row key) rows i) ∙ here) in
        name_stands t i row key (are i ∙ at) field ∙ ap (λ n. Some (string n)) same

    -- a name that stands at a place of the document was read there
    found_name : (i : ℕ) (name : List ℕ) → found_at ms t i key ≡ Some (string name) → slice_get names i ≡ Some name
    found_name i name found =
        let (row, at, same) = name_is t i key name field found in
        slice_get-map (λ row. name_in row key) rows i
        ∙ ap (option_map (λ row. name_in row key)) (sym (are i) ∙ at) ∙ ap Some same

    -- all names that were read stand in the document
    names_stand : Stand (λ i name. found_at ms t i key ≡ Some (string name)) 0 names
    names_stand = stand_all (λ i name. found_at ms t i key ≡ Some (string name)) names name_found

    -- a name is none of these exactly if none of the tables has it
    no_name : (name : List ℕ) → is_some (position (bytes_eq name) names) ≡ false → (j : ℕ) →
        found_at ms t j key ≢ Some (string name)
    no_name name missing j found = true≢false (sym (some_position (bytes_eq name) names
        ∙ list_any_true (bytes_eq name) names name (Contains-slice_get names j name (found_name j name found))
        ((bytes_eq-Decides name name).1 refl)) ∙ missing)

    -- a name that stands nowhere isn't found among those read
    name_missing : (name : List ℕ) → ((j : ℕ) → found_at ms t j key ≢ Some (string name)) →
        is_some (position (bytes_eq name) names) ≡ false
    name_missing name none = false_from_ne_true (is_some (position (bytes_eq name) names)) (λ among.
        let (other, within, same) = list_any_parts (bytes_eq name) names
        (sym (some_position (bytes_eq name) names) ∙ among) in
        let (j, at) = slice_get-Contains names other within in
        none j (name_found j other at ∙ ap (λ n. Some (string n)) (sym (same_bytes name other same))))

-- ---- double names

-- a fault is that a name of the document stands twice
abbrev pub IsTwice : Members → ReadFault → Type 0
IsTwice ms fault = (at : Place) × (fault ≡ DoubleName at) × IsDouble ms at

-- given a name, a list of names, and one more name behind them
module _ (name : List ℕ) (before : List (List ℕ)) (last : List ℕ) where
  -- a name among a longer list is among those before, or the last
  among_more : list_any (bytes_eq name) (before ++ last ∷ []) ≡ true →
      (list_any (bytes_eq name) before ≡ true) ⊎ (name ≡ last)
  among_more among = elim (or_cases (list_any (bytes_eq name) before) (bytes_eq name last || false)
      (sym (list_any-append (bytes_eq name) before (last ∷ [])) ∙ among)) [
        | inl passes ↦ inl passes
        | inr passes ↦ inr (same_bytes name last (sym (or-false (bytes_eq name last)) ∙ passes))
      ]

  -- a name that stands before does so with one more
  still_among : list_any (bytes_eq name) before ≡ true → list_any (bytes_eq name) (before ++ last ∷ []) ≡ true
  still_among stands = list_any-append (bytes_eq name) before (last ∷ [])
      ∙ or_left (list_any (bytes_eq name) before) (bytes_eq name last || false) stands

  -- a name that is the last of a list is among it
  now_among : last ≡ name → list_any (bytes_eq name) (before ++ last ∷ []) ≡ true
  now_among same = list_any-append (bytes_eq name) before (last ∷ [])
      ∙ or_right (list_any (bytes_eq name) before) (bytes_eq name last || false)
      (or_left (bytes_eq name last) false ((bytes_eq-Decides name last).1 (sym same)))

-- place `k` from `i + 1` on is place `k + 1` from `i` on
onward : (i k : ℕ) → (i + 1) + k ≡ i + suc k
onward i k = omega arith

-- given a table, and the key of its elements' own names
module _ (ms : Members) (t : Table) (key : Key) (own : is_own_name t key ≡ true) where
  -- a name stands at an earlier place of the document
  abbrev StandsBefore : ℕ → List ℕ → Type 0
  StandsBefore i name = (j : ℕ) × (j < i) × (found_at ms t j key ≡ Some (string name))

  -- each name that is listed as double stands twice in the document; by induction on the names
  doubles_are_twice : (i : ℕ) (before names : List (List ℕ)) →
      ((name : List ℕ) → list_any (bytes_eq name) before ≡ true → StandsBefore i name) →
      Stand (λ i name. found_at ms t i key ≡ Some (string name)) i names →
      Each (IsTwice ms) (doubles_from t key i before names)
  doubles_are_twice i before [] seen stand = tt
  doubles_are_twice i before (name ∷ names) seen stand =
      each_joined (IsTwice ms) (unless (not (list_any (bytes_eq name) before)) (DoubleName (place t i key)))
      (doubles_from t key (i + 1) (before ++ name ∷ []) names)
      (each_unless (IsTwice ms) (not (list_any (bytes_eq name) before)) (DoubleName (place t i key))
      (λ not_new. let (j, earlier, found) = seen name (not-false (list_any (bytes_eq name) before) not_new) in
      (place t i key, refl, inl (own, name, stand.0, j, earlier, found))))
      (doubles_are_twice (i + 1) (before ++ name ∷ []) names
      (λ other among. more other (among_more other before name among)) stand.1)
    where
      -- a name before the next place stood before this one, or is the name here
      more : (other : List ℕ) → (list_any (bytes_eq other) before ≡ true) ⊎ (other ≡ name) → StandsBefore (i + 1) other
      more other (inl among) = let (j, earlier, found) = seen other among in (j, omega (arith, earlier), found)
      more other (inr same) = (i, omega arith, stand.0 ∙ ap (λ n. Some (string n)) (sym same))

-- given a table and a key
module _ (t : Table) (key : Key) where
  -- name `k` of the list is listed as double if it stands among the names before the list, or at an earlier place `j`
  -- of the list; by induction on the names and on `k`
  double_from : (i k : ℕ) (before names : List (List ℕ)) (name : List ℕ) → slice_get names k ≡ Some name →
      (list_any (bytes_eq name) before ≡ true) ⊎
      ((j : ℕ) × (j < k) × (slice_get names j ≡ Some name)) →
      Contains (doubles_from t key i before names) (DoubleName (place t (i + k) key))
  double_from i k before [] name here seen = cc
  double_from i zero before (first ∷ names) name here (inl seen) =
      Contains-append_left (unless (not (list_any (bytes_eq first) before)) (DoubleName (place t i key)))
      (doubles_from t key (i + 1) (before ++ first ∷ []) names) (DoubleName (place t (i + 0) key))
      (subst (λ at. Contains (unless (not (list_any (bytes_eq first) before)) (DoubleName (place t i key)))
      (DoubleName (place t at key))) (sym (add-zero i))
      (unless_contains (not (list_any (bytes_eq first) before)) (DoubleName (place t i key))
      (ap not (ap (λ z. list_any (bytes_eq z) before) (let same : first ≡ name = cc in same) ∙ seen))))
  double_from i zero before (first ∷ names) name here (inr seen) = absurd (let below = seen.1 in omega (arith, below))
  double_from i (suc k) before (first ∷ names) name here seen =
      Contains-append_right (unless (not (list_any (bytes_eq first) before)) (DoubleName (place t i key)))
      (doubles_from t key (i + 1) (before ++ first ∷ []) names) (DoubleName (place t (i + suc k) key))
      (subst (λ at. Contains (doubles_from t key (i + 1) (before ++ first ∷ []) names) (DoubleName (place t at key)))
      (onward i k) (double_from (i + 1) k (before ++ first ∷ []) names name here (more seen)))
    where
      -- the name stands before, or is the first one, which is before from here on, or stands further on
      more : (list_any (bytes_eq name) before ≡ true) ⊎
          ((j : ℕ) × (j < suc k) × (slice_get (first ∷ names) j ≡ Some name)) →
          (list_any (bytes_eq name) (before ++ first ∷ []) ≡ true) ⊎
          ((j : ℕ) × (j < k) × (slice_get names j ≡ Some name))
      more (inl among) = inl (still_among name before first among)
      more (inr (zero, earlier, is)) = inl (now_among name before first (let same : first ≡ name = cc in same))
      more (inr (suc j, earlier, is)) = inr (j, omega (arith, earlier), is)

  -- if `name` stands at the places `j` and `i` of `names`, and `j` is before `i`, it is a double at `i`
  double_at : (i j : ℕ) (names : List (List ℕ)) (name : List ℕ) → slice_get names i ≡ Some name → j < i →
      slice_get names j ≡ Some name →
      Contains (doubles_from t key 0 [] names) (DoubleName (place t i key))
  double_at i j names name here earlier there =
      subst (λ at. Contains (doubles_from t key 0 [] names) (DoubleName (place t at key))) (zero-add i)
      (double_from 0 i [] names name here (inr (j, earlier, there)))

-- ---- names of a list

-- element `y` behind list `xs` stands at the list's length
append_here : (xs ys : List (List ℕ)) (y : List ℕ) → slice_get (xs ++ y ∷ ys) (length xs) ≡ Some y
append_here [] ys y = refl
append_here (x ∷ xs) ys y = append_here xs ys y

-- element `x` at place `k` of `xs` stays there if `ys` are appended
append_there : (xs ys : List (List ℕ)) (k : ℕ) (x : List ℕ) → slice_get xs k ≡ Some x → slice_get (xs ++ ys) k ≡ Some x
append_there [] ys k x here = cc
append_there (z ∷ xs) ys zero x here = here
append_there (z ∷ xs) ys (suc k) x here = append_there xs ys k x here

-- if element `x` is at place `k` of `xs`, that is below the length
below_length : (xs : List (List ℕ)) (k : ℕ) (x : List ℕ) → slice_get xs k ≡ Some x → k < length xs
below_length [] k x here = cc
below_length (z ∷ xs) zero x here = omega arith
below_length (z ∷ xs) (suc k) x here = omega (arith, below_length xs k x here)

-- Names that don't differ from each other and from those before have one that stands twice.
-- By induction on the names: the first is among those before, or it is put to them.
two_from : (before names : List (List ℕ)) → differ_from before names ≡ false → HasTwice (before ++ names)
two_from before [] not_differ = absurd (true≢false not_differ)
two_from before (name ∷ names) not_differ =
    by (list_any (bytes_eq name) before) refl (two_from (before ++ name ∷ []) names) not_differ
  where
    -- by whether the first name is among those before
    by : (b : Bool) → list_any (bytes_eq name) before ≡ b →
        (differ_from (before ++ name ∷ []) names ≡ false → HasTwice ((before ++ name ∷ []) ++ names)) →
        (not b && differ_from (before ++ name ∷ []) names) ≡ false → HasTwice (before ++ name ∷ names)
    by true is later fails =
        let (other, within, same) = list_any_parts (bytes_eq name) before is in
        let (j, at) = slice_get-Contains before other within in (
          name,
          length before,
          append_here before names name,
          j,
          below_length before j other at,
          append_there before (name ∷ names) j name (at ∙ ap (λ n. Some n) (sym (same_bytes name other same))),
        )
    by false is later fails = subst HasTwice (append_assoc before (name ∷ []) names) (later fails)

-- names that don't differ have one that stands twice
stand_in_two : (names : List (List ℕ)) → differ_from [] names ≡ false → HasTwice names
stand_in_two names not_differ = two_from [] names not_differ

-- Names that differ have no double.
-- By induction on the names: none is among those before it.
none_double : (t : Table) (key : Key) (i : ℕ) (before names : List (List ℕ)) → differ_from before names ≡ true →
    doubles_from t key i before names ≡ []
none_double t key i before [] differ = refl
none_double t key i before (name ∷ names) differ =
    by (list_any (bytes_eq name) before) (none_double t key (i + 1) (before ++ name ∷ []) names) differ
  where
    -- by whether the first name is among those before, which it isn't
    by : (b : Bool) →
        (differ_from (before ++ name ∷ []) names ≡ true → doubles_from t key (i + 1) (before ++ name ∷ []) names ≡ []) →
        (not b && differ_from (before ++ name ∷ []) names) ≡ true →
        (unless (not b) (DoubleName (place t i key)) ++ doubles_from t key (i + 1) (before ++ name ∷ []) names) ≡ []
    by true later passes = absurd (true≢false (sym passes))
    by false later passes = later passes

-- names of which one stands twice don't differ
two_differ_not : (names : List (List ℕ)) → HasTwice names → differ_from [] names ≡ false
two_differ_not names (name, i, here, j, earlier, there) = false_from_ne_true (differ_from [] names)
    (λ differ. Contains-nil (DoubleName (place tables.Node i Name))
    (subst (λ faults. Contains faults (DoubleName (place tables.Node i Name)))
    (none_double tables.Node Name 0 [] names differ) (double_at tables.Node Name i j names name here earlier there)))

-- If `test` doesn't pass for all of `xs`, it fails for some `x` of them. By induction on `xs`.
some_fails : (test : List ℕ → Bool) (xs : List (List ℕ)) → list_all test xs ≡ false →
    (x : List ℕ) × Contains xs x × (test x ≡ false)
some_fails test [] not_all = absurd (true≢false not_all)
some_fails test (x ∷ xs) not_all = by (test x) refl (some_fails test xs) not_all
  where
    -- by whether the first element passes
    by : (b : Bool) → test x ≡ b → (list_all test xs ≡ false → (y : List ℕ) × Contains xs y × (test y ≡ false)) →
        (b && list_all test xs) ≡ false → (y : List ℕ) × Contains (x ∷ xs) y × (test y ≡ false)
    by true is later not_both = let (y, within, fails) = later not_both in (y, Contains-rest x xs y within, fails)
    by false is later not_both = (x, Contains-first x xs, is)

-- `b && c` is false if `c` is
and_fails : (b c : Bool) → c ≡ false → (b && c) ≡ false
and_fails true c fails = fails
and_fails false c fails = refl

-- if `test` fails for `x`, which is in `xs`, it doesn't pass for all of `xs`
one_fails : (test : List ℕ → Bool) (xs : List (List ℕ)) (x : List ℕ) → Contains xs x → test x ≡ false →
    list_all test xs ≡ false
one_fails test [] x within fails = absurd (Contains-nil x within)
one_fails test (z ∷ xs) x within fails = elim (Contains-cases z xs x within) [
  | inl same ↦ ap (λ b. b && list_all test xs) (ap test same ∙ fails)
  | inr rest ↦ and_fails (test z) (list_all test xs) (one_fails test xs x rest fails)
]

-- given a document all of whose fields are good
module _ (ms : Members) (good : HasGoodFields ms) where
  -- the names of the nodes
  abbrev node_names : List (List ℕ)
  node_names = map (λ row. name_in row Name) (elements ms Node)

  -- the nodes that the slots name
  abbrev slot_nodes : List (List ℕ)
  slot_nodes = map (λ row. name_in row Node) (elements ms Slot)

  -- the names of the processes
  abbrev all_processes : List (List ℕ)
  all_processes = map (λ row. name_in row Name) (elements ms Process)

  -- the names read of the slots are these nodes
  slots_named : slot_names (map slot_in (elements ms Slot)) ≡ slot_nodes
  slots_named = mapped_twice slot_in (λ s. s.node) (elements ms Slot)

  -- the names read of the processes are those of their tables
  processes_named : process_names (map process_in (elements ms Process)) ≡ all_processes
  processes_named = mapped_twice process_in (λ p. p.name) (elements ms Process)

  -- a listed double name stands twice in the document
  stand_twice : (t : Table) (key : Key) (rows : List Members) → ((i : ℕ) → table_at ms t i ≡ slice_get rows i) →
      Contains (fields_of t) (needed_name key) →
      is_own_name t key ≡ true →
      (texts : List (List ℕ)) → texts ≡ map (λ row. name_in row key) rows →
      Each (IsTwice ms) (doubles_from t key 0 [] texts)
  stand_twice t key rows are field own texts same =
      subst (λ names. Each (IsTwice ms) (doubles_from t key 0 [] names)) (sym same)
      (doubles_are_twice ms t key own 0 [] (map (λ row. name_in row key) rows)
      (λ name among. absurd (true≢false (sym among)))
      (names_stand ms good t key rows are field))

  -- Each fault in the list of double names is a name that stands twice in the document.
  -- List by list: nodes, slots, processes, and then the order.
  pub doubles_stand : Each (IsTwice ms) (double_faults (graph_in ms))
  doubles_stand =
      each_joined (IsTwice ms) _ _
      (stand_twice tables.Node Name (elements ms Node) (λ i. refl) (0, omega arith, refl) refl node_names refl)
      (each_joined (IsTwice ms) _ _ (stand_twice tables.Slot Node (elements ms Slot) (λ i. refl)
      (0, omega arith, refl) refl (slot_names (map slot_in (elements ms Slot))) slots_named)
      (each_joined (IsTwice ms) _ _
      (stand_twice tables.Process Name (elements ms Process) (λ i. refl) (0, omega arith, refl) refl
      (process_names (map process_in (elements ms Process))) processes_named)
      (each_unless (IsTwice ms) (differ_from [] (order_names ms)) (DoubleName order_place)
      (λ not_differ. (order_place, refl, inr (refl, stand_in_two (order_names ms) not_differ))))))

  -- if a name stands at a key of rows `i` and `j` of table `t`, and `j` comes first, the name is listed as double at
  -- `i`
  double_of : (t : Table) (key : Key) (rows : List Members) → ((i : ℕ) → table_at ms t i ≡ slice_get rows i) →
      Contains (fields_of t) (needed_name key) →
      (texts : List (List ℕ)) →
      texts ≡ map (λ row. name_in row key) rows →
      (i j : ℕ) (name : List ℕ) → found_at ms t i key ≡ Some (string name) → j < i → found_at ms t j key
      ≡ Some (string name) → Contains (doubles_from t key 0 [] texts) (DoubleName (place t i key))
  double_of t key rows are field texts same i j name here earlier there =
      subst (λ names. Contains (doubles_from t key 0 [] names) (DoubleName (place t i key))) (sym same)
      (double_at t key i j (map (λ row. name_in row key) rows) name
      (found_name ms good t key rows are field i name here) earlier
      (found_name ms good t key rows are field j name there))

  -- if row `i` of table `t` has a name at a key, and an earlier row `j` has it too, it is in the list of double names;
  -- by cases on the tables, each with its part of the list
  double_in : (t : Table) (key : Key) → is_own_name t key ≡ true → (i j : ℕ) (name : List ℕ) →
      found_at ms t i key ≡ Some (string name) → j < i →
      found_at ms t j key ≡ Some (string name) →
      Contains (double_faults (graph_in ms)) (DoubleName (place t i key))
  -- names of nodes come first
  double_in tables.Node Name own i j name here earlier there =
      Contains-append_left (doubles_from tables.Node Name 0 [] node_names) _ (DoubleName (place tables.Node i Name))
      (double_of tables.Node Name (elements ms Node) (λ i. refl)
      (0, omega arith, refl) node_names refl i j name here earlier there)
  -- the nodes of slots come next
  double_in tables.Slot Node own i j name here earlier there =
      Contains-append_right (doubles_from tables.Node Name 0 [] node_names) _ (DoubleName (place tables.Slot i Node))
      (Contains-append_left (doubles_from tables.Slot Node 0 [] (slot_names (map slot_in (elements ms Slot)))) _
      (DoubleName (place tables.Slot i Node))
      (double_of tables.Slot Node (elements ms Slot) (λ i. refl) (0, omega arith, refl)
      (slot_names (map slot_in (elements ms Slot))) slots_named i j name here earlier there))
  -- then names of processes
  double_in tables.Process Name own i j name here earlier there =
      Contains-append_right (doubles_from tables.Node Name 0 [] node_names) _ (DoubleName (place tables.Process i Name))
      (Contains-append_right (doubles_from tables.Slot Node 0 [] (slot_names (map slot_in (elements ms Slot)))) _
      (DoubleName (place tables.Process i Name))
      (Contains-append_left
      (doubles_from tables.Process Name 0 [] (process_names (map process_in (elements ms Process))))
      (order_doubles (order_names ms)) (DoubleName (place tables.Process i Name))
      (double_of tables.Process Name (elements ms Process) (λ i. refl) (0, omega arith, refl)
      (process_names (map process_in (elements ms Process))) processes_named i j name here earlier there)))
  -- at no other key have names to differ
  double_in t key own i j name here earlier there = absurd (true≢false (sym own))

  -- Each name that stands twice in the document is in the list of double names.
  -- It is one of a table, which has its part of the list, or one of the order, which comes last.
  pub double_there : (at : Place) → IsDouble ms at → Contains (double_faults (graph_in ms)) (DoubleName at)
  double_there at (inl (own, name, here, j, earlier, there)) =
      double_in at.table at.key own at.index j name here earlier there
  double_there at (inr (same, twice)) = subst (λ p. Contains (double_faults (graph_in ms)) (DoubleName p)) (sym same)
      (Contains-append_right (doubles_from tables.Node Name 0 [] node_names) _ (DoubleName order_place)
      (Contains-append_right (doubles_from tables.Slot Node 0 [] (slot_names (map slot_in (elements ms Slot)))) _
      (DoubleName order_place)
      (Contains-append_right
      (doubles_from tables.Process Name 0 [] (process_names (map process_in (elements ms Process))))
      (order_doubles (order_names ms)) (DoubleName order_place)
      (unless_contains (differ_from [] (order_names ms)) (DoubleName order_place)
      (two_differ_not (order_names ms) twice)))))

-- ---- names that name nothing

-- a fault is that a name of the document names nothing
abbrev pub IsNameless : Members → ReadFault → Type 0
IsNameless ms fault = (at : Place) × (fault ≡ UnknownName at) × IsUnknown ms at

-- given a document all of whose fields are good
module _ (ms : Members) (good : HasGoodFields ms) where
  -- the names of the processes
  abbrev process_texts : List (List ℕ)
  process_texts = process_names (map process_in (elements ms Process))

  -- a name that isn't found among the nodes is no node's
  no_node : (name : List ℕ) → is_some (position (bytes_eq name) (node_names ms good)) ≡ false → (j : ℕ) →
      found_at ms tables.Node j Name ≢ Some (string name)
  no_node name missing =
      no_name ms good tables.Node Name (elements ms Node) (λ i. refl) (0, omega arith, refl) name missing

  -- one that isn't found among the processes is no process's
  no_process : (name : List ℕ) → is_some (position (bytes_eq name) process_texts) ≡ false → (j : ℕ) →
      found_at ms tables.Process j Name ≢ Some (string name)
  no_process name missing =
      no_name ms good tables.Process Name (elements ms Process) (λ i. refl) (0, omega arith, refl) name
      (ap (λ names. is_some (position (bytes_eq name) names)) (sym (processes_named ms good)) ∙ missing)

  -- a name that is no node's isn't found among the nodes
  node_missing : (name : List ℕ) → ((j : ℕ) → found_at ms tables.Node j Name ≢ Some (string name)) →
      is_some (position (bytes_eq name) (node_names ms good)) ≡ false
  node_missing name none =
      name_missing ms good tables.Node Name (elements ms Node) (λ i. refl) (0, omega arith, refl) name none

  -- one that is no process's isn't found among the processes
  process_missing : (name : List ℕ) → ((j : ℕ) → found_at ms tables.Process j Name ≢ Some (string name)) →
      is_some (position (bytes_eq name) process_texts) ≡ false
  process_missing name none = ap (λ names. is_some (position (bytes_eq name) names)) (processes_named ms good) ∙
      name_missing ms good tables.Process Name (elements ms Process) (λ i. refl) (0, omega arith, refl) name none

  -- if the name at a key of row `i` of table `t` isn't among `names`, those of table `others`, it names nothing there
  nameless : (t : Table) (key : Key) (others : Table) (names : List (List ℕ)) (i : ℕ) (row : Members) →
      table_at ms t i ≡ Some row →
      Contains (fields_of t) (needed_name key) →
      named_in t key ≡ Some others →
      ((name : List ℕ) → is_some (position (bytes_eq name) names) ≡ false → (j : ℕ) → found_at ms others j Name
      ≢ Some (string name)) → Each (IsNameless ms) (unknown names (name_in row key) t i key)
  nameless t key others names i row at field named missing =
      each_unless (IsNameless ms) (is_some (position (bytes_eq (name_in row key)) names)) (UnknownName (place t i key))
      (λ not_there. (
        place t i key,
        refl,
        inl (
          others,
          named,
          name_in row key,
          name_stands ms good t i row key at field,
          missing (name_in row key) not_there,
        ),
      ))

  -- a row stands at a place of a list of tables
  abbrev stands_in : Key → ℕ → Members → Type 0
  stands_in key i row = slice_get (elements ms key) i ≡ Some row

  -- Each fault in the list of unknown names is a name in the document that names nothing.
  -- List by list: slots, processes, edges, and then the order.
  pub unknowns_stand : Each (IsNameless ms) (unknown_faults (graph_in ms))
  unknowns_stand =
      -- slots: their nodes
      each_joined (IsNameless ms) _ _ (subst (Each (IsNameless ms)) (sym
      (of_each_mapped (λ i s. unknown (node_names ms good) s.node tables.Slot i Node) slot_in 0 (elements ms Slot)))
      (each_of_each (IsNameless ms) (stands_in Slot)
      (λ i row. unknown (node_names ms good) (name_in row Node) tables.Slot i Node)
      (λ i row at. nameless tables.Slot Node tables.Node (node_names ms good) i row at
      (0, omega arith, refl) refl no_node) 0 (elements ms Slot)
      (stand_all (stands_in Slot) (elements ms Slot) (λ k row here. here))))
      -- processes: their nodes
      (each_joined (IsNameless ms) _ _ (subst (Each (IsNameless ms)) (sym (of_each_mapped
      (λ i p. unknown (node_names ms good) p.node tables.Process i Node) process_in 0 (elements ms Process)))
      (each_of_each (IsNameless ms) (stands_in Process)
      (λ i row. unknown (node_names ms good) (name_in row Node) tables.Process i Node)
      (λ i row at. nameless tables.Process Node tables.Node (node_names ms good) i row at
      (1, omega arith, refl) refl no_node) 0 (elements ms Process)
      (stand_all (stands_in Process) (elements ms Process) (λ k row here. here))))
      -- edges: their two ends
      (each_joined (IsNameless ms) _ _
      (subst (Each (IsNameless ms)) (sym (of_each_mapped (unknown_ends process_texts) edge_in 0 (elements ms Edge)))
      (each_of_each (IsNameless ms) (stands_in Edge) (λ i row. unknown_ends process_texts i (edge_in row))
      (λ i row at. each_joined (IsNameless ms) (unknown process_texts (name_in row From) tables.Edge i From)
      (unknown process_texts (name_in row To) tables.Edge i To)
      (nameless tables.Edge From tables.Process process_texts i row at (0, omega arith, refl) refl no_process)
      (nameless tables.Edge To tables.Process process_texts i row at (1, omega arith, refl) refl no_process))
      0 (elements ms Edge) (stand_all (stands_in Edge) (elements ms Edge) (λ k row here. here))))
      -- the order: some name of it is no process's
      (each_unless (IsNameless ms) (list_all (is_known process_texts) (order_names ms)) (UnknownName order_place)
      (λ some_unknown. let (name, within, not_known) = some_fails (is_known process_texts)
      (order_names ms) some_unknown in
      (order_place, refl, inr (refl, (name, within, no_process name not_known)))))))

  -- the unknown nodes of slots
  abbrev slots_part : List ReadFault
  slots_part =
      of_each (λ i s. unknown (node_names ms good) s.node tables.Slot i Node) 0 (map slot_in (elements ms Slot))

  -- the unknown nodes of processes
  abbrev processes_part : List ReadFault
  processes_part = of_each (λ i p. unknown (node_names ms good) p.node tables.Process i Node) 0
      (map process_in (elements ms Process))

  -- the unknown ends of edges
  abbrev edges_part : List ReadFault
  edges_part = of_each (unknown_ends process_texts) 0 (map edge_in (elements ms Edge))

  -- the unknown names of the order
  abbrev order_part : List ReadFault
  order_part = order_unknowns process_texts (order_names ms)

  -- a name that names nothing is told of its place
  name_told : (names : List (List ℕ)) (name other : List ℕ) (t : Table) (i : ℕ) (key : Key) → other ≡ name →
      is_some (position (bytes_eq name) names) ≡ false →
      Contains (unknown names other t i key) (UnknownName (place t i key))
  name_told names name other t i key same missing = unless_contains (is_some (position (bytes_eq other) names))
      (UnknownName (place t i key)) (ap (λ n. is_some (position (bytes_eq n) names)) same ∙ missing)

  -- a name at a key of row `i` of table `t` that no row of table `others` has, in which it has to be found, is listed
  -- as unknown; by cases on the four keys that refer to other tables, each with its part of the list
  unknown_in : (t : Table) (key : Key) (others : Table) → named_in t key ≡ Some others → (i : ℕ) (name : List ℕ) →
      found_at ms t i key ≡ Some (string name) →
      ((j : ℕ) → found_at ms others j Name ≢ Some (string name)) →
      Contains (unknown_faults (graph_in ms)) (UnknownName (place t i key))
  -- a slot's node: the first part
  unknown_in tables.Slot Node others named i name found none =
      let (row, at, same) = name_is ms good tables.Slot i Node name (0, omega arith, refl) found in
      let is : others ≡ tables.Node = cc in
      Contains-append_left slots_part (processes_part ++ (edges_part ++ order_part))
      (UnknownName (place tables.Slot i Node))
      (of_each_contains (λ i s. unknown (node_names ms good) s.node tables.Slot i Node)
      (UnknownName (place tables.Slot i Node)) i (map slot_in (elements ms Slot)) (slot_in row)
      (slice_get-map slot_in (elements ms Slot) i ∙ ap (option_map slot_in) at)
      (name_told (node_names ms good) name (name_in row Node) tables.Slot i Node same
      (node_missing name (subst (λ t. (j : ℕ) → found_at ms t j Name ≢ Some (string name)) is none))))
  -- a process's node: the second part
  unknown_in tables.Process Node others named i name found none =
      let (row, at, same) = name_is ms good tables.Process i Node name (1, omega arith, refl) found in
      let is : others ≡ tables.Node = cc in
      Contains-append_right slots_part (processes_part ++ (edges_part ++ order_part))
      (UnknownName (place tables.Process i Node))
      (Contains-append_left processes_part (edges_part ++ order_part) (UnknownName (place tables.Process i Node))
      (of_each_contains (λ i p. unknown (node_names ms good) p.node tables.Process i Node)
      (UnknownName (place tables.Process i Node)) i (map process_in (elements ms Process)) (process_in row)
      (slice_get-map process_in (elements ms Process) i ∙ ap (option_map process_in) at)
      (name_told (node_names ms good) name (name_in row Node) tables.Process i Node same
      (node_missing name (subst (λ t. (j : ℕ) → found_at ms t j Name ≢ Some (string name)) is none)))))
  -- the start of an edge: the third part, first half
  unknown_in tables.Edge From others named i name found none =
      let (row, at, same) = name_is ms good tables.Edge i From name (0, omega arith, refl) found in
      let is : others ≡ tables.Process = cc in
      Contains-append_right slots_part (processes_part ++ (edges_part ++ order_part))
      (UnknownName (place tables.Edge i From))
      (Contains-append_right processes_part (edges_part ++ order_part) (UnknownName (place tables.Edge i From))
      (Contains-append_left edges_part order_part (UnknownName (place tables.Edge i From))
      (of_each_contains (unknown_ends process_texts) (UnknownName (place tables.Edge i From)) i
      (map edge_in (elements ms Edge)) (edge_in row)
      (slice_get-map edge_in (elements ms Edge) i ∙ ap (option_map edge_in) at)
      (Contains-append_left (unknown process_texts (name_in row From) tables.Edge i From)
      (unknown process_texts (name_in row To) tables.Edge i To) (UnknownName (place tables.Edge i From))
      (name_told process_texts name (name_in row From) tables.Edge i From same
      (process_missing name (subst (λ t. (j : ℕ) → found_at ms t j Name ≢ Some (string name)) is none)))))))
  -- the end of an edge: the third part, second half
  unknown_in tables.Edge To others named i name found none =
      let (row, at, same) = name_is ms good tables.Edge i To name (1, omega arith, refl) found in
      let is : others ≡ tables.Process = cc in
      Contains-append_right slots_part (processes_part ++ (edges_part ++ order_part))
      (UnknownName (place tables.Edge i To))
      (Contains-append_right processes_part (edges_part ++ order_part) (UnknownName (place tables.Edge i To))
      (Contains-append_left edges_part order_part (UnknownName (place tables.Edge i To))
      (of_each_contains (unknown_ends process_texts) (UnknownName (place tables.Edge i To)) i
      (map edge_in (elements ms Edge)) (edge_in row)
      (slice_get-map edge_in (elements ms Edge) i ∙ ap (option_map edge_in) at)
      (Contains-append_right (unknown process_texts (name_in row From) tables.Edge i From)
      (unknown process_texts (name_in row To) tables.Edge i To) (UnknownName (place tables.Edge i To))
      (name_told process_texts name (name_in row To) tables.Edge i To same
      (process_missing name (subst (λ t. (j : ℕ) → found_at ms t j Name ≢ Some (string name)) is none)))))))
  -- no other key refers to a table
  unknown_in t key others named i name found none = absurd (nothing others named)

  -- Each name in the document that names nothing is in the list of unknown names.
  -- It is one of a table, which has its part of the list, or one of the order, which comes last.
  pub unknown_there : (at : Place) → IsUnknown ms at → Contains (unknown_faults (graph_in ms)) (UnknownName at)
  unknown_there at (inl (others, named, name, found, none)) =
      unknown_in at.table at.key others named at.index name found none
  unknown_there at (inr (same, other)) = let (name, within, none) = other in
      subst (λ p. Contains (unknown_faults (graph_in ms)) (UnknownName p)) (sym same)
      (Contains-append_right slots_part (processes_part ++ (edges_part ++ order_part)) (UnknownName order_place)
      (Contains-append_right processes_part (edges_part ++ order_part) (UnknownName order_place)
      (Contains-append_right edges_part order_part (UnknownName order_place)
      (unless_contains (list_all (is_known process_texts) (order_names ms)) (UnknownName order_place)
      (one_fails (is_known process_texts) (order_names ms) name within (process_missing name none))))))
