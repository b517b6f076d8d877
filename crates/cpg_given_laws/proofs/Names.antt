-- The names of an order, as a document has them, and the numbers that they stand for.
use Rattle.std.proofs.Common.{◌≡◌, ℕ, ◌+◌, ◌<◌, List, [], ◌∷◌, length, get_or, map, Option, Some, None, Ok, refl, sym}
use Rattle.std.proofs.Common.{ap, ◌∙◌, subst, inl, inr}
use Rattle.std.specs.Prelude.{All, option_and_then}
use Rattle.std.specs.List.{AllByRecursion}
use Rattle.std.proofs.lemmas.Bool.{cases_Bool}
use Rattle.std.proofs.lemmas.List.Elements.{All-from_recursion}
use Rattle.toml.specs.Data.{Data, Members, string, array, as_str}
use Rattle.toml.specs.View.{items_of}
use Rattle.cpg_base.specs.declared.process.Process.{Process}
use Rattle.cpg_reader.specs.declared.place.Table.TheVariants as tables
use Rattle.cpg_reader.specs.declared.place.Key.TheVariants.{Name, Node}
use Rattle.cpg_reader.specs.declared.shape.RawProcess.{RawProcess}
use Rattle.cpg_reader.specs.Reading.{pure, each}
use Rattle.cpg_reader.specs.Rows.{DocumentRow, is_name, name_if, as_name, items_as, as_names, value_at, optional_in}
use Rattle.cpg_reader.specs.Rows.{optional, typed_in, required_in, read_name}
use Rattle.cpg_reader.specs.Shape.{read_process, read_work, process_with}
use Rattle.cpg_reader.specs.Names.{process_of, number_of, place, process_names}
use Rattle.cpg_reader.proofs.Steps.{same_ok, each-parts}
use Rattle.cpg_reader.proofs.Parts.{process-parts}
use Rattle.cpg_reader.proofs.RawReads.{all_by_recursion}
use Rattle.cpg_given_laws.proofs.Opened.{opened}

-- a text that is read as a name
abbrev pub IsRead : List ℕ → Type 0
IsRead name = name_if name ≡ Some name

-- a text that passes as a name is read as itself
read_text : (text name : List ℕ) → name_if text ≡ Some name → IsRead name
read_text text name passes = elim (cases_Bool (is_name text)) [
  | inl is_one ↦ let same : text ≡ name = some_is (rw is_one at passes) in subst IsRead same (rw is_one refl)
  | inr not_one ↦ absurd (none_is (rw not_one at passes))
]
  where
    -- two texts that are there are equal if they are so as options
    some_is : Some text ≡ Some name → text ≡ name
    some_is equal = cc

    -- what is excluded: a name where there is none
    none_is : None ≡ Some name → ⊥
    none_is equal = cc

-- a text of a document, if it passes as a name
name_is_read : (found : Option (List ℕ)) (name : List ℕ) → option_and_then name_if found ≡ Some name → IsRead name
name_is_read None name named = cc
name_is_read (Some text) name named = read_text text name named

-- the value at a key, if it is a text that passes
read_value : (row : DocumentRow) (found : Option Data) (name : List ℕ) →
    optional_in row Name as_name found ≡ Ok (Some name) → IsRead name
read_value row None name named = cc
read_value row (Some d) name named = typed (as_name d) refl named
  where
    -- by whether the value is such a text
    typed : (o : Option (List ℕ)) → as_name d ≡ o → typed_in row Name o ≡ Ok (Some name) → IsRead name
    typed None is named = cc
    typed (Some text) is named = let same : text ≡ name = cc in name_is_read (as_str d) name (is ∙ ap Some same)

-- the name in a row of a document
read_at : (row : DocumentRow) (name : List ℕ) → read_name row Name ≡ Ok name → IsRead name
unfolding read_name optional
read_at row name named = opened (optional as_name row Name) (required_in row Name) name named (by row name)
  where
    -- by whether the row has one
    by : (row : DocumentRow) (name : List ℕ) (found : Option (List ℕ)) →
        optional_in row Name as_name (value_at row Name) ≡ Ok found → required_in row Name found ≡ Ok name → IsRead name
    by row name None is named = cc
    by row name (Some text) is named = let same : text ≡ name = cc in
        read_value row (value_at row Name) name (is ∙ ap (λ t. Ok (Some t)) same)

-- the name of a process that is read
process_is_read : (row : DocumentRow) (p : RawProcess) → read_process row ≡ Ok p → IsRead p.name
unfolding read_process
process_is_read row p is_read =
    opened (read_name row Name) _ p is_read λ name has_name rest.
    opened (read_name row Node) _ p rest λ node has_node rest.
    opened (read_work row) (λ work. pure (process_with name node work)) p
    (sym (process-parts row name node has_name has_node) ∙ is_read) λ work has_work last.
    subst IsRead (ap (λ (p : RawProcess). p.name) (same_ok (process_with name node work) p last))
    (read_at row name has_name)

-- the names of processes `ps` that were read from a document, numbered from `i`, are names
pub read_processes : (i : ℕ) (members : List Members) (ps : List RawProcess) →
    each (λ i ms. read_process (record { table = tables.Process; index = i; members = ms })) i members ≡ Ok ps →
    AllByRecursion IsRead (process_names ps)
read_processes i [] ps are_read = subst (λ ps. AllByRecursion IsRead (process_names ps)) (same_ok [] ps are_read) tt
read_processes i (ms ∷ rest) ps are_read =
    let parts =
    each-parts (λ i ms. read_process (record { table = tables.Process; index = i; members = ms })) i ms rest ps
    are_read in
    subst (λ ps. AllByRecursion IsRead (process_names ps)) (sym parts.2)
    (process_is_read _ parts.0 parts.3, read_processes (i + 1) rest parts.1 parts.4)

-- a process `p` is called as the document calls it
called : (nodes : List (List ℕ)) (i : ℕ) (raw : RawProcess) (p : Process) → process_of nodes i raw ≡ Ok p →
    p.name ≡ raw.name
unfolding process_of
called nodes i raw p is_read = opened (number_of nodes (place tables.Process i Node) raw.node) _ p is_read
    λ node is_number last. sym (ap (λ (p : Process). p.name) (same_ok _ p last))

-- the processes `ps` that were read of `raws`, numbered from `i`, have the names of the document
pub all_called : (nodes : List (List ℕ)) (i : ℕ) (raws : List RawProcess) (ps : List Process) →
    each (process_of nodes) i raws ≡ Ok ps →
    map (λ (p : Process). p.name) ps ≡ process_names raws
all_called nodes i [] ps are_read = ap (map (λ (p : Process). p.name)) (sym (same_ok [] ps are_read))
all_called nodes i (raw ∷ raws) ps are_read =
    let parts = each-parts (process_of nodes) i raw raws ps are_read in
    ap (map (λ (p : Process). p.name)) parts.2
    ∙ rw (called nodes i raw parts.0 parts.3, all_called nodes (i + 1) raws parts.1 parts.4) refl

-- the names of an order are read as they are
pub names_read : (names : List (List ℕ)) (order : List ℕ) → AllByRecursion IsRead names →
    All (λ p. p < length names) order
    → as_names (array (items_of (map (λ p. string (get_or names p [])) order)))
    ≡ Some (map (λ p. get_or names p []) order)
names_read names order are below = go order (all_by_recursion (λ p. p < length names) order below)
  where
    -- name after name of the order is read as the text that the document has for it
    go : (order : List ℕ) → AllByRecursion (λ p. p < length names) order →
        items_as as_name (items_of (map (λ p. string (get_or names p [])) order))
        ≡ Some (map (λ p. get_or names p []) order)
    go [] all_below = refl
    go (p ∷ ps) are_below =
        let here : IsRead (get_or names p []) = All-from_recursion IsRead names are p [] are_below.0 in
        rw (here, go ps are_below.1) refl
