-- The graph that is read from a document with the names of an order at its key `order`.
use Rattle.std.proofs.Common.{◌≡◌, ℕ, false, List, [], ◌∷◌, Option, Some, Ok, refl, ap, ◌∙◌, subst, codes, unwrap_or}
use Rattle.std.proofs.Common.{inl, inr}
use Rattle.std.specs.List.{AllByRecursion}
use Rattle.std.proofs.lemmas.Bool.{cases_Bool}
use Rattle.std.specs.Ordering.{nat_cmp}
use Rattle.std.specs.Cmp.Lexicographic.{slice_cmp}
use Rattle.toml.specs.Data.{Data, Members, as_integer}
use Rattle.cpg_reader.specs.declared.place.Table.TheVariants as tables
use Rattle.cpg_reader.specs.declared.place.Key.{Key}
use Rattle.cpg_reader.specs.declared.place.Key.TheVariants.{Faults, Deadline, Node, Slot, Process as Processes, Edge}
use Rattle.cpg_reader.specs.declared.place.Key.TheVariants.{Order}
use Rattle.cpg_reader.specs.Reading.{pure, ◌>>=◌}
use Rattle.cpg_reader.specs.Rows.{DocumentRow, text_of, as_names, as_tables, optional_in, optional, required_in}
use Rattle.cpg_reader.specs.Rows.{read_integer, read_array, are_listed, only}
use Rattle.cpg_reader.specs.Shape.{RawGraph, read_process, read_rows, read_node, read_slot, read_edge, read_raw}
use Rattle.cpg_reader.specs.WrittenTree.{with_member}
use Rattle.cpg_reader.proofs.Steps.{same_ok}
use Rattle.cpg_given_laws.proofs.Opened.{opened, passed_on}
use Rattle.cpg_reader.specs.Names.{process_names}
use Rattle.cpg_given_laws.proofs.Names.{IsRead, read_processes}
use Rattle.cpg_given_laws.proofs.Members.{Differs, other_key, own_key, still_listed}

-- the keys of the top
abbrev top_keys : List Key
top_keys = Faults ∷ Deadline ∷ Node ∷ Slot ∷ Processes ∷ Edge ∷ Order ∷ []

-- the top of a document as a row
abbrev top_of : Members → DocumentRow
top_of ms = record { table = tables.Top; index = 0; members = ms }

-- a document with other values at the key `order`
abbrev keyed : Data → Members → Members
keyed d ms = with_member (codes "order") d ms

module _ (d : Data) (ms : Members) where
  -- each other key has the same value, or none as before
  same_optional : {T : Type 0} (as_type : Data → Option T) (key : Key) →
      Differs (slice_cmp nat_cmp (text_of key) (codes "order")) →
      optional as_type (top_of (keyed d ms)) key ≡ optional as_type (top_of ms) key
  unfolding optional
  same_optional as_type key differs =
      ap (optional_in (top_of ms) key as_type) (other_key (codes "order") d (text_of key) ms differs)

  -- each other key reads the same integer
  same_integer : (key : Key) → Differs (slice_cmp nat_cmp (text_of key) (codes "order")) →
      read_integer (top_of (keyed d ms)) key ≡ read_integer (top_of ms) key
  unfolding read_integer
  same_integer key differs = ap (λ found. found >>= required_in (top_of ms) key) (same_optional as_integer key differs)

  -- every other key has the same list of tables
  same_tables : (key : Key) → Differs (slice_cmp nat_cmp (text_of key) (codes "order")) →
      read_array (top_of (keyed d ms)) key ≡ read_array (top_of ms) key
  unfolding read_array
  same_tables key differs = ap (λ found. found >>= (λ o. pure (unwrap_or o []))) (same_optional as_tables key differs)

  -- the key `order` reads the names
  read_order : (names : List (List ℕ)) → as_names d ≡ Some names →
      optional as_names (top_of (keyed d ms)) Order ≡ Ok (Some names)
  unfolding optional
  read_order names is = rw (own_key (codes "order") d ms, is) refl

  -- if only keys of the top stand in the document, only such keys do with `order`
  still_only : (x : Unit {0}) → only top_keys (top_of ms) ≡ Ok x → only top_keys (top_of (keyed d ms)) ≡ Ok x
  unfolding only
  still_only x is_read = elim (cases_Bool (are_listed top_keys ms)) [
    | inl all ↦ rw (still_listed (codes "order") d top_keys refl ms all) refl
    | inr some ↦ absurd (refused is_read some)
  ]
    where
      -- what is excluded: a document with another key that is accepted
      refused : only top_keys (top_of ms) ≡ Ok x → are_listed top_keys ms ≡ false → ⊥
      refused is_read some = let read_none = rw some at is_read in cc

  -- A document says the same but for the order, whatever order it gave.
  -- The reader opens the document key by key. Each key but `order` reads as it did, and the key `order` reads as the
  -- names.
  pub raw_with : (r : RawGraph) (names : List (List ℕ)) → as_names d ≡ Some names → read_raw ms ≡ Ok r →
      read_raw (keyed d ms) ≡ Ok (record r { order = Some names })
  unfolding read_raw
  raw_with r names is is_read =
      -- what was read at each key
      opened (read_integer (top_of ms) Faults) _ r is_read λ faults faults_read rest.
      opened (read_integer (top_of ms) Deadline) _ r rest λ deadline deadline_read rest.
      opened (read_array (top_of ms) Node) _ r rest λ nodes nodes_read rest.
      opened (read_array (top_of ms) Slot) _ r rest λ slots slots_read rest.
      opened (read_array (top_of ms) Processes) _ r rest λ processes processes_read rest.
      opened (read_array (top_of ms) Edge) _ r rest λ edges edges_read rest.
      opened (optional as_names (top_of ms) Order) _ r rest λ old order_read rest.
      -- no other keys stand in the document
      passed_on (only top_keys (top_of ms)) _ r rest λ done only_top rest.
      -- the rows of the four tables
      opened (read_rows tables.Node read_node nodes) _ r rest λ ns node_rows rest.
      opened (read_rows tables.Slot read_slot slots) _ r rest λ ss slot_rows rest.
      opened (read_rows tables.Process read_process processes) _ r rest λ ps process_rows rest.
      opened (read_rows tables.Edge read_edge edges) _ r rest λ es edge_rows rest.
      rw (
        -- each key reads as it did, and `order` the names
        same_integer Faults tt ∙ faults_read,
        same_integer Deadline tt ∙ deadline_read,
        same_tables Node tt ∙ nodes_read,
        same_tables Slot tt ∙ slots_read,
        same_tables Processes tt ∙ processes_read,
        same_tables Edge tt ∙ edges_read,
        read_order names is,
        still_only done only_top,
        node_rows,
        slot_rows,
        process_rows,
        edge_rows,
      )
      (ap (λ (r : RawGraph). Ok (record r { order = Some names })) (same_ok _ r rest))

-- The names of the processes of `r`, which the document `ms` says, are read as names. The reader is opened step by step
-- up to the rows of the processes.
pub raw_processes : (ms : Members) (r : RawGraph) → read_raw ms ≡ Ok r →
    AllByRecursion IsRead (process_names r.processes)
unfolding read_raw
raw_processes ms r is_read =
    opened (read_integer (top_of ms) Faults) _ r is_read λ faults _ rest.
    opened (read_integer (top_of ms) Deadline) _ r rest λ deadline _ rest.
    opened (read_array (top_of ms) Node) _ r rest λ nodes _ rest.
    opened (read_array (top_of ms) Slot) _ r rest λ slots _ rest.
    opened (read_array (top_of ms) Processes) _ r rest λ processes _ rest.
    opened (read_array (top_of ms) Edge) _ r rest λ edges _ rest.
    opened (optional as_names (top_of ms) Order) _ r rest λ order _ rest.
    -- the document has no other key
    passed_on (only top_keys (top_of ms)) _ r rest λ _ _ rest.
    opened (read_rows tables.Node read_node nodes) _ r rest λ ns _ rest.
    opened (read_rows tables.Slot read_slot slots) _ r rest λ ss _ rest.
    -- the rows of processes, whose names are read
    opened (read_rows tables.Process read_process processes) _ r rest λ ps read rest.
    opened (read_rows tables.Edge read_edge edges) _ r rest λ es _ last.
    subst (λ (r : RawGraph). AllByRecursion IsRead (process_names r.processes)) (same_ok _ r last)
    (read_processes 0 processes ps read)
