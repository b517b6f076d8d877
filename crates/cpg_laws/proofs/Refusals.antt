-- The faults of a graph file rise: each is of an earlier kind, or at an earlier place, than those after it in the list.
-- So the refusal, by the first of the list, is by the first of all.
use Rattle.std.proofs.Common.{◌≡◌, ℕ, zero, suc, ◌+◌, ◌<◌, ◌≤◌, ◌⊎◌, Bool, true, false, not, List, [], ◌∷◌, ◌++◌, ◌&&◌}
use Rattle.std.proofs.Common.{Ok, Err, Contains, AllPairs, length, get_or, map, position, is_some, unwrap_or}
use Rattle.std.proofs.Common.{refl, ◌∙◌, subst, inl, inr, arith}
use Rattle.std.specs.Prelude.{bytes_eq, nat_le}
use Rattle.std.specs.List.{list_any, list_all}
use Rattle.std.proofs.lemmas.Bool.{and_parts, leb-true}
use Rattle.toml.specs.Data.{Members}
use Rattle.cpg_base.specs.declared.limits.TheConstants.{MOST_NODES, MOST_PROCESSES, MOST_EDGES, MOST_CONDITIONS}
use Rattle.cpg_reader.specs.declared.place.Table.{Table}
use Rattle.cpg_reader.specs.declared.place.Table.TheVariants as tables
use Rattle.cpg_reader.specs.declared.place.Key.{Key}
use Rattle.cpg_reader.specs.declared.place.Key.TheVariants.{Node, Slot, Process, Edge, Name, From, To, Unknown}
use Rattle.cpg_reader.specs.declared.place.What.TheVariants.{Nodes, Slots, Processes, Edges, Number, Conditions}
use Rattle.cpg_reader.specs.declared.place.ReadFault.{ReadFault}
use Rattle.cpg_reader.specs.declared.place.ReadFault.TheVariants.{NotToml, BadField, DoubleName, UnknownName, OverLimit}
use Rattle.cpg_reader.specs.declared.place.ReadFault.TheVariants.{OutOfMemory}
use Rattle.cpg_reader.specs.declared.ranges.BoundedField.{BoundedField}
use Rattle.cpg_reader.specs.declared.shape.RawEdge.{RawEdge}
use Rattle.cpg_reader.specs.Reading.{Reading}
use Rattle.cpg_reader.specs.Rows.{DocumentRow, place_in, value_at, are_listed}
use Rattle.cpg_reader.specs.Shape.{RawGraph, read_raw}
use Rattle.cpg_reader.specs.Ranges.{top_numbers, slot_numbers, process_numbers, edge_numbers, is_within, sources}
use Rattle.cpg_reader.specs.Ranges.{different}
use Rattle.cpg_reader.specs.Names.{place, slot_names, process_names}
use Rattle.cpg_reader.specs.Document.{document_of, problem_of}
use Rattle.cpg_laws.specs.GraphFiles.{unless, of_each, Field, is_good_value, top_fields, node_fields, slot_fields}
use Rattle.cpg_laws.specs.GraphFiles.{process_fields, edge_fields, bad_fields, bad_in, top_of, elements, bad_elements}
use Rattle.cpg_laws.specs.GraphFiles.{field_faults, out_of_range, all_out_of_range, limit_faults, doubles_from}
use Rattle.cpg_laws.specs.GraphFiles.{differ_from, order_place, double_faults, is_known, unknown, unknown_ends}
use Rattle.cpg_laws.specs.GraphFiles.{unknown_faults, graph_faults, document_faults, faults_of, IsFirst}
use Rattle.cpg_laws.specs.Refusals.{kind_of, table_number, name_table, position_of, fault_numbers_of, IsEarlier}
use Rattle.cpg_laws.specs.Refusals.{ComesBefore, IsFirstOf, RefusalsAreFirst}
use Rattle.cpg_laws.proofs.GraphFiles.{graph_files_show_first_faults}

-- ---- the order

-- If rank `a` is earlier than `b`, and `b` than `c`, then `a` is earlier than `c`. By induction on the three lists: the
-- first number that differs in either step decides.
earlier_than_both : (a b c : List ℕ) → IsEarlier a b → IsEarlier b c → IsEarlier a c
earlier_than_both a b [] first_step second_step = absurd second_step
earlier_than_both a [] (z ∷ c) first_step second_step = absurd first_step
earlier_than_both [] (y ∷ b) (z ∷ c) first_step second_step = tt
earlier_than_both (x ∷ a) (y ∷ b) (z ∷ c) (inl first_step) (inl second_step) =
    inl (omega (arith, first_step, second_step))
earlier_than_both (x ∷ a) (y ∷ b) (z ∷ c) (inl first_step) (inr second_step) =
    inl (let same = second_step.0 in omega (arith, first_step, same))
earlier_than_both (x ∷ a) (y ∷ b) (z ∷ c) (inr first_step) (inl second_step) =
    inl (let same = first_step.0 in omega (arith, second_step, same))
earlier_than_both (x ∷ a) (y ∷ b) (z ∷ c) (inr first_step) (inr second_step) =
    inr (first_step.0 ∙ second_step.0, earlier_than_both a b c first_step.1 second_step.1)

-- no rank is earlier than itself
not_itself : (a : List ℕ) → IsEarlier a a → ⊥
not_itself [] earlier = earlier
not_itself (x ∷ a) (inl earlier) = omega (arith, earlier)
not_itself (x ∷ a) (inr earlier) = not_itself a earlier.1

-- The rank of a fault: its kind, and then what it is compared by in its kind. So `1 ∷ table ∷ element ∷ key` is a bad field,
-- `2 ∷ what` a limit, with `4 ∷ table ∷ element ∷ key` for a number, and 3 and 4 are names, twice and unknown. A shorter list
-- comes before those that go on after it, so it is a bound below them.
abbrev rank_of : ReadFault → List ℕ
rank_of fault = kind_of fault ∷ fault_numbers_of fault

-- ---- faults that rise between two bounds

-- these faults come one after another by their ranks, all above a low one and below a high one
abbrev Rise : List ℕ → List ReadFault → List ℕ → Type 0
Rise low [] high = IsEarlier low high
Rise low (fault ∷ faults) high = IsEarlier low (rank_of fault) × Rise (rank_of fault) faults high

-- faults that rise from above one rank do so from above any lower one
from_below : (lower low high : List ℕ) (faults : List ReadFault) → IsEarlier lower low → Rise low faults high →
    Rise lower faults high
from_below lower low high [] lower_first rise = earlier_than_both lower low high lower_first rise
from_below lower low high (fault ∷ faults) lower_first rise =
    (earlier_than_both lower low (rank_of fault) lower_first rise.0, rise.1)

-- faults that rise to below one rank do so to below any higher one
to_above : (low high higher : List ℕ) (faults : List ReadFault) → Rise low faults high → IsEarlier high higher →
    Rise low faults higher
to_above low high higher [] rise higher_last = earlier_than_both low high higher rise higher_last
to_above low high higher (fault ∷ faults) rise higher_last =
    (rise.0, to_above (rank_of fault) high higher faults rise.1 higher_last)

-- two lists of rising faults, one behind the other, rise
joined : (low middle high : List ℕ) (faults others : List ReadFault) → Rise low faults middle →
    Rise middle others high →
    Rise low (faults ++ others) high
joined low middle high [] others first_rise second_rise = from_below low middle high others first_rise second_rise
joined low middle high (fault ∷ faults) others first_rise second_rise =
    (first_rise.0, joined (rank_of fault) middle high faults others first_rise.1 second_rise)

-- a fault that may be missing stands before faults that rise
one_more : (b : Bool) (fault : ReadFault) (faults : List ReadFault) (low high : List ℕ) →
    IsEarlier low (rank_of fault) → Rise (rank_of fault) faults high →
    Rise low (unless b fault ++ faults) high
one_more true fault faults low high after_low rest_rises =
    from_below low (rank_of fault) high faults after_low rest_rises
one_more false fault faults low high after_low rest_rises = (after_low, rest_rises)

-- a fault that may be missing, by itself, rises
one : (b : Bool) (fault : ReadFault) (low high : List ℕ) → IsEarlier low (rank_of fault) →
    IsEarlier (rank_of fault) high →
    Rise low (unless b fault) high
one true fault low high after_low before_high = earlier_than_both low (rank_of fault) high after_low before_high
one false fault low high after_low before_high = (after_low, before_high)

-- if the faults of each element `x` rise from bound `at i` to `at (i + 1)`, for its number `i`, those of `xs`, numbered
-- from `i`, rise from `at i` to any bound `high` above all these
each_rises : {T : Type 0} (at : ℕ → List ℕ) (high : List ℕ) (faults : ℕ → T → List ReadFault) →
    ((i : ℕ) (x : T) → Rise (at i) (faults i x) (at (i + 1))) →
    ((i : ℕ) → IsEarlier (at i) high) →
    (i : ℕ) (xs : List T) → Rise (at i) (of_each faults i xs) high
each_rises at high faults each last i [] = last i
each_rises at high faults each last i (x ∷ xs) = joined (at i) (at (i + 1)) high (faults i x)
    (of_each faults (i + 1) xs) (each i x) (each_rises at high faults each last (i + 1) xs)

-- ---- the keys of one table

-- the positions of these keys rise from one on, and no key stands at or after that of an unknown one
abbrev are_in_order : Table → ℕ → List Key → Bool
are_in_order table p [] = nat_le p (position_of table Unknown)
are_in_order table p (key ∷ keys) =
    nat_le p (position_of table key) && are_in_order table (position_of table key + 1) keys

-- if `p + 1` is at most `q`, then `p` is less than `q`
after : (p q : ℕ) → p + 1 ≤ q → p < q
after p q later = omega (arith, later)

-- The faults of one row, from a bound before its keys from position p on.
-- By induction on the fields: each has a higher position than the one before it, and unknown keys come last.
fields_rise : (row : DocumentRow) (keys : List Key) (low : List ℕ) (p : ℕ) (fields : List Field) →
    ((q : ℕ) → p ≤ q → IsEarlier low (1 ∷ table_number row.table ∷ row.index ∷ q ∷ [])) →
    are_in_order row.table p (map (λ f. f.key) fields) ≡ true →
    Rise low (bad_fields row keys fields) (1 ∷ table_number row.table ∷ (row.index + 1) ∷ [])
fields_rise row keys low p [] next order = one (are_listed keys row.members) (BadField (place_in row Unknown)) low
    (1 ∷ table_number row.table ∷ (row.index + 1) ∷ [])
    (next (position_of row.table Unknown) (leb-true p (position_of row.table Unknown) order))
    (inr (refl, inr (refl, inl (omega arith))))
fields_rise row keys low p (f ∷ fields) next order =
    let (here, rest) = and_parts (nat_le p (position_of row.table f.key))
    (are_in_order row.table (position_of row.table f.key + 1) (map (λ f. f.key) fields)) order in
    one_more (is_good_value f (value_at row f.key)) (BadField (place_in row f.key)) (bad_fields row keys fields) low
    (1 ∷ table_number row.table ∷ (row.index + 1) ∷ [])
    (next (position_of row.table f.key) (leb-true p (position_of row.table f.key) here))
    (fields_rise row keys (1 ∷ table_number row.table ∷ row.index ∷ position_of row.table f.key ∷ [])
    (position_of row.table f.key + 1) fields
    (λ q later. inr (refl, inr (refl, inr (refl, inl (after (position_of row.table f.key) q later))))) rest)

-- the bad fields of a row rise by the order of its keys
row_rises : (row : DocumentRow) (fields : List Field) → are_in_order row.table 0 (map (λ f. f.key) fields) ≡ true →
    Rise (1 ∷ table_number row.table ∷ row.index ∷ []) (bad_in fields row)
    (1 ∷ table_number row.table ∷ (row.index + 1) ∷ [])
row_rises row fields order = fields_rise row (map (λ f. f.key) fields)
    (1 ∷ table_number row.table ∷ row.index ∷ []) 0 fields (λ q any. inr (refl, inr (refl, inr (refl, tt)))) order

-- The faults of the numbers of row `i` of a table rise, from a bound `low` before its keys from position `p` on, up to
-- the next row. By induction on the numbers: each has a higher position than the one before it.
numbers_rise : (table : Table) (i : ℕ) (low : List ℕ) (p : ℕ) (numbers : List BoundedField) →
    ((q : ℕ) → p ≤ q → IsEarlier low (2 ∷ 4 ∷ table_number table ∷ i ∷ q ∷ [])) →
    are_in_order table p (map (λ n. n.key) numbers) ≡ true →
    Rise low (out_of_range table i numbers) (2 ∷ 4 ∷ table_number table ∷ (i + 1) ∷ [])
numbers_rise table i low p [] next order = earlier_than_both low (2 ∷ 4 ∷ table_number table ∷ i ∷ p ∷ [])
    (2 ∷ 4 ∷ table_number table ∷ (i + 1) ∷ []) (next p (omega arith))
    (inr (refl, inr (refl, inr (refl, inl (omega arith)))))
numbers_rise table i low p (n ∷ numbers) next order =
    let (here, rest) = and_parts (nat_le p (position_of table n.key))
    (are_in_order table (position_of table n.key + 1) (map (λ n. n.key) numbers)) order in
    one_more (is_within n.low n.high n.value) (OverLimit (Number (record { table = table; index = i; key = n.key })))
    (out_of_range table i numbers) low (2 ∷ 4 ∷ table_number table ∷ (i + 1) ∷ [])
    (next (position_of table n.key) (leb-true p (position_of table n.key) here))
    (numbers_rise table i (2 ∷ 4 ∷ table_number table ∷ i ∷ position_of table n.key ∷ [])
    (position_of table n.key + 1) numbers
    (λ q later. inr (refl, inr (refl, inr (refl, inr (refl, inl (after (position_of table n.key) q later)))))) rest)

-- the numbers out of range of a row rise by the order of its keys
number_row_rises : (table : Table) (i : ℕ) (numbers : List BoundedField) →
    are_in_order table 0 (map (λ n. n.key) numbers) ≡ true →
    Rise (2 ∷ 4 ∷ table_number table ∷ i ∷ []) (out_of_range table i numbers)
    (2 ∷ 4 ∷ table_number table ∷ (i + 1) ∷ [])
number_row_rises table i numbers order = numbers_rise table i (2 ∷ 4 ∷ table_number table ∷ i ∷ []) 0 numbers
    (λ q any. inr (refl, inr (refl, inr (refl, inr (refl, tt))))) order

-- ---- the kinds

-- The bad fields of a table's elements rise, element by element.
-- Those of each row rise below the next element's number.
elements_rise : (table : Table) (fields : List Field) (members : List Members) →
    are_in_order table 0 (map (λ f. f.key) fields) ≡ true →
    Rise (1 ∷ table_number table ∷ []) (bad_elements table fields members) (1 ∷ (table_number table + 1) ∷ [])
elements_rise table fields members order = from_below (1 ∷ table_number table ∷ []) (1 ∷ table_number table ∷ 0 ∷ [])
    (1 ∷ (table_number table + 1) ∷ []) (bad_elements table fields members)
    (inr (refl, inr (refl, tt)))
    (each_rises (λ i. 1 ∷ table_number table ∷ i ∷ []) (1 ∷ (table_number table + 1) ∷ [])
    (λ i ms. bad_in fields (record { table = table; index = i; members = ms }))
    (λ i ms. row_rises (record { table = table; index = i; members = ms }) fields order)
    (λ i. inr (refl, inl (omega arith))) 0 members)

-- All bad fields of a document rise, table by table.
-- The top, nodes, slots, processes and edges, joined at the bounds between them.
field_faults_rise : (ms : Members) → Rise (1 ∷ []) (field_faults ms) (2 ∷ [])
field_faults_rise ms =
    -- the top, whose bad fields begin with 1 ∷ 0
    joined (1 ∷ []) (1 ∷ 1 ∷ []) (2 ∷ []) _ _
    (from_below (1 ∷ []) (1 ∷ 0 ∷ 0 ∷ []) (1 ∷ 1 ∷ []) (bad_in top_fields (top_of ms)) (inr (refl, tt))
    (to_above (1 ∷ 0 ∷ 0 ∷ []) (1 ∷ 0 ∷ 1 ∷ []) (1 ∷ 1 ∷ []) (bad_in top_fields (top_of ms))
    (row_rises (top_of ms) top_fields refl) (inr (refl, inl (omega arith)))))
    -- then nodes, with 1 ∷ 1
    (joined (1 ∷ 1 ∷ []) (1 ∷ 2 ∷ []) (2 ∷ []) _ _ (elements_rise tables.Node node_fields (elements ms Node) refl)
    -- then slots, with 1 ∷ 2
    (joined (1 ∷ 2 ∷ []) (1 ∷ 3 ∷ []) (2 ∷ []) _ _ (elements_rise tables.Slot slot_fields (elements ms Slot) refl)
    -- then processes, and last edges
    (joined (1 ∷ 3 ∷ []) (1 ∷ 4 ∷ []) (2 ∷ []) _ _
    (elements_rise tables.Process process_fields (elements ms Process) refl)
    (to_above (1 ∷ 4 ∷ []) (1 ∷ 5 ∷ []) (2 ∷ []) _ (elements_rise tables.Edge edge_fields (elements ms Edge) refl)
    (inl (omega arith))))))

-- the numbers out of range of the elements `xs` of `table` rise, element by element, if those of each element are in
-- order of their keys
number_rows_rise : {T : Type 0} (table : Table) (numbers : T → List BoundedField) (xs : List T) →
    ((x : T) → are_in_order table 0 (map (λ n. n.key) (numbers x)) ≡ true) →
    Rise (2 ∷ 4 ∷ table_number table ∷ []) (all_out_of_range table numbers xs) (2 ∷ 4 ∷ (table_number table + 1) ∷ [])
number_rows_rise table numbers xs order = from_below (2 ∷ 4 ∷ table_number table ∷ [])
    (2 ∷ 4 ∷ table_number table ∷ 0 ∷ []) (2 ∷ 4 ∷ (table_number table + 1) ∷ [])
    (all_out_of_range table numbers xs) (inr (refl, inr (refl, inr (refl, tt))))
    (each_rises (λ i. 2 ∷ 4 ∷ table_number table ∷ i ∷ []) (2 ∷ 4 ∷ (table_number table + 1) ∷ [])
    (λ i x. out_of_range table i (numbers x)) (λ i x. number_row_rises table i (numbers x) (order x))
    (λ i. inr (refl, inr (refl, inl (omega arith)))) 0 xs)

-- the limit faults of a document come in the order of their ranks: the counts, the numbers out of range, and then the
-- count of conditions
limit_faults_rise : (g : RawGraph) → Rise (2 ∷ []) (limit_faults g) (3 ∷ [])
limit_faults_rise g =
    -- the four counts
    one_more (nat_le (length g.nodes) MOST_NODES) (OverLimit Nodes) _ (2 ∷ []) (3 ∷ []) (inr (refl, tt))
    (one_more (nat_le (length g.slots) MOST_NODES) (OverLimit Slots) _ (2 ∷ 0 ∷ []) (3 ∷ [])
    (inr (refl, inl (omega arith)))
    (one_more (nat_le (length g.processes) MOST_PROCESSES) (OverLimit Processes) _ (2 ∷ 1 ∷ []) (3 ∷ [])
    (inr (refl, inl (omega arith)))
    (one_more (nat_le (length g.edges) MOST_EDGES) (OverLimit Edges) _ (2 ∷ 2 ∷ []) (3 ∷ [])
    (inr (refl, inl (omega arith)))
    -- the numbers of the top
    (joined (2 ∷ 3 ∷ []) (2 ∷ 4 ∷ 2 ∷ []) (3 ∷ []) _ _
    (from_below (2 ∷ 3 ∷ []) (2 ∷ 4 ∷ 0 ∷ 0 ∷ []) (2 ∷ 4 ∷ 2 ∷ []) (out_of_range tables.Top 0 (top_numbers g))
    (inr (refl, inl (omega arith)))
    (to_above (2 ∷ 4 ∷ 0 ∷ 0 ∷ []) (2 ∷ 4 ∷ 0 ∷ 1 ∷ []) (2 ∷ 4 ∷ 2 ∷ []) (out_of_range tables.Top 0 (top_numbers g))
    (number_row_rises tables.Top 0 (top_numbers g) refl)
    (inr (refl, inr (refl, inl (omega arith))))))
    -- those of slots
    (joined (2 ∷ 4 ∷ 2 ∷ []) (2 ∷ 4 ∷ 3 ∷ []) (3 ∷ []) _ _
    (number_rows_rise tables.Slot slot_numbers g.slots (λ s. refl))
    -- those of processes
    (joined (2 ∷ 4 ∷ 3 ∷ []) (2 ∷ 4 ∷ 4 ∷ []) (3 ∷ []) _ _
    (number_rows_rise tables.Process process_numbers g.processes (λ p. refl))
    -- those of edges, and last the count of conditions
    (joined (2 ∷ 4 ∷ 4 ∷ []) (2 ∷ 4 ∷ 5 ∷ []) (3 ∷ []) _ _
    (number_rows_rise tables.Edge edge_numbers g.edges (λ e. refl))
    (one (nat_le (length (different [] (sources g.edges))) MOST_CONDITIONS) (OverLimit Conditions) (2 ∷ 4 ∷ 5 ∷ [])
    (3 ∷ []) (inr (refl, inl (omega arith))) (inl (omega arith))))))))))

-- The double names of a list rise by their places.
-- By induction on the names: each has a higher index than the one before it.
doubles_rise : (table : Table) (key : Key) (i : ℕ) (before names : List (List ℕ)) →
    Rise (3 ∷ name_table table ∷ i ∷ []) (doubles_from table key i before names) (3 ∷ (name_table table + 1) ∷ [])
doubles_rise table key i before [] = inr (refl, inl (omega arith))
doubles_rise table key i before (name ∷ names) = one_more (not (list_any (bytes_eq name) before))
    (DoubleName (place table i key)) (doubles_from table key (i + 1) (before ++ name ∷ []) names)
    (3 ∷ name_table table ∷ i ∷ []) (3 ∷ (name_table table + 1) ∷ []) (inr (refl, inr (refl, inr (refl, tt))))
    (from_below (3 ∷ name_table table ∷ i ∷ position_of table key ∷ []) (3 ∷ name_table table ∷ (i + 1) ∷ [])
    (3 ∷ (name_table table + 1) ∷ [])
    (doubles_from table key (i + 1) (before ++ name ∷ []) names) (inr (refl, inr (refl, inl (omega arith))))
    (doubles_rise table key (i + 1) (before ++ name ∷ []) names))

-- All double names of a document rise.
-- Nodes, slots and processes, joined at the bounds between them, and then that of the order.
double_faults_rise : (g : RawGraph) → Rise (3 ∷ []) (double_faults g) (4 ∷ [])
double_faults_rise g =
    -- nodes
    joined (3 ∷ []) (3 ∷ 2 ∷ 0 ∷ []) (4 ∷ []) _ _
    (from_below (3 ∷ []) (3 ∷ 1 ∷ 0 ∷ []) (3 ∷ 2 ∷ 0 ∷ []) (doubles_from tables.Node Name 0 [] g.nodes) (inr (refl, tt))
    (to_above (3 ∷ 1 ∷ 0 ∷ []) (3 ∷ 2 ∷ []) (3 ∷ 2 ∷ 0 ∷ []) (doubles_from tables.Node Name 0 [] g.nodes)
    (doubles_rise tables.Node Name 0 [] g.nodes) (inr (refl, inr (refl, tt)))))
    -- then slots
    (joined (3 ∷ 2 ∷ 0 ∷ []) (3 ∷ 3 ∷ 0 ∷ []) (4 ∷ []) _ _
    (to_above (3 ∷ 2 ∷ 0 ∷ []) (3 ∷ 3 ∷ []) (3 ∷ 3 ∷ 0 ∷ []) (doubles_from tables.Slot Node 0 [] (slot_names g.slots))
    (doubles_rise tables.Slot Node 0 [] (slot_names g.slots))
    (inr (refl, inr (refl, tt))))
    -- then processes, and last the order
    (joined (3 ∷ 3 ∷ 0 ∷ []) (3 ∷ 4 ∷ []) (4 ∷ []) _ _
    (doubles_rise tables.Process Name 0 [] (process_names g.processes))
    (one (differ_from [] (unwrap_or g.order [])) (DoubleName order_place) (3 ∷ 4 ∷ []) (4 ∷ [])
    (inr (refl, inl (omega arith))) (inl (omega arith)))))

-- a name that isn't known rises by itself
unknown_rises : (names : List (List ℕ)) (name : List ℕ) (table : Table) (key : Key) (i : ℕ) →
    Rise (4 ∷ name_table table ∷ i ∷ []) (unknown names name table i key) (4 ∷ name_table table ∷ (i + 1) ∷ [])
unknown_rises names name table key i = one (is_some (position (bytes_eq name) names)) (UnknownName (place table i key))
    (4 ∷ name_table table ∷ i ∷ []) (4 ∷ name_table table ∷ (i + 1) ∷ [])
    (inr (refl, inr (refl, inr (refl, tt)))) (inr (refl, inr (refl, inl (omega arith))))

-- the unknown ends of `e`, edge `i`, rise: the source before the target
ends_rise : (names : List (List ℕ)) (i : ℕ) (e : RawEdge) →
    Rise (4 ∷ 4 ∷ i ∷ []) (unknown_ends names i e) (4 ∷ 4 ∷ (i + 1) ∷ [])
ends_rise names i e = one_more (is_some (position (bytes_eq e.from) names)) (UnknownName (place tables.Edge i From))
    (unknown names e.to tables.Edge i To) (4 ∷ 4 ∷ i ∷ []) (4 ∷ 4 ∷ (i + 1) ∷ [])
    (inr (refl, inr (refl, inr (refl, tt))))
    (one (is_some (position (bytes_eq e.to) names)) (UnknownName (place tables.Edge i To)) (4 ∷ 4 ∷ i ∷ 0 ∷ [])
    (4 ∷ 4 ∷ (i + 1) ∷ []) (inr (refl, inr (refl, inr (refl, inl (omega arith)))))
    (inr (refl, inr (refl, inl (omega arith)))))

-- All unknown names of a document rise.
-- Slots, processes and edges, joined at the bounds between them, and then that of the order.
unknown_faults_rise : (g : RawGraph) → Rise (4 ∷ []) (unknown_faults g) (5 ∷ [])
unknown_faults_rise g =
    -- slots
    joined (4 ∷ []) (4 ∷ 3 ∷ 0 ∷ []) (5 ∷ []) _ _
    (from_below (4 ∷ []) (4 ∷ 2 ∷ 0 ∷ []) (4 ∷ 3 ∷ 0 ∷ []) _ (inr (refl, tt))
    (each_rises (λ i. 4 ∷ 2 ∷ i ∷ []) (4 ∷ 3 ∷ 0 ∷ []) (λ i s. unknown g.nodes s.node tables.Slot i Node)
    (λ i s. unknown_rises g.nodes s.node tables.Slot Node i)
    (λ i. inr (refl, inl (omega arith))) 0 g.slots))
    -- then processes
    (joined (4 ∷ 3 ∷ 0 ∷ []) (4 ∷ 4 ∷ 0 ∷ []) (5 ∷ []) _ _
    (each_rises (λ i. 4 ∷ 3 ∷ i ∷ []) (4 ∷ 4 ∷ 0 ∷ []) (λ i p. unknown g.nodes p.node tables.Process i Node)
    (λ i p. unknown_rises g.nodes p.node tables.Process Node i)
    (λ i. inr (refl, inl (omega arith))) 0 g.processes)
    -- then edges, and last the order
    (joined (4 ∷ 4 ∷ 0 ∷ []) (4 ∷ 5 ∷ []) (5 ∷ []) _ _
    (each_rises (λ i. 4 ∷ 4 ∷ i ∷ []) (4 ∷ 5 ∷ []) (unknown_ends (process_names g.processes))
    (ends_rise (process_names g.processes)) (λ i. inr (refl, inl (omega arith))) 0 g.edges)
    (one (list_all (is_known (process_names g.processes)) (unwrap_or g.order [])) (UnknownName order_place) (4 ∷ 5 ∷ [])
    (5 ∷ []) (inr (refl, inr (refl, tt))) (inl (omega arith)))))

-- ---- all faults

-- the faults of a document whose fields are good rise
graph_faults_rise : (r : Reading RawGraph) → Rise (2 ∷ []) (graph_faults r) (6 ∷ [])
graph_faults_rise (Err fault) = inl (omega arith)
graph_faults_rise (Ok g) = joined (2 ∷ []) (3 ∷ []) (6 ∷ []) _ _ (limit_faults_rise g)
    (joined (3 ∷ []) (4 ∷ []) (6 ∷ []) _ _ (double_faults_rise g)
    (to_above (4 ∷ []) (5 ∷ []) (6 ∷ []) _ (unknown_faults_rise g) (inl (omega arith))))

-- each fault is of one of the kinds that there are
is_some_kind : (fault : ReadFault) → IsEarlier (rank_of fault) (6 ∷ [])
is_some_kind NotToml = inl (omega arith)
is_some_kind (BadField p) = inl (omega arith)
is_some_kind (OverLimit w) = inl (omega arith)
is_some_kind (DoubleName p) = inl (omega arith)
is_some_kind (UnknownName p) = inl (omega arith)
is_some_kind OutOfMemory = inl (omega arith)

-- all faults of a document rise
document_faults_rise : (r : Reading Members) → Rise [] (document_faults r) (6 ∷ [])
document_faults_rise (Err fault) = (tt, is_some_kind fault)
document_faults_rise (Ok ms) = joined [] (2 ∷ []) (6 ∷ []) (field_faults ms) (graph_faults (read_raw ms))
    (from_below [] (1 ∷ []) (2 ∷ []) (field_faults ms) tt (field_faults_rise ms))
    (graph_faults_rise (read_raw ms))

-- ---- what stands in a list that rises

-- given the bound below which the faults rise
module _ (high : List ℕ) where
  -- each of some rising faults is later than what is below the first
  all_later : (low : List ℕ) (faults : List ReadFault) → Rise low faults high → (fault : ReadFault) →
      Contains faults fault →
      IsEarlier low (rank_of fault)
  all_later low [] rise fault within = absurd (let inside = within.1 in omega (arith, inside))
  all_later low (f ∷ faults) rise fault (zero, inside, is) = subst (λ z. IsEarlier low (rank_of z)) is rise.0
  all_later low (f ∷ faults) rise fault (suc k, inside, is) = earlier_than_both low (rank_of f) (rank_of fault) rise.0
      (all_later (rank_of f) faults rise.1 fault (k, omega (arith, inside), is))

  -- each rising fault is later than what is below the first
  later_at : (low : List ℕ) (faults : List ReadFault) → Rise low faults high → (j : ℕ) (d : ReadFault) →
      j < length faults →
      IsEarlier low (rank_of (get_or faults j d))
  later_at low [] rise j d inside = absurd (omega (arith, inside))
  later_at low (f ∷ faults) rise zero d inside = rise.0
  later_at low (f ∷ faults) rise (suc j) d inside =
      earlier_than_both low (rank_of f) (rank_of (get_or faults j d)) rise.0
      (later_at (rank_of f) faults rise.1 j d (omega (arith, inside)))

  -- of each two the first comes before the second
  pairs_rise : (low : List ℕ) (faults : List ReadFault) → Rise low faults high → AllPairs ComesBefore faults
  pairs_rise low [] rise i j d i_before_j j_inside = absurd (omega (arith, j_inside))
  pairs_rise low (f ∷ faults) rise zero zero d i_before_j j_inside = absurd (omega (arith, i_before_j))
  pairs_rise low (f ∷ faults) rise zero (suc j) d i_before_j j_inside =
      later_at (rank_of f) faults rise.1 j d (omega (arith, j_inside))
  pairs_rise low (f ∷ faults) rise (suc i) zero d i_before_j j_inside = absurd (omega (arith, i_before_j))
  pairs_rise low (f ∷ faults) rise (suc i) (suc j) d i_before_j j_inside =
      pairs_rise (rank_of f) faults rise.1 i j d (omega (arith, i_before_j)) (omega (arith, j_inside))

-- ---- the first fault

-- a fault of a rising list is its first one or comes after that
first_or_same : (low high : List ℕ) (f : ReadFault) (faults : List ReadFault) → Rise low (f ∷ faults) high →
    (fault : ReadFault) → Contains (f ∷ faults) fault →
    (f ≡ fault) ⊎ ComesBefore f fault
first_or_same low high f faults rise fault (zero, inside, is) = inl is
first_or_same low high f faults rise fault (suc k, inside, is) =
    inr (all_later high (rank_of f) faults rise.1 fault (k, omega (arith, inside), is))

-- a fault of a rising list is of no earlier kind than the first
no_earlier_kind : (f fault : ReadFault) → (f ≡ fault) ⊎ ComesBefore f fault → kind_of f ≤ kind_of fault
no_earlier_kind f fault (inl same) = subst (λ z. kind_of f ≤ kind_of z) same (omega arith)
no_earlier_kind f fault (inr (inl less)) = omega (arith, less)
no_earlier_kind f fault (inr (inr later)) = let same = later.0 in omega (arith, same)

-- a fault of a rising list doesn't come before the first
no_earlier_place : (f fault : ReadFault) → (f ≡ fault) ⊎ ComesBefore f fault → ComesBefore fault f → ⊥
no_earlier_place f fault (inl same) earlier = not_itself (rank_of fault) (subst (λ z. ComesBefore fault z) same earlier)
no_earlier_place f fault (inr later) earlier =
    not_itself (rank_of f) (earlier_than_both (rank_of f) (rank_of fault) (rank_of f) later earlier)

-- the first fault is in the list
here : (f : ReadFault) (faults : List ReadFault) → Contains (f ∷ faults) f
here f faults = (0, omega arith, refl)

-- the first of rising faults is the first of all
head_is_first : (low high : List ℕ) (f : ReadFault) (faults : List ReadFault) → Rise low (f ∷ faults) high →
    IsFirstOf (Contains (f ∷ faults)) f
head_is_first low high f faults rise = record {
  stands = here f faults;
  kinds = λ other listed. no_earlier_kind f other (first_or_same low high f faults rise other listed);
  places =
      λ other listed same earlier. no_earlier_place f other (first_or_same low high f faults rise other listed)
      (inr (same, earlier));
}

-- a reading that is refused by the first of rising faults is refused by the first of all
told_is_first : {T : Type 0} (low high : List ℕ) (faults : List ReadFault) (r : Reading T) → Rise low faults high →
    IsFirst faults r → (fault : ReadFault) → r ≡ Err fault →
    IsFirstOf (Contains faults) fault
told_is_first low high [] r rise told fault refused = absurd (let ok = told.1 in cc)
told_is_first low high (f ∷ faults) r rise told fault refused =
    subst (IsFirstOf (Contains (f ∷ faults))) (let same : f ≡ fault = cc in same) (head_is_first low high f faults rise)

-- A reading that is refused by the first of rising faults is refused by whichever is the first of all.
-- The first of the list comes before any other, so the first of all is it.
first_is_told : {T : Type 0} (low high : List ℕ) (faults : List ReadFault) (r : Reading T) → Rise low faults high →
    IsFirst faults r → (fault : ReadFault) →
    IsFirstOf (Contains faults) fault →
    r ≡ Err fault
first_is_told low high [] r rise told fault first = absurd (let inside = first.stands.1 in omega (arith, inside))
first_is_told low high (f ∷ faults) r rise told fault first =
    by (first_or_same low high f faults rise fault first.stands)
  where
    -- by whether the fault that is told is the first one, or comes before it, which none does
    by : (f ≡ fault) ⊎ ComesBefore f fault → r ≡ Err fault
    by (inl same) = subst (λ z. r ≡ Err z) same told
    by (inr (inl less)) = absurd (let le = first.kinds f (here f faults) in omega (arith, less, le))
    by (inr (inr earlier_place)) = absurd (first.places f (here f faults) earlier_place.0 earlier_place.1)

-- A graph file is rejected by the one fault that stands before all others.
-- It is refused by the first in the list, and the list rises.
pub refusals_are_first : RefusalsAreFirst
refusals_are_first bytes =
    let rise = document_faults_rise (document_of bytes) in
    let told = graph_files_show_first_faults bytes in
    record {
      first = λ fault. (
        told_is_first [] (6 ∷ []) (faults_of bytes) (problem_of bytes) rise told fault,
        first_is_told [] (6 ∷ []) (faults_of bytes) (problem_of bytes) rise told fault,
      );
      rise = pairs_rise (6 ∷ []) [] (faults_of bytes) rise;
    }
