-- The limit faults of a graph are those of its document.
use Rattle.std.proofs.Common.{◌≡◌, ℕ, zero, suc, ◌<◌, ℤ, pos, Bool, true, false, List, [], ◌∷◌, ◌++◌, Option, Some}
use Rattle.std.proofs.Common.{None, is_some, unwrap_or, option_and_then, option_map, Contains, length, map}
use Rattle.std.proofs.Common.{filter, cond, slice_get, refl, sym, ap, ◌∙◌, subst, inl, inr, true≢false, le-leb}
use Rattle.std.proofs.Common.{leb-false, arith}
use Rattle.std.specs.Prelude.{nat_le}
use Rattle.std.specs.List.{list_all}
use Rattle.std.proofs.lemmas.Bool.{and_parts, and_from, true_from_ne_false, lt-leb}
use Rattle.std.proofs.lemmas.List.{length-map}
use Rattle.std.proofs.lemmas.Option.{slice_get-map}
use Rattle.std.proofs.lemmas.List.Elements.{Contains-append_left, Contains-append_right}
use Rattle.toml.specs.Data.{Data, string, integer, float, boolean, datetime, array, table, Members, get_member}
use Rattle.toml.specs.Data.{as_integer, as_bool}
use Rattle.cpg_base.specs.declared.limits.TheConstants.{MOST_NODES, MOST_PROCESSES, MOST_EDGES, MOST_CONDITIONS}
use Rattle.cpg_base.proofs.Lists.{Contains-first, Contains-rest, Contains-cases, Contains-nil, slice_get-Contains}
use Rattle.cpg_reader.specs.declared.place.Table.{Table}
use Rattle.cpg_reader.specs.declared.place.Table.TheVariants as tables
use Rattle.cpg_reader.specs.declared.place.Key.{Key}
use Rattle.cpg_reader.specs.declared.place.Key.TheVariants.{Node, Slot, Process, Edge, When}
use Rattle.cpg_reader.specs.declared.place.What.{What}
use Rattle.cpg_reader.specs.declared.place.What.TheVariants.{Nodes, Slots, Processes, Edges, Number, Conditions}
use Rattle.cpg_reader.specs.declared.place.ReadFault.{ReadFault}
use Rattle.cpg_reader.specs.declared.place.ReadFault.TheVariants.{OverLimit}
use Rattle.cpg_reader.specs.declared.ranges.BoundedField.{BoundedField}
use Rattle.cpg_reader.specs.declared.shape.RawEdge.{RawEdge}
use Rattle.cpg_reader.specs.Rows.{text_of}
use Rattle.cpg_reader.specs.Ranges.{top_numbers, slot_numbers, process_numbers, edge_numbers, is_within, sources}
use Rattle.cpg_reader.specs.Ranges.{different}
use Rattle.cpg_laws.specs.GraphFiles.{unless, Field, is_good_value, flag, elements, too_many, out_of_range}
use Rattle.cpg_laws.specs.GraphFiles.{all_out_of_range, limit_faults}
use Rattle.cpg_laws.specs.DocumentFaults.{table_at, found_at, fields_of, HasGoodFields, Range, ranges_of}
use Rattle.cpg_laws.specs.DocumentFaults.{conditional_edges, source_name, IsOverLimit}
use Rattle.cpg_laws.proofs.DocumentValues.{integer_in, value_in, node_in, slot_in, process_in, edge_in, graph_in}
use Rattle.cpg_laws.proofs.FaultLists.{Each, each_joined, each_unless, each_of_each, unless_contains, stand_all}
use Rattle.cpg_laws.proofs.FaultLists.{of_each_contains, of_each_mapped}

-- ---- what stands at a place

-- in a document with good fields, what stands at each field `f` of row `i` of table `t` is good
pub good_value : (ms : Members) → HasGoodFields ms → (t : Table) (i : ℕ) (row : Members) → table_at ms t i ≡ Some row →
    (f : Field) →
    Contains (fields_of t) f →
    is_good_value f (get_member (text_of f.key) row) ≡ true
good_value ms good t i row at f within = true_from_ne_false (is_good_value f (get_member (text_of f.key) row))
    (λ not_good. good (record { table = t; index = i; key = f.key }) (row, at, inl (f, within, refl, not_good)))

-- what is found at a key of row `i` of table `t` of the document is what the row has there
pub found_in : (ms : Members) (t : Table) (i : ℕ) (row : Members) (key : Key) → table_at ms t i ≡ Some row →
    found_at ms t i key ≡ get_member (text_of key) row
found_in ms t i row key at = ap (λ o. option_and_then (get_member (text_of key)) o) at

-- if `d` is found at a key of a table `o`, the table is there and has it
pub found_parts : (o : Option Members) (text : List ℕ) (d : Data) → option_and_then (get_member text) o ≡ Some d →
    (row : Members) × (o ≡ Some row) × (get_member text row ≡ Some d)
found_parts None text d found = cc
found_parts (Some row) text d found = (row, refl, found)

-- ---- numbers

-- if it is missing, a number counts as the least that it may be
abbrev numbers_in : Members → List Range → List BoundedField
numbers_in row [] = []
numbers_in row (r ∷ rs) =
    record { key = r.key; value = integer_in row r.key (pos r.low); low = r.low; high = r.high } ∷ numbers_in row rs

-- a fault is that the document is over a limit
abbrev pub IsOver : Members → ReadFault → Type 0
IsOver ms fault = (what : What) × (fault ≡ OverLimit what) × IsOverLimit ms what

-- the least number of a range is in it
low_is_within : (low high : ℕ) → nat_le low high ≡ true → is_within low high (pos low) ≡ true
low_is_within low high ordered = and_from (nat_le low low) (nat_le low high) (le-leb low low (omega arith)) ordered

-- A number out of range stands in the document, since the default is in range. By what stands at the key, `o`: anything
-- but an integer counts as the default.
outside : (low high : ℕ) (o : Option Data) → nat_le low high ≡ true →
    is_within low high (unwrap_or (option_and_then as_integer o) (pos low)) ≡ false →
    (z : ℤ) × (o ≡ Some (integer z)) ×
    (is_within low high z ≡ false)
outside low high None ordered out = absurd (true≢false (sym (low_is_within low high ordered) ∙ out))
outside low high (Some (integer z)) ordered out = (z, refl, out)
outside low high (Some (string s)) ordered out = absurd (true≢false (sym (low_is_within low high ordered) ∙ out))
outside low high (Some (float x)) ordered out = absurd (true≢false (sym (low_is_within low high ordered) ∙ out))
outside low high (Some (boolean b)) ordered out = absurd (true≢false (sym (low_is_within low high ordered) ∙ out))
outside low high (Some (datetime t)) ordered out = absurd (true≢false (sym (low_is_within low high ordered) ∙ out))
outside low high (Some (array ds)) ordered out = absurd (true≢false (sym (low_is_within low high ordered) ∙ out))
outside low high (Some (table m)) ordered out = absurd (true≢false (sym (low_is_within low high ordered) ∙ out))

-- whether the least of a range is no more than its greatest
abbrev is_range : Range → Bool
is_range r = nat_le r.low r.high

-- in each range of a table the least is no more than the greatest
ranges_are : (t : Table) → list_all is_range (ranges_of t) ≡ true
ranges_are tables.Top = refl
ranges_are tables.Node = refl
ranges_are tables.Slot = refl
ranges_are tables.Process = refl
ranges_are tables.Edge = refl

-- the fault of a number out of range, by its place
abbrev number_fault : Table → ℕ → Key → ReadFault
number_fault t i key = OverLimit (Number (record { table = t; index = i; key = key }))

-- given row `i` of table `t` in the document
module _ (ms : Members) (t : Table) (i : ℕ) (row : Members) (at : table_at ms t i ≡ Some row) where
  -- each number of row `i` out of one of the ranges `rs`, which are those of the table, stands in the document
  numbers_over : (rs : List Range) → ((r : Range) → Contains rs r → Contains (ranges_of t) r) →
      list_all is_range rs ≡ true →
      Each (IsOver ms) (out_of_range t i (numbers_in row rs))
  numbers_over [] those ranges = tt
  numbers_over (r ∷ rs) those ranges =
      let (here, rest) = and_parts (is_range r) (list_all is_range rs) ranges in
      each_joined (IsOver ms) (unless (is_within r.low r.high (integer_in row r.key (pos r.low)))
      (number_fault t i r.key)) (out_of_range t i (numbers_in row rs))
      (each_unless (IsOver ms) (is_within r.low r.high (integer_in row r.key (pos r.low)))
      (number_fault t i r.key) (λ not_within.
      let (z, found, out) = outside r.low r.high (get_member (text_of r.key) row) here not_within in (
        Number (record { table = t; index = i; key = r.key }),
        refl,
        (r, those r (Contains-first r rs), refl, z, found_in ms t i row r.key at ∙ found, out),
      )))
      (numbers_over rs (λ q within. those q (Contains-rest r rs q within)) rest)

  -- each number out of range that is found in a row stands in the document
  row_over : Each (IsOver ms) (out_of_range t i (numbers_in row (ranges_of t)))
  row_over = numbers_over (ranges_of t) (λ r within. within) (ranges_are t)

-- if the rows of table `t` are what the document has at their places, each number of theirs that is out of its range
-- stands in the document
rows_over : {T : Type 0} (ms : Members) (t : Table) (said : Members → T) (numbers : T → List BoundedField)
    (rows : List Members) →
    ((row : Members) → numbers (said row) ≡ numbers_in row (ranges_of t)) →
    ((i : ℕ) → table_at ms t i ≡ slice_get rows i) →
    Each (IsOver ms) (all_out_of_range t numbers (map said rows))
rows_over ms t said numbers rows same are =
    subst (Each (IsOver ms)) (sym (of_each_mapped (λ i x. out_of_range t i (numbers x)) said 0 rows))
    (each_of_each (IsOver ms) (λ i row. slice_get rows i ≡ Some row) (λ i row. out_of_range t i (numbers (said row)))
    (λ i row here. subst (λ ns. Each (IsOver ms) (out_of_range t i ns)) (sym (same row))
    (row_over ms t i row (are i ∙ here)))
    0 rows
    (stand_all (λ i row. slice_get rows i ≡ Some row) rows (λ k row here. here)))

-- if integer `z` stands in a row at the key of range `r`, one of the ranges `rs`, and is out of it, it is among the
-- faults of the row; by induction on the ranges
number_there : (t : Table) (i : ℕ) (row : Members) (z : ℤ) (rs : List Range) (r : Range) → Contains rs r →
    get_member (text_of r.key) row ≡ Some (integer z) →
    is_within r.low r.high z ≡ false →
    Contains (out_of_range t i (numbers_in row rs)) (number_fault t i r.key)
number_there t i row z [] r within found out = absurd (Contains-nil r within)
number_there t i row z (q ∷ rs) r within found out = elim (Contains-cases q rs r within) [
  | inl same ↦
      Contains-append_left (unless (is_within q.low q.high (integer_in row q.key (pos q.low))) (number_fault t i q.key))
      (out_of_range t i (numbers_in row rs)) (number_fault t i r.key)
      (subst (λ q. Contains (unless (is_within q.low q.high (integer_in row q.key (pos q.low)))
      (number_fault t i q.key)) (number_fault t i r.key)) (sym same)
      (unless_contains (is_within r.low r.high (integer_in row r.key (pos r.low))) (number_fault t i r.key)
      (ap (λ o. is_within r.low r.high (unwrap_or (option_and_then as_integer o) (pos r.low))) found ∙ out)))
  | inr rest ↦ Contains-append_right (unless (is_within q.low q.high (integer_in row q.key (pos q.low)))
      (number_fault t i q.key)) (out_of_range t i (numbers_in row rs)) (number_fault t i r.key)
      (number_there t i row z rs r rest found out)
]

-- ---- counts

-- a list over the limit has more elements than that
more_than : {T : Type 0} (said : Members → T) (limit : ℕ) (rows : List Members) →
    nat_le (length (map said rows)) limit ≡ false →
    limit < length rows
more_than said limit rows over =
    subst (λ n. limit < n) (length-map rows said) (leb-false (length (map said rows)) limit over)

-- a list with more elements than the limit is listed as a fault
too_many_there : {T : Type 0} (said : Members → T) (limit : ℕ) (what : What) (rows : List Members) →
    limit < length rows →
    Contains (too_many limit what (map said rows)) (OverLimit what)
too_many_there said limit what rows over = unless_contains (nat_le (length (map said rows)) limit) (OverLimit what)
    (lt-leb (length (map said rows)) limit (subst (λ n. limit < n) (sym (length-map rows said)) over))

-- ---- conditions

-- a good flag is read exactly if the key is there
is_flag_there : (key : Key) (o : Option Data) → is_good_value (flag key) o ≡ true →
    is_some (option_and_then as_bool o) ≡ is_some o
is_flag_there key None good = refl
is_flag_there key (Some d) good = good

-- The sources of the conditional edges are those of the tables with the key `when`.
-- By induction on the edges: both keep the first or both leave it out.
edges_are_conditional : (es : List Members) →
    ((e : Members) → Contains es e → is_some (value_in as_bool e When) ≡ is_some (get_member (text_of When) e)) →
    sources (map edge_in es) ≡ map source_name (filter (λ e. is_some (get_member (text_of When) e)) es)
edges_are_conditional [] flags_same = refl
edges_are_conditional (e ∷ es) flags_same =
    by (is_some (value_in as_bool e When)) (is_some (get_member (text_of When) e)) (flags_same e (Contains-first e es))
    (edges_are_conditional es (λ x within. flags_same x (Contains-rest e es x within)))
  where
    -- by whether the edge has a `when`, in the graph and in the document
    by : (b c : Bool) → b ≡ c →
        sources (map edge_in es) ≡ map source_name (filter (λ e. is_some (get_member (text_of When) e)) es) →
        map (λ (x : RawEdge). x.from) (cond b (edge_in e ∷ filter (λ x. is_some x.when) (map edge_in es))
        (filter (λ x. is_some x.when) (map edge_in es))) ≡ map source_name
        (cond c (e ∷ filter (λ e. is_some (get_member (text_of When) e)) es)
        (filter (λ e. is_some (get_member (text_of When) e)) es))
    by true true same rest = ap (λ names. source_name e ∷ names) rest
    by false false same rest = rest
    by true false same rest = absurd (true≢false same)
    by false true same rest = absurd (true≢false (sym same))

-- the sources of the conditional edges of a document with good fields are those of its tables with the key `when`
sources_are : (ms : Members) → HasGoodFields ms →
    sources (map edge_in (elements ms Edge)) ≡ map source_name (conditional_edges ms)
sources_are ms good = edges_are_conditional (elements ms Edge) (λ e within.
    let (i, at) = slice_get-Contains (elements ms Edge) e within in
    is_flag_there When (get_member (text_of When) e)
    (good_value ms good tables.Edge i e at (flag When) (3, omega arith, refl)))

-- ---- the document

-- given a document all of whose fields are good
module _ (ms : Members) (good : HasGoodFields ms) where
  -- each fault in the list of limit faults is something in the document beyond its limit
  pub limits_over : Each (IsOver ms) (limit_faults (graph_in ms))
  limits_over =
      -- the counts of nodes, slots, processes and edges
      each_joined (IsOver ms) _ _ (each_unless (IsOver ms) _ (OverLimit Nodes)
      (λ over. (Nodes, refl, more_than node_in MOST_NODES (elements ms Node) over)))
      (each_joined (IsOver ms) _ _ (each_unless (IsOver ms) _ (OverLimit Slots)
      (λ over. (Slots, refl, more_than slot_in MOST_NODES (elements ms Slot) over)))
      (each_joined (IsOver ms) _ _ (each_unless (IsOver ms) _ (OverLimit Processes)
      (λ over. (Processes, refl, more_than process_in MOST_PROCESSES (elements ms Process) over)))
      (each_joined (IsOver ms) _ _ (each_unless (IsOver ms) _ (OverLimit Edges)
      (λ over. (Edges, refl, more_than edge_in MOST_EDGES (elements ms Edge) over)))
      -- the numbers of the top, of slots, of processes and of edges
      (each_joined (IsOver ms) _ _ (row_over ms tables.Top 0 ms refl)
      (each_joined (IsOver ms) _ _
      (rows_over ms tables.Slot slot_in slot_numbers (elements ms Slot) (λ row. refl) (λ i. refl))
      (each_joined (IsOver ms) _ _
      (rows_over ms tables.Process process_in process_numbers (elements ms Process) (λ row. refl) (λ i. refl))
      (each_joined (IsOver ms) _ _
      (rows_over ms tables.Edge edge_in edge_numbers (elements ms Edge) (λ row. refl) (λ i. refl))
      -- and last the count of conditions
      (each_unless (IsOver ms) _ (OverLimit Conditions)
      (λ over. (
        Conditions,
        refl,
        subst (λ names. MOST_CONDITIONS < length (different [] names)) (sources_are ms good)
            (leb-false (length (different [] (sources (map edge_in (elements ms Edge))))) MOST_CONDITIONS over),
      ))))))))))

  -- the fault of too many nodes
  abbrev node_count : List ReadFault
  node_count = too_many MOST_NODES Nodes (map node_in (elements ms Node))

  -- the fault of too many slots
  abbrev slot_count : List ReadFault
  slot_count = too_many MOST_NODES Slots (map slot_in (elements ms Slot))

  -- the fault of too many processes
  abbrev process_count : List ReadFault
  process_count = too_many MOST_PROCESSES Processes (map process_in (elements ms Process))

  -- the fault of too many edges
  abbrev edge_count : List ReadFault
  edge_count = too_many MOST_EDGES Edges (map edge_in (elements ms Edge))

  -- the numbers out of range of the top table
  abbrev top_part : List ReadFault
  top_part = out_of_range tables.Top 0 (top_numbers (graph_in ms))

  -- the numbers out of range of the slots
  abbrev slot_part : List ReadFault
  slot_part = all_out_of_range tables.Slot slot_numbers (map slot_in (elements ms Slot))

  -- the numbers out of range of the processes
  abbrev process_part : List ReadFault
  process_part = all_out_of_range tables.Process process_numbers (map process_in (elements ms Process))

  -- the numbers out of range of the edges
  abbrev edge_part : List ReadFault
  edge_part = all_out_of_range tables.Edge edge_numbers (map edge_in (elements ms Edge))

  -- the fault of too many conditions
  abbrev last_part : List ReadFault
  last_part = too_many MOST_CONDITIONS Conditions (different [] (sources (map edge_in (elements ms Edge))))

  -- given a fault
  module _ (fault : ReadFault) where
    -- a fault behind those of the counts is a limit fault
    past_counts : Contains (top_part ++ (slot_part ++ (process_part ++ (edge_part ++ last_part)))) fault →
        Contains (limit_faults (graph_in ms)) fault
    past_counts within = Contains-append_right node_count _ fault
        (Contains-append_right slot_count _ fault
        (Contains-append_right process_count _ fault (Contains-append_right edge_count
        (top_part ++ (slot_part ++ (process_part ++ (edge_part ++ last_part)))) fault within)))

    -- a fault behind those of the top table is a limit fault
    past_top : Contains (slot_part ++ (process_part ++ (edge_part ++ last_part))) fault →
        Contains (limit_faults (graph_in ms)) fault
    past_top within =
        past_counts (Contains-append_right top_part
        (slot_part ++ (process_part ++ (edge_part ++ last_part))) fault within)

    -- a fault behind those of the slots is a limit fault
    past_slots : Contains (process_part ++ (edge_part ++ last_part)) fault → Contains (limit_faults (graph_in ms)) fault
    past_slots within =
        past_top (Contains-append_right slot_part (process_part ++ (edge_part ++ last_part)) fault within)

    -- a fault behind those of the processes is a limit fault
    past_processes : Contains (edge_part ++ last_part) fault → Contains (limit_faults (graph_in ms)) fault
    past_processes within = past_slots (Contains-append_right process_part (edge_part ++ last_part) fault within)

    -- What stands among the faults of the numbers of row `i` of table `t` stands among the limits of the document. By
    -- the table, each with its part of the list.
    numbers_are_there : (t : Table) (i : ℕ) (row : Members) → table_at ms t i ≡ Some row →
        Contains (out_of_range t i (numbers_in row (ranges_of t))) fault →
        Contains (limit_faults (graph_in ms)) fault
    numbers_are_there tables.Top zero row at within =
        past_counts (Contains-append_left top_part (slot_part ++ (process_part ++ (edge_part ++ last_part))) fault
        (subst (λ z. Contains (out_of_range tables.Top 0 (numbers_in z (ranges_of tables.Top))) fault)
        (let same : row ≡ ms = cc in same) within))
    numbers_are_there tables.Top (suc i) row at within = cc
    numbers_are_there tables.Node i row at within = absurd (Contains-nil fault within)
    numbers_are_there tables.Slot i row at within =
        past_top (Contains-append_left slot_part (process_part ++ (edge_part ++ last_part)) fault
        (of_each_contains (λ i s. out_of_range tables.Slot i (slot_numbers s)) fault i
        (map slot_in (elements ms Slot)) (slot_in row)
        (slice_get-map slot_in (elements ms Slot) i ∙ ap (option_map slot_in) at) within))
    numbers_are_there tables.Process i row at within =
        past_slots (Contains-append_left process_part (edge_part ++ last_part) fault
        (of_each_contains (λ i p. out_of_range tables.Process i (process_numbers p)) fault i
        (map process_in (elements ms Process)) (process_in row)
        (slice_get-map process_in (elements ms Process) i ∙ ap (option_map process_in) at) within))
    numbers_are_there tables.Edge i row at within = past_processes (Contains-append_left edge_part last_part fault
        (of_each_contains (λ i e. out_of_range tables.Edge i (edge_numbers e)) fault i
        (map edge_in (elements ms Edge)) (edge_in row)
        (slice_get-map edge_in (elements ms Edge) i ∙ ap (option_map edge_in) at) within))

  -- Each thing in the document beyond its limit is in the list of limit faults.
  -- By what it is, each with its part of the list.
  pub limit_there : (what : What) → IsOverLimit ms what → Contains (limit_faults (graph_in ms)) (OverLimit what)
  -- the counts of lists come first
  limit_there Nodes over =
      Contains-append_left node_count _ (OverLimit Nodes)
      (too_many_there node_in MOST_NODES Nodes (elements ms Node) over)
  limit_there Slots over = Contains-append_right node_count _ (OverLimit Slots) (Contains-append_left slot_count _
      (OverLimit Slots) (too_many_there slot_in MOST_NODES Slots (elements ms Slot) over))
  limit_there Processes over = Contains-append_right node_count _ (OverLimit Processes)
      (Contains-append_right slot_count _ (OverLimit Processes)
      (Contains-append_left process_count _ (OverLimit Processes)
      (too_many_there process_in MOST_PROCESSES Processes (elements ms Process) over)))
  limit_there Edges over = Contains-append_right node_count _ (OverLimit Edges)
      (Contains-append_right slot_count _ (OverLimit Edges)
      (Contains-append_right process_count _ (OverLimit Edges) (Contains-append_left edge_count _ (OverLimit Edges)
      (too_many_there edge_in MOST_EDGES Edges (elements ms Edge) over))))
  -- a number stands among those of its row
  limit_there (Number place) (r, within, same, z, found, out) =
      let (row, at, value) = found_parts (table_at ms place.table place.index) (text_of place.key) (integer z) found in
      numbers_are_there (OverLimit (Number place)) place.table place.index row at
      (subst (λ key. Contains (out_of_range place.table place.index (numbers_in row (ranges_of place.table)))
      (number_fault place.table place.index key)) same
      (number_there place.table place.index row z (ranges_of place.table) r within
      (ap (λ key. get_member (text_of key) row) same ∙ value) out))
  -- the count of conditions comes last
  limit_there Conditions over =
      past_processes (OverLimit Conditions) (Contains-append_right edge_part last_part (OverLimit Conditions)
      (unless_contains (nat_le (length (different [] (sources (map edge_in (elements ms Edge))))) MOST_CONDITIONS)
      (OverLimit Conditions)
      (lt-leb (length (different [] (sources (map edge_in (elements ms Edge))))) MOST_CONDITIONS
      (subst (λ names. MOST_CONDITIONS < length (different [] names)) (sym (sources_are ms good)) over))))
