-- How long a spelling is at most: the bounds of its parts, from literals up to the whole.
use Rattle.std.proofs.Common.{◌≡◌, ℕ, ◌+◌, ◌-◌, ◌*◌, max, ◌≤◌, Bool, true, false, cond, eqb, ltb, not, List, [], ◌∷◌}
use Rattle.std.proofs.Common.{◌++◌, length, Option, None, Some, refl, sym, ap, ◌∙◌, arith}
use Rattle.std.specs.Prelude.{All, unwrap_or, sum_by}
use Rattle.std.specs.List.{flat_map, AllByRecursion}
use Rattle.std.specs.Int.{w16, w32, w64, to_be_bytes}
use Rattle.std.proofs.lemmas.List.{length-append, length-map}
use Rattle.std.proofs.lemmas.List.Concat.{flat_map-cons}
use Rattle.std.proofs.lemmas.List.Elements.{recursion_from_All, All-from_get_or, All-weaker}
use Rattle.std.proofs.lemmas.List.Filters.{length-filter_both}
use Rattle.std.proofs.lemmas.List.Sums.{sum_by-cons}
use Rattle.cpg_base.specs.Name.{IsName}
use Rattle.cpg_cube.specs.declared.literal.Literal.{Literal}
use Rattle.cpg_head.specs.Head.{Head, IsHead, IsHeadProcess, version_of}
use Rattle.cpg_head.specs.declared.head_parts.HeadProcess.{HeadProcess}
use Rattle.cpg_head.specs.declared.head_parts.Extra.{Extra}
use Rattle.cpg_table.specs.declared.space.VariableSpace.{VariableSpace}
use Rattle.cpg_table.specs.Items.{numbers_where, conditioned, starts_of, sends_of, hears_of, leaves, enters}
use Rattle.cpg_table.specs.Items.{first_message, first_broadcast}
use Rattle.cpg_table.specs.Lawful.{IsLawfulColumn, IsLawfulRow, IsTableOf, column_count, rows_of, space_of}
use Rattle.cpg_table.specs.Table.{Row, NodeTable, table_at}
use Rattle.cpg_cube.specs.declared.column.Column.{Column}
use Rattle.cpg_codec.specs.Grammar.{IsSpace, fault_end}
use Rattle.cpg_codec.specs.Lengths.{AllShort}
use Rattle.cpg_codec.specs.Packs.{IsPackHead}
use Rattle.cpg_codec.specs.Spelling.{head_bytes, name_bytes, process_bytes, extra_bytes, edge_bytes, literal_bytes}
use Rattle.cpg_codec.specs.Spelling.{column_bytes, row_bytes, table_bytes, byte, bit, deadline_number, magic, Written}
use Rattle.cpg_codec.specs.Spelling.{written, written_by}
use Rattle.cpg_codec.proofs.TableFields.{head_space}
use Rattle.cpg_codec.proofs.ColumnFields.{few_fault, literals_room, column_literals}

-- ---- pieces

-- the spellings of a list's elements, each of at most `most` bytes, are together at most that many times the length
pieces : {X : Type 0} (f : X → List ℕ) (most : ℕ) (xs : List X) → AllByRecursion (λ x. length (f x) ≤ most) xs →
    length (flat_map f xs) ≤ length xs * most
pieces f most [] short = omega arith
pieces f most (x ∷ xs) short =
    let rest = pieces f most xs short.1 in
    let parts : length (flat_map f (x ∷ xs)) ≡ length (f x) + length (flat_map f xs) =
    ap length (flat_map-cons f x xs) ∙ length-append (f x) (flat_map f xs) in
    omega (arith, rest, parts, short.0)

-- pieces of elements with property P, from which it follows that a piece has at most `most` bytes, have at most `most`
-- bytes each
all_pieces : {X : Type 0} (P : X → Type 0) (f : X → List ℕ) (most : ℕ) (xs : List X) →
    ((x : X) → P x → length (f x) ≤ most) → All P xs →
    length (flat_map f xs) ≤ length xs * most
all_pieces P f most xs each h = pieces f most xs
    (recursion_from_All (λ x. length (f x) ≤ most) xs (All-weaker P (λ x. length (f x) ≤ most) each xs h))

-- the length of three pieces together
three : (a b c : List ℕ) → length (a ++ b ++ c) ≡ length a + length b + length c
three a b c =
    let all_three = length-append (a ++ b) c in
    let first_two = length-append a b in
    omega (arith, all_three, first_two)

-- the length of five pieces together
five : (a b c d e : List ℕ) → length (a ++ b ++ c ++ d ++ e) ≡ length a + length b + length c + length d + length e
five a b c d e = let before_last = length-append (a ++ b ++ c ++ d) e in
    let before_d = length-append (a ++ b ++ c) d in
    let front = three a b c in
    omega (arith, before_last, before_d, front)

-- the length of nine pieces together
nine : (a b c d e f g h i : List ℕ) →
    length (a ++ b ++ c ++ d ++ e ++ f ++ g ++ h ++ i)
    ≡ length a + length b + length c + length d + length e + length f + length g + length h + length i
nine a b c d e f g h i =
    let before_i = length-append (a ++ b ++ c ++ d ++ e ++ f ++ g ++ h) i in
    let before_h = length-append (a ++ b ++ c ++ d ++ e ++ f ++ g) h in
    let before_g = length-append (a ++ b ++ c ++ d ++ e ++ f) g in
    let before_f = length-append (a ++ b ++ c ++ d ++ e) f in
    let front = five a b c d e in
    omega (arith, before_i, before_h, before_g, before_f, front)

-- ---- rows

-- a literal has at most 3 bytes
literal_long : (l : Literal) → length (literal_bytes l) ≤ 3
literal_long l = omega arith

-- literals have at most 3 bytes each
literals_long : (ls : List Literal) → length (flat_map literal_bytes ls) ≤ length ls * 3
literals_long ls = pieces literal_bytes 3 ls (each ls) where
  -- each literal has at most 3 bytes
  each : (ls : List Literal) → AllByRecursion (λ l. length (literal_bytes l) ≤ 3) ls
  each [] = tt
  each (l ∷ ls) = (literal_long l, each ls)

-- a lawful column has at most 160 literals: one for each of 128 counts and 32 values
column_room : (s : VariableSpace) (c : Column) → IsSpace s → IsLawfulColumn s c → length c.cube ≤ 160
column_room s c is_space lawful =
    within (fault_end s) s.conditions (length c.cube) (few_fault s is_space) is_space.conditions
    (literals_room s 0 c.cube (few_fault s is_space) (column_literals s c is_space lawful))
  where
    -- a space has at most 128 fault counts and 32 values, so at most 160 variables
    within : (e k n : ℕ) → e ≤ 128 → k ≤ 32 → n ≤ (e - 0) + ((128 + k) - max 128 0) → n ≤ 160
    within e k n counts_few values_few room = omega arith

-- a lawful column has at most 489 bytes: 8 of its time, 1 of the count, and 3 for each of 160 literals
column_long : (s : VariableSpace) → IsSpace s → (c : Column) → IsLawfulColumn s c → length (column_bytes c) ≤ 489
column_long s is_space c lawful =
    let parts = three (to_be_bytes w64 c.time) (byte (length c.cube)) (flat_map literal_bytes c.cube) in
    let literals = literals_long c.cube in
    let room = column_room s c is_space lawful in
    omega (arith, parts, literals, room)

-- a lawful row has at most 489 bytes for each column, and 2 for their number
row_long : (s : VariableSpace) → IsSpace s → (r : Row) → IsLawfulRow s r →
    length (row_bytes r) ≤ length r.columns * 489 + 2
row_long s is_space r lawful =
    let parts = length-append (to_be_bytes w16 (length r.columns)) (flat_map column_bytes r.columns) in
    let columns = all_pieces (IsLawfulColumn s) column_bytes 489 r.columns (column_long s is_space) lawful.columns in
    omega (arith, parts, columns)

-- lawful rows have together at most 489 bytes for each column, and 2 for each row; by induction
rows_long : (s : VariableSpace) → IsSpace s → (rows : List Row) → AllByRecursion (IsLawfulRow s) rows →
    length (flat_map row_bytes rows) ≤ column_count rows * 489 + length rows * 2
rows_long s is_space [] lawful = omega arith
rows_long s is_space (r ∷ rows) lawful =
    let one = row_long s is_space r lawful.0 in
    let rest = rows_long s is_space rows lawful.1 in
    let parts : length (flat_map row_bytes (r ∷ rows)) ≡ length (row_bytes r) + length (flat_map row_bytes rows) =
    ap length (flat_map-cons row_bytes r rows) ∙
    length-append (row_bytes r) (flat_map row_bytes rows) in
    let counts : column_count (r ∷ rows) ≡ length r.columns + column_count rows =
    sum_by-cons (λ row. length row.columns) r rows in
    omega (arith, one, rest, parts, counts)

-- ---- tables

-- no more elements pass a test than there are
places_few : {X : Type 0} (test : X → Bool) (i : ℕ) (xs : List X) → length (numbers_where test i xs) ≤ length xs
places_few test i [] = omega arith
places_few test i (x ∷ xs) = by_test (test x) (places_few test (i + 1) xs) where
  -- by whether the first element passes
  by_test : (b : Bool) → length (numbers_where test (i + 1) xs) ≤ length xs →
      length (cond b (i ∷ numbers_where test (i + 1) xs) (numbers_where test (i + 1) xs)) ≤ length (x ∷ xs)
  by_test true few = omega (arith, few)
  by_test false few = omega (arith, few)

-- given: a lawful head h, and the number of a node
module _ (h : Head) (q : IsHead h) (node : ℕ) where
  -- at most 128 processes have a condition
  conditioned_few : length (conditioned h) ≤ 128
  conditioned_few =
      let both = length-filter_both (λ (p : HeadProcess). p.condition) (λ p. not p.condition) (λ p. refl) h.processes in
      omega (arith, both, q.few_processes)

  -- a node starts at most 128 items
  starts_few : length (starts_of h node) ≤ 128
  starts_few = let few = places_few (λ (p : HeadProcess). eqb p.node node) 0 h.processes in
      omega (arith, few, q.few_processes)

  -- a node sends at most 128 broadcasts
  told_few : (b : Bool) →
      length (cond b (numbers_where (λ (p : HeadProcess). eqb p.node node) (first_broadcast h) (conditioned h)) [])
      ≤ 128
  told_few true = let few = places_few (λ (p : HeadProcess). eqb p.node node) (first_broadcast h) (conditioned h) in
      omega (arith, few, conditioned_few)
  told_few false = omega arith

  -- a node sends at most 384 items: 256 messages and 128 broadcasts
  sends_few : length (sends_of h node) ≤ 384
  sends_few =
      let told = cond (ltb 1 (length h.nodes))
      (numbers_where (λ (p : HeadProcess). eqb p.node node) (first_broadcast h) (conditioned h)) [] in
      let messages = places_few (leaves h node) (first_message h) h.edges in
      let parts = length-append (numbers_where (leaves h node) (first_message h) h.edges) told in
      omega (arith, parts, messages, told_few (ltb 1 (length h.nodes)), q.few_edges)

  -- a node hears at most 384 items: 256 messages and 128 broadcasts
  hears_few : length (hears_of h node) ≤ 384
  hears_few =
      let others = numbers_where (λ (p : HeadProcess). not (eqb p.node node)) (first_broadcast h) (conditioned h) in
      let messages = places_few (enters h node) (first_message h) h.edges in
      let told = places_few (λ (p : HeadProcess). not (eqb p.node node)) (first_broadcast h) (conditioned h) in
      let parts = length-append (numbers_where (enters h node) (first_message h) h.edges) others in
      omega (arith, parts, messages, told, conditioned_few, q.few_edges)

  -- the table of a node has at most 896 rows: 128 of starts, 384 of sends and 384 of hears
  rows_few : (t : NodeTable) → IsTableOf h node t → length (rows_of t) ≤ 896
  rows_few t of =
      let starts : length t.starts ≡ length (starts_of h node) =
      sym (length-map t.starts (λ (r : Row). r.item)) ∙ ap length of.starts in
      let sends : length t.sends ≡ length (sends_of h node) =
      sym (length-map t.sends (λ (r : Row). r.item)) ∙ ap length of.sends in
      let hears : length t.hears ≡ length (hears_of h node) =
      sym (length-map t.hears (λ (r : Row). r.item)) ∙ ap length of.hears in
      let outer = length-append t.starts (t.sends ++ t.hears) in
      let inner = length-append t.sends t.hears in
      omega (arith, starts, sends, hears, outer, inner, starts_few, sends_few, hears_few)

-- the table of a node has at most 489 bytes for each column, and 1,792, which is 2 for each of 896 rows
table_long : (h : Head) → IsHead h → (node : ℕ) (t : NodeTable) → IsTableOf h node t →
    length (table_bytes t) ≤ column_count (rows_of t) * 489 + 1792
table_long h is_head node t of =
    let rows = rows_long (space_of h) (head_space h is_head) (rows_of t)
    (recursion_from_All (IsLawfulRow (space_of h)) (rows_of t) of.lawful) in
    omega (arith, rows, rows_few h is_head node t of)

-- the bound on the bytes of a table, as a property of the table
abbrev IsLong : NodeTable → Type 0
IsLong t = length (table_bytes t) ≤ column_count (rows_of t) * 489 + 1792

-- tables of this property have together at most 489 bytes for each column and 1,792 for each table; by induction
tables_long : (ts : List NodeTable) → AllByRecursion IsLong ts →
    length (flat_map table_bytes ts) ≤ sum_by (λ t. column_count (rows_of t)) ts * 489 + length ts * 1792
tables_long [] each = omega arith
tables_long (t ∷ ts) each =
    let rest = tables_long ts each.1 in
    let parts : length (flat_map table_bytes (t ∷ ts)) ≡ length (table_bytes t) + length (flat_map table_bytes ts) =
    ap length (flat_map-cons table_bytes t ts) ∙
    length-append (table_bytes t) (flat_map table_bytes ts) in
    let counts : sum_by (λ u. column_count (rows_of u)) (t ∷ ts) ≡ column_count (rows_of t)
    + sum_by (λ u. column_count (rows_of u)) ts = sum_by-cons (λ u. column_count (rows_of u)) t ts in
    omega (arith, rest, parts, counts, each.0)

-- ---- heads

-- a name has at most 33 bytes: 32 letters and their number
name_long : (text : List ℕ) → IsName text → length (name_bytes text) ≤ 33
name_long text is_name = let parts = length-append (byte (length text)) text in omega (arith, parts, is_name.short)

-- what version 2 adds to a process has at most 16 bytes
extra_long : (o : Option Extra) → length (extra_bytes o) ≤ 16
extra_long None = omega arith
extra_long (Some e) =
    let parts = length-append (to_be_bytes w64 e.release) (to_be_bytes w64 (deadline_number e.deadline)) in
    omega (arith, parts)

-- times have 8 bytes each, at most
times_long : (ts : List ℕ) → length (flat_map (to_be_bytes w64) ts) ≤ length ts * 8
times_long ts = pieces (to_be_bytes w64) 8 ts (each ts) where
  -- each time has at most 8 bytes
  each : (ts : List ℕ) → AllByRecursion (λ t. length (to_be_bytes w64 t) ≤ 8) ts
  each [] = tt
  each (t ∷ ts) = (omega arith, each ts)

-- a process with a well-formed name and at most 9 times
record IsNamed (p : HeadProcess) : Type 0 where
  name : IsName p.name
  times : length p.times ≤ 9

-- a process as in `IsNamed` has at most 123 bytes: 33 of its name, 2 of node and flag, 72 of its times and 16 of
-- what version 2 adds
process_long : (p : HeadProcess) (o : Option Extra) → IsNamed p →
    length (process_bytes (record { process = p; extra = o })) ≤ 123
process_long p o is_named =
    let parts = five (name_bytes p.name) (byte p.node) (byte (bit p.condition)) (flat_map (to_be_bytes w64) p.times)
    (extra_bytes o) in
    let name = name_long p.name is_named.name in
    let times = times_long p.times in
    let extra = extra_long o in
    omega (arith, parts, name, times, extra, is_named.times)

-- processes as in `IsNamed` have together at most 123 bytes each, whatever extras they are written with; by induction
processes_long : (ps : List HeadProcess) (es : List Extra) → AllByRecursion IsNamed ps →
    length (flat_map process_bytes (written_by ps es)) ≤ length ps * 123
processes_long [] es each = omega arith
processes_long (p ∷ ps) [] each =
    let rest = processes_long ps [] each.1 in
    let it : Written = record { process = p; extra = None } in
    let one = process_long p None each.0 in
    let parts : length (flat_map process_bytes (it ∷ written_by ps []))
    ≡ length (process_bytes it) + length (flat_map process_bytes (written_by ps [])) =
    ap length (flat_map-cons process_bytes it (written_by ps []))
    ∙ length-append (process_bytes it) (flat_map process_bytes (written_by ps [])) in
    omega (arith, rest, one, parts)
processes_long (p ∷ ps) (e ∷ es) each =
    let rest = processes_long ps es each.1 in
    let it : Written = record { process = p; extra = Some e } in
    let one = process_long p (Some e) each.0 in
    let parts : length (flat_map process_bytes (it ∷ written_by ps es))
    ≡ length (process_bytes it) + length (flat_map process_bytes (written_by ps es)) =
    ap length (flat_map-cons process_bytes it (written_by ps es))
    ∙ length-append (process_bytes it) (flat_map process_bytes (written_by ps es)) in
    omega (arith, rest, one, parts)

-- edges have 2 bytes each, at most
edges_long : (es : List (ℕ × ℕ)) → length (flat_map edge_bytes es) ≤ length es * 2
edges_long es = pieces edge_bytes 2 es (each es) where
  -- each edge has at most 2 bytes
  each : (es : List (ℕ × ℕ)) → AllByRecursion (λ e. length (edge_bytes e) ≤ 2) es
  each [] = tt
  each (e ∷ es) = (omega arith, each es)

-- lawful processes with well-formed names are such: with k faults at most 8 they have k + 1 times
named : (k n : ℕ) (ps : List HeadProcess) → k ≤ 8 → AllByRecursion (IsHeadProcess k n) ps →
    AllByRecursion (λ p. IsName p.name) ps →
    AllByRecursion IsNamed ps
named k n [] few lawful names = tt
named k n (p ∷ ps) few lawful names = (
  record { name = names.0; times = let count = lawful.0.count in omega (arith, count, few) },
  named k n ps few lawful.1 names.1,
)

-- a lawful head has at most 20,000 bytes: its nine fields (`parts`) with 16 names, 128 processes and 256 edges
head_long : (h : Head) → IsPackHead h → length (head_bytes h) ≤ 20000
head_long h is_pack_head =
    let parts = nine (to_be_bytes w32 magic) (byte (version_of h)) (byte h.faults) (byte (length h.nodes))
    (flat_map name_bytes h.nodes) (byte (length h.processes))
    (flat_map process_bytes (written h)) (to_be_bytes w16 (length h.edges)) (flat_map edge_bytes h.edges) in
    let nodes = all_pieces IsName name_bytes 33 h.nodes name_long is_pack_head.nodes in
    let processes = processes_long h.processes (unwrap_or h.extras [])
    (named h.faults (length h.nodes) h.processes is_pack_head.within.faults
    (recursion_from_All (IsHeadProcess h.faults (length h.nodes)) h.processes is_pack_head.within.processes)
    (recursion_from_All (λ p. IsName p.name) h.processes is_pack_head.processes)) in
    let edges = edges_long h.edges in
    omega (
      arith,
      parts,
      nodes,
      processes,
      edges,
      is_pack_head.within.few_nodes,
      is_pack_head.within.few_processes,
      is_pack_head.within.few_edges,
    )

-- ---- the whole

-- no pack is longer than 268,435,456 bytes: a head, 524,288 columns of 489 bytes, and 16 times 1,792
pub all_short : AllShort
all_short t a =
    let head = head_long t.head a.head in
    let tables = tables_long t.nodes (recursion_from_All IsLong t.nodes
    (All-from_get_or IsLong t.nodes _ (λ i l.
    table_long t.head a.head.within i (table_at t.nodes i) (a.nodes.each i (omega (arith, l, a.nodes.count)))))) in
    let parts = length-append (head_bytes t.head) (flat_map table_bytes t.nodes) in
    omega (arith, head, tables, parts, a.nodes.few, a.nodes.count, a.head.within.few_nodes)
