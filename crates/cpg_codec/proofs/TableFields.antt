-- The readers of rows, tables and the whole read exactly the bytes of lawful ones (`Reads`, of Laws). In the lemmas h
-- is a head, s has its variables, a is a node, r is a row, rs are rows, and t is a table.
use Rattle.std.proofs.Common.{◌≡◌, ℕ, zero, suc, ◌+◌, ◌-◌, ◌<◌, ◌≤◌, min, List, [], ◌∷◌, ◌++◌, length, take, drop}
use Rattle.std.proofs.Common.{get_or, Ok, refl, sym, ap, ap₂, subst, ◌∙◌, arith, take-append-drop}
use Rattle.std.specs.Prelude.{All, sum_by}
use Rattle.std.specs.List.{flat_map, AllByRecursion}
use Rattle.std.specs.Int.{w16, to_be_bytes}
use Rattle.std.proofs.lemmas.List.{append-nil, length-map, map-append}
use Rattle.std.proofs.lemmas.List.Sums.{sum_by-cons}
use Rattle.std.proofs.lemmas.List.Elements.{All-from_recursion, recursion_from_All}
use Rattle.std.proofs.Math.Seq.{take-append_seam, drop-append_seam}
use Rattle.cpg_base.specs.declared.limits.TheConstants.{MOST_COLUMNS}
use Rattle.cpg_head.specs.Head.{Head, IsHead}
use Rattle.cpg_table.specs.Table.{Row, NodeTable, empty_table}
use Rattle.cpg_table.specs.declared.own.Own.{Own}
use Rattle.cpg_table.specs.Shape.{items_of}
use Rattle.cpg_table.specs.Items.{starts_of, sends_of, hears_of}
use Rattle.cpg_table.specs.Lawful.{Tables, space_of, IsLawfulColumn, IsLawfulRow, IsTableOf, AreRowsOf, AreTablesOf}
use Rattle.cpg_table.specs.Lawful.{rows_of, column_count}
use Rattle.cpg_table.specs.declared.space.VariableSpace.{VariableSpace}
use Rattle.cpg_codec.specs.Spelling.{column_bytes, row_bytes, table_bytes, head_bytes, spelling}
use Rattle.cpg_codec.specs.Grammar.{IsSpace, read_column, most, read_row, read_rows, items_of_node, table_from}
use Rattle.cpg_codec.specs.Grammar.{read_node_table, numbers_from, read_nodes, read_tables}
use Rattle.cpg_codec.specs.Packs.{AreLawful}
use Rattle.cpg_codec.proofs.Laws.{Reads, pure_reads, seq, adapt}
use Rattle.cpg_codec.proofs.Numbers.{field_reads}
use Rattle.cpg_codec.proofs.Lists.{each_reads, times_reads}
use Rattle.cpg_codec.proofs.HeadFields.{head_reads}
use Rattle.cpg_codec.proofs.ColumnFields.{column_reads}

-- two pieces and nothing after them
regroup_2 : (a b : List ℕ) → a ++ (b ++ []) ≡ a ++ b
regroup_2 a b = simp append-nil

-- ---- rows

-- a lawful row of the item; with its columns, and `columns_read` before them, a pack has at most 524,288
pub record FitsRow (s : VariableSpace) (item columns_read : ℕ) (r : Row) : Type 0 where
  -- the row is of this item and lawful
  pub item_is : r.item ≡ item
  pub lawful : IsLawfulRow s r
  -- with the columns before it, the columns are no more than allowed
  pub room : columns_read + length r.columns ≤ most

-- the reader of a row reads exactly the bytes of a lawful row of the item that doesn't bring too many columns: how many
-- columns it has, which is limited by both `MOST_COLUMNS` and the room left, and then these columns
pub row_reads : (s : VariableSpace) (item columns_read : ℕ) → IsSpace s → columns_read ≤ most →
    Reads (FitsRow s item columns_read) row_bytes (read_row s item columns_read)
unfolding read_row
row_reads s item columns_read is_space le =
    adapt
    (seq (λ (r : Row). length r.columns)
    (field_reads 2 0 (min MOST_COLUMNS (most - columns_read)) (omega arith) (omega arith))
    (λ n fn. seq (λ (r : Row). r.columns)
    (times_reads (IsLawfulColumn s) column_bytes (read_column s) n (λ _. column_reads s is_space))
    (λ cs fcs. pure_reads (record { item = item; columns = cs }))
    (λ cs r fcs h. ap (λ (q : Row). q.columns) h))
    (λ n r fn h. h.0.0))
    (λ r h. record {
      item_is = ap (λ (q : Row). q.item) h.1.1;
      lawful = record { few = omega (arith, h.0.1); columns = All-from_recursion (IsLawfulColumn s) r.columns h.1.0.1 };
      room =
          omega (arith, h.0.1);
    })
    (λ r h. (
      (omega arith, omega (arith, h.lawful.few, h.room)),
      (
        (refl, recursion_from_All (IsLawfulColumn s) r.columns h.lawful.columns),
        ap (λ (n : ℕ). record r { item = n }) h.item_is,
      ),
    ))
    (λ r h. regroup_2 (to_be_bytes w16 (length r.columns)) (flat_map column_bytes r.columns))

-- lawful rows of the items in their order; with their columns, and `columns_read` before them, a pack has at most 524,288
pub record FitRows (s : VariableSpace) (items : List ℕ) (columns_read : ℕ) (rs : List Row) : Type 0 where
  -- the rows are of these items and lawful
  pub items_are : items_of rs ≡ items
  pub lawful : AllByRecursion (IsLawfulRow s) rs
  -- with the columns before them, their columns are no more than allowed
  pub room : columns_read + column_count rs ≤ most

-- a row more at the front adds its columns
count_more : (r : Row) (rs : List Row) → column_count (r ∷ rs) ≡ length r.columns + column_count rs
count_more r rs = sum_by-cons (λ (q : Row). length q.columns) r rs

-- equal lists have equal first elements and equal rests
first_items : (a b : ℕ) (xs ys : List ℕ) → a ∷ xs ≡ b ∷ ys → (a ≡ b) × (xs ≡ ys)
first_items a b xs ys same = (cc, cc)

-- a list with an element isn't empty
none_first : (a : ℕ) (xs : List ℕ) → a ∷ xs ≡ [] → ⊥
none_first a xs same = cc

-- an empty list has no element
none_last : (a : ℕ) (xs : List ℕ) → [] ≡ a ∷ xs → ⊥
none_last a xs same = cc

-- The reader of rows reads exactly the bytes of lawful rows of these items. `each_reads` goes from item to item with the
-- number of columns so far; its invariant is that this is within the limit.
pub rows_reads : (s : VariableSpace) (items : List ℕ) (columns_read : ℕ) → IsSpace s → columns_read ≤ most →
    Reads (FitRows s items columns_read) (flat_map row_bytes) (read_rows s items columns_read)
unfolding read_rows
rows_reads s items columns_read is_space le =
    each_reads (λ (c : ℕ) (r : Row). c + length r.columns) (read_row s)
    (λ ls c. c ≤ most) (λ l ls c. FitsRow s l c) row_bytes (λ ls c rs. FitRows s ls c rs)
    (λ l ls c inv. row_reads s l c is_space inv)
    (λ l ls c r inv f. f.room)
    (λ c inv. record { items_are = refl; lawful = tt; room = omega arith })
    (λ c r rs g. none_first r.item (items_of rs) g.items_are)
    (λ l ls c g. none_last l ls g.items_are)
    (λ l ls c r rs inv f g. record {
      items_are = ap₂ (λ (x : ℕ) (xs : List ℕ). x ∷ xs) f.item_is g.items_are;
      lawful = (f.lawful, g.lawful);
      room = omega (arith, count_more r rs, g.room);
    })
    (λ l ls c r rs inv g.
    let same = first_items r.item l (items_of rs) ls g.items_are in (
      record { item_is = same.0; lawful = g.lawful.0; room = omega (arith, count_more r rs, g.room) },
      record { items_are = same.1; lawful = g.lawful.1; room = omega (arith, count_more r rs, g.room) },
    ))
    items columns_read le

-- ---- a table of its rows

-- the first n rows, the m after them, and the others
abbrev Parts : List Row → ℕ → ℕ → List Row
Parts rs n m = take n rs ++ (take m (drop n rs) ++ drop m (drop n rs))

-- the three parts, one after another, are all rows
parts_again : (rs : List Row) (n m : ℕ) → Parts rs n m ≡ rs
parts_again rs n m = ap (λ (xs : List Row). take n rs ++ xs) (take-append-drop m (drop n rs)) ∙ take-append-drop n rs

-- the rows of a table that is made of rows are those rows
pub rows_again : (h : Head) (a : ℕ) (rs : List Row) → rows_of (table_from h a rs) ≡ rs
rows_again h a rs = parts_again rs (length (starts_of h a)) (length (sends_of h a))

-- the items of the first rows are the first items
items-take : (n : ℕ) (rs : List Row) → items_of (take n rs) ≡ take n (items_of rs)
items-take zero rs = refl
items-take (suc n) [] = refl
items-take (suc n) (r ∷ rs) = ap (λ (xs : List ℕ). r.item ∷ xs) (items-take n rs)

-- the items of the rows from place n on are the items from there on
items-drop : (n : ℕ) (rs : List Row) → items_of (drop n rs) ≡ drop n (items_of rs)
items-drop zero rs = refl
items-drop (suc n) [] = refl
items-drop (suc n) (r ∷ rs) = items-drop n rs

-- given: rows whose items are those of three lists, one after another
module _ (rs : List Row) (s t u : List ℕ) (items_are : items_of rs ≡ s ++ (t ++ u)) where
  -- the first rows have the items of the first list
  first_part : items_of (take (length s) rs) ≡ s
  first_part = items-take (length s) rs ∙ ap (take (length s)) items_are ∙ take-append_seam s (t ++ u)

  -- the rows after them have the items of the other two
  behind : items_of (drop (length s) rs) ≡ t ++ u
  behind = items-drop (length s) rs ∙ ap (drop (length s)) items_are ∙ drop-append_seam s (t ++ u)

  -- the rows in the middle have the items of the second list
  second_part : items_of (take (length t) (drop (length s) rs)) ≡ t
  second_part = items-take (length t) (drop (length s) rs) ∙ ap (take (length t)) behind ∙ take-append_seam t u

  -- the last rows have the items of the third list
  third_part : items_of (drop (length t) (drop (length s) rs)) ≡ u
  third_part = items-drop (length t) (drop (length s) rs) ∙ ap (drop (length t)) behind ∙ drop-append_seam t u

-- lawful rows of the items of a node make a table of the node: the parts of the row list are the rows of the starts, of
-- the sends and of the hears
pub made_table : (h : Head) (a : ℕ) (rs : List Row) → items_of rs ≡ items_of_node h a →
    All (IsLawfulRow (space_of h)) rs →
    IsTableOf h a (table_from h a rs)
made_table h a rs items_are all = record {
  faults = refl;
  first_broadcast = refl;
  own = refl;
  starts = first_part rs (starts_of h a) (sends_of h a) (hears_of h a) items_are;
  sends = second_part rs (starts_of h a) (sends_of h a) (hears_of h a) items_are;
  hears = third_part rs (starts_of h a) (sends_of h a) (hears_of h a) items_are;
  lawful = subst (All (IsLawfulRow (space_of h))) (sym (rows_again h a rs)) all;
}

-- the rows of a node's table are of the items of the node, in their order
pub table_items : (h : Head) (a : ℕ) (t : NodeTable) → IsTableOf h a t → items_of (rows_of t) ≡ items_of_node h a
table_items h a t lawful =
    map-append (λ (r : Row). r.item) t.starts (t.sends ++ t.hears)
    ∙ ap₂ (λ (x : List ℕ) (y : List ℕ). x ++ y) lawful.starts
    (map-append (λ (r : Row). r.item) t.sends t.hears
    ∙ ap₂ (λ (x : List ℕ) (y : List ℕ). x ++ y) lawful.sends lawful.hears)

-- a table is the record of parts that equal its own
same_table : (t : NodeTable) (f b : ℕ) (o : List Own) (x y z : List Row) → f ≡ t.faults → b ≡ t.first_broadcast →
    o ≡ t.own → x ≡ t.starts → y ≡ t.sends → z ≡ t.hears
    → t ≡ record { faults = f; first_broadcast = b; own = o; starts = x; sends = y; hears = z }
same_table t f b o x y z ef eb eo ex ey ez = rw (ef, eb, eo, ex, ey, ez) refl

-- the first rows, as many as x has, are x
starts_again : (n : ℕ) (x y : List Row) → n ≡ length x → take n (x ++ y) ≡ x
starts_again n x y count_is = rw count_is (take-append_seam x y)

-- the rows after them are y
rest_again : (n : ℕ) (x y : List Row) → n ≡ length x → drop n (x ++ y) ≡ y
rest_again n x y count_is = rw count_is (drop-append_seam x y)

-- the table of a node is the one that its rows make: cut by the numbers of starts and sends, they are its three parts
pub table_again : (h : Head) (a : ℕ) (t : NodeTable) → IsTableOf h a t → t ≡ table_from h a (rows_of t)
table_again h a t lawful =
    let starts_count : length (starts_of h a) ≡ length t.starts =
    sym (ap length lawful.starts) ∙ length-map t.starts (λ (r : Row). r.item) in
    let sends_count : length (sends_of h a) ≡ length t.sends =
    sym (ap length lawful.sends) ∙ length-map t.sends (λ (r : Row). r.item) in
    let behind : drop (length (starts_of h a)) (rows_of t) ≡ t.sends ++ t.hears =
    rest_again (length (starts_of h a)) t.starts (t.sends ++ t.hears) starts_count in
    same_table t _ _ _ _ _ _ (sym lawful.faults) (sym lawful.first_broadcast) (sym lawful.own)
    (starts_again (length (starts_of h a)) t.starts (t.sends ++ t.hears) starts_count)
    (ap (take (length (sends_of h a))) behind ∙ starts_again (length (sends_of h a)) t.sends t.hears sends_count)
    (ap (drop (length (sends_of h a))) behind ∙ rest_again (length (sends_of h a)) t.sends t.hears sends_count)

-- a table of the node; with its columns, and `columns_read` before them, a pack has at most 524,288
pub record FitsTable (h : Head) (a columns_read : ℕ) (t : NodeTable) : Type 0 where
  -- the table is one of this node
  pub lawful : IsTableOf h a t
  -- with the columns before it, its columns are no more than allowed
  pub room : columns_read + column_count (rows_of t) ≤ most

-- the reader of a node's table reads exactly the bytes of a table of the node that doesn't bring too many columns: the
-- rows of its items, of which the table is made again
pub table_reads : (h : Head) (a columns_read : ℕ) → IsSpace (space_of h) → columns_read ≤ most →
    Reads (FitsTable h a columns_read) table_bytes (read_node_table h a columns_read)
unfolding read_node_table
table_reads h a columns_read is_space le =
    adapt
    (seq rows_of (rows_reads (space_of h) (items_of_node h a) columns_read is_space le)
    (λ rs frs. pure_reads (table_from h a rs))
    (λ rs t frs q. ap rows_of q ∙ rows_again h a rs))
    (λ t q. record {
      lawful = subst (IsTableOf h a) (sym q.1) (made_table h a (rows_of t) q.0.items_are
          (All-from_recursion (IsLawfulRow (space_of h)) (rows_of t) q.0.lawful));
      room = q.0.room;
    })
    (λ t q. (
      record {
        items_are = table_items h a t q.lawful;
        lawful = recursion_from_All (IsLawfulRow (space_of h)) (rows_of t) q.lawful.lawful;
        room = q.room;
      },
      table_again h a t q.lawful,
    ))
    (λ t q. append-nil (flat_map row_bytes (rows_of t)))

-- ---- all nodes

-- a list has a value with the property P for each label, in their order, and no more
abbrev pub AreFor : {L A : Type 0} → (L → A → Type 0) → List L → List A → Type 0
AreFor P [] [] = Unit {0}
AreFor P [] (x ∷ xs) = ⊥
AreFor P (l ∷ ls) [] = ⊥
AreFor P (l ∷ ls) (x ∷ xs) = P l x × AreFor P ls xs

-- how many columns a table has
abbrev pub columns_of : NodeTable → ℕ
columns_of t = column_count (rows_of t)

-- a table for each node of the list; with their columns, and `columns_read` before them, a pack has at most 524,288
pub record FitNodes (h : Head) (labels : List ℕ) (columns_read : ℕ) (ts : List NodeTable) : Type 0 where
  -- there is a lawful table for each label
  pub lawful : AreFor (IsTableOf h) labels ts
  -- with the columns before them, their columns are no more than allowed
  pub room : columns_read + sum_by columns_of ts ≤ most

-- The reader of the nodes reads exactly the bytes of a table for each node, with at most 524,288 columns in all. By
-- `each_reads`, with the number of columns so far.
pub nodes_reads : (h : Head) → IsSpace (space_of h) →
    Reads (FitNodes h (numbers_from 0 (length h.nodes)) 0) (flat_map table_bytes) (read_nodes h)
unfolding read_nodes
nodes_reads h is_space =
    each_reads (λ (c : ℕ) (t : NodeTable). c + column_count (rows_of t)) (read_node_table h)
    (λ ls c. c ≤ most) (λ l ls c. FitsTable h l c) table_bytes (λ ls c ts. FitNodes h ls c ts)
    (λ l ls c inv. table_reads h l c is_space inv)
    (λ l ls c t inv f. f.room)
    (λ c inv. record { lawful = tt; room = omega arith })
    (λ c t ts g. g.lawful)
    (λ l ls c g. g.lawful)
    (λ l ls c t ts inv f g.
    record { lawful = (f.lawful, g.lawful); room = omega (arith, sum_by-cons columns_of t ts, g.room) })
    (λ l ls c t ts inv g. (
      record { lawful = g.lawful.0; room = omega (arith, sum_by-cons columns_of t ts, g.room) },
      record { lawful = g.lawful.1; room = omega (arith, sum_by-cons columns_of t ts, g.room) },
    ))
    (numbers_from 0 (length h.nodes)) 0 (omega arith)

-- given: a fact P of a label and a value
module _ {A : Type 0} (P : ℕ → A → Type 0) (d : A) where
  -- there are as many values as labels, from i on
  pub for_count : (i n : ℕ) (xs : List A) → AreFor P (numbers_from i n) xs → length xs ≡ n
  unfolding numbers_from
  for_count i zero [] each = refl
  for_count i zero (x ∷ xs) each = absurd each
  for_count i (suc n) [] each = absurd each
  for_count i (suc n) (x ∷ xs) each = ap suc (for_count (suc i) n xs each.1)

  -- the value at place j is that of the label i + j
  pub for_each : (i n : ℕ) (xs : List A) → AreFor P (numbers_from i n) xs → (j : ℕ) → j < n → P (i + j) (get_or xs j d)
  unfolding numbers_from
  for_each i zero xs each j lt = absurd (omega arith)
  for_each i (suc n) [] each j lt = absurd each
  for_each i (suc n) (x ∷ xs) each zero lt = let same : i ≡ i + 0 = omega arith in subst (λ (k : ℕ). P k x) same each.0
  for_each i (suc n) (x ∷ xs) each (suc j) lt = let same : suc i + j ≡ i + suc j = omega arith in
      subst (λ (k : ℕ). P k (get_or xs j d)) same (for_each (suc i) n xs each.1 j (omega arith))

  -- values of which this holds, as many as there are labels, are a value for each label; by induction on the values
  pub for_from : (i n : ℕ) (xs : List A) → length xs ≡ n → ((j : ℕ) → j < n → P (i + j) (get_or xs j d)) →
      AreFor P (numbers_from i n) xs
  unfolding numbers_from
  for_from i zero [] count_is each = tt
  for_from i zero (x ∷ xs) count_is each = absurd (omega (arith, count_is))
  for_from i (suc n) [] count_is each = absurd (omega (arith, count_is))
  for_from i (suc n) (x ∷ xs) count_is each =
      let here : i + 0 ≡ i = omega arith in (
        subst (λ (k : ℕ). P k x) here (each 0 (omega arith)),
        for_from (suc i) n xs (omega (arith, count_is))
            (λ j lt. let next : i + suc j ≡ suc i + j = omega arith in
            subst (λ (k : ℕ). P k (get_or xs j d)) next (each (suc j) (omega arith))),
      )

-- ---- the whole

-- the variables of a head within its limits are a space
pub head_space : (h : Head) → IsHead h → IsSpace (space_of h)
head_space h lawful =
    record { faults = lawful.faults; processes = lawful.few_processes; conditions = lawful.few_conditions }

-- a table for each node, in order and not too many columns, are tables of the head
nodes_to : (h : Head) (ts : List NodeTable) → FitNodes h (numbers_from 0 (length h.nodes)) 0 ts → AreTablesOf h ts
nodes_to h ts fit = record {
  count = for_count (IsTableOf h) empty_table 0 (length h.nodes) ts fit.lawful;
  each = λ i lt. let same : 0 + i ≡ i = omega arith in subst (λ (j : ℕ). IsTableOf h j (get_or ts i empty_table)) same
      (for_each (IsTableOf h) empty_table 0 (length h.nodes) ts fit.lawful i lt);
  few = omega (arith, fit.room);
}

-- tables of the head are a table for each node, in order
nodes_from : (h : Head) (ts : List NodeTable) → AreTablesOf h ts → FitNodes h (numbers_from 0 (length h.nodes)) 0 ts
nodes_from h ts tables = record {
  lawful = for_from (IsTableOf h) empty_table 0 (length h.nodes) ts tables.count
      (λ i lt. let same : i ≡ 0 + i = omega arith in
      subst (λ (j : ℕ). IsTableOf h j (get_or ts i empty_table)) same (tables.each i lt));
  room = omega (arith, tables.few);
}

-- the reader of a pack reads exactly the spellings of lawful tables: the head, then the nodes under it
pub tables_reads : Reads AreLawful spelling read_tables
unfolding read_tables
tables_reads =
    adapt
    (seq (λ (t : Tables). t.head) head_reads
    (λ h fh. seq (λ (t : Tables). t.nodes) (nodes_reads h (head_space h fh.within))
    (λ ns fns. pure_reads (record { head = h; nodes = ns }))
    (λ ns t fns q. ap (λ (x : Tables). x.nodes) q))
    (λ h t fh q. ap (λ (x : Tables). x.head) q.1))
    (λ t q. record { head = q.0; nodes = nodes_to t.head t.nodes q.1.0 })
    (λ t q. (q.head, (nodes_from t.head t.nodes q.nodes, refl)))
    (λ t q. regroup_2 (head_bytes t.head) (flat_map table_bytes t.nodes))

-- rows that the grammar reads for the items of a node are the lawful rows of the node, as `rows_reads` says of what it
-- takes
pub rows_are_of : (h : Head) (a : ℕ) (s : VariableSpace) (items : List ℕ) (columns_read : ℕ) (bytes : List ℕ)
    (rs : List Row) (rest : List ℕ) → IsSpace s → columns_read ≤ most →
    s ≡ space_of h →
    items ≡ items_of_node h a → read_rows s items columns_read bytes ≡ Ok (rs, rest) → AreRowsOf h a rs
rows_are_of h a s items columns_read bytes rs rest is_space le space_is items_are read_as =
    let taken = (rows_reads s items columns_read is_space le).takes bytes rs rest read_as in
    record {
      items = taken.0.items_are ∙ items_are;
      lawful =
          subst (λ (t : VariableSpace). All (IsLawfulRow t) rs) space_is
          (All-from_recursion (IsLawfulRow s) rs taken.0.lawful);
    }

-- a node's table is the one that its rows make, with rows that are equal to its own
pub table_is : (h : Head) (a : ℕ) (t : NodeTable) (rs : List Row) → IsTableOf h a t → rows_of t ≡ rs →
    table_from h a rs ≡ t
table_is h a t rs lawful rows_are = ap (table_from h a) (sym rows_are) ∙ sym (table_again h a t lawful)

-- tables that the grammar reads under a head are lawful tables of its nodes
pub tables_are_of : (h : Head) (s : VariableSpace) (bytes : List ℕ) (ts : List NodeTable) (rest : List ℕ) → IsSpace s →
    s ≡ space_of h → read_nodes h bytes ≡ Ok (ts, rest) →
    AreTablesOf h ts
tables_are_of h s bytes ts rest is_space space_is read_as =
    nodes_to h ts ((nodes_reads h (subst IsSpace space_is is_space)).takes bytes ts rest read_as).0

-- the numbers from i up to, but without, n begin with i
pub numbers_more : (i n : ℕ) → i < n → numbers_from i (n - i) ≡ i ∷ numbers_from (i + 1) (n - (i + 1))
unfolding numbers_from
numbers_more i n lt =
    let one_more : n - i ≡ suc (n - (i + 1)) = omega arith in
    let next : suc i ≡ i + 1 = omega arith in
    ap (numbers_from i) one_more ∙ ap (λ (j : ℕ). i ∷ numbers_from j (n - (i + 1))) next

-- from n on there are none
pub numbers_none : (i n : ℕ) → n ≤ i → numbers_from i (n - i) ≡ []
unfolding numbers_from
numbers_none i n le = let none_left : n - i ≡ 0 = omega arith in ap (numbers_from i) none_left
