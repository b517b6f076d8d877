-- The rows of a node's items, made of writable rows, are lawful rows of its table (`are_rows`). In the lemmas x is an
-- item.
use Rattle.std.proofs.Common.{◌≡◌, ℕ, ◌^◌, ◌<◌, ◌≤◌, Bool, false, ◌==◌, ◌&&◌, List, [], ◌∷◌, ◌++◌, length, get_or, map}
use Rattle.std.proofs.Common.{filter, All, Contains, refl, sym, ap, ap₂, ◌∙◌, subst, arith, inl, inr, eq-eqb}
use Rattle.std.proofs.lemmas.Bool.{cases_eq, cases_lt, and_from, both_ways}
use Rattle.std.proofs.lemmas.List.{length-map, get_or-map, map-append}
use Rattle.std.proofs.lemmas.List.Elements.{All-contains_itself, All-weaker, All-append, All-map}
use Rattle.std.proofs.lemmas.List.FromFn.{length-map-range_with_len, length-range_with_len, get_or-range_with_len}
use Rattle.cpg_base.specs.Numbers.{numbers_below}
use Rattle.cpg_base.specs.Graph.{Graph, process_count, item_count, item_at, node_of, home, is_sent, is_heard_by}
use Rattle.cpg_base.specs.Graph.{IsVariable}
use Rattle.cpg_base.specs.Bus.{slot_length}
use Rattle.cpg_base.specs.Limits.{IsWithinLimits}
use Rattle.cpg_base.specs.declared.limits.TheConstants.{MOST_COLUMNS}
use Rattle.cpg_base.proofs.Bounds.{round-le, slot_length-le}
use Rattle.cpg_base.proofs.Lists.{numbers-Contains, Contains-filter_parts, Contains-first, Contains-rest}
use Rattle.cpg_cube.specs.Cube.{is_whole}
use Rattle.cpg_base.specs.Variable.{top}
use Rattle.cpg_cube.specs.declared.literal.Literal.{Literal}
use Rattle.cpg_cube.proofs.Boxes.{top_of_count, top_of_value}
use Rattle.cpg_head.specs.GraphHead.{head_of, head_process}
use Rattle.cpg_table.specs.Items.{starts_of, sends_of, hears_of, lists_of}
use Rattle.cpg_table.specs.Lawful.{IsLawfulLiteral, IsLawfulColumn, IsLawfulRow, AreRowsOf, space_of}
use Rattle.cpg_table.specs.Shape.{items_of}
use Rattle.cpg_table.specs.Table.{Row}
use Rattle.cpg_cube.specs.declared.column.Column.{Column}
use Rattle.cpg_table.specs.Valid.{later_by}
use Rattle.cpg_table.proofs.GraphItems.{starts_are, sends_are, hears_are}
use Rattle.cpg_head.proofs.HeadWithin.{conditions_counted}
use Rattle.cpg_table.specs.Writing.{row_for, heard_row, rows_of_items, IsWritable, AreWritable}

-- the row that is taken if a list has none at a place
abbrev pub no_row : Row
no_row = record { item = 0; columns = [] }

-- ---- rows by number

-- given: writable rows of a graph
module _ (g : Graph) (rows : List Row) (w : AreWritable g rows) where
  -- there is a row for each item
  pub long : length rows ≡ item_count g
  long = sym (length-map rows (λ (row : Row). row.item)) ∙ ap length w.items ∙ length-range_with_len 0 (item_count g)

  -- the row at a number is that of the item with this number
  pub item_is : (x : ℕ) → x < item_count g → (row_for rows x).item ≡ x
  item_is x is_item = sym (get_or-map (λ (row : Row). row.item) rows x no_row 0 (omega (arith, is_item, long)))
      ∙ ap (λ xs. get_or xs x 0) w.items ∙ get_or-range_with_len 0 (item_count g) x 0 is_item ∙ omega arith

  -- the columns of each item's row are writable
  pub writable : (x : ℕ) → x < item_count g → All (IsWritable g) (row_for rows x).columns
  writable x is_item = w.lawful x no_row (omega (arith, is_item, long))

  -- each item's row has at most as many columns as a row may have
  pub few_columns : (x : ℕ) → x < item_count g → length (row_for rows x).columns ≤ MOST_COLUMNS
  few_columns x is_item = w.few x no_row (omega (arith, is_item, long))

-- ---- numbers of items

-- a number that a filter of the items lets pass is that of an item
filter_below : (g : Graph) (p : ℕ → Bool) (x : ℕ) → Contains (filter p (numbers_below (item_count g))) x →
    x < item_count g
filter_below g p x among =
    numbers-Contains (item_count g) x (Contains-filter_parts p (numbers_below (item_count g)) x among).0

-- given: a graph within its limits, and a node
module _ (g : Graph) (within : IsWithinLimits g) (node : ℕ) where
  -- what a node starts is an item of the graph
  pub start_below : (x : ℕ) → Contains (starts_of (head_of g) node) x → x < item_count g
  start_below x among =
      let there = subst (λ xs. Contains xs x) (starts_are g within node) among in
      omega (
        arith,
        numbers-Contains (process_count g) x
            (Contains-filter_parts (λ p. node_of g p == node) (numbers_below (process_count g)) x there).0,
      )

  -- what a node sends is an item of the graph
  pub send_below : (x : ℕ) → Contains (sends_of (head_of g) node) x → x < item_count g
  send_below x among = filter_below g (λ y. is_sent g y && (home g y == node)) x
      (subst (λ xs. Contains xs x) (sends_are g within node) among)

  -- what a node hears is an item of the graph
  pub hear_below : node < length g.nodes → (x : ℕ) → Contains (hears_of (head_of g) node) x → x < item_count g
  hear_below is_node x among = filter_below g (λ y. is_heard_by g node (item_at g y)) x
      (subst (λ xs. Contains xs x) (hears_are g within node is_node) among)

-- if each element of a list is below m, and the list and m are equal to others, so is each element of those
pub all_below : (n m : ℕ) (xs ys : List ℕ) → n ≡ m → xs ≡ ys → ((x : ℕ) → Contains ys x → x < m) → All (λ x. x < n) xs
all_below n m xs ys same is each =
    rw (same, is) (All-weaker (Contains ys) (λ x. x < m) each ys (All-contains_itself ys))

-- ---- columns

-- given: a graph within its limits
module _ (g : Graph) (within : IsWithinLimits g) where
  -- a range of fault counts that ends at the greatest and isn't whole doesn't begin at 0
  part_of_count : (l : Literal) → l.variable < process_count g → is_whole g.faults l ≡ false → l.high ≡ g.faults →
      0 < l.low
  part_of_count l is_process part at_top = elim (cases_lt 0 l.low) [
    | inl some ↦ some
    | inr none ↦ absurd (both_ways (is_whole g.faults l) part
        (and_from (l.low == 0) (l.high == top g.faults l.variable) (eq-eqb l.low 0 (omega arith))
        (eq-eqb l.high (top g.faults l.variable)
        (at_top ∙ sym (top_of_count g.faults l.variable (omega (arith, is_process, within.few_processes)))))))
  ]

  -- a range of values that isn't whole has one value
  one_value : (l : Literal) → 128 ≤ l.variable → l.low ≤ l.high → l.high ≤ 1 → is_whole g.faults l ≡ false →
      l.low ≡ l.high
  one_value l is_value some high part = elim (cases_eq l.low l.high) [
    | inl same ↦ same
    | inr apart ↦ absurd (both_ways (is_whole g.faults l) part
        (and_from (l.low == 0) (l.high == top g.faults l.variable) (eq-eqb l.low 0 (omega (arith, apart, some, high)))
        (eq-eqb l.high (top g.faults l.variable) (let is_one : l.high ≡ 1 = omega (arith, apart, some, high) in
        is_one ∙ sym (top_of_value g.faults l.variable is_value)))))
  ]

  -- a literal on a variable of the graph, with a range within that of the variable but not whole, is lawful under the
  -- head: the variable is a fault count, or a condition's value, whose range of 0 to 1 has one number if it isn't whole
  lawful_literal : (l : Literal) → IsVariable g l.variable → l.low ≤ l.high → l.high ≤ top g.faults l.variable →
      is_whole g.faults l ≡ false →
      IsLawfulLiteral (space_of (head_of g)) l
  lawful_literal l (inl v) some high part = inl (record {
    known = omega (arith, v, length-map-range_with_len (head_process g) 0 (process_count g));
    some = some;
    within = omega (arith, high, top_of_count g.faults l.variable (omega (arith, v, within.few_processes)));
    part = part_of_count l v part;
  })
  lawful_literal l (inr v) some high part =
      let most : l.high ≤ 1 = omega (arith, high, top_of_value g.faults l.variable v.0) in
      inr (record { value = v.0; known = omega (arith, v.1, conditions_counted g); one = one_value l v.0 some most part; within = most })

  -- the literals of a writable column are lawful under the head
  lawful_literals : (c : Column) → IsWritable g c → All (IsLawfulLiteral (space_of (head_of g))) c.cube
  lawful_literals c is_writable = λ i d h.
      lawful_literal (get_or c.cube i d) (is_writable.cube.known i d h) (is_writable.some i d h)
      (is_writable.within i d h) (is_writable.not_whole i d h)

  -- a writable column is lawful under the head
  lawful_column : (c : Column) → IsWritable g c → IsLawfulColumn (space_of (head_of g)) c
  lawful_column c is_writable = record {
    time = omega (arith, is_writable.time);
    literals =
        lawful_literals c is_writable;
    rising = is_writable.cube.rising;
  }

  -- a writable column is lawful also when it is later by less than 2^59, since its own time is below that
  later_column : (delay : ℕ) → delay < 2 ^ 59 → (c : Column) → IsWritable g c →
      IsLawfulColumn (space_of (head_of g)) (later_by delay c)
  later_column delay short c is_writable =
      record {
        time = omega (arith, is_writable.time, short);
        literals = lawful_literals c is_writable;
        rising =
            is_writable.cube.rising;
      }

  -- a slot is shorter than 2^59
  pub slot_short : (node : ℕ) → slot_length g node < 2 ^ 59
  slot_short node = omega (arith, slot_length-le g node, round-le g within)

  -- given: writable rows of the graph
  module _ (rows : List Row) (w : AreWritable g rows) where
    -- the given row of each item is lawful
    lawful_row : (x : ℕ) → x < item_count g → IsLawfulRow (space_of (head_of g)) (row_for rows x)
    lawful_row x is_item = record {
      few = few_columns g rows w x is_item;
      columns = All-weaker (IsWritable g) (IsLawfulColumn (space_of (head_of g))) lawful_column (row_for rows x).columns
          (writable g rows w x is_item);
    }

    -- the row that is heard of each item is lawful
    lawful_heard : (x : ℕ) → x < item_count g → IsLawfulRow (space_of (head_of g)) (heard_row g rows x)
    lawful_heard x is_item =
        let delay : ℕ = slot_length g (home g x) in
        record {
          few = omega (arith, few_columns g rows w x is_item, length-map (row_for rows x).columns (later_by delay));
          columns = All-map (IsLawfulColumn (space_of (head_of g))) (later_by delay) (row_for rows x).columns
              (All-weaker (IsWritable g) (λ c. IsLawfulColumn (space_of (head_of g)) (later_by delay c))
              (later_column delay (slot_short (home g x))) (row_for rows x).columns (writable g rows w x is_item));
        }

    -- if a row for each item of the graph is lawful, so are all rows for some of the items
    all_rows : (row : ℕ → Row) → ((x : ℕ) → x < item_count g → IsLawfulRow (space_of (head_of g)) (row x)) →
        (xs : List ℕ) →
        ((x : ℕ) → Contains xs x → x < item_count g) →
        All (IsLawfulRow (space_of (head_of g))) (map row xs)
    all_rows row each xs below = All-map (IsLawfulRow (space_of (head_of g))) row xs
        (All-weaker (Contains xs) (λ x. IsLawfulRow (space_of (head_of g)) (row x)) (λ x c. each x (below x c)) xs
        (All-contains_itself xs))

    -- rows for some items are of these items, if each row is of its item
    items_are : (row : ℕ → Row) → (xs : List ℕ) → ((x : ℕ) → Contains xs x → (row x).item ≡ x) →
        items_of (map row xs) ≡ xs
    items_are row [] each = refl
    items_are row (x ∷ xs) each =
        ap₂ (λ y ys. y ∷ ys) (each x (Contains-first x xs)) (items_are row xs (λ y c. each y (Contains-rest x xs y c)))

    -- given: a node of the graph
    module _ (node : ℕ) (l : node < length g.nodes) where
      -- the items that the node starts
      abbrev started : List ℕ
      started = starts_of (head_of g) node

      -- the items that the node sends
      abbrev sent : List ℕ
      sent = sends_of (head_of g) node

      -- the items that the node hears
      abbrev heard : List ℕ
      heard = hears_of (head_of g) node

      -- the rows for the items of the node are of what it starts, sends and hears, in this order
      node_items : items_of (rows_of_items g rows (lists_of (head_of g) node)) ≡ started ++ (sent ++ heard)
      node_items =
          map-append (λ (row : Row). row.item) (map (row_for rows) started)
          (map (row_for rows) sent ++ map (heard_row g rows) heard)
          ∙ ap₂ (λ xs ys. xs ++ ys)
          (items_are (row_for rows) started (λ x c. item_is g rows w x (start_below g within node x c)))
          (map-append (λ (row : Row). row.item) (map (row_for rows) sent) (map (heard_row g rows) heard)
          ∙ ap₂ (λ xs ys. xs ++ ys)
          (items_are (row_for rows) sent (λ x c. item_is g rows w x (send_below g within node x c)))
          (items_are (heard_row g rows) heard (λ x c. refl)))

      -- and they are lawful rows of its table; what it hears is later by a slot
      pub are_rows : AreRowsOf (head_of g) node (rows_of_items g rows (lists_of (head_of g) node))
      are_rows = record {
        items = node_items;
        lawful = All-append (IsLawfulRow (space_of (head_of g))) (map (row_for rows) started)
            (map (row_for rows) sent ++ map (heard_row g rows) heard)
            (all_rows (row_for rows) lawful_row started (start_below g within node))
            (All-append (IsLawfulRow (space_of (head_of g))) (map (row_for rows) sent) (map (heard_row g rows) heard)
            (all_rows (row_for rows) lawful_row sent (send_below g within node))
            (all_rows (heard_row g rows) lawful_heard heard (hear_below g within node l)));
      }
