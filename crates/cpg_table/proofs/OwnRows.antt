-- Rows for all items, parted by node: those of what a node starts and sends are the first ones of its table (`node_rows`).
use Rattle.std.proofs.Common.{◌≡◌, ◌≢◌, ℕ, ◌+◌, ◌<◌, ◌≤◌, Bool, true, false, not, cond, ◌==◌, ◌&&◌, ◌||◌, List, [], ◌∷◌}
use Rattle.std.proofs.Common.{◌++◌, length, get_or, map, filter, drop, All, refl, sym, ap, ap₂, ◌∙◌, subst}
use Rattle.std.proofs.Common.{arith, inl, inr, ltb, lt-ltb, le-ltb, ne_eqb, true≢false, append_assoc}
use Rattle.std.specs.List.{range_with_len}
use Rattle.std.proofs.lemmas.Bool.{cases_Bool, cases_eq}
use Rattle.std.proofs.lemmas.List.Elements.{All-filter}
use Rattle.std.proofs.lemmas.List.{map-append, length-map, get_or_default}
use Rattle.std.proofs.lemmas.List.FromFn.{length-map-range_with_len}
use Rattle.cpg_base.specs.Numbers.{numbers_below}
use Rattle.cpg_base.specs.Graph.{Graph, process_count, edge_count, condition_count, item_count, node_of}
use Rattle.cpg_base.specs.Graph.{producer_of_item, home, is_sent}
use Rattle.cpg_base.specs.Limits.{IsWithinLimits}
use Rattle.cpg_base.proofs.Items.{item_at-start}
use Rattle.cpg_base.proofs.Lists.{same_filter, from_range, numbers-Contains}
use Rattle.cpg_base.proofs.Sums.{filter-map}
use Rattle.cpg_head.specs.GraphHead.{head_of}
use Rattle.cpg_table.specs.Items.{starts_of, sends_of, lists_of}
use Rattle.cpg_table.specs.Table.{Row}
use Rattle.cpg_table.specs.Writing.{row_for, hears_at, has_own, own_rows, other_rows, rows_of_items, AreWritable}
use Rattle.cpg_table.proofs.GraphItems.{range-append, by_place, parts_are, starts_are, sent_messages, sent_broadcasts}
use Rattle.cpg_table.proofs.NodeRows.{no_row, long, item_is}

-- ---- tests

-- if t holds, so does t or s, and with b that leaves b
first_kind : (b t s : Bool) → t ≡ true → (b && (t || s)) ≡ b
first_kind true t s holds = ap (λ u. u || s) holds
first_kind false t s holds = refl

-- if t doesn't hold, t or s is s, and with b that leaves s and b
later_kind : (b t s : Bool) → t ≡ false → (b && (t || s)) ≡ (s && b)
later_kind true true s fails = absurd (true≢false fails)
later_kind true false true fails = refl
later_kind true false false fails = refl
later_kind false t true fails = refl
later_kind false t false fails = refl

-- an item with the node h that n starts or sends (h is n, and s) isn't started or sent by another node m
one_home : (h m n : ℕ) (s : Bool) → m ≢ n → not ((h == n) && s) ≡ false → ((h == m) && s) ≡ false
one_home h m n s apart kept = elim (cases_eq h n) [
  | inl here ↦ ap (λ b. b && s) (ne_eqb h m (λ there. apart (sym there ∙ here)))
  | inr away ↦ absurd (true≢false (sym (ap (λ b. not (b && s)) (ne_eqb h n away)) ∙ kept))
]

-- ---- lists

-- given: two tests of which q holds wherever p does
module _ {X : Type 0} (p q : X → Bool) (none : (x : X) → q x ≡ false → p x ≡ false) where
  -- what passes q and then p is what passes p
  passes_both : (xs : List X) → filter p (filter q xs) ≡ filter p xs
  passes_both [] = refl
  passes_both (x ∷ xs) = elim (cases_Bool (q x)) [
    | inl on ↦ ap (λ b. filter p (cond b (x ∷ filter q xs) (filter q xs))) on
        ∙ ap (λ ys. cond (p x) (x ∷ ys) ys) (passes_both xs)
    | inr off ↦ ap (λ b. filter p (cond b (x ∷ filter q xs) (filter q xs))) off ∙ passes_both xs
        ∙ sym (ap (λ b. cond b (x ∷ filter p xs) (filter p xs)) (none x off))
  ]

-- given: a list; `out` are those of it that passed so far, and x is the first of those left
module _ {X : Type 0} (p : X → Bool) (all out left rest : List X) (x : X) (is : left ≡ x ∷ rest)
    (so_far : filter p all ≡ out ++ filter p left) where
  -- if x passes, it is moved to those that passed
  pub filter_moved : p x ≡ true → (more : List X) → more ≡ out ++ x ∷ [] → filter p all ≡ more ++ filter p rest
  filter_moved on more more_is =
      so_far ∙ ap (λ ls. out ++ filter p ls) is ∙ ap (λ b. out ++ cond b (x ∷ filter p rest) (filter p rest)) on
      ∙ sym (ap (λ ms. ms ++ filter p rest) more_is ∙ append_assoc out (x ∷ []) (filter p rest))

  -- if x fails, it is left out
  pub filter_left : p x ≡ false → filter p all ≡ out ++ filter p rest
  filter_left off =
      so_far ∙ ap (λ ls. out ++ filter p ls) is ∙ ap (λ b. out ++ cond b (x ∷ filter p rest) (filter p rest)) off

-- given that the elements of a list, seen by `view`, are what f makes of numbers
module _ {X Y : Type 0} (view : X → Y) (f : ℕ → Y) where
  -- if these are the numbers below n, there are n elements
  pub view_count : (n : ℕ) (xs : List X) → map view xs ≡ map f (numbers_below n) → length xs ≡ n
  view_count n xs seen = sym (length-map xs view) ∙ ap length seen ∙ length-map-range_with_len f 0 n

  -- with an element seen as f n at the end, they are what f makes of the numbers below n + 1
  pub view_more : (n : ℕ) (xs more : List X) (x : X) → map view xs ≡ map f (numbers_below n) → view x ≡ f n →
      more ≡ xs ++ x ∷ [] →
      map view more ≡ map f (numbers_below (n + 1))
  view_more n xs more x seen new is =
      let next : numbers_below (n + 1) ≡ numbers_below n ++ n ∷ [] =
      range-append 0 n 1 ∙ ap (λ k. numbers_below n ++ k ∷ []) (let same : 0 + n ≡ n = omega arith in same) in
      ap (map view) is ∙ map-append view xs (x ∷ []) ∙ ap₂ (λ ys zs. ys ++ zs) seen (ap (λ y. y ∷ []) new)
      ∙ sym (ap (map f) next ∙ map-append f (numbers_below n) (n ∷ []))

  -- if these are the numbers from n on, the first element is seen as f n, and the rest as f from n + 1 on
  pub view_first : (n : ℕ) (left rest : List X) (x : X) → left ≡ x ∷ rest →
      map view left ≡ map f (range_with_len n (length left)) →
      (view x ≡ f n) ×
      (map view rest ≡ map f (range_with_len (n + 1) (length rest)))
  view_first n left rest x is seen =
      let here : view x ∷ map view rest ≡ f n ∷ map f (range_with_len (n + 1) (length rest)) =
      subst (λ ls. map view ls ≡ map f (range_with_len n (length ls))) is seen in
      (ap (λ ys. get_or ys 0 (f n)) here, ap (drop 1) here)

-- ---- the rows of a node

-- if the rows of node n are taken out, all rows of another node m are still there
pub still_there : (g : Graph) (m n : ℕ) (rows : List Row) → m ≢ n →
    own_rows g m (other_rows g n rows) ≡ own_rows g m rows
still_there g m n rows apart =
    passes_both (λ (row : Row). has_own g m row.item) (λ (row : Row). not (has_own g n row.item))
    (λ row e. one_home (home g row.item) m n (ltb row.item (process_count g) || is_sent g row.item) apart e) rows

-- writable rows are all of items of the graph
pub all_known : (g : Graph) (rows : List Row) → AreWritable g rows → All (λ row. row.item < item_count g) rows
all_known g rows are_writable k d inside =
    let is_item : k < item_count g = omega (arith, inside, long g rows are_writable) in
    subst (λ (row : Row). row.item < item_count g) (get_or_default rows k no_row d inside)
    (subst (λ n. n < item_count g) (sym (item_is g rows are_writable k is_item)) is_item)

-- if rows are of items of the graph, so are those that a node neither starts nor sends
pub still_known : (g : Graph) (node : ℕ) (rows : List Row) → All (λ row. row.item < item_count g) rows →
    All (λ row. row.item < item_count g) (other_rows g node rows)
still_known g node rows known =
    All-filter (λ (row : Row). not (has_own g node row.item)) (λ (row : Row). row.item < item_count g) rows known

-- given: a graph within its limits, and a node
module _ (g : Graph) (within : IsWithinLimits g) (node : ℕ) where
  -- whether the node sends item x
  abbrev is_sent_here : ℕ → Bool
  is_sent_here x = is_sent g x && (home g x == node)

  -- a node starts or sends the item of a process exactly if the process is on it
  own_start : (x : ℕ) → x < process_count g → has_own g node x ≡ (node_of g x == node)
  own_start x is_process =
      first_kind (home g x == node) (ltb x (process_count g)) (is_sent g x) (lt-ltb x (process_count g) is_process)
      ∙ ap (λ i. node_of g (producer_of_item g i) == node) (item_at-start g x is_process)

  -- a node starts or sends another item exactly if it sends it
  own_later : (x : ℕ) → process_count g ≤ x → has_own g node x ≡ is_sent_here x
  own_later x past =
      later_kind (home g x == node) (ltb x (process_count g)) (is_sent g x) (le-ltb x (process_count g) past)

  -- the items that a node starts or sends, by number, are its starts and then its sends: part by part of the numbers
  own_items : filter (has_own g node) (numbers_below (item_count g)) ≡ starts_of (head_of g) node
      ++ sends_of (head_of g) node
  own_items =
      let messages : List ℕ = range_with_len (process_count g) (edge_count g) in
      let broadcasts : List ℕ = range_with_len (process_count g + edge_count g) (condition_count g) in
      parts_are g within node (has_own g node)
      ∙ ap₂ (λ xs ys. xs ++ ys)
      (same_filter (has_own g node) (λ p. node_of g p == node) (numbers_below (process_count g))
      (λ x c. own_start x (numbers-Contains (process_count g) x c)) ∙ sym (starts_are g within node))
      (ap₂ (λ xs ys. xs ++ ys)
      (same_filter (has_own g node) is_sent_here messages
      (λ x c. own_later x (from_range (process_count g) (edge_count g) x c).0))
      (same_filter (has_own g node) is_sent_here broadcasts (λ x c. own_later x
      (let bounds = from_range (process_count g + edge_count g) (condition_count g) x c in omega (arith, bounds.0))))
      ∙ sym (ap₂ (λ xs ys. xs ++ ys) (sent_messages g within node) (sent_broadcasts g within node)))

  -- given: writable rows of the graph
  module _ (rows : List Row) (w : AreWritable g rows) where
    -- the rows are those of the items, by number
    by_item : rows ≡ map (row_for rows) (numbers_below (item_count g))
    by_item = by_place rows no_row ∙ ap (λ n. map (row_for rows) (numbers_below n)) (long g rows w)

    -- the rows of what a node starts and sends are the given rows of its starts and then of its sends
    own_are : own_rows g node rows ≡ map (row_for rows) (starts_of (head_of g) node ++ sends_of (head_of g) node)
    own_are =
        ap (own_rows g node) by_item
        ∙ filter-map (λ (row : Row). has_own g node row.item) (row_for rows) (numbers_below (item_count g))
        ∙ ap (map (row_for rows))
        (same_filter (λ x. has_own g node (row_for rows x).item) (has_own g node) (numbers_below (item_count g))
        (λ x c. ap (has_own g node) (item_is g rows w x (numbers-Contains (item_count g) x c))) ∙ own_items)

    -- the rows of what a node starts and sends, and then those that it hears, are all rows of its items
    pub node_rows : own_rows g node rows ++ hears_at g rows node ≡ rows_of_items g rows (lists_of (head_of g) node)
    node_rows =
        let starts : List Row = map (row_for rows) (starts_of (head_of g) node) in
        let sends : List Row = map (row_for rows) (sends_of (head_of g) node) in
        ap (λ xs. xs ++ hears_at g rows node)
        (own_are ∙ map-append (row_for rows) (starts_of (head_of g) node) (sends_of (head_of g) node))
        ∙ append_assoc starts sends (hears_at g rows node)
