-- The items of a node under the head for a graph are those that the graph gives it.
use Rattle.std.proofs.Common.{◌≡◌, ◌<◌, ◌+◌, ◌-◌, ◌==◌, ◌&&◌, not, ℕ, zero, suc, Bool, true, false, cond, List, [], ◌∷◌}
use Rattle.std.proofs.Common.{◌++◌, Contains, length, map, filter, get_or, ltb, is_some, refl, sym, ap}
use Rattle.std.proofs.Common.{append_assoc, ap₂, ◌∙◌, arith}
use Rattle.std.specs.List.{range_with_len}
use Rattle.std.proofs.lemmas.Bool.Decides.{nat_tests}
use Rattle.std.proofs.lemmas.List.{length-map}
use Rattle.std.proofs.lemmas.List.FromFn.{fill_by_all, length-map-range_with_len}
use Rattle.std.proofs.lemmas.List.Elements.{filter-append, All-get_or}
use Rattle.cpg_base.specs.Numbers.{numbers_below}
use Rattle.cpg_base.specs.Graph.{Graph, process_count, edge_count, condition_count, item_count, edge_at, node_of}
use Rattle.cpg_base.specs.Graph.{source, target, is_disjunction, disjunctions, condition_of, process_of, item_at}
use Rattle.cpg_base.specs.Graph.{producer_of_item, home, is_sent, is_sent_item, is_heard_by, message_item}
use Rattle.cpg_base.specs.Graph.{broadcast_item}
use Rattle.cpg_base.specs.declared.item.Item.TheVariants.{Message, Broadcast}
use Rattle.cpg_base.specs.declared.process.Edge.{Edge}
use Rattle.cpg_base.specs.Limits.{IsWithinLimits, IsProcessWithin, IsEdgeWithin}
use Rattle.cpg_base.proofs.Lists.{same_filter, filter_none, from_range, numbers-Contains, get_or-map-below}
use Rattle.cpg_base.proofs.Items.{item_at-start, item_at-message, item_at-broadcast, start_not_sent, process_of_below}
use Rattle.cpg_head.specs.declared.head_parts.HeadProcess.{HeadProcess}
use Rattle.cpg_head.specs.GraphHead.{head_process, head_of}
use Rattle.cpg_table.specs.Shape.{processes_on, sent_from, heard_by}
use Rattle.cpg_table.specs.Items.{numbers_where, head_node_of, conditioned, leaves, enters, first_message}
use Rattle.cpg_table.specs.Items.{first_broadcast, starts_of, sends_of, hears_of}
use Rattle.cpg_head.proofs.HeadWithin.{has_condition}

-- ---- lists

-- the numbers of the elements that pass a test, in the list of f from a on, are the numbers x from i on that pass for
-- f (x - s), if i is s + a; by induction on the length
where_from : {X : Type 0} (test : X → Bool) (f : ℕ → X) (s a n i : ℕ) → i ≡ s + a →
    numbers_where test i (map f (range_with_len a n)) ≡ filter (λ x. test (f (x - s))) (range_with_len i n)
where_from test f s a zero i counted = refl
where_from test f s a (suc n) i counted =
    let rest = where_from test f s (a + 1) n (i + 1) (omega (arith, counted)) in
    let at : i - s ≡ a = omega (arith, counted) in
    ap (λ xs. cond (test (f a)) (i ∷ xs) xs) rest
    ∙ ap (λ b. cond b (i ∷ filter (λ x. test (f (x - s))) (range_with_len (i + 1) n))
    (filter (λ x. test (f (x - s))) (range_with_len (i + 1) n))) (ap (λ k. test (f k)) (sym at))

-- the same for the list of f from 0 on, counted from s on
pub where_is : {X : Type 0} (test : X → Bool) (f : ℕ → X) (s n : ℕ) →
    numbers_where test s (map f (numbers_below n)) ≡ filter (λ x. test (f (x - s))) (range_with_len s n)
where_is test f s n = where_from test f s 0 n s (omega arith)

-- a range of m + n numbers is its first m and then the other n
pub range-append : (a m n : ℕ) → range_with_len a (m + n) ≡ range_with_len a m ++ range_with_len (a + m) n
range-append a zero n =
    ap₂ range_with_len (let same : a ≡ a + 0 = omega arith in same) (let same : 0 + n ≡ n = omega arith in same)
range-append a (suc m) n =
    ap (range_with_len a) (let same : suc m + n ≡ suc (m + n) = omega arith in same)
    ∙ ap (λ xs. a ∷ xs) (range-append (a + 1) m n
    ∙ ap (λ b. range_with_len (a + 1) m ++ range_with_len b n) (let same : a + 1 + m ≡ a + suc m = omega arith in same))

-- to test what is mapped is to map what passes
filter-map : {X Y : Type 0} (p : Y → Bool) (f : X → Y) (xs : List X) →
    filter p (map f xs) ≡ map f (filter (λ x. p (f x)) xs)
filter-map p f [] = refl
filter-map p f (x ∷ xs) = step (p (f x)) (filter-map p f xs)
  where
    -- by whether the first element passes once it is mapped
    step : (b : Bool) → filter p (map f xs) ≡ map f (filter (λ x. p (f x)) xs) →
        cond b (f x ∷ filter p (map f xs)) (filter p (map f xs)) ≡ map f
        (cond b (x ∷ filter (λ x. p (f x)) xs) (filter (λ x. p (f x)) xs))
    step true same = ap (λ ys. f x ∷ ys) same
    step false same = same

-- mapping twice is mapping once by both
map-map : {X Y Z : Type 0} (g : Y → Z) (f : X → Y) (xs : List X) → map g (map f xs) ≡ map (λ x. g (f x)) xs
map-map g f [] = refl
map-map g f (x ∷ xs) = ap (λ ys. g (f x) ∷ ys) (map-map g f xs)

-- a list is the list of its elements at the places 0, 1, ..
pub by_place : {X : Type 0} (xs : List X) (d : X) → xs ≡ map (λ k. get_or xs k d) (numbers_below (length xs))
by_place xs d = fill_by_all (λ k. get_or xs k d) xs (length xs) d refl (λ k l. refl)

-- ---- tests

-- an edge from node a to node b is a message that n sends exactly if it leaves n
leaves_is : (a b n : ℕ) → (not (a == b) && (a == n)) ≡ ((a == n) && not (b == n))
leaves_is a b n = grind (arith, nat_tests)

-- an edge from node a to node b is a message that n hears exactly if it enters n
enters_is : (a b n : ℕ) → (not (a == b) && (b == n)) ≡ (not (a == n) && (b == n))
enters_is a b n = grind (arith, nat_tests)

-- if a and b are different nodes, there are two nodes or more
one_node : (a b n : ℕ) → a < n → b < n → not (a == b) ≡ (ltb 1 n && not (a == b))
one_node a b n a_is_node b_is_node = grind (arith, nat_tests)

-- to filter only if b holds is to filter with b as a part of the test
cond-filter : (b : Bool) (p : ℕ → Bool) (xs : List ℕ) → cond b (filter p xs) [] ≡ filter (λ x. b && p x) xs
cond-filter true p xs = refl
cond-filter false p [] = refl
cond-filter false p (x ∷ xs) = cond-filter false p xs

-- given: a graph within its limits
module _ (g : Graph) (w : IsWithinLimits g) where
  -- the head has as many processes as the graph
  process_number : length (head_of g).processes ≡ process_count g
  process_number = length-map-range_with_len (head_process g) 0 (process_count g)

  -- the node of a process under the head is that of the graph
  node_there : (p : ℕ) → p < process_count g → head_node_of (head_of g) p ≡ node_of g p
  node_there p is_process =
      ap (λ (q : HeadProcess). q.node) (get_or-map-below (head_process g) (process_count g) p _ is_process)

  -- each edge is between processes of the graph
  edge_within : (e : ℕ) → e < edge_count g → IsEdgeWithin (process_count g) (edge_at g e)
  edge_within e is_edge = All-get_or (IsEdgeWithin (process_count g)) g.edges e _ is_edge w.edges

  -- the edges of the head are those of the graph, by number
  edges_are : (head_of g).edges ≡ map (λ e. (source g e, target g e)) (numbers_below (edge_count g))
  edges_are = ap (map (λ (e : Edge). (e.from, e.to))) (by_place g.edges _)
      ∙ map-map (λ (e : Edge). (e.from, e.to)) (edge_at g) (numbers_below (edge_count g))

  -- the processes with a condition under the head of a graph are those of its conditions, in their order
  conditioned_are : conditioned (head_of g)
      ≡ map (λ c. head_process g (process_of g c)) (numbers_below (condition_count g))
  conditioned_are =
      filter-map (λ (p : HeadProcess). p.condition) (head_process g) (numbers_below (process_count g))
      ∙ ap (map (head_process g))
      (same_filter (λ p. is_some (condition_of g p)) (is_disjunction g) (numbers_below (process_count g))
      (λ p c. has_condition g p (numbers-Contains (process_count g) p c)) ∙ by_place (disjunctions g) 0)
      ∙ map-map (head_process g) (process_of g) (numbers_below (condition_count g))

  -- given: a node; the numbers of items are in three parts: starts, messages, broadcasts
  module _ (node : ℕ) where
    -- the messages whose ends pass a test under the head are those whose edges pass it in the graph
    messages_are : (test : ℕ × ℕ → Bool) →
        numbers_where test (first_message (head_of g)) (head_of g).edges
        ≡ filter (λ x. test (source g (x - process_count g), target g (x - process_count g)))
        (range_with_len (process_count g) (edge_count g))
    messages_are test = ap₂ (numbers_where test) process_number edges_are
        ∙ where_is test (λ e. (source g e, target g e)) (process_count g) (edge_count g)

    -- the broadcasts whose processes pass a test under the head are those whose processes pass it in the graph
    broadcasts_are : (test : HeadProcess → Bool) →
        numbers_where test (first_broadcast (head_of g)) (conditioned (head_of g))
        ≡ filter (λ x. test (head_process g (process_of g (x - (process_count g + edge_count g)))))
        (range_with_len (process_count g + edge_count g) (condition_count g))
    broadcasts_are test =
        ap₂ (numbers_where test)
        (ap₂ ◌+◌ process_number (length-map {B = ℕ × ℕ} g.edges (λ e. (e.from, e.to)))) conditioned_are
        ∙ where_is test (λ c. head_process g (process_of g c)) (process_count g + edge_count g) (condition_count g)

    -- the items that pass a test are those among the starts, among the messages and among the broadcasts: the numbers
    -- of all items are cut at the first message and at the first broadcast, and the filter goes to each part
    pub parts_are : (p : ℕ → Bool) → filter p (numbers_below (item_count g))
        ≡ filter p (numbers_below (process_count g)) ++ (filter p (range_with_len (process_count g) (edge_count g))
        ++ filter p (range_with_len (process_count g + edge_count g) (condition_count g)))
    parts_are p =
        ap (filter p) (range-append 0 (process_count g + edge_count g) (condition_count g) ∙
        ap₂ (λ xs a. xs ++ range_with_len a (condition_count g))
        (range-append 0 (process_count g) (edge_count g)
        ∙ ap (λ a. numbers_below (process_count g) ++ range_with_len a (edge_count g))
        (let same : 0 + process_count g ≡ process_count g = omega arith in same))
        (let same : 0 + (process_count g + edge_count g) ≡ process_count g + edge_count g = omega arith in same))
        ∙ filter-append p (numbers_below (process_count g) ++ range_with_len (process_count g) (edge_count g))
        (range_with_len (process_count g + edge_count g) (condition_count g))
        ∙ ap (λ xs. xs ++ filter p (range_with_len (process_count g + edge_count g) (condition_count g)))
        (filter-append p (numbers_below (process_count g)) (range_with_len (process_count g) (edge_count g)))
        ∙ append_assoc (filter p (numbers_below (process_count g)))
        (filter p (range_with_len (process_count g) (edge_count g)))
        (filter p (range_with_len (process_count g + edge_count g) (condition_count g)))

    -- the head of a graph gives a node the starts of its processes
    pub starts_are : starts_of (head_of g) node ≡ processes_on g node
    starts_are = where_is (λ (p : HeadProcess). p.node == node) (head_process g) 0 (process_count g) ∙
        same_filter (λ x. node_of g (x - 0) == node) (λ x. node_of g x == node) (numbers_below (process_count g))
        (λ x c. ap (λ k. node_of g k == node) (omega arith))

    -- an item after the starts and before the broadcasts is a message, of an edge of the graph
    at_message : (x : ℕ) → Contains (range_with_len (process_count g) (edge_count g)) x →
        (x - process_count g < edge_count g) × (item_at g x ≡ Message (x - process_count g))
    at_message x in_range =
        let bounds = from_range (process_count g) (edge_count g) x in_range in
        let is_edge : x - process_count g < edge_count g = omega (arith, bounds.0, bounds.1) in
        let is : x ≡ message_item g (x - process_count g) = omega (arith, bounds.0) in
        (is_edge, ap (item_at g) is ∙ item_at-message g (x - process_count g) is_edge)

    -- an item after the messages is a broadcast, of a condition of the graph
    at_broadcast : (x : ℕ) → Contains (range_with_len (process_count g + edge_count g) (condition_count g)) x →
        (x - (process_count g + edge_count g) < condition_count g) ×
        (item_at g x ≡ Broadcast (x - (process_count g + edge_count g)))
    at_broadcast x in_range =
        let bounds = from_range (process_count g + edge_count g) (condition_count g) x in_range in
        let is_condition : x - (process_count g + edge_count g) < condition_count g =
        omega (arith, bounds.0, bounds.1) in
        let is : x ≡ broadcast_item g (x - (process_count g + edge_count g)) = omega (arith, bounds.0) in
        (is_condition, ap (item_at g) is ∙ item_at-broadcast g (x - (process_count g + edge_count g)))

    -- the messages that a node sends under the head are those that it sends in the graph: the two tests agree (`leaves_is`)
    pub sent_messages : numbers_where (leaves (head_of g) node) (first_message (head_of g)) (head_of g).edges
        ≡ filter (λ x. is_sent g x && (home g x == node))
        (range_with_len (process_count g) (edge_count g))
    sent_messages = messages_are (leaves (head_of g) node)
        ∙ same_filter (λ x. leaves (head_of g) node (source g (x - process_count g), target g (x - process_count g)))
        (λ x. is_sent g x && (home g x == node))
        (range_with_len (process_count g) (edge_count g))
        (λ x c. let at = at_message x c in let ends = edge_within (x - process_count g) at.0 in
        ap₂ (λ a b. (a == node) && not (b == node)) (node_there (source g (x - process_count g)) ends.from)
        (node_there (target g (x - process_count g)) ends.to)
        ∙ sym (leaves_is (node_of g (source g (x - process_count g))) (node_of g (target g (x - process_count g))) node)
        ∙ ap (λ i. is_sent_item g i && (node_of g (producer_of_item g i) == node)) (sym at.1))

    -- the broadcasts that a node sends under the head are those that it sends in the graph: they are the same numbers
    -- (`broadcasts_are`), and pass the same test, as item x is the broadcast of condition x - base (`at_broadcast`)
    pub sent_broadcasts : cond (ltb 1 (length g.nodes))
        (numbers_where (λ p. p.node == node) (first_broadcast (head_of g)) (conditioned (head_of g))) []
        ≡ filter (λ x. is_sent g x && (home g x == node))
        (range_with_len (process_count g + edge_count g) (condition_count g))
    sent_broadcasts =
        let base : ℕ = process_count g + edge_count g in
        ap (λ xs. cond (ltb 1 (length g.nodes)) xs []) (broadcasts_are (λ (p : HeadProcess). p.node == node))
        ∙ cond-filter (ltb 1 (length g.nodes)) (λ x. node_of g (process_of g (x - base)) == node)
        (range_with_len base (condition_count g))
        ∙ same_filter (λ x. ltb 1 (length g.nodes) && (node_of g (process_of g (x - base)) == node))
        (λ x. is_sent g x && (home g x == node)) (range_with_len base (condition_count g))
        (λ x c. ap (λ i. is_sent_item g i && (node_of g (producer_of_item g i) == node)) (sym (at_broadcast x c).1))

    -- the items that a node sends under the head are those that it sends in the graph: no start, then messages and
    -- broadcasts as above
    pub sends_are : sends_of (head_of g) node ≡ sent_from g node
    sends_are =
        ap₂ (λ xs ys. xs ++ ys) sent_messages sent_broadcasts
        ∙ sym (parts_are (λ x. is_sent g x && (home g x == node)) ∙
        ap (λ xs. xs ++ (filter (λ x. is_sent g x && (home g x == node))
        (range_with_len (process_count g) (edge_count g)) ++ filter (λ x. is_sent g x && (home g x == node))
        (range_with_len (process_count g + edge_count g) (condition_count g))))
        (filter_none (λ x. is_sent g x && (home g x == node)) (numbers_below (process_count g))
        (λ x c. ap (λ b. b && (home g x == node)) (start_not_sent g x (numbers-Contains (process_count g) x c)))))

    -- the messages that a node hears under the head are those that it hears in the graph: the two tests agree (`enters_is`)
    heard_messages : numbers_where (enters (head_of g) node) (first_message (head_of g)) (head_of g).edges
        ≡ filter (λ x. is_heard_by g node (item_at g x))
        (range_with_len (process_count g) (edge_count g))
    heard_messages = messages_are (enters (head_of g) node)
        ∙ same_filter (λ x. enters (head_of g) node (source g (x - process_count g), target g (x - process_count g)))
        (λ x. is_heard_by g node (item_at g x))
        (range_with_len (process_count g) (edge_count g))
        (λ x c. let at = at_message x c in let ends = edge_within (x - process_count g) at.0 in
        ap₂ (λ a b. not (a == node) && (b == node)) (node_there (source g (x - process_count g)) ends.from)
        (node_there (target g (x - process_count g)) ends.to)
        ∙ sym (enters_is (node_of g (source g (x - process_count g))) (node_of g (target g (x - process_count g))) node)
        ∙ ap (is_heard_by g node) (sym at.1))

    -- if a process isn't on this node, there are two nodes or more
    others_need_two : (p : ℕ) → p < process_count g → node < length g.nodes →
        not (node_of g p == node) ≡ (ltb 1 (length g.nodes) && not (node_of g p == node))
    others_need_two p is_process inside = one_node (node_of g p) node (length g.nodes)
        (All-get_or (IsProcessWithin (length g.nodes)) g.processes p _ is_process w.processes).node inside

    -- the items that a node hears under the head are those that it hears in the graph: no start, then messages as above
    -- and broadcasts
    pub hears_are : node < length g.nodes → hears_of (head_of g) node ≡ heard_by g node
    hears_are inside =
        let base : ℕ = process_count g + edge_count g in
        let broadcasts : numbers_where (λ p. not (p.node == node)) (first_broadcast (head_of g))
        (conditioned (head_of g)) ≡ filter (λ x. is_heard_by g node (item_at g x))
        (range_with_len base (condition_count g)) =
        broadcasts_are (λ (p : HeadProcess). not (p.node == node))
        ∙ same_filter (λ x. not (node_of g (process_of g (x - base)) == node)) (λ x. is_heard_by g node (item_at g x))
        (range_with_len base (condition_count g))
        (λ x c. let at = at_broadcast x c in
        others_need_two (process_of g (x - base)) (process_of_below g (x - base) at.0) inside
        ∙ ap (is_heard_by g node) (sym at.1)) in
        ap₂ (λ xs ys. xs ++ ys) heard_messages broadcasts
        ∙ sym (parts_are (λ x. is_heard_by g node (item_at g x)) ∙
        ap (λ xs. xs ++ (filter (λ x. is_heard_by g node (item_at g x))
        (range_with_len (process_count g) (edge_count g)) ++ filter (λ x. is_heard_by g node (item_at g x))
        (range_with_len base (condition_count g))))
        (filter_none (λ x. is_heard_by g node (item_at g x)) (numbers_below (process_count g))
        (λ x c. ap (is_heard_by g node) (item_at-start g x (numbers-Contains (process_count g) x c)))))
