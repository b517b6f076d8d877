-- The inputs and outputs of a copy are the copies of its process's.
use Rattle.std.proofs.Common.{◌≡◌, ℕ, zero, suc, ◌+◌, ◌-◌, ◌<◌, ◌≤◌, Bool, false, ◌==◌, List, ◌∷◌, ◌++◌, length}
use Rattle.std.proofs.Common.{length-append, append-nil, get_or, map, filter, Contains, is_some, refl, sym, ap, ap₂}
use Rattle.std.proofs.Common.{◌∙◌, subst, arith, eqb-true, eq-eqb}
use Rattle.std.specs.List.{range_with_len, list_any}
use Rattle.std.proofs.lemmas.Bool.{false_from_ne_true}
use Rattle.std.proofs.lemmas.List.{length-map, get_or_append_left, get_or-append-add}
use Rattle.std.proofs.lemmas.List.Elements.{Contains-get_or, filter-append}
use Rattle.cpg_base.specs.Numbers.{numbers_below}
use Rattle.cpg_base.specs.Graph.{Graph, edge_count, edge_at, source, target, inputs, outputs, is_disjunction}
use Rattle.cpg_base.specs.declared.process.Edge.{Edge}
use Rattle.cpg_base.proofs.Lists.{filter_none, from_range, numbers-Contains, same_filter, same_any, same_truth}
use Rattle.cpg_base.proofs.Inputs.{outputs_parts}
use Rattle.cpg_base.proofs.Sums.{filter-map}
use Rattle.cpg_cube.proofs.Mapped.{any_map}
use Rattle.cpg_table.proofs.GraphItems.{range-append}
use Rattle.cpg_hyper.specs.Unrolled.{copied_edge}
use Rattle.cpg_hyper.proofs.CopiedEdges.{no_edge}
use Rattle.cpg_hyper.proofs.Around.{AreAround}

-- a range that begins a later is the range with a added to each number
range-moved : (a b n : ℕ) → range_with_len (a + b) n ≡ map (λ e. a + e) (range_with_len b n)
range-moved a b zero = refl
range-moved a b (suc n) = ap (λ xs. (a + b) ∷ xs) (ap (λ m. range_with_len m n) (next a b) ∙ range-moved a (b + 1) n)
  where
    -- a sum in another order
    next : (x y : ℕ) → x + y + 1 ≡ x + (y + 1)
    next x y = omega arith

-- two numbers that are moved alike are equal if they were
moved_test : (a x y : ℕ) → ((a + x) == (a + y)) ≡ (x == y)
moved_test a x y =
    same_truth ((a + x) == (a + y)) (x == y) (λ t. eq-eqb x y (omega (arith, eqb-true (a + x) (a + y) t)))
    (λ t. eq-eqb (a + x) (a + y) (omega (arith, eqb-true x y t)))

-- numbers that differ fail the test of equality
other_test : (x y : ℕ) → (x ≡ y → ⊥) → (x == y) ≡ false
other_test x y differ = false_from_ne_true (x == y) (λ same. differ (eqb-true x y same))

-- if only numbers from n to before n + m pass, they are the ones below m that pass, moved by n
within_range : (test : ℕ → Bool) (n m b : ℕ) → ((e : ℕ) → e < n → test e ≡ false) →
    ((k : ℕ) → k < b → test (n + m + k) ≡ false) →
    filter test (numbers_below (n + (m + b))) ≡ map (λ e. n + e) (filter (λ e. test (n + e)) (numbers_below m))
within_range test n m b front back =
    ap (filter test) (range-append 0 n (m + b) ∙ ap (λ k. numbers_below n ++ range_with_len k (m + b))
    (nothing_before n) ∙ ap (λ xs. numbers_below n ++ xs) (range-append n m b))
    ∙ filter-append test (numbers_below n) (range_with_len n m ++ range_with_len (n + m) b)
    ∙ ap₂ (λ (xs : List ℕ) (ys : List ℕ). xs ++ ys)
    (filter_none test (numbers_below n) (λ e listed. front e (numbers-Contains n e listed)))
    (filter-append test (range_with_len n m) (range_with_len (n + m) b)
    ∙ ap₂ (λ (xs : List ℕ) (ys : List ℕ). xs ++ ys) (ap (filter test) (ap (λ k. range_with_len k m) (nothing_after n)
    ∙ range-moved n 0 m) ∙ filter-map test (λ e. n + e) (numbers_below m))
    (filter_none test (range_with_len (n + m) b) (λ e listed. past e (from_range (n + m) b e listed)))
    ∙ append-nil (map (λ e. n + e) (filter (λ e. test (n + e)) (numbers_below m))))
  where
    -- a 0 in front of a sum adds nothing
    nothing_before : (k : ℕ) → 0 + k ≡ k
    nothing_before k = omega arith

    -- a 0 at the end of a sum adds nothing
    nothing_after : (k : ℕ) → k ≡ k + 0
    nothing_after k = omega arith

    -- a number from n + m on doesn't pass
    past : (e : ℕ) → (n + m ≤ e) × (e < n + m + b) → test e ≡ false
    past e (low, high) = let offset : ℕ = e - (n + m) in
        subst (λ x. test x ≡ false) (let is : n + m + offset ≡ e = omega (arith, low) in is)
        (back offset (omega (arith, low, high)))

-- given: a graph in which the edges of a part are copied, with all other edges around them
module _ (g part : Graph) (n first size : ℕ)
    (around : AreAround n first size g.edges (map (copied_edge first) part.edges))
    (copies : (e : ℕ) → e < edge_count part → edge_at g (n + e) ≡ copied_edge first (edge_at part e)) where
  -- the copies of the part's edges
  abbrev mine : List Edge
  mine = map (copied_edge first) part.edges

  -- there are as many as edges of the part
  long : length mine ≡ edge_count part
  long = length-map part.edges (copied_edge first)

  -- how many edges there are: those before the copies, the copies, and those after them
  pub edge_total : edge_count g ≡ n + (edge_count part + length around.back)
  edge_total = omega (
    arith,
    ap length around.are,
    length-append around.front (mine ++ around.back),
    length-append mine around.back,
    long,
    around.long,
  )

  -- an edge before the copies is one of those in front
  front_at : (e : ℕ) → e < n → Contains around.front (edge_at g e)
  front_at e early =
      let inside : e < length around.front = omega (arith, around.long, early) in
      subst (Contains around.front) (sym (ap (λ xs. get_or xs e no_edge) around.are
      ∙ get_or_append_left around.front (mine ++ around.back) no_edge e inside))
      (Contains-get_or around.front e no_edge inside)

  -- an edge after the copies is one of those behind
  back_at : (k : ℕ) → k < length around.back → Contains around.back (edge_at g (n + edge_count part + k))
  back_at k inside =
      let place : n + edge_count part + k ≡ length around.front + (length mine + k) =
      omega (arith, around.long, long) in
      subst (Contains around.back) (sym (ap₂ (λ xs j. get_or xs j no_edge) around.are place
      ∙ get_or-append-add around.front (mine ++ around.back) (length mine + k) no_edge ∙
      get_or-append-add mine around.back k no_edge)) (Contains-get_or around.back k no_edge inside)

  -- the inputs of a copy are the copies of its process's inputs
  pub copied_inputs : (q : ℕ) → q < size → inputs g (first + q) ≡ map (λ e. n + e) (inputs part q)
  -- of all edges, those before and after the copies lead to no process of the instance; a copy leads to q's copy exactly if
  -- the edge leads to q
  copied_inputs q inside =
      ap (λ m. filter (λ e. target g e == (first + q)) (numbers_below m)) edge_total
      ∙ within_range (λ e. target g e == (first + q)) n (edge_count part) (length around.back)
      (λ e early. other_test (target g e) (first + q)
      (λ is. omega (arith, (around.earlier (edge_at g e) (front_at e early)).1, is)))
      (λ j j_inside. other_test (target g (n + edge_count part + j)) (first + q)
      (λ is. omega (arith, (around.later (edge_at g (n + edge_count part + j)) (back_at j j_inside)).1, is, inside)))
      ∙ ap (map (λ e. n + e)) (same_filter (λ e. target g (n + e) == (first + q)) (λ e. target part e == q)
      (numbers_below (edge_count part))
      (λ e listed. ap (λ (d : Edge). d.to == (first + q)) (copies e (numbers-Contains (edge_count part) e listed))
      ∙ moved_test first (target part e) q))

  -- the outputs of a copy are the copies of its process's outputs
  pub copied_outputs : (q : ℕ) → q < size → outputs g (first + q) ≡ map (λ e. n + e) (outputs part q)
  -- as for inputs, with the sources of edges
  copied_outputs q inside =
      ap (λ m. filter (λ e. source g e == (first + q)) (numbers_below m)) edge_total
      ∙ within_range (λ e. source g e == (first + q)) n (edge_count part) (length around.back)
      (λ e early. other_test (source g e) (first + q)
      (λ is. omega (arith, (around.earlier (edge_at g e) (front_at e early)).0, is)))
      (λ j j_inside. other_test (source g (n + edge_count part + j)) (first + q)
      (λ is. omega (arith, (around.later (edge_at g (n + edge_count part + j)) (back_at j j_inside)).0, is, inside)))
      ∙ ap (map (λ e. n + e)) (same_filter (λ e. source g (n + e) == (first + q)) (λ e. source part e == q)
      (numbers_below (edge_count part))
      (λ e listed. ap (λ (d : Edge). d.from == (first + q)) (copies e (numbers-Contains (edge_count part) e listed))
      ∙ moved_test first (source part e) q))

  -- a copy has a condition exactly if its process has one
  pub copied_condition : (q : ℕ) → q < size → is_disjunction g (first + q) ≡ is_disjunction part q
  copied_condition q inside =
      ap (list_any (λ e. is_some (edge_at g e).when)) (copied_outputs q inside)
      ∙ any_map (λ e. is_some (edge_at g e).when) (λ e. n + e) (outputs part q)
      ∙ same_any (λ e. is_some (edge_at g (n + e)).when) (λ e. is_some (edge_at part e).when) (outputs part q)
      (λ e listed. ap (λ (d : Edge). is_some d.when) (copies e (outputs_parts part q e listed).0))
