-- The order that a graph gives is topological exactly if no process shows that it isn't, and one process at most shows
-- that. In the lemmas p and q are processes.
use Rattle.std.proofs.Common.{ℕ, ◌<◌, ◌≤◌, ◌≡◌, true, false, ◌==◌, List, Some, IfSome, length, get_or, take, Contains}
use Rattle.std.proofs.Common.{IsPermutation, arith, refl, sym, ap, ◌∙◌, subst, ◌⊎◌, inl, inr, eq-eqb, eqb-true}
use Rattle.std.proofs.lemmas.Bool.{both_ways, cases_eq, cases_lt}
use Rattle.std.proofs.lemmas.List.{take_all, length-take, get_or-take, get_or_default}
use Rattle.std.proofs.lemmas.List.Elements.{Contains-get_or}
use Rattle.cpg_base.specs.Numbers.{numbers_below}
use Rattle.cpg_base.specs.Graph.{Graph, process_count, edge_count, source, target, inputs}
use Rattle.cpg_base.specs.Limits.{IsWithinLimits, IsOrderWithin}
use Rattle.cpg_base.specs.Order.{place, comes_before, IsOrder}
use Rattle.cpg_base.proofs.Inputs.{inputs_parts}
use Rattle.cpg_base.proofs.Lists.{Contains-filter, Contains-numbers, numbers-Contains, list_any_true, list_any_false}
use Rattle.cpg_base.proofs.Lists.{list_any_parts, from_any_false}
use Rattle.cpg_base.proofs.Pairs.{permutation_of_same, numbers_apart}
use Rattle.cpg_base.proofs.Places.{apart, comes_before_from, places_from_comes_before, before_contains, place-le}
use Rattle.cpg_base.proofs.Places.{get_or-place, length_order, Contains-order, from_order}
use Rattle.cpg_order.specs.Reach.{is_in}
use Rattle.cpg_order.specs.Urgency.{IsTopological}
use Rattle.cpg_order.proofs.Acyclic.{edge_goes_up, input_goes_up}
use Rattle.cpg_order.proofs.Along.{is_in_from}
use Rattle.cpg_rules.specs.Given.{GivesTopological, LacksNone, IsLacking, is_early, IsFirstEarly, IsBadOrder}

-- an edge is an input of its target
input_of_target : (g : Graph) (e : ℕ) → e < edge_count g → Contains (inputs g (target g e)) e
input_of_target g e below =
    Contains-filter (λ f. target g f == target g e) (numbers_below (edge_count g)) e
    (eq-eqb (target g e) (target g e) refl) (Contains-numbers (edge_count g) e below)

-- given: a graph, and a list of numbers that may be an order of its processes
module _ (g : Graph) (list : List ℕ) where
  -- a list that lacks none has each process
  there : LacksNone g list → (p : ℕ) → p < process_count g → Contains list p
  there all p below =
      let found = list_any_parts (λ q. q == p) list (all p below) in
      subst (Contains list) (eqb-true found.0 p found.2) found.1

  -- ---- edge by edge

  -- a process that stands before the source of one of its inputs is early
  pub early_by : (p e : ℕ) → e < edge_count g → target g e ≡ p → comes_before list p (source g e) ≡ true →
      is_early g list p ≡ true
  early_by p e below at before =
      list_any_true (λ f. comes_before list p (source g f)) (inputs g p) e
      (subst (λ q. Contains (inputs g q) e) at (input_of_target g e below)) before

  -- a process that stands before no source of its inputs isn't early
  pub early_by_none : (p : ℕ) →
      ((e : ℕ) → e < edge_count g → target g e ≡ p → comes_before list p (source g e) ≡ false) →
      is_early g list p ≡ false
  early_by_none p none = list_any_false (λ f. comes_before list p (source g f)) (inputs g p)
      (λ e among. let parts = inputs_parts g p e among in none e parts.0 parts.1)

  -- ---- place by place

  -- given: an order that is as long as there are processes
  module _ (lawful : IsOrder list) (long : length list ≡ process_count g) where
    -- each process is in the list
    in_list : (p : ℕ) → p < process_count g → Contains list p
    in_list p below = Contains-order (length list) list lawful.all p (omega (arith, long, below))

    -- what stands in the list is a process of the graph
    pub at_place : (i : ℕ) → i < length list → get_or list i 0 < process_count g
    at_place i i_below =
        let below = from_order (length list) list lawful.all (get_or list i 0) (Contains-get_or list i 0 i_below) in
        omega (arith, below, long)

    -- The first early process that is found in the list is the first early one.
    -- A process that comes before it is among the ones before its place.
    pub early_first : (i : ℕ) → i < length list → ((q : ℕ) → Contains (take i list) q → is_early g list q ≡ false) →
        is_early g list (get_or list i 0) ≡ true →
        IsFirstEarly g list (get_or list i 0)
    early_first i inside before early = record {
      all = λ p m. is_in_from list p (in_list p m);
      within = at_place i inside;
      early = early;
      before = λ q earlier. before q (taken q earlier);
    }
      where
        -- what comes before the process at place i is among the first i
        taken : (q : ℕ) → comes_before list q (get_or list i 0) ≡ true → Contains (take i list) q
        taken q earlier =
            let has_q = before_contains list q (get_or list i 0) earlier in
            let first = places_from_comes_before list q (get_or list i 0) earlier in
            let here = place-le list (get_or list i 0) i inside (get_or_default list i (get_or list i 0) 0 inside) in
            let cut = length-take i list in (
              place list q,
              omega (arith, first, here, inside, cut),
              get_or-take i list (place list q) q (omega (arith, first, here)) ∙ get_or-place list q q has_q,
            )

    -- if no process up to the end of the list is early, none is
    pub early_nowhere : (i : ℕ) → length list ≤ i → ((q : ℕ) → Contains (take i list) q → is_early g list q ≡ false) →
        (p : ℕ) → p < process_count g →
        is_early g list p ≡ false
    early_nowhere i past before p below = before p
        (subst (λ xs. Contains xs p) (sym (take_all i list past)) (in_list p below))

  -- ---- a list that shows none is topological

  -- given: the list has processes of the graph alone, each at most once, and lacks none
  module _ (within : IsOrderWithin (process_count g) list) (all : LacksNone g list) where
    -- the list has each process once
    each_once : IsPermutation (numbers_below (process_count g)) list
    each_once = permutation_of_same (numbers_below (process_count g)) list (numbers_apart (process_count g)) within.once
        (λ p c. there all p (numbers-Contains (process_count g) p c))
        (λ p c. Contains-numbers (process_count g) p (subst (λ q. q < process_count g) c.2 (within.there c.0 p c.1)))

    -- a list that lacks no process has as many as there are
    pub whole_long : length list ≡ process_count g
    whole_long = length_order (process_count g) list each_once

    -- a list that lacks no process is an order
    pub order_lawful : IsWithinLimits g → IsOrder list
    order_lawful limits = record {
      few = omega (arith, whole_long, limits.few_processes);
      all = subst (λ n. IsPermutation (numbers_below n) list) (sym whole_long) each_once;
    }

    -- A list that lacks no process, and in which none is early, is topological.
    -- The ends of an edge differ and are both in the list; were the target first, it would be early.
    pub none_early : (order : List ℕ) → IsTopological g order → IsWithinLimits g →
        ((p : ℕ) → p < process_count g → is_early g list p ≡ false) →
        IsTopological g list
    none_early order topological limits late = record {
      all = each_once;
      forward = λ e c. first e (numbers-Contains (edge_count g) e c);
    }
      where
        -- along each edge the source comes before the target
        first : (e : ℕ) → e < edge_count g → comes_before list (source g e) (target g e) ≡ true
        first e below =
            let ends = limits.edges e _ below in
            let up = edge_goes_up g order topological e below in
            elim (apart list (source g e) (target g e) (there all (source g e) ends.from)
            (there all (target g e) ends.to) (λ same. let same_place = ap (place order) same in omega
            (arith, up, same_place))) [
              | inl c ↦ comes_before_from list (source g e) (target g e) c
              | inr c ↦ absurd (both_ways (comes_before list (target g e) (source g e))
                  (from_any_false (λ f. comes_before list (target g e) (source g f)) (inputs g (target g e)) e
                  (late (target g e) ends.to) (input_of_target g e below))
                  (comes_before_from list (target g e) (source g e) c))
            ]

  -- ---- and a topological one shows none

  -- In a topological list no process is lacking or early.
  -- It has each process, and the source of each input comes before the process.
  pub none_bad : IsTopological g list → (p : ℕ) → IsLacking g list p ⊎ IsFirstEarly g list p → ⊥
  none_bad topological p (inl lacking) = both_ways (is_in list p) lacking.lacks
      (is_in_from list p (Contains-order (process_count g) list topological.all p lacking.within))
  none_bad topological p (inr early) =
      let later_source = list_any_parts (λ e. comes_before list p (source g e)) (inputs g p) early.early in
      let up = input_goes_up g list topological p later_source.0 later_source.1 in
      let down = places_from_comes_before list p (source g later_source.0) later_source.2 in
      omega (arith, up, down)

  -- ---- one process at most shows it

  -- One process is the first that the order lacks.
  -- Of two different ones the lesser would be lacking before the other.
  one_lacking : (p q : ℕ) → IsLacking g list p → IsLacking g list q → p ≡ q
  one_lacking p q a b = elim (cases_lt p q) [
    | inl less ↦ absurd (both_ways (is_in list p) a.lacks (b.before p less))
    | inr at_least ↦ elim (cases_lt q p) [
      | inl less ↦ absurd (both_ways (is_in list q) b.lacks (a.before q less))
      | inr not_less ↦ omega (arith, at_least, not_less)
    ]
  ]

  -- One process at most is the first that stands too early.
  -- Of two different ones the one that comes first would be early before the other.
  one_early : (p q : ℕ) → IsFirstEarly g list p → IsFirstEarly g list q → p ≡ q
  one_early p q a b = elim (cases_eq p q) [
    | inl same ↦ same
    | inr other ↦ elim (apart list p q (there a.all p a.within) (there b.all q b.within) other) [
      | inl c ↦ absurd (both_ways (is_early g list p) (b.before p (comes_before_from list p q c)) a.early)
      | inr c ↦ absurd (both_ways (is_early g list q) (a.before q (comes_before_from list q p c)) b.early)
    ]
  ]

  -- at most one process of a list is the least that is lacking or the first that is early
  one_of_list : (p q : ℕ) → IsLacking g list p ⊎ IsFirstEarly g list p → IsLacking g list q ⊎ IsFirstEarly g list q →
      p ≡ q
  one_of_list p q (inl a) (inl b) = one_lacking p q a b
  one_of_list p q (inl a) (inr b) = absurd (both_ways (is_in list p) a.lacks (b.all p a.within))
  one_of_list p q (inr a) (inl b) = absurd (both_ways (is_in list q) b.lacks (a.all q b.within))
  one_of_list p q (inr a) (inr b) = one_early p q a b

-- at most one process shows that the given order isn't topological
pub one_bad : (g : Graph) (p q : ℕ) → IsBadOrder g p → IsBadOrder g q → p ≡ q
one_bad g p q a b =
    let both : Some a.order ≡ Some b.order = sym a.given ∙ b.given in
    let same : a.order ≡ b.order = cc in
    one_of_list g b.order p q (subst (λ list. IsLacking g list p ⊎ IsFirstEarly g list p) same a.bad) b.bad

-- ---- the list that a graph gives

-- given: the list is the order that the graph gives
module _ (g : Graph) (list : List ℕ) (given : Some list ≡ g.order) where
  -- the numbers in the given order are processes of the graph
  pub given_within : IsWithinLimits g → IsOrderWithin (process_count g) list
  given_within limits = subst (λ o. IfSome o (IsOrderWithin (process_count g))) (sym given) limits.order

  -- a graph whose given order is topological gives a topological order
  pub gives_topological : IsTopological g list → GivesTopological g
  gives_topological topological = subst (λ o. IfSome o (IsTopological g)) given topological
