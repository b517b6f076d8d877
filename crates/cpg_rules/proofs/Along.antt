-- Going along an order: what is left of it from a place on.
use Rattle.std.proofs.Common.{ℕ, suc, ◌+◌, ◌<◌, ◌≡◌, List, [], ◌∷◌, length, get_or, take, drop, Contains, arith, sym}
use Rattle.std.proofs.Common.{ap, ◌∙◌, subst, length-drop, add-one, add-zero}
use Rattle.std.proofs.Math.Seq.{drop-cons}
use Rattle.std.proofs.lemmas.List.{get_or-drop, get_or-take, get_or_default, length-take}
use Rattle.std.proofs.lemmas.List.Elements.{Contains-get_or}
use Rattle.cpg_base.proofs.Pairs.{one_place}
use Rattle.cpg_base.specs.Graph.{Graph, process_count}
use Rattle.cpg_order.specs.Urgency.{IsTopological}
use Rattle.cpg_base.specs.Order.{place}
use Rattle.cpg_base.proofs.Places.{get_or-place, place-lt, Contains-order, from_order}

-- given: a graph, and a topological order of its processes
module _ (g : Graph) (order : List ℕ) (topological : IsTopological g order) where
  -- the process at a place of the order is one of the graph, and stands there
  at_index : (i : ℕ) → i < length order → (get_or order i 0 < process_count g) × (place order (get_or order i 0) ≡ i)
  at_index i inside =
      let in_order : Contains order (get_or order i 0) = Contains-get_or order i 0 inside in
      let place_inside = place-lt order (get_or order i 0) in_order in (
        from_order (process_count g) order topological.all (get_or order i 0) in_order,
        one_place (process_count g) order topological.all (place order (get_or order i 0)) i 0 place_inside inside
            (get_or-place order (get_or order i 0) 0 in_order),
      )

  -- the first process of the rest of the order stands at the place from which the rest begins
  pub rest_first : (k p : ℕ) (ps : List ℕ) → drop k order ≡ p ∷ ps → (p < process_count g) × (place order p ≡ k)
  rest_first k p ps rest_is =
      let inside : k < length order = omega (arith, ap length rest_is, length-drop k order) in
      let is : get_or order k 0 ≡ p =
      ap (λ i. get_or order i 0) (sym (add-zero k)) ∙ sym (get_or-drop k order 0 0)
      ∙ ap (λ xs. get_or xs 0 0) rest_is in
      let there = at_index k inside in
      (subst (λ q. q < process_count g) is there.0, subst (λ q. place order q ≡ k) is there.1)

  -- what is left from the next place on is the rest
  pub rest_more : (k p : ℕ) (ps : List ℕ) → drop k order ≡ p ∷ ps → drop (k + 1) order ≡ ps
  rest_more k p ps rest_is =
      let inside : k < length order = omega (arith, ap length rest_is, length-drop k order) in
      let both : get_or order k 0 ∷ drop (suc k) order ≡ p ∷ ps = sym (drop-cons order k 0 inside) ∙ rest_is in
      ap (λ n. drop n order) (add-one k) ∙ ap (drop 1) both

  -- if nothing is left, each process stands before the place
  pub rest_none : (k : ℕ) → drop k order ≡ [] → (p : ℕ) → p < process_count g → place order p < k
  rest_none k rest_is p below =
      let in_order = place-lt order p (Contains-order (process_count g) order topological.all p below) in
      omega (arith, ap length rest_is, length-drop k order)

  -- The processes before a place.
  -- A number among the first k of the order is a process of the graph, and its place is below k.
  pub in_take : (k r : ℕ) → Contains (take k order) r → (r < process_count g) × (place order r < k)
  in_take k r among =
      let place_inside : among.0 < length (take k order) = among.1 in
      let short = length-take k order in
      let is : get_or order among.0 0 ≡ r =
      get_or_default order among.0 0 r (omega arith) ∙ sym (get_or-take k order among.0 r (omega arith)) ∙ among.2 in
      let there = at_index among.0 (omega arith) in
      (subst (λ q. q < process_count g) is there.0, subst (λ q. place order q < k) is (omega arith))
