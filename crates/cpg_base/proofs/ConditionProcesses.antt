-- The conditions of a graph and the processes that have them: each condition is that of its process.
use Rattle.std.proofs.Common.{ℕ, ◌<◌, ◌≤◌, ◌≡◌, ◌==◌, Bool, true, false, List, length, get_or, Some, is_some, unwrap_or}
use Rattle.std.proofs.Common.{Contains, arith, ap, ◌∙◌, subst, ⊎_elim, lt_irrefl, eqb-true}
use Rattle.std.specs.List.Sorted.{IsStrictlyIncreasing}
use Rattle.std.proofs.lemmas.Bool.{cases_lt}
use Rattle.std.proofs.lemmas.List.Elements.{Contains-get_or}
use Rattle.std.proofs.lemmas.List.{get_or_default}
use Rattle.std.proofs.lemmas.List.Kept.{AllPairs-from_increasing}
use Rattle.std.proofs.lemmas.List.Quantifiers.{position-Some}
use Rattle.cpg_base.specs.Numbers.{numbers_below}
use Rattle.cpg_base.specs.Graph.{Graph, process_count, edge_count, edge_at, source, outputs, is_disjunction}
use Rattle.cpg_base.specs.Graph.{disjunctions, condition_count, condition_of, process_of}
use Rattle.cpg_base.specs.Activity.{value_of}
use Rattle.cpg_base.proofs.Lists.{Contains-filter, Contains-numbers, list_any_true}
use Rattle.cpg_base.proofs.Items.{disjunctions_rise}
use Rattle.cpg_base.proofs.Inputs.{outputs-Contains}
use Rattle.cpg_base.specs.Order.{place}
use Rattle.cpg_base.proofs.Places.{position-place, place-le, place-lt, get_or-place}

-- in a rising list the place of the number at place k is k
place-get_or : (xs : List ℕ) (k : ℕ) → IsStrictlyIncreasing xs → k < length xs → place xs (get_or xs k 0) ≡ k
place-get_or xs k rises inside =
    let listed = Contains-get_or xs k 0 inside in
    let le = place-le xs (get_or xs k 0) k inside (get_or_here xs k inside) in
    ⊎_elim
    (λ (earlier : place xs (get_or xs k 0) < k). absurd
    (lt_irrefl _ (subst (λ y. y < get_or xs k 0) (get_or-place xs (get_or xs k 0) 0 listed)
    (AllPairs-from_increasing xs rises (place xs (get_or xs k 0)) k 0 earlier inside))))
    (λ (not_earlier : k ≤ place xs (get_or xs k 0)). omega arith)
    (cases_lt (place xs (get_or xs k 0)) k)
  where
    -- an element at a place of the list doesn't depend on what stands past its end
    get_or_here : (ys : List ℕ) (i : ℕ) → i < length ys → get_or ys i (get_or ys i 0) ≡ get_or ys i 0
    get_or_here ys i inside = get_or_default ys i _ 0 inside

module _ (g : Graph) where
  -- the process of a condition is one of those that have conditions
  pub Contains-disjunctions : (c : ℕ) → c < condition_count g → Contains (disjunctions g) (process_of g c)
  Contains-disjunctions c inside = Contains-get_or (disjunctions g) c 0 inside

  -- the condition of a condition's process is that condition
  pub condition_of_process_of : (c : ℕ) → c < condition_count g → condition_of g (process_of g c) ≡ Some c
  condition_of_process_of c inside = position-place (disjunctions g) (process_of g c) (Contains-disjunctions c inside)
      ∙ ap Some (place-get_or (disjunctions g) c (disjunctions_rise g) inside)

  -- the process of a process's condition is that process
  pub process_of_condition_of : (p c : ℕ) → condition_of g p ≡ Some c → process_of g c ≡ p
  process_of_condition_of p c is = eqb-true (process_of g c) p (position-Some (λ q. q == p) (disjunctions g) c 0 is).1

  -- the condition of a process that has one
  pub condition_there : (p : ℕ) → p < process_count g → is_disjunction g p ≡ true →
      (c : ℕ) × (c < condition_count g) × (process_of g c ≡ p)
  condition_there p inside has_condition =
      let listed = Contains-filter (is_disjunction g) (numbers_below (process_count g)) p has_condition
      (Contains-numbers (process_count g) p inside) in
      (place (disjunctions g) p, place-lt (disjunctions g) p listed, get_or-place (disjunctions g) p 0 listed)

  -- the source of a conditional edge has a condition
  pub condition_of_edge : (e : ℕ) (wanted : Bool) → e < edge_count g → source g e < process_count g →
      (edge_at g e).when ≡ Some wanted →
      (c : ℕ) × (c < condition_count g) ×
      (process_of g c ≡ source g e)
  condition_of_edge e wanted inside source_inside when_is = condition_there (source g e) source_inside
      (list_any_true (λ f. is_some (edge_at g f).when) (outputs g (source g e)) e
      (outputs-Contains g e inside)
      (ap is_some when_is))

  -- the value of a process's condition is the one that the outcome gives the condition
  pub value_of_process : (values : List Bool) (c : ℕ) → c < condition_count g →
      value_of g values (process_of g c) ≡ get_or values c false
  value_of_process values c inside = ap (λ o. get_or values (unwrap_or o 0) false) (condition_of_process_of c inside)

module _ (g : Graph) where
  -- the condition of a process is a condition of the graph
  pub condition_of_below : (p c : ℕ) → condition_of g p ≡ Some c → c < condition_count g
  condition_of_below p c is = (position-Some (λ q. q == p) (disjunctions g) c 0 is).0
