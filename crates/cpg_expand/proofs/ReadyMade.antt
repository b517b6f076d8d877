-- When a node goes on after a frozen process, as the code finds it; and what the loops that look for a waiting process
-- or item show.
use Rattle.std.proofs.Common.{ℕ, ◌+◌, ◌<◌, ◌≡◌, ◌==◌, ◌&&◌, ◌≤◌, nat_le, nat_lt, not, Bool, true, false, List, Option}
use Rattle.std.proofs.Common.{arith, eq-eqb, lt-ltb, inl, inr, sym, ap, ◌∙◌, subst}
use Rattle.std.proofs.lemmas.Bool.{and_from, and_parts, cases_lt, eqb-true, le-leb, leb-true, not-true}
use Rattle.cpg_base.specs.Graph.{Graph, item_count, node_of, home, producer, is_frozen, is_sent}
use Rattle.cpg_base.specs.Order.{place}
use Rattle.cpg_base.specs.Scenario.{Scenario}
use Rattle.cpg_base.proofs.Lists.{Contains-nil}
use Rattle.cpg_cube.specs.declared.literal.Literal.{Literal}
use Rattle.cpg_order.specs.Guard.{Guard}
use Rattle.cpg_tree.specs.Tree.{TreeState, IsConstant}
use Rattle.cpg_expand.specs.Agreeing.{Agrees}
use Rattle.cpg_expand.specs.Forest.{ForestState, later_tree}
use Rattle.cpg_tree.specs.GraphTrees.{no_tree}
use Rattle.cpg_expand.specs.Waited.{IsQueuedFor, IsReadyOnce}
use Rattle.cpg_expand.proofs.EndTrees.{ready_always}

-- a tree without paths agrees with anything
none_has_value : {T : Type 0} (k : ℕ) (s : Scenario) (literals : List Literal) (fact : T → Type 0) →
    Agrees s literals fact (no_tree k)
none_has_value k s literals fact =
    record { value = λ x on. absurd (Contains-nil x on.stands); says = λ x on. absurd (Contains-nil x on.stands) }

-- if the process is active everywhere, its node is ready at its ends, whatever it waited for
pub ready_everywhere : (g : Graph) (f : ForestState) (node : ℕ) (guard : Guard) (active : TreeState Bool)
    (end : TreeState (Option ℕ)) →
    IsConstant true active.faults active →
    IsReadyOnce g f node guard active end (later_tree end)
ready_everywhere g f node guard active end always = record {
  wait = no_tree g.faults;
  waits = λ s few base x has_value support time valued. none_has_value g.faults s _ _;
  is = ready_always g active end (no_tree g.faults) always;
}

-- ---- what waits

-- if none of the first k processes waits for the node behind the place `at`, and by the test b process k doesn't
-- either, none of the first k + 1 does
pub none_waits : (g : Graph) (order : List ℕ) (node at k : ℕ) (b : Bool) →
    ((q : ℕ) → q < k → node_of g q ≡ node → at < place order q → is_frozen g q ≡ false → ⊥) →
    b ≡ (node_of g k == node && (nat_lt at (place order k) && not (is_frozen g k))) → b ≡ false → (q : ℕ) → q < k + 1 →
    node_of g q ≡ node → at < place order q → is_frozen g q ≡ false → ⊥
none_waits g order node at k b so_far is off q below there behind thawed = elim (cases_lt q k) [
  | inl less ↦ so_far q less there behind thawed
  | inr more ↦ by (let is_k : q ≡ k = omega (arith, below, more) in is_k)
]
  where
    -- true isn't false
    apart : true ≡ false → ⊥
    apart equal = cc

    -- the process that waits isn't the next one
    by : q ≡ k → ⊥
    by is_k = apart (sym (and_from (node_of g k == node) (nat_lt at (place order k) && not (is_frozen g k))
        (eq-eqb (node_of g k) node (ap (node_of g) (sym is_k) ∙ there))
        (and_from (nat_lt at (place order k)) (not (is_frozen g k)) (lt-ltb at (place order k)
        (subst (λ n. at < place order n) is_k behind)) (ap not (ap (is_frozen g) (sym is_k) ∙ thawed)))) ∙ sym is ∙
        off)

-- if none of the first k items waits for free slots of the node from the place `at` on, and by the test b item k
-- doesn't either, none of the first k + 1 does
pub none_goes_by : (g : Graph) (order : List ℕ) (node at k : ℕ) (b : Bool) →
    ((y : ℕ) → y < k → is_sent g y ≡ true → home g y ≡ node → at ≤ place order (producer g y) →
    is_frozen g y ≡ false → ⊥) →
    b ≡ ((is_sent g k && not (is_frozen g k)) && ((home g k == node) && nat_le at (place order (producer g k)))) →
    b ≡ false → (y : ℕ) → y < k + 1 → is_sent g y ≡ true → home g y ≡ node →
    at ≤ place order (producer g y) → is_frozen g y ≡ false → ⊥
none_goes_by g order node at k b so_far is off y below sent there behind thawed = elim (cases_lt y k) [
  | inl less ↦ so_far y less sent there behind thawed
  | inr more ↦ by (let is_k : y ≡ k = omega (arith, below, more) in is_k)
]
  where
    -- true isn't false
    apart : true ≡ false → ⊥
    apart equal = cc

    -- the item that waits isn't the next one
    by : y ≡ k → ⊥
    by is_k = apart (sym
        (and_from (is_sent g k && not (is_frozen g k)) ((home g k == node) && nat_le at (place order (producer g k)))
        (and_from (is_sent g k) (not (is_frozen g k)) (ap (is_sent g) (sym is_k) ∙ sent)
        (ap not (ap (is_frozen g) (sym is_k) ∙ thawed)))
        (and_from (home g k == node) (nat_le at (place order (producer g k)))
        (eq-eqb (home g k) node (ap (home g) (sym is_k) ∙ there))
        (le-leb at (place order (producer g k)) (subst (λ n. at ≤ place order (producer g n)) is_k behind)))) ∙ sym is
        ∙ off)

-- if the test of item y is true, some item waits for the node's slots
pub one_goes_by : (g : Graph) (order : List ℕ) (node at y : ℕ) (b : Bool) → y < item_count g →
    b ≡ ((is_sent g y && not (is_frozen g y)) && ((home g y == node) && nat_le at (place order (producer g y)))) →
    b ≡ true → IsQueuedFor g order at node
-- part by part: the item is sent and isn't frozen, its node is this one, and its producer stands at the place or later
one_goes_by g order node at y b within is on =
    let both = and_parts (is_sent g y && not (is_frozen g y))
    ((home g y == node) && nat_le at (place order (producer g y))) (sym is ∙ on) in
    let goes = and_parts (is_sent g y) (not (is_frozen g y)) both.0 in
    let behind = and_parts (home g y == node) (nat_le at (place order (producer g y))) both.1 in
    record {
      other = y;
      within = within;
      sent = goes.0;
      there = eqb-true (home g y) node behind.0;
      later = leb-true at (place order (producer g y)) behind.1;
      thawed = not-true (is_frozen g y) goes.1;
    }
