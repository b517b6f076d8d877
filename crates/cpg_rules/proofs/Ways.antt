-- An outcome's way through a tree lists the conditions that decide, in urgency order.
use Rattle.std.proofs.Common.{ℕ, ◌+◌, ◌<◌, ◌≤◌, Bool, true, false, if◌then◌else◌, List, ◌∷◌, get_or, Contains, arith}
use Rattle.std.proofs.Common.{subst, inl, inr}
use Rattle.cpg_base.specs.Graph.{Graph, condition_count, process_of}
use Rattle.cpg_base.proofs.Lists.{Contains-cases, Contains-nil, Contains-filter, Contains-filter_parts}
use Rattle.cpg_base.proofs.Ordered.{Rises, Rises-all_pairs, Rises-filter, same_rising}
use Rattle.cpg_base.specs.Order.{place}
use Rattle.cpg_order.specs.Deciding.{decides}
use Rattle.cpg_order.specs.Counting.{conditions_along}
use Rattle.cpg_order.specs.Guard.{Guard, Leaf, Test, way, IsOrderedFrom, deciding_along}
use Rattle.cpg_order.proofs.Along.{from_along, Contains-along, conditions_rise}
use Rattle.cpg_order.proofs.GuardLaw.{way_is_deciding}
use Rattle.cpg_rules.specs.Laws.{WaysAreDeciding}

-- given: a graph, and an order of its processes
module _ (g : Graph) (order : List ℕ) where
  -- one condition's process stands before the other's
  abbrev pub Sooner : ℕ → ℕ → Type 0
  Sooner c d = place order (process_of g c) < place order (process_of g d)

  -- The conditions on the way through an ordered tree are those of the graph, at later places.
  -- By induction on the tree: the condition at the top, or one further down, which stands later still.
  way_within : (k : ℕ) (t : Guard) (o : List Bool) → IsOrderedFrom g order k t → (c : ℕ) → Contains (way t o) c →
      (c < condition_count g) × (k ≤ place order (process_of g c))
  way_within k (Leaf a) o ordered c on_way = absurd (Contains-nil c on_way)
  way_within k (Test e off on) o ordered c on_way = elim (Contains-cases e _ c on_way) [
    | inl is ↦ subst (λ x. (x < condition_count g) × (k ≤ place order (process_of g x))) is (ordered.0, ordered.1)
    | inr further_down ↦ go (get_or o e false) further_down
        (λ i. way_within (place order (process_of g e) + 1) on o ordered.3 c i)
        (λ i. way_within (place order (process_of g e) + 1) off o ordered.2 c i)
  ]
    where
      -- by the value of the tested condition
      go : (v : Bool) → Contains (if v then way on o else way off o) c
          → (Contains (way on o) c →
          (c < condition_count g) × (place order (process_of g e) + 1 ≤ place order (process_of g c)))
          → (Contains (way off o) c →
          (c < condition_count g) × (place order (process_of g e) + 1 ≤ place order (process_of g c)))
          → (c < condition_count g) × (k ≤ place order (process_of g c))
      go true among if_on if_off =
          let deeper = if_on among in
          (deeper.0, let deeper_place = deeper.1 in let top_place = ordered.1 in omega arith)
      go false among if_on if_off =
          let deeper = if_off among in
          (deeper.0, let deeper_place = deeper.1 in let top_place = ordered.1 in omega arith)

  -- On the way through an ordered tree the processes of the conditions rise in the order.
  -- By induction on the tree: all conditions further down stand later than the one at the top.
  way_rises : (k : ℕ) (t : Guard) (o : List Bool) → IsOrderedFrom g order k t → Rises Sooner (way t o)
  way_rises k (Leaf a) o ordered = tt
  way_rises k (Test c off on) o ordered = go (get_or o c false)
      (way_rises (place order (process_of g c) + 1) off o ordered.2)
      (way_rises (place order (process_of g c) + 1) on o ordered.3)
    where
      -- by the value of the tested condition
      go : (v : Bool) → Rises Sooner (way off o) → Rises Sooner (way on o) →
          Rises Sooner (c ∷ (if v then way on o else way off o))
      go true o_rises j = (
        λ next on_way.
            let deeper = (way_within (place order (process_of g c) + 1) on o ordered.3 next on_way).1 in omega arith,
        j,
      )
      go false o_rises j = (
        λ next on_way.
            let deeper = (way_within (place order (process_of g c) + 1) off o ordered.2 next on_way).1 in
            omega arith,
        o_rises,
      )

-- An outcome's way through the tree of a process tests exactly the conditions that decide, in urgency order.
-- Both lists rise along the order and have the same conditions, so they are equal.
pub ways_are_deciding : WaysAreDeciding
ways_are_deciding g order p tree values urgency topological guard long =
    same_rising (Sooner g order) (λ a b s t. omega arith) (way tree values) (deciding_along g order values p)
    (way_rises g order 0 tree values guard.ordered)
    (Rises-filter (Sooner g order) (decides g values p) (conditions_along g order)
    (Rises-all_pairs (Sooner g order) (conditions_along g order) (conditions_rise g order topological)))
    (λ c m. let within = (way_within g order 0 tree values guard.ordered c m).0 in
    Contains-filter (decides g values p) (conditions_along g order) c
    ((way_is_deciding g order urgency p values long tree guard c within).0 m)
    (Contains-along g order topological c within))
    (λ c m. let r = Contains-filter_parts (decides g values p) (conditions_along g order) c m in
    (way_is_deciding g order urgency p values long tree guard c (from_along g order c r.0).0).1 r.1)
