-- What is grown along an order refers to processes and conditions of the graph.
use Rattle.std.proofs.Common.{ℕ, ◌+◌, ◌<◌, ◌≤◌, List, get_or, map, All, Contains, arith, sym, subst}
use Rattle.std.proofs.lemmas.List.Elements.{All-from_get_or, Contains-get_or}
use Rattle.cpg_base.specs.declared.activation.Activation.TheVariants.{Inactive}
use Rattle.cpg_base.specs.Graph.{Graph, process_count, condition_count, inputs, process_of}
use Rattle.cpg_base.proofs.Lists.{Contains-map_parts}
use Rattle.cpg_base.proofs.Inputs.{inputs_parts}
use Rattle.cpg_order.specs.Urgency.{IsTopological}
use Rattle.cpg_base.specs.Order.{place}
use Rattle.cpg_order.specs.Guard.{Guard, Leaf, Test, IsOrderedFrom}
use Rattle.cpg_base.proofs.Places.{from_order}
use Rattle.cpg_order.proofs.Acyclic.{source_in_order}
use Rattle.cpg_rules.specs.declared.steps.Input.{Input}
use Rattle.cpg_rules.specs.Steps.{input_of, step_of, IsStepBelow}
use Rattle.cpg_rules.specs.Trees.{TestsBelow}
use Rattle.cpg_rules.specs.Guards.{Guards, tree_of, IsEdgeBelow, AreBelow, AreGuardsOf}
use Rattle.cpg_rules.proofs.EdgeGuards.{edges_below}

-- what holds of each member of a list holds at each place
all_from_members : {X : Type 0} (P : X → Type 0) (xs : List X) → ((x : X) → Contains xs x → P x) → All P xs
all_from_members P xs f k d l = f (get_or xs k d) (Contains-get_or xs k d l)

-- given: a graph, and a topological order of its processes
module _ (g : Graph) (order : List ℕ) (topological : IsTopological g order) where
  -- the steps of an order refer to processes of the graph
  pub steps_below : (m : ℕ) → process_count g ≤ m → All (IsStepBelow m) (map (step_of g) order)
  steps_below m few = all_from_members (IsStepBelow m) (map (step_of g) order) (λ s among.
      let of_process = Contains-map_parts (step_of g) order s among in
      let within = from_order (process_count g) order topological.all of_process.0 of_process.1 in
      subst (IsStepBelow m) of_process.2 (record {
        process = omega arith;
        inputs = all_from_members (λ (i : Input). i.source < m) (map (input_of g) (inputs g of_process.0))
            (λ i input_there.
            let of_edge = Contains-map_parts (input_of g) (inputs g of_process.0) i input_there in
            let from = source_in_order g order topological of_edge.0
            (inputs_parts g of_process.0 of_edge.0 of_edge.1).0 in
            subst (λ (x : Input). x.source < m) of_edge.2 (omega arith));
      }))

  -- an ordered tree tests conditions of the graph
  tests_below : (k : ℕ) (t : Guard) → IsOrderedFrom g order k t → TestsBelow (condition_count g) t
  tests_below k (Leaf a) h = tt
  tests_below k (Test c off on) h = (
    h.0,
    tests_below (place order (process_of g c) + 1) off h.2,
    tests_below (place order (process_of g c) + 1) on h.3,
  )

  -- the guards of a graph refer to its processes and conditions
  pub guards_below : (guards : Guards) → AreGuardsOf g order guards → AreBelow guards
  guards_below guards are = record {
    trees = All-from_get_or (TestsBelow guards.conditions) guards.trees (Leaf Inactive)
        (λ p l. subst (λ n. TestsBelow n (tree_of guards p)) (sym are.conditions)
        (tests_below 0 (tree_of guards p) (are.trees p (omega (arith, are.count))).ordered));
    edges = subst (λ n. All (IsEdgeBelow n guards.conditions) guards.edges) (sym are.count)
        (subst (λ n. All (IsEdgeBelow (process_count g) n) guards.edges) (sym are.conditions)
        (subst (All (IsEdgeBelow (process_count g) (condition_count g))) (sym are.edges)
        (edges_below g order topological)));
  }
