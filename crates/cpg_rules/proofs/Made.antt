-- What is composed from the steps of an order are its guards.
use Rattle.std.proofs.Common.{ℕ, ◌≡◌, List, length, map, get_or, replicate, ap, ◌∙◌, subst, sym}
use Rattle.cpg_base.specs.declared.activation.Activation.TheVariants.{Inactive}
use Rattle.cpg_base.specs.Numbers.{numbers_below}
use Rattle.cpg_base.specs.Graph.{Graph, process_count, condition_count, edge_count}
use Rattle.cpg_order.specs.Urgency.{IsTopological}
use Rattle.cpg_order.specs.Guard.{Guard, Leaf, IsGuardOf}
use Rattle.cpg_rules.specs.Steps.{ActivationStep, step_of}
use Rattle.cpg_rules.specs.Composing.{composed_along}
use Rattle.cpg_rules.specs.Guards.{Guards, edge_guard_of, AreGuardsOf}
use Rattle.cpg_rules.proofs.Composed.{place_ranks, length_composed, composed_guards}

-- Trees composed along an order, with the edge guards of the graph, are the guards of the graph.
-- The arguments are made those of `composed_guards` one by one, and that says it of each tree.
pub made : (g : Graph) (order : List ℕ) → IsTopological g order → (ranks : List ℕ) → ranks ≡ place_ranks g order →
    (steps : List ActivationStep) →
    steps ≡ map (step_of g) order
    → (seeds : List Guard) → seeds ≡ replicate (process_count g) (Leaf Inactive)
    → (guards : Guards) → guards.conditions ≡ condition_count g → guards.trees ≡ composed_along g ranks steps seeds
    → guards.edges ≡ map (edge_guard_of g) (numbers_below (edge_count g))
    → AreGuardsOf g order guards
made g order topological ranks by_place steps along seeds inactive guards conditions trees edges =
    let is : guards.trees
    ≡ composed_along g (place_ranks g order) (map (step_of g) order) (replicate (process_count g) (Leaf Inactive)) =
    trees ∙ ap (composed_along g ranks steps) inactive
    ∙ ap (λ r. composed_along g r steps (replicate (process_count g) (Leaf Inactive))) by_place
    ∙ ap (λ s. composed_along g (place_ranks g order) s (replicate (process_count g) (Leaf Inactive))) along in
    record {
      conditions = conditions;
      count = ap length is ∙ length_composed g order topological;
      trees = λ p h. subst (λ ts. IsGuardOf g order p (get_or ts p (Leaf Inactive))) (sym is)
          (composed_guards g order topological p h);
      edges = edges;
    }
