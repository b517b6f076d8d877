-- When an edge is live: if its source is active, and has the value that the edge asks for.
use Rattle.std.proofs.Common.{ℕ, ◌<◌, ◌≡◌, Bool, ◌&&◌, List, get_or, length, None, sym, ap, ◌∙◌}
use Rattle.cpg_base.specs.Graph.{Graph, condition_count, condition_of, edge_at, edge_count, source}
use Rattle.cpg_base.specs.Activity.{active, live}
use Rattle.cpg_base.proofs.Lists.{get_or-map-below}
use Rattle.cpg_order.specs.Urgency.{IsTopological}
use Rattle.cpg_order.proofs.Acyclic.{source_in_order}
use Rattle.cpg_rules.specs.Guards.{Guards, AreGuardsOf, is_passed, test_of, active_by, edge_guard, edge_guard_of}
use Rattle.cpg_rules.proofs.EdgeGuards.{active_by-is, live_by-is}

-- the guard that is kept for edge `e` is the one that the graph gives it
guard_at : (g : Graph) (order : List ℕ) (guards : Guards) → AreGuardsOf g order guards → (e : ℕ) → e < edge_count g →
    edge_guard guards e ≡ edge_guard_of g e
guard_at g order guards are e is_edge = ap (λ xs. get_or xs e (record { source = 0; test = None })) are.edges
    ∙ get_or-map-below (edge_guard_of g) (edge_count g) e (record { source = 0; test = None }) is_edge

-- edge `e` is live exactly if its source is active and its test of the source's value passes
pub live_tested : (g : Graph) (order : List ℕ) → IsTopological g order → (guards : Guards) →
    AreGuardsOf g order guards → (values : List Bool) → length values ≡ condition_count g → (e : ℕ) →
    e < edge_count g
    → live g values e
    ≡ (active g values (source g e) && is_passed (test_of (condition_of g (source g e)) (edge_at g e).when) values)
live_tested g order topological guards are values long e is_edge =
    sym (live_by-is g order topological guards are values long e is_edge)
    ∙ ap (λ x. active_by guards values x.source && is_passed x.test values) (guard_at g order guards are e is_edge)
    ∙ ap (λ a. a && is_passed (test_of (condition_of g (source g e)) (edge_at g e).when) values)
    (active_by-is g order topological guards are values long (source g e)
    (source_in_order g order topological e is_edge))
