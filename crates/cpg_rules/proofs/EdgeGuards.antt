-- The guards of edges, and that they say when an edge is live.
use Rattle.std.proofs.Common.{ℕ, ◌+◌, ◌<◌, ◌≡◌, Bool, false, ◌&&◌, List, [], ◌∷◌, ◌++◌, length, get_or, map, unwrap_or}
use Rattle.std.proofs.Common.{Option, Some, None, All, IfSome, arith, refl, sym, ap, ap₂, ◌∙◌, subst}
use Rattle.std.proofs.lemmas.List.{length-map}
use Rattle.std.proofs.lemmas.List.Elements.{All-from_get_or}
use Rattle.std.proofs.lemmas.List.FromFn.{length-range_with_len}
use Rattle.cpg_base.specs.declared.process.Edge.{Edge}
use Rattle.cpg_base.specs.Numbers.{numbers_below, same_bool}
use Rattle.cpg_base.specs.Graph.{Graph, process_count, edge_count, condition_count, edge_at, source, condition_of}
use Rattle.cpg_base.specs.Activity.{is_active, takes, value_of, active, live}
use Rattle.cpg_base.proofs.Lists.{map_below_push, get_or-map-below}
use Rattle.cpg_order.specs.Urgency.{IsTopological}
use Rattle.cpg_order.proofs.Acyclic.{source_in_order}
use Rattle.cpg_base.proofs.ConditionProcesses.{condition_of_edge, condition_of_process_of, condition_of_below}
use Rattle.cpg_rules.specs.declared.edges.ValueTest.{ValueTest}
use Rattle.cpg_rules.specs.declared.edges.EdgeGuard.{EdgeGuard}
use Rattle.cpg_rules.specs.Guards.{Guards, test_of, edge_guard_of, is_passed, active_by, live_by, AreGuardsOf}
use Rattle.cpg_rules.specs.Guards.{IsEdgeBelow}

-- ---- collecting them

-- given: the guards of the first n edges
module _ (g : Graph) (edges : List Edge) (are : edges ≡ g.edges) (n : ℕ) (xs : List EdgeGuard)
    (so_far : xs ≡ map (edge_guard_of g) (numbers_below n)) where
  -- the edge at the place
  abbrev here : Edge
  here = get_or edges n (record { from = 0; to = 0; size = 0; when = None; frozen = false })

  -- the edge at hand is the one of this number
  at : here ≡ edge_at g n
  at = ap (λ es. get_or es n (record { from = 0; to = 0; size = 0; when = None; frozen = false })) are

  -- with its source and test the guard of one more edge is found
  pub one_more_edge : (condition : Option ℕ) (test : Option ValueTest) (ys : List EdgeGuard) →
      condition ≡ condition_of g here.from →
      test ≡ test_of condition here.when
      → ys ≡ xs ++ (record { source = here.from; test = test }) ∷ [] →
      ys ≡ map (edge_guard_of g) (numbers_below (n + 1))
  one_more_edge condition test ys c t is =
      map_below_push (edge_guard_of g) xs ys (record { source = here.from; test = test }) n so_far
      (ap (λ t. let e : EdgeGuard = record { source = here.from; test = t } in e) (t ∙ ap (λ c. test_of c here.when) c)
      ∙ ap (λ (d : Edge).
      let e : EdgeGuard = record { source = d.from; test = test_of (condition_of g d.from) d.when } in e) at)
      is

-- ---- what they say

-- given: a graph, and a topological order of its processes
module _ (g : Graph) (order : List ℕ) (topological : IsTopological g order) where
  -- the guards of the edges refer to processes and conditions of the graph
  pub edges_below : All (IsEdgeBelow (process_count g) (condition_count g))
      (map (edge_guard_of g) (numbers_below (edge_count g)))
  edges_below = All-from_get_or (IsEdgeBelow (process_count g) (condition_count g))
      (map (edge_guard_of g) (numbers_below (edge_count g))) (record { source = 0; test = None })
      (λ e l. let within : e < edge_count g = omega (
        arith,
        length-map (numbers_below (edge_count g)) (edge_guard_of g),
        length-range_with_len 0 (edge_count g),
      ) in
      subst (IsEdgeBelow (process_count g) (condition_count g))
      (sym (get_or-map-below (edge_guard_of g) (edge_count g) e (record { source = 0; test = None }) within))
      (record { source = source_in_order g order topological e within; test = below (condition_of g (source g e)) (edge_at g e).when (λ c is. condition_of_below g (source g e) c is) }))
    where
      -- by whether the source has a condition, and whether the edge has a `when`
      below : (x : Option ℕ) (w : Option Bool) → ((c : ℕ) → x ≡ Some c → c < condition_count g) →
          IfSome (test_of x w) (λ t. t.condition < condition_count g)
      below None w f = tt
      below (Some c) None f = tt
      below (Some c) (Some v) f = f c refl

  -- The test of an edge passes exactly if the edge takes the value of its source.
  -- Without a `when` both are true; an edge with one has a source with a condition, whose value both look at.
  pub passed : (values : List Bool) (e : ℕ) → e < edge_count g → (x : Option ℕ) → condition_of g (source g e) ≡ x →
      (w : Option Bool) →
      (edge_at g e).when ≡ w →
      is_passed (test_of x w) values ≡ takes w (value_of g values (source g e))
  passed values e edge_below None is None when = refl
  passed values e edge_below (Some c) is None when = refl
  passed values e edge_below None is (Some v) when =
      let its_condition = condition_of_edge g e v edge_below (source_in_order g order topological e edge_below) when in
      let there : condition_of g (source g e) ≡ Some its_condition.0 =
      subst (λ q. condition_of g q ≡ Some its_condition.0) its_condition.2
      (condition_of_process_of g its_condition.0 its_condition.1) in
      let never : None ≡ Some its_condition.0 = sym is ∙ there in cc
  passed values e edge_below (Some c) is (Some v) when = ap (λ x. same_bool v (get_or values (unwrap_or x 0) false))
      (sym is)

  -- given: the guards of the graph, and an outcome
  module _ (guards : Guards) (are : AreGuardsOf g order guards) (values : List Bool)
      (long : length values ≡ condition_count g) where
    -- a process is active by its tree exactly if it is active
    pub active_by-is : (p : ℕ) → p < process_count g → active_by guards values p ≡ active g values p
    active_by-is p p_below = ap is_active ((are.trees p p_below).is values long)

    -- an edge is live by its guard exactly if it is live
    pub live_by-is : (e : ℕ) → e < edge_count g → live_by guards values e ≡ live g values e
    live_by-is e e_below =
        ap (λ x. active_by guards values x.source && is_passed x.test values)
        (ap (λ xs. get_or xs e (record { source = 0; test = None })) are.edges
        ∙ get_or-map-below (edge_guard_of g) (edge_count g) e (record { source = 0; test = None }) e_below)
        ∙ ap₂ ◌&&◌ (active_by-is (source g e) (source_in_order g order topological e e_below))
        (passed values e e_below (condition_of g (source g e)) refl (edge_at g e).when refl)

-- there is a guard for each edge
pub length-edges : (g : Graph) (order : List ℕ) (guards : Guards) → AreGuardsOf g order guards →
    length guards.edges ≡ edge_count g
length-edges g order guards are = ap length are.edges ∙ length-map (numbers_below (edge_count g)) (edge_guard_of g)
    ∙ length-range_with_len 0 (edge_count g)
