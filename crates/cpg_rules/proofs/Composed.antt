-- The trees that are composed along an order are the guards of the processes.
use Rattle.std.proofs.Common.{ℕ, ◌+◌, ◌<◌, ◌≤◌, ◌≡◌, Bool, true, false, ◌&&◌, if◌then◌else◌, List, [], ◌∷◌, length}
use Rattle.std.proofs.Common.{get_or, set, map, drop, filter, replicate, Option, Some, None, Contains, arith}
use Rattle.std.proofs.Common.{refl, sym, ap, ap₂, ◌∙◌, subst, inl, inr, get_or-set_other, get_or-set_same, length-set}
use Rattle.std.specs.List.{list_all}
use Rattle.std.proofs.lemmas.Bool.{cases_eq}
use Rattle.std.proofs.lemmas.List.{length-map, length-replicate}
use Rattle.std.proofs.lemmas.List.FromFn.{length-range_with_len}
use Rattle.cpg_base.specs.declared.activation.Activation.TheVariants.{Inactive, Plain}
use Rattle.cpg_base.specs.Numbers.{numbers_below}
use Rattle.cpg_base.specs.Graph.{Graph, process_count, condition_count, edge_count, process_at, edge_at, source, inputs}
use Rattle.cpg_base.specs.Graph.{process_of, condition_of}
use Rattle.cpg_base.specs.Activity.{is_active, by_first, activation_by, activation, live}
use Rattle.cpg_base.specs.Order.{place}
use Rattle.cpg_base.proofs.ConditionProcesses.{process_of_condition_of, condition_of_below}
use Rattle.cpg_base.proofs.Inputs.{inputs_parts}
use Rattle.cpg_base.proofs.Items.{process_of_below, same_condition}
use Rattle.cpg_base.proofs.Lists.{get_or-map-below, Contains-first, Contains-rest}
use Rattle.cpg_base.proofs.Places.{same_place, Contains-order}
use Rattle.cpg_order.specs.Urgency.{IsTopological}
use Rattle.cpg_order.specs.Guard.{Guard, Leaf, Test, outcome_at, IsOrderedFrom, IsReduced, IsGuardOf}
use Rattle.cpg_order.proofs.Acyclic.{input_goes_up, source_in_order, activation_is}
use Rattle.cpg_rules.specs.declared.edges.ValueTest.{ValueTest}
use Rattle.cpg_rules.specs.Guards.{test_of}
use Rattle.cpg_rules.specs.Steps.{input_of, step_of}
use Rattle.cpg_rules.specs.Composing.{rank, by_input, input_tree, composed, composed_along}
use Rattle.cpg_rules.proofs.Along.{rest_first, rest_more, rest_none}
use Rattle.cpg_rules.proofs.Meeting.{first_settling, live_tree_at, met_at, IsRanked, IsRankedTest, live_tree_ranked}
use Rattle.cpg_rules.proofs.Meeting.{met_ranked, live_tree_reduced, met_reduced}
use Rattle.cpg_rules.proofs.EdgeGuards.{passed}
use Rattle.cpg_rules.proofs.Standings.{place_differs}

-- the condition of a test is that of the process
abbrev condition_in : Option ValueTest → Option ℕ
condition_in None = None
condition_in (Some t) = Some t.condition

-- a test of an edge is of the condition of its source
test_parts : (x : Option ℕ) (w : Option Bool) (t : ValueTest) → test_of x w ≡ Some t → x ≡ Some t.condition
test_parts None w t x_is = cc
test_parts (Some c) None t x_is = cc
test_parts (Some c) (Some v) t x_is = ap condition_in x_is

-- the ranks of the conditions: the places of their processes in the order
abbrev pub place_ranks : Graph → List ℕ → List ℕ
place_ranks g order = map (λ c. place order (process_of g c)) (numbers_below (condition_count g))

-- given: a graph, and a topological order of its processes
module _ (g : Graph) (order : List ℕ) (topological : IsTopological g order) where
  -- the rank of a condition is the place of its process
  rank_is : (c : ℕ) → c < condition_count g → rank (place_ranks g order) c ≡ place order (process_of g c)
  rank_is c below = get_or-map-below (λ d. place order (process_of g d)) (condition_count g) c 0 below

  -- there is a rank for each condition
  length_ranks : length (place_ranks g order) ≡ condition_count g
  length_ranks = length-map (numbers_below (condition_count g)) (λ d. place order (process_of g d))
      ∙ length-range_with_len 0 (condition_count g)

  -- Different conditions have different ranks.
  -- Equal ranks are equal places of their processes, so the processes, and then the conditions, are the same.
  ranks_apart : (c d : ℕ) → c < length (place_ranks g order) → d < length (place_ranks g order) →
      rank (place_ranks g order) c ≡ rank (place_ranks g order) d → c ≡ d
  ranks_apart c d c_ranked d_ranked same_rank =
      let c_below : c < condition_count g = omega (arith, length_ranks) in
      let d_below : d < condition_count g = omega (arith, length_ranks) in
      same_condition g c d c_below d_below (same_place order (process_of g c) (process_of g d)
      (Contains-order (process_count g) order topological.all (process_of g c) (process_of_below g c c_below))
      (Contains-order (process_count g) order topological.all (process_of g d) (process_of_below g d d_below))
      (sym (rank_is c c_below) ∙ same_rank ∙ rank_is d d_below))

  -- A tree that is ordered by rank is ordered from a place on.
  -- By induction on the tree: the rank of each tested condition is the place of its process.
  ordered_by_rank : (k m : ℕ) (t : Guard) → IsRanked (place_ranks g order) k m t → IsOrderedFrom g order k t
  ordered_by_rank k m (Leaf a) by_rank = tt
  ordered_by_rank k m (Test c off on) by_rank =
      let within : c < condition_count g = let c_ranked = by_rank.0 in omega (arith, length_ranks) in
      let is = rank_is c within in (
        within,
        subst (λ n. k ≤ n) is by_rank.1,
        subst (λ n. IsOrderedFrom g order (n + 1) off) is
            (ordered_by_rank (rank (place_ranks g order) c + 1) m off by_rank.3),
        subst (λ n. IsOrderedFrom g order (n + 1) on) is
            (ordered_by_rank (rank (place_ranks g order) c + 1) m on by_rank.4),
      )

  -- a tree is right for process p: it gives its activation, tests earlier conditions by rank, and is reduced
  record IsComposed (p : ℕ) (t : Guard) : Type 0 where
    -- it says how p is active in each outcome
    is : (o : List Bool) → length o ≡ condition_count g → outcome_at t o ≡ activation g o p
    -- its tests are of conditions of earlier processes, by rising rank
    ranked : IsRanked (place_ranks g order) 0 (place order p) t
    -- no test in it has equal sides
    reduced : IsReduced t

  -- given: a process whose earlier processes have their trees: each says how its process is active
  module _ (p : ℕ) (trees : List Guard) (made : (q : ℕ) → q < process_count g → place order q < place order p →
      IsComposed q (get_or trees q (Leaf Inactive))) (join : Bool) where
    -- given: an input e of the process p
    module _ (e : ℕ) (input : Contains (inputs g p) e) where
      -- the input is an edge of the graph
      within : e < edge_count g
      within = (inputs_parts g p e input).0

      -- the source of the input is a process of the graph
      from : source g e < process_count g
      from = source_in_order g order topological e within

      -- the source of the input stands before the process
      sooner : place order (source g e) < place order p
      sooner = input_goes_up g order topological p e input

      -- the tree of the input comes to the input's activation if the edge is live
      input_at : (o : List Bool) → length o ≡ condition_count g →
          outcome_at (input_tree g join trees (input_of g e)) o ≡ (if live g o e then by_input join e else Inactive)
      input_at o long = live_tree_at o (by_input join e) (test_of (condition_of g (source g e)) (edge_at g e).when)
          (get_or trees (source g e) (Leaf Inactive))
          ∙ ap₂ (λ a b. if a && b then by_input join e else Inactive)
          (ap is_active ((made (source g e) from sooner).is o long))
          (passed g order topological o e within (condition_of g (source g e)) refl (edge_at g e).when refl)

      -- The test of the edge is on a condition that comes before the process.
      -- It is the condition of the edge's source, which stands before the process.
      its_test : IsRankedTest (place_ranks g order) (place order (source g e)) (place order p)
          (test_of (condition_of g (source g e)) (edge_at g e).when)
      its_test = record {
        within = λ t h. let its = test_parts (condition_of g (source g e)) (edge_at g e).when t h in
            omega (arith, condition_of_below g (source g e) t.condition its, length_ranks);
        from = λ t h. omega (arith, at t h);
        to = λ t h. omega (arith, at t h, sooner);
      }
        where
          -- the rank of what the edge tests is the place of its source
          at : (t : ValueTest) → test_of (condition_of g (source g e)) (edge_at g e).when ≡ Some t →
              rank (place_ranks g order) t.condition ≡ place order (source g e)
          at t e_is =
              let its = test_parts (condition_of g (source g e)) (edge_at g e).when t e_is in
              rank_is t.condition (condition_of_below g (source g e) t.condition its)
              ∙ ap (place order) (process_of_condition_of g (source g e) t.condition its)

      -- the tree of the input tests in the order of the ranks
      input_ranked : IsRanked (place_ranks g order) 0 (place order p) (input_tree g join trees (input_of g e))
      input_ranked = live_tree_ranked (place_ranks g order) 0 (place order (source g e)) (place order p)
          (by_input join e) (test_of (condition_of g (source g e)) (edge_at g e).when)
          (get_or trees (source g e) (Leaf Inactive)) its_test (omega arith) (omega (arith, sooner))
          (made (source g e) from sooner).ranked

      -- the tree of the input is reduced
      input_reduced : IsReduced (input_tree g join trees (input_of g e))
      input_reduced = live_tree_reduced (by_input join e) (test_of (condition_of g (source g e)) (edge_at g e).when)
          (get_or trees (source g e) (Leaf Inactive))

    -- a tree is right for these inputs of p: it says how p is active by them, tests earlier conditions by rank, and is reduced
    record IsComposedOf (es : List ℕ) (t : Guard) : Type 0 where
      -- it says how p is active by these inputs in each outcome
      is : (o : List Bool) → length o ≡ condition_count g → outcome_at t o ≡ activation_by join es (live g o)
      -- its tests are of conditions of earlier processes, by rising rank
      ranked : IsRanked (place_ranks g order) 0 (place order p) t
      -- no test in it has equal sides
      reduced : IsReduced t

    -- the activation of a process with one input is settled by this input
    by_last : (b j : Bool) (e : ℕ) (f : ℕ → Bool) → f e ≡ b →
        (if b then by_input j e else Inactive) ≡ activation_by j (e ∷ []) f
    by_last true true e f f_is = ap (λ b. by_first (if b then e ∷ [] else [])) (sym f_is)
    by_last false true e f f_is = ap (λ b. by_first (if b then e ∷ [] else [])) (sym f_is)
    by_last true false e f f_is = ap (λ b. if b && true then Plain else Inactive) (sym f_is)
    by_last false false e f f_is = ap (λ b. if b && true then Plain else Inactive) (sym f_is)

    -- the activation of a process with one input more is settled by this input, or else by the others
    by_more : (b j : Bool) (e d : ℕ) (es : List ℕ) (f : ℕ → Bool) → f e ≡ b →
        first_settling j (if b then by_input j e else Inactive) (activation_by j (d ∷ es) f)
        ≡ activation_by j (e ∷ d ∷ es) f
    by_more true true e d es f f_is = ap (λ b. by_first (if b then e ∷ filter f (d ∷ es) else filter f (d ∷ es)))
        (sym f_is)
    by_more false true e d es f f_is = ap (λ b. by_first (if b then e ∷ filter f (d ∷ es) else filter f (d ∷ es)))
        (sym f_is)
    by_more true false e d es f f_is = ap (λ b. if b && list_all f (d ∷ es) then Plain else Inactive) (sym f_is)
    by_more false false e d es f f_is = ap (λ b. if b && list_all f (d ∷ es) then Plain else Inactive) (sym f_is)

    -- The tree that is composed of some inputs is right for them.
    -- By induction on the inputs: one alone decides by its own tree, and the first of several meets the tree of the others.
    composed_of : (es : List ℕ) → ((e : ℕ) → Contains es e → Contains (inputs g p) e) →
        IsComposedOf es (composed g join (place_ranks g order) trees (map (input_of g) es))
    composed_of [] all_inputs = record { is = λ o long. refl; ranked = tt; reduced = tt }
    composed_of (e ∷ []) all_inputs =
        let is_input = all_inputs e (Contains-first e []) in
        record {
          is = λ o long. input_at e is_input o long ∙ by_last (live g o e) join e (live g o) refl;
          ranked = input_ranked e is_input;
          reduced = input_reduced e is_input;
        }
    composed_of (e ∷ d ∷ es) all_inputs =
        let is_input = all_inputs e (Contains-first e (d ∷ es)) in
        let later = composed_of (d ∷ es) (λ x k. all_inputs x (Contains-rest e (d ∷ es) x k)) in
        record {
          is = λ o long. met_at o join (place_ranks g order) (input_tree g join trees (input_of g e))
              (composed g join (place_ranks g order) trees (map (input_of g) (d ∷ es)))
              ∙ ap₂ (first_settling join) (input_at e is_input o long) (later.is o long)
              ∙ by_more (live g o e) join e d es (live g o) refl;
          ranked = met_ranked (place_ranks g order) ranks_apart (place order p) join 0
              (input_tree g join trees (input_of g e))
              (composed g join (place_ranks g order) trees (map (input_of g) (d ∷ es)))
              (input_ranked e is_input) later.ranked;
          reduced = met_reduced join (place_ranks g order) (input_tree g join trees (input_of g e))
              (composed g join (place_ranks g order) trees (map (input_of g) (d ∷ es)))
              (input_reduced e is_input) later.reduced;
        }

  -- the trees of the processes before a place are made
  record AreComposed (k : ℕ) (trees : List Guard) : Type 0 where
    -- there is a tree for each process
    long : length trees ≡ process_count g
    -- those of the processes before the place are right
    made : (p : ℕ) → p < process_count g → place order p < k → IsComposed p (get_or trees p (Leaf Inactive))

  -- With the tree of the next process in the order, one more tree is made.
  -- A process is the next one, or one before it, whose tree stays.
  one_more_composed : (k p : ℕ) (trees : List Guard) → AreComposed k trees → p < process_count g → place order p ≡ k
      → AreComposed (k + 1)
      (set trees p (composed g (process_at g p).join (place_ranks g order) trees (map (input_of g) (inputs g p))))
  one_more_composed k p trees are p_below at = record {
    long = length-set trees p tree ∙ are.long;
    made = λ q q_below q_before. elim (cases_eq q p) [
      | inl is_p ↦ subst (λ x. IsComposed x (get_or (set trees p tree) x (Leaf Inactive))) (sym is_p)
          (subst (IsComposed p) (sym (get_or-set_same trees p tree (Leaf Inactive) (omega (arith, are.long)))) its)
      | inr is_other ↦ subst (IsComposed q) (sym (get_or-set_other trees p q tree (Leaf Inactive) is_other))
          (are.made q q_below (let places_differ = place_differs g order topological q p q_below p_below is_other in
          omega (arith, at)))
    ];
  }
    where
      -- the tree of the process at the place
      tree : Guard
      tree = composed g (process_at g p).join (place_ranks g order) trees (map (input_of g) (inputs g p))

      -- The tree is the one that is composed for the process.
      -- It is right for all its inputs, so it gives the process's activation (`activation_is`).
      its : IsComposed p tree
      its =
          let of = composed_of p trees (λ q q_below q_before. are.made q q_below (omega (arith, at)))
          (process_at g p).join
          (inputs g p) (λ e c. c) in
          record {
            is = λ o long. of.is o long ∙ sym (activation_is g order topological o p (omega arith));
            ranked = of.ranked;
            reduced = of.reduced;
          }

  -- once the trees of the processes before place k are made, the steps of the rest of the order make those of all
  composed_to_end : (ps : List ℕ) (k : ℕ) (trees : List Guard) → drop k order ≡ ps → AreComposed k trees
      → (length (composed_along g (place_ranks g order) (map (step_of g) ps) trees) ≡ process_count g)
      × ((p : ℕ) → p < process_count g →
      IsComposed p (get_or (composed_along g (place_ranks g order) (map (step_of g) ps) trees) p (Leaf Inactive)))
  composed_to_end [] k trees rest_is are =
      (are.long, λ p below. are.made p below (rest_none g order topological k rest_is p below))
  composed_to_end (p ∷ ps) k trees rest_is are =
      let first_there = rest_first g order topological k p ps rest_is in
      composed_to_end ps (k + 1)
      (set trees p (composed g (process_at g p).join (place_ranks g order) trees (map (input_of g) (inputs g p))))
      (rest_more g order topological k p ps rest_is)
      (one_more_composed k p trees are first_there.0 first_there.1)

  -- the trees that the steps of the whole order make, from trees that are all inactive
  abbrev pub whole : List Guard
  whole = composed_along g (place_ranks g order) (map (step_of g) order) (replicate (process_count g) (Leaf Inactive))

  -- after the whole order each process has its composed tree
  all_composed : (length whole ≡ process_count g) ×
      ((p : ℕ) → p < process_count g → IsComposed p (get_or whole p (Leaf Inactive)))
  all_composed = composed_to_end order 0 (replicate (process_count g) (Leaf Inactive)) refl
      (record { long = length-replicate (process_count g) (Leaf Inactive); made = λ p l m. absurd (omega arith) })

  -- there is a tree for each process
  pub length_composed : length whole ≡ process_count g
  length_composed = all_composed.0

  -- The tree that is composed for each process is its guard.
  -- It gives the activations, and being ordered by rank it is ordered along the order.
  pub composed_guards : (p : ℕ) → p < process_count g → IsGuardOf g order p (get_or whole p (Leaf Inactive))
  composed_guards p below =
      let made = all_composed.1 p below in
      record {
        is = made.is;
        ordered = ordered_by_rank 0 (place order p) (get_or whole p (Leaf Inactive)) made.ranked;
        reduced = made.reduced;
      }
