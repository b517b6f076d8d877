-- The standings after a step are right, and what is read off them is the activation.
use Rattle.std.proofs.Common.{ℕ, ◌+◌, ◌<◌, ◌≤◌, ◌≡◌, ◌≢◌, Bool, true, false, ◌&&◌, if◌then◌else◌, List, [], ◌∷◌, get_or}
use Rattle.std.proofs.Common.{map, filter, Contains, Option, Some, None, is_some, arith, refl, sym, ap, ◌∙◌}
use Rattle.std.proofs.Common.{subst, inl, inr, get_or-set_other, get_or-set_same, length-set}
use Rattle.std.proofs.lemmas.Bool.{cases_eq}
use Rattle.std.proofs.lemmas.List.Folds.{list_all-map}
use Rattle.cpg_base.specs.declared.activation.Activation.{Activation}
use Rattle.cpg_base.specs.declared.activation.Activation.TheVariants.{Inactive, Plain, By}
use Rattle.cpg_base.specs.Graph.{Graph, process_count, condition_count, process_at, edge_at, edge_count, source, inputs}
use Rattle.cpg_base.specs.Graph.{process_of, condition_of}
use Rattle.cpg_base.specs.Activity.{is_active, takes, value_of, by_first, activation_by, activation, active, live}
use Rattle.cpg_base.proofs.Inputs.{inputs_parts, same_activation_by}
use Rattle.cpg_base.proofs.Items.{process_of_below, same_condition}
use Rattle.cpg_order.specs.Urgency.{IsTopological}
use Rattle.cpg_base.specs.Order.{place}
use Rattle.cpg_base.proofs.Places.{same_place, Contains-order}
use Rattle.cpg_order.proofs.Acyclic.{input_goes_up, source_in_order, activation_is}
use Rattle.cpg_base.proofs.ConditionProcesses.{condition_of_edge, value_of_process, condition_of_process_of}
use Rattle.cpg_base.proofs.ConditionProcesses.{process_of_condition_of, condition_of_below}
use Rattle.cpg_rules.specs.Steps.{input_of, step_of}
use Rattle.cpg_rules.specs.Growing.{is_taken, is_live_in, first_live, activation_from, activation_in, standing, choice}
use Rattle.cpg_rules.specs.Growing.{settled}
use Rattle.cpg_rules.specs.Way.{Follows, AreSettled}

-- ---- the activation of a step is that of its inputs' edges

-- given: a graph, and standings s
module _ (g : Graph) (s : List (Option Bool)) where
  -- whether an edge is live by the standings
  abbrev pub is_live_edge : ℕ → Bool
  is_live_edge e = is_taken (edge_at g e).when (get_or s (source g e) None)

  -- The first live input by the standings is the first of those that are live.
  -- By induction on the inputs.
  first_live-is : (es : List ℕ) → first_live s (map (input_of g) es) ≡ by_first (filter is_live_edge es)
  first_live-is [] = refl
  first_live-is (e ∷ es) = go (is_live_edge e) (first_live-is es)
    where
      -- by whether the first input is live
      go : (b : Bool) → first_live s (map (input_of g) es) ≡ by_first (filter is_live_edge es) →
          (if b then By e else first_live s (map (input_of g) es))
          ≡ by_first (if b then e ∷ filter is_live_edge es else filter is_live_edge es)
      go true ih = refl
      go false ih = ih

  -- the activation of some inputs by the standings goes by those that are live by them
  activation_from-is : (join : Bool) (es : List ℕ) →
      activation_from join s (map (input_of g) es) ≡ activation_by join es is_live_edge
  activation_from-is join [] = refl
  activation_from-is true (e ∷ es) = first_live-is (e ∷ es)
  activation_from-is false (e ∷ es) =
      ap (λ b. if b then Plain else Inactive) (list_all-map (is_live_in s) (input_of g) (e ∷ es))

  -- the activation by the standings goes by the inputs that are live by them
  pub activation_in-is : (p : ℕ) →
      activation_in s (step_of g p) ≡ activation_by (process_at g p).join (inputs g p) is_live_edge
  activation_in-is p = activation_from-is (process_at g p).join (inputs g p)

-- given: a graph, and a topological order of its processes
module _ (g : Graph) (order : List ℕ) (topological : IsTopological g order) where
  -- different processes have different places
  pub place_differs : (p q : ℕ) → p < process_count g → q < process_count g → p ≢ q → place order p ≢ place order q
  place_differs p q p_below q_below differ e = differ (same_place order p q
      (Contains-order (process_count g) order topological.all p p_below)
      (Contains-order (process_count g) order topological.all q q_below) e)

  -- given: standings s that are right for the processes before place k of the order
  module _ (k : ℕ) (s : List (Option Bool)) (are : AreSettled g order k s) where
    -- ---- an input of a process at the place is live as the standings say

    -- given: an outcome that follows the standings, and an input of the process at the place
    module _ (o : List Bool) (follows : Follows g order k s o) (p e : ℕ) (at : place order p ≡ k)
        (input : Contains (inputs g p) e) where
      -- the input is an edge of the graph
      within : e < edge_count g
      within = (inputs_parts g p e input).0

      -- the source of the input is a process of the graph
      from : source g e < process_count g
      from = source_in_order g order topological e within

      -- the source of the input stands before the place
      sooner : place order (source g e) < k
      sooner = omega (arith, input_goes_up g order topological p e input)

      -- An edge accepts the value of its source's condition by the standings exactly if it accepts that of the outcome.
      -- An edge with a `when` has a source with a condition, whose value the outcome has from the standings.
      takes_same : (v : Bool) → get_or s (source g e) None ≡ Some v → (w : Option Bool) → (edge_at g e).when ≡ w →
          takes w v ≡ takes w (value_of g o (source g e))
      takes_same v is None when = refl
      takes_same v is (Some wanted) when =
          let source_condition = condition_of_edge g e wanted within from when in
          let there : value_of g o (source g e) ≡ get_or o source_condition.0 false =
          subst (λ q. value_of g o q ≡ get_or o source_condition.0 false) source_condition.2
          (value_of_process g o source_condition.0 source_condition.1) in
          let value : get_or o source_condition.0 false ≡ v = follows.takes source_condition.0
          source_condition.1 (subst (λ q. place order q < k) (sym source_condition.2) sooner) v
          (subst (λ q. get_or s q None ≡ Some v) (sym source_condition.2) is) in
          ap (takes (Some wanted)) (sym (there ∙ value))

      -- the input is live by the standings exactly if its edge is live
      live_by : (x : Option Bool) → get_or s (source g e) None ≡ x → is_some x ≡ active g o (source g e) →
          is_taken (edge_at g e).when x ≡ live g o e
      live_by None is same = ap (λ b. b && takes (edge_at g e).when (value_of g o (source g e))) same
      live_by (Some v) is same = takes_same v is (edge_at g e).when refl
          ∙ ap (λ b. b && takes (edge_at g e).when (value_of g o (source g e))) same

      -- an edge is live by the standings exactly if it is live in each outcome that follows them
      pub live_here : is_live_edge g s e ≡ live g o e
      live_here = live_by (get_or s (source g e) None) refl (are.right o follows (source g e) from sooner)

    -- a process at the place has the activation that the standings say
    pub activation_here : (o : List Bool) → Follows g order k s o → (p : ℕ) → p < process_count g → place order p ≡ k →
        activation_in s (step_of g p) ≡ activation g o p
    activation_here o follows p below at =
        activation_in-is g s p
        ∙ same_activation_by (process_at g p).join (inputs g p) (is_live_edge g s) (live g o)
        (λ e is_input. live_here o follows p e at is_input)
        ∙ sym (activation_is g order topological o p (omega arith))

    -- ---- the next standings

    -- given: the process at the place, and a value of its condition
    module _ (p : ℕ) (h : p < process_count g) (few : process_count g ≤ 128) (at : place order p ≡ k) (v : Bool) where
      -- the standings after p is settled with the value v
      abbrev next : List (Option Bool)
      next = settled s (step_of g p) v

      -- the standing that is set is that of the process
      next_here : get_or next p None ≡ standing (activation_in s (step_of g p)) v
      next_here = get_or-set_same s p (standing (activation_in s (step_of g p)) v) None (omega (arith, are.long))

      -- all other processes stand as before
      next_before : (q : ℕ) → q ≢ p → get_or next q None ≡ get_or s q None
      next_before q is_other = get_or-set_other s p q (standing (activation_in s (step_of g p)) v) None is_other

      -- an earlier process isn't this one
      not_here : (q : ℕ) → place order q < k → q ≢ p
      not_here q before_k same = let one_place = ap (place order) same in omega arith

      -- an outcome that follows the standings after a process follows those before it
      pub follows_back : (o : List Bool) → Follows g order (k + 1) next o → Follows g order k s o
      follows_back o follows = record {
        takes = λ c below before_k value is.
            follows.takes c below (omega arith) value
            (next_before (process_of g c) (not_here (process_of g c) before_k) ∙ is);
      }

      -- only an active process has a standing, with the value that was set
      some_standing : (a : Activation) (v w : Bool) → standing a v ≡ Some w → (is_active a ≡ true) × (v ≡ w)
      some_standing Inactive v w is = cc
      some_standing Plain v w is = (refl, cc)
      some_standing (By i) v w is = (refl, cc)

      -- An outcome follows the standings after a process, if the condition of the process has the value.
      -- A condition is that of the process, or of one before it, whose standing stays.
      pub follows_on : (o : List Bool) → Follows g order k s o →
          ((c : ℕ) → c < condition_count g → process_of g c ≡ p → is_active (activation_in s (step_of g p)) ≡ true →
          get_or o c false ≡ v) →
          Follows g order (k + 1) next o
      follows_on o follows own = record {
        takes = λ c below before_next value is. elim (cases_eq (process_of g c) p) [
          | inl is_its ↦
              let standing_parts = some_standing (activation_in s (step_of g p)) v value
              (sym next_here ∙ subst (λ q. get_or next q None ≡ Some value) is_its is) in
              own c below is_its standing_parts.0 ∙ standing_parts.1
          | inr is_other ↦ follows.takes c below
              (let places_differ = place_differs (process_of g c) p (process_of_below g c below) h is_other in
              omega arith) value (sym (next_before (process_of g c) is_other) ∙ is)
        ];
      }

      -- an active process without a choice has no condition
      no_condition : (a : Activation) (x : Option ℕ) (c : ℕ) → choice a x ≡ None → is_active a ≡ true → x ≡ Some c → ⊥
      no_condition Inactive x c a_is is_true x_is = cc
      no_condition Plain x c a_is is_true x_is = cc
      no_condition (By j) x c a_is is_true x_is = cc

      -- if one way alone is taken, all outcomes take it
      pub follows_one_way : choice (activation_in s (step_of g p)) (condition_of g p) ≡ None → (o : List Bool) →
          Follows g order k s o →
          Follows g order (k + 1) next o
      follows_one_way none o follows = follows_on o follows
          (λ c i j active. absurd (no_condition (activation_in s (step_of g p)) (condition_of g p) c none active
          (subst (λ x. condition_of g x ≡ Some c) j (condition_of_process_of g c i))))

      -- what is to be chosen is the process's condition
      chosen : (a : Activation) (x : Option ℕ) (c : ℕ) → choice a x ≡ Some c → x ≡ Some c
      chosen Inactive x c is = cc
      chosen Plain x c is = is
      chosen (By j) x c is = is

      -- if both ways are taken, the condition that is chosen is that of the process
      pub its_condition : (c : ℕ) → choice (activation_in s (step_of g p)) (condition_of g p) ≡ Some c →
          condition_of g p ≡ Some c
      its_condition c is = chosen (activation_in s (step_of g p)) (condition_of g p) c is

      -- an outcome takes the way of the value of its condition
      pub follows_value : (c : ℕ) → choice (activation_in s (step_of g p)) (condition_of g p) ≡ Some c →
          (o : List Bool) → get_or o c false ≡ v → Follows g order k s o →
          Follows g order (k + 1) next o
      follows_value c some o value follows =
          let its = its_condition c some in
          follows_on o follows (λ d i j active. ap (λ x. get_or o x false) (same_condition g d c i
          (condition_of_below g p c its) (j ∙ sym (process_of_condition_of g p c its))) ∙ value)

      -- a process has a standing exactly if it is active
      is_some-standing : (a : Activation) → is_some (standing a v) ≡ is_active a
      is_some-standing Inactive = refl
      is_some-standing Plain = refl
      is_some-standing (By i) = refl

      -- The standings after a process are right for the next place.
      -- A process is the one that was settled, by its inputs, or one before it, whose standing stays.
      pub settled_next : AreSettled g order (k + 1) next
      settled_next = record {
        long = length-set s p (standing (activation_in s (step_of g p)) v) ∙ are.long;
        right = λ o follows q q_below before_next. elim (cases_eq q p) [
          | inl is_p ↦ ap (λ x. is_some (get_or next x None)) is_p ∙ ap is_some next_here
              ∙ is_some-standing (activation_in s (step_of g p))
              ∙ ap is_active (activation_here o (follows_back o follows) p h at) ∙ ap (active g o) (sym is_p)
          | inr is_other ↦ ap is_some (next_before q is_other)
              ∙ are.right o (follows_back o follows) q q_below
              (let places_differ = place_differs q p q_below h is_other in omega arith)
        ];
      }
