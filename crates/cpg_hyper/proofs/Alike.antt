-- Instances are active and live as their parts: a copy's inputs are the copies of its process's, and conditions have
-- the values of the scenario on the instance.
use Rattle.std.proofs.Common.{◌≡◌, ℕ, zero, suc, ◌+◌, ◌-◌, ◌<◌, Bool, true, false, ◌&&◌, if◌then◌else◌, List, [], ◌∷◌}
use Rattle.std.proofs.Common.{map, filter, get_or, Option, Some, None, is_some, unwrap_or, Contains, refl, sym}
use Rattle.std.proofs.Common.{ap, ap₂, ◌∙◌, subst, arith}
use Rattle.std.specs.List.{list_all}
use Rattle.std.proofs.lemmas.List.{get_or-map}
use Rattle.std.proofs.lemmas.List.Folds.{list_all-map}
use Rattle.std.proofs.lemmas.List.Elements.{Contains-get_or}
use Rattle.cpg_base.specs.Numbers.{numbers_below}
use Rattle.cpg_base.specs.Graph.{Graph, process_count, edge_count, process_at, edge_at, source, target, inputs, outputs}
use Rattle.cpg_base.specs.Graph.{is_disjunction, disjunctions, condition_of}
use Rattle.cpg_base.specs.Activity.{is_active, takes, by_first, value_of, activation_by, activation_within, activation}
use Rattle.cpg_base.specs.Activity.{active, live}
use Rattle.cpg_base.specs.Limits.{IsWithinLimits, IsEdgeWithin}
use Rattle.cpg_base.specs.declared.activation.Activation.{Activation}
use Rattle.cpg_base.specs.declared.activation.Activation.TheVariants.{Inactive, Plain, By}
use Rattle.cpg_base.specs.declared.process.Process.{Process}
use Rattle.cpg_base.specs.declared.process.Edge.{Edge}
use Rattle.cpg_base.proofs.Lists.{Contains-filter, Contains-numbers, list_any_true, same_filter, same_all}
use Rattle.cpg_base.proofs.Inputs.{inputs_parts, outputs-Contains}
use Rattle.cpg_base.proofs.Sums.{filter-map}
use Rattle.cpg_order.specs.Urgency.{IsTopological}
use Rattle.cpg_base.specs.Order.{place}
use Rattle.cpg_order.proofs.Acyclic.{edge_goes_up}
use Rattle.cpg_base.proofs.Places.{position-place, place-lt, get_or-place}
use Rattle.cpg_hyper.specs.declared.part.Part.{Part}
use Rattle.cpg_hyper.specs.Unrolled.{copied_edge, size_of, unrolled, first_graph}
use Rattle.cpg_hyper.specs.Instances.{part_at, IsInstance, first_process_of, first_edge_of, scenario_of, copied_activation}
use Rattle.cpg_hyper.specs.Laws.{AreWithinLimits, InstancesHaveConditions, InstancesAreActivatedAlike}
use Rattle.cpg_hyper.specs.Laws.{InstancesAreActiveAlike, InstancesAreLiveAlike}
use Rattle.cpg_hyper.proofs.Copies.{are_copies, within_whole}
use Rattle.cpg_hyper.proofs.CopiedEdges.{have_edges}
use Rattle.cpg_hyper.proofs.Whole.{contained, each_contained}
use Rattle.cpg_hyper.proofs.Around.{AreAround, AreAroundAt, are_around}
use Rattle.cpg_hyper.proofs.CopiedInputs.{edge_total, copied_inputs, copied_condition}
use Rattle.cpg_hyper.proofs.Fuel.{enough_depth}

-- ---- activations

-- a copied activation is active exactly if the activation is
active_copy : (n : ℕ) (a : Activation) → is_active (copied_activation n a) ≡ is_active a
active_copy n Inactive = refl
active_copy n Plain = refl
active_copy n (By e) = refl

-- the first of the copied edges is the copy of the first edge
first_copy : (n : ℕ) (es : List ℕ) → by_first (map (λ e. n + e) es) ≡ copied_activation n (by_first es)
first_copy n [] = refl
first_copy n (e ∷ es) = refl

-- an activation that names no edge is its own copy
plain_copy : (n : ℕ) (b : Bool) → (if b then Plain else Inactive) ≡ copied_activation n (if b then Plain else Inactive)
plain_copy n true = refl
plain_copy n false = refl

-- if the copied inputs are live as the inputs are, the activation is the copied one
copy_by : (n : ℕ) (join : Bool) (es : List ℕ) (is_live own_live : ℕ → Bool) →
    ((e : ℕ) → Contains es e → is_live (n + e) ≡ own_live e) →
    activation_by join (map (λ e. n + e) es) is_live ≡ copied_activation n (activation_by join es own_live)
-- without inputs both are plain; a join takes the first live one, and any other process asks whether all are live
copy_by n join [] is_live own_live alike = refl
copy_by n true (e ∷ es) is_live own_live alike =
    ap by_first (filter-map is_live (λ e. n + e) (e ∷ es)
    ∙ ap (map (λ e. n + e)) (same_filter (λ e. is_live (n + e)) own_live (e ∷ es) alike))
    ∙ first_copy n (filter own_live (e ∷ es))
copy_by n false (e ∷ es) is_live own_live alike =
    ap (λ b. if b then Plain else Inactive)
    (list_all-map is_live (λ e. n + e) (e ∷ es) ∙ same_all (λ e. is_live (n + e)) own_live (e ∷ es) alike)
    ∙ plain_copy n (list_all own_live (e ∷ es))

-- ---- values

-- a list of values has the value of a condition at the condition's place
value_there : (f : ℕ → Bool) (xs : List ℕ) (q : ℕ) (o : Option ℕ) → o ≡ Some (place xs q) → Contains xs q →
    get_or (map f xs) (unwrap_or o 0) false ≡ f q
value_there f xs q o is listed = ap (λ p. get_or (map f xs) (unwrap_or p 0) false) is
    ∙ get_or-map f xs (place xs q) 0 false (place-lt xs q listed) ∙ ap f (get_or-place xs q 0 listed)

-- an edge takes two values alike if they are equal wherever it asks for one
same_taken : (w : Option Bool) (v u : Bool) → (is_some w ≡ true → v ≡ u) → takes w v ≡ takes w u
same_taken None v u same = refl
same_taken (Some wanted) v u same = ap (takes (Some wanted)) (same refl)

-- ---- the instance

-- given: an instance of a part
-- `p`, `i`, `is_instance`: instance `i` of part `p`; `values`: a value for each condition of the whole graph
module _ (whole : ℕ) (parts : List Part) (p i : ℕ) (values : List Bool) (within : AreWithinLimits parts)
    (is_instance : IsInstance whole parts p i) where
  -- the whole graph
  abbrev g : Graph
  g = unrolled whole parts

  -- the part's own graph
  abbrev part : Graph
  part = (part_at parts p).problem

  -- the instance's first process
  abbrev first : ℕ
  first = first_process_of whole parts p i

  -- the instance's first edge
  abbrev first_edge : ℕ
  first_edge = first_edge_of whole parts p i

  -- the values that the scenario has on the instance's conditions
  abbrev own : List Bool
  own = map (λ q. value_of g values (first + q)) (disjunctions part)

  -- the part's graph is within the limits
  limited : IsWithinLimits part
  limited = within p (record { period = 0; problem = first_graph [] }) is_instance.part

  -- no other edge of the whole has to do with the instance's processes
  around : AreAround first_edge first (process_count part) g.edges (map (copied_edge first) part.edges)
  around = subst (AreAroundAt whole 0 parts p first_edge) (nothing_before first)
      (are_around whole 0 parts (λ other listed.
      (each_contained (λ k other. IsWithinLimits other.problem) parts within other listed).1) p i is_instance)
    where
      -- 0 is left out of a sum
      nothing_before : (n : ℕ) → 0 + n ≡ n
      nothing_before n = omega arith

  -- an edge of the instance is the copy of its part's edge
  copies : (e : ℕ) → e < edge_count part → edge_at g (first_edge + e) ≡ copied_edge first (edge_at part e)
  copies e inside = have_edges whole parts p i e is_instance inside

  -- an edge of the part is between its processes
  edge_there : (e : ℕ) → e < edge_count part → IsEdgeWithin (process_count part) (edge_at part e)
  edge_there e inside = contained (IsEdgeWithin (process_count part)) part.edges (edge_at part e) limited.edges
      (Contains-get_or part.edges e _ inside)

  -- a condition of an instance has the value of its part's condition
  value_alike : (q : ℕ) → q < process_count part → is_disjunction part q ≡ true →
      value_of g values (first + q) ≡ value_of part own q
  value_alike q inside has_condition =
      let listed = Contains-filter (is_disjunction part) (numbers_below (process_count part)) q has_condition
      (Contains-numbers (process_count part) q inside) in
      sym (value_there (λ r. value_of g values (first + r)) (disjunctions part) q (condition_of part q)
      (position-place (disjunctions part) q listed) listed)

  -- an edge of an instance is taken as its part's edge is
  taken_alike : (e : ℕ) → e < edge_count part →
      takes (edge_at g (first_edge + e)).when (value_of g values (source g (first_edge + e)))
      ≡ takes (edge_at part e).when
      (value_of part own (source part e))
  taken_alike e inside =
      ap (λ (d : Edge). takes d.when (value_of g values d.from)) (copies e inside)
      ∙ same_taken (edge_at part e).when (value_of g values (first + source part e)) (value_of part own (source part e))
      (λ has_when. value_alike (source part e) (edge_there e inside).from
      (list_any_true (λ f. is_some (edge_at part f).when)
      (outputs part (source part e)) e (outputs-Contains part e inside) has_when))

  -- an edge of an instance is live as its part's edge is, if its source is activated alike
  live_by : (depth e : ℕ) → e < edge_count part →
      activation_within depth g values (first + source part e)
      ≡ copied_activation first_edge (activation_within depth part own (source part e))
      → (is_active (activation_within depth g values (source g (first_edge + e)))
      && takes (edge_at g (first_edge + e)).when (value_of g values (source g (first_edge + e))))
      ≡ (is_active (activation_within depth part own (source part e))
      && takes (edge_at part e).when (value_of part own (source part e)))
  -- its source is the copy of the part's source, and it is taken as the part's edge is
  live_by depth e inside is = ap₂ ◌&&◌
      (ap (λ (d : Edge). is_active (activation_within depth g values d.from)) (copies e inside) ∙ ap is_active is
      ∙ active_copy first_edge (activation_within depth part own (source part e)))
      (taken_alike e inside)

  -- looking back along a number of edges, a process of an instance is activated as its part's process
  within_alike : (depth q : ℕ) → q < process_count part →
      activation_within depth g values (first + q) ≡ copied_activation first_edge (activation_within depth part own q)
  -- by induction on `depth`
  within_alike zero q q_inside = refl
  within_alike (suc depth) q q_inside =
      let is_live : ℕ → Bool = λ e. is_active (activation_within depth g values (source g e))
      && takes (edge_at g e).when (value_of g values (source g e)) in
      let is_live_own : ℕ → Bool = λ e. is_active (activation_within depth part own (source part e))
      && takes (edge_at part e).when (value_of part own (source part e)) in
      ap₂ (λ join es. activation_by join es is_live)
      (ap (λ (d : Process). d.join) (are_copies whole parts p i q is_instance q_inside))
      (copied_inputs g part first_edge first (process_count part) around copies q q_inside)
      ∙ copy_by first_edge (process_at part q).join (inputs part q) is_live is_live_own
      (λ e listed.
      let inside = (inputs_parts part q e listed).0 in
      live_by depth e inside (within_alike depth (source part e) (edge_there e inside).from))

  -- given: a topological order of the whole
  module _ (order : List ℕ) (topological : IsTopological g order) where
    -- in the whole's order, the source of a copied edge comes before its target
    up : (e : ℕ) → e < edge_count part → place order (first + source part e) < place order (first + target part e)
    up e e_inside =
        let inside : first_edge + e < edge_count g =
        omega (arith, edge_total g part first_edge first (process_count part) around copies, e_inside) in
        subst (λ (d : Edge). place order d.from < place order d.to) (copies e e_inside)
        (edge_goes_up g order topological (first_edge + e) inside)

    -- a process of an instance is activated as its part's process
    activated : (q : ℕ) → q < process_count part →
        activation g values (first + q) ≡ copied_activation first_edge (activation part own q)
    activated q q_inside =
        let more = process_count g - process_count part in
        let count : process_count g ≡ more + process_count part =
        omega (arith, within_whole whole 0 parts p i is_instance) in
        within_alike (process_count g) q q_inside
        ∙ ap (copied_activation first_edge) (ap (λ n. activation_within n part own q) count
        ∙ enough_depth part own (λ r. place order (first + r))
        (λ e inside. (edge_there e inside).from) up more q q_inside)

    -- an edge of the instance is live as its part's edge is
    lives : (e : ℕ) → e < edge_count part → live g values (first_edge + e) ≡ live part own e
    lives e inside = ap₂ ◌&&◌
        (ap (λ (d : Edge). active g values d.from) (copies e inside)
        ∙ ap is_active (activated (source part e) (edge_there e inside).from)
        ∙ active_copy first_edge (activation part own (source part e)))
        (taken_alike e inside)

-- a process of an instance has a condition exactly if its part's process has one
pub have_conditions : InstancesHaveConditions
have_conditions whole parts p i q within is_instance inside =
    copied_condition (unrolled whole parts) (part_at parts p).problem (first_edge_of whole parts p i)
    (first_process_of whole parts p i) (size_of (part_at parts p)) (around whole parts p i [] within is_instance)
    (copies whole parts p i [] within is_instance) q inside

-- a process of an instance is activated as its part's process is
pub activated_alike : InstancesAreActivatedAlike
activated_alike whole parts p i q s order within is_instance inside topological =
    activated whole parts p i s.values within is_instance order topological q inside

-- a process of an instance is active exactly if its part's process is
pub active_alike : InstancesAreActiveAlike
active_alike whole parts p i q s order within is_instance inside topological =
    ap is_active (activated_alike whole parts p i q s order within is_instance inside topological)
    ∙ active_copy (first_edge_of whole parts p i)
    (activation (part_at parts p).problem (scenario_of whole parts p i s).values q)

-- an edge of an instance is live exactly if its part's edge is
pub live_alike : InstancesAreLiveAlike
live_alike whole parts p i e s order within is_instance inside topological =
    lives whole parts p i s.values within is_instance order topological e inside
