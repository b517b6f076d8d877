-- From a place of the order to the next: what a node carries on, when it is ready, and which frozen times are settled.
use Rattle.std.proofs.Common.{ℕ, ◌+◌, ◌<◌, ◌≤◌, ◌≡◌, ◌≢◌, ◌==◌, max, Bool, true, false, if◌then◌else◌, List, ◌++◌}
use Rattle.std.proofs.Common.{length, filter, take, get_or, flat_map, Option, None, Contains, ◌⊎◌, arith, eq-eqb}
use Rattle.std.proofs.Common.{refl, sym, ap, ◌∙◌, subst, inl, inr}
use Rattle.std.proofs.lemmas.Bool.{cases_eq}
use Rattle.std.proofs.lemmas.List.Elements.{Contains-append_cases}
use Rattle.cpg_base.specs.Graph.{Graph, process_count, condition_count, item_count, node_of, is_frozen}
use Rattle.cpg_base.specs.Activity.{active}
use Rattle.cpg_base.specs.Limits.{IsWithinLimits}
use Rattle.cpg_base.proofs.Lists.{Contains-filter, Contains-filter_parts, Contains-flat_map, Contains-flat_map_parts}
use Rattle.cpg_order.specs.Deciding.{decides}
use Rattle.cpg_base.specs.Scenario.{Scenario}
use Rattle.cpg_order.specs.Urgency.{IsTopological}
use Rattle.cpg_base.specs.Order.{place, before_on_node}
use Rattle.cpg_order.proofs.Moments.{moment}
use Rattle.cpg_base.proofs.Places.{Contains-order, get_or-place, place-lt}
use Rattle.cpg_cube.specs.declared.literal.Literal.{Literal}
use Rattle.cpg_cube.specs.declared.column.Column.{Column}
use Rattle.cpg_reach.specs.Walked.{on_node}
use Rattle.cpg_run.specs.Run.{Times, IsRun, end_in, heard_there}
use Rattle.cpg_run.specs.Carried.{passed}
use Rattle.cpg_run.specs.Frozen.{IsFrozenTime}
use Rattle.cpg_run.specs.Latest.{IsUnfrozenTime}
use Rattle.cpg_run.specs.Most.{IsMost}
use Rattle.cpg_run.specs.Progress.{IsReady}
use Rattle.cpg_run.proofs.Rising.{bound, unfrozen_low}
use Rattle.cpg_run.proofs.Sends.{in_next}
use Rattle.cpg_run.proofs.Settled.{frozen_time_kept, frozen_time_set}
use Rattle.cpg_run.proofs.Steps.{ready_other, ready_idle, ready_active}
use Rattle.cpg_tree.specs.Tree.{TreeState}
use Rattle.cpg_expand.specs.Agreeing.{HasValueFrom}
use Rattle.cpg_expand.specs.Grown.{IsReadyLine, AreSettledOf}
use Rattle.cpg_expand.proofs.AgreeingTrees.{agrees_weaker}

-- given: the process at a place of an order
-- `order`, `topological`: an order of the graph; `i`, `p`, `l`, `at`: the process p at its place i
module _ (g : Graph) (order : List ℕ) (topological : IsTopological g order) (i p : ℕ) (l : p < process_count g)
    (at : place order p ≡ i) where
  -- ---- what a node carries on

  -- p is in the order
  stands : Contains order p
  stands = Contains-order (process_count g) order topological.all p l

  -- there is such a place in the order
  inside : i < length order
  inside = let below = place-lt order p stands in omega (arith, at, below)

  -- p is the process at that place
  here : p ≡ get_or order i 0
  here = sym (get_or-place order p 0 stands) ∙ ap (λ n. get_or order n 0) at

  -- a process of the node before a place is before the next place too
  pub kept_on : (node q : ℕ) → Contains (on_node g order i node) q → Contains (on_node g order (i + 1) node) q
  kept_on node q on_it =
      let parts = Contains-filter_parts (λ (u : ℕ). node_of g u == node) (take i order) q on_it in
      Contains-filter (λ (u : ℕ). node_of g u == node) (take (i + 1) order) q parts.1
      (in_next order i q inside (inl parts.0))

  -- the process at the place is before the next one, on its own node
  pub here_on : Contains (on_node g order (i + 1) (node_of g p)) p
  here_on = Contains-filter (λ (u : ℕ). node_of g u == node_of g p) (take (i + 1) order) p
      (eq-eqb (node_of g p) (node_of g p) refl) (in_next order i p inside (inr here))

  -- what stands before the process on its node is what the node has before its place
  pub same_before : before_on_node g order p ≡ on_node g order i (node_of g p)
  same_before = ap (λ n. filter (λ q. node_of g q == node_of g p) (take n order)) at

  -- given: rows, and a scenario
  module _ (rows : List (List Column)) (s : Scenario) where
    -- what p and those before it on its node pass on is what the node carries on at the next place
    then_on : (x : Literal) → Contains (flat_map (passed g rows s) (before_on_node g order p) ++ passed g rows s p) x →
        Contains (flat_map (passed g rows s) (on_node g order (i + 1) (node_of g p))) x
    then_on x listed =
        elim (Contains-append_cases (flat_map (passed g rows s) (before_on_node g order p))
        (passed g rows s p) x listed) [
          | inl in_before ↦ let source =
              Contains-flat_map_parts (passed g rows s) (before_on_node g order p) x in_before in
              Contains-flat_map (passed g rows s) (on_node g order (i + 1) (node_of g p)) source.0 x
              (kept_on (node_of g p) source.0 (subst (λ qs. Contains qs source.0) same_before source.1)) source.2
          | inr by_p ↦ Contains-flat_map (passed g rows s) (on_node g order (i + 1) (node_of g p)) p x here_on by_p
        ]

    -- given: the scenario's run under some frozen times
    module _ (frozen : List (Option ℕ)) (t : Times) (run : IsRun g order frozen s t) where
      -- ---- when nodes are ready

      -- p's node is ready at the next place: at p's end if p is active, and otherwise once it was ready before (r) and
      -- has heard what decides p (h)
      pub ready_next : (r h : ℕ) → IsReady g order s t i (node_of g p) r →
          IsMost (λ c. (c < condition_count g) × (decides g s.values p c ≡ true)) (heard_there g t (node_of g p)) h →
          (active g s.values p ≡ true → max r h ≤ end_in t p) → (tree : TreeState ℕ) →
          HasValueFrom s (flat_map (passed g rows s) (before_on_node g order p) ++ passed g rows s p)
          (if active g s.values p then end_in t p else max r h) tree →
          IsReadyLine g order rows s t (i + 1) (node_of g p) tree
      -- by whether p is active (`by`); its path says no more than what the processes up to p carry on
      ready_next r h ready heard ended tree has_value = record {
        time = ready_time;
        is = by (active g s.values p) refl;
        has_value = agrees_weaker s tree (flat_map (passed g rows s) (before_on_node g order p) ++ passed g rows s p)
            (flat_map (passed g rows s) (on_node g order (i + 1) (node_of g p))) (λ z. z ≡ ready_time)
            (λ z. z ≡ ready_time) then_on (λ z equal. equal) has_value;
      }
        where
          -- when the node is ready then: at p's end if it is active, and else once it has heard what decides p
          ready_time : ℕ
          ready_time = if active g s.values p then end_in t p else max r h

          -- by whether p is active
          by : (b : Bool) → active g s.values p ≡ b → IsReady g order s t (i + 1) (node_of g p) ready_time
          by true acts = ready_active g order topological frozen s t run i p l at r h ready_time acts
              (ap (λ (b : Bool). if b then end_in t p else max r h) acts)
              (let is_end = ap (λ (b : Bool). if b then end_in t p else max r h) acts in
              omega (arith, is_end, ended acts)) ready heard
          by false idle = ready_idle g order topological frozen s t run i p l at r h ready_time idle
              (ap (λ (b : Bool). if b then end_in t p else max r h) idle) ready heard

      -- another node is ready when it was before
      pub ready_elsewhere : (node : ℕ) → node ≢ node_of g p → (tree : TreeState ℕ) →
          IsReadyLine g order rows s t i node tree →
          IsReadyLine g order rows s t (i + 1) node tree
      -- p isn't on the node, so what is on it before both places is the same
      ready_elsewhere node other tree line = record {
        time = line.time;
        is = ready_other g order topological frozen s t run i p l at node line.time other line.is;
        has_value = agrees_weaker s tree (flat_map (passed g rows s) (on_node g order i node))
            (flat_map (passed g rows s) (on_node g order (i + 1) node)) (λ z. z ≡ line.time) (λ z. z ≡ line.time)
            (λ x listed. let source = Contains-flat_map_parts (passed g rows s) (on_node g order i node) x listed in
            Contains-flat_map (passed g rows s) (on_node g order (i + 1) node) source.0 x
            (kept_on node source.0 source.1) source.2)
            (λ z equal. equal) line.has_value;
      }

-- ---- frozen times

-- given: settled frozen times, and one item more that is done
-- `Done`, `More`: the items that are done, before and after; `frozen`, `settled`: frozen times that are settled for
-- `Done`
-- `x`, `l`, `later`: the item that comes next, after all that are done; `grows`, `one`, `only`: `More` adds x alone
module _ (g : Graph) (order : List ℕ) (topological : IsTopological g order) (within : IsWithinLimits g)
    (Done More : ℕ → Type 0) (frozen : List (Option ℕ))
    (settled : AreSettledOf g order Done frozen) (x : ℕ) (l : x < item_count g)
    (later : (y : ℕ) → y < item_count g → Done y → moment g order y < moment g order x)
    (grows : (y : ℕ) → Done y → More y) (one : More x) (only : (y : ℕ) → More y → Done y ⊎ (y ≡ x)) where
  -- if the item is not frozen, the frozen times stay settled with it
  pub settled_idle : is_frozen g x ≡ false → AreSettledOf g order More frozen
  settled_idle thawed = record {
    count = settled.count;
    each = λ y below is done. elim (only y done) [
      | inl was_done ↦ settled.each y below is was_done
      | inr is_x ↦ absurd (apart (sym is ∙ ap (is_frozen g) is_x ∙ thawed))
    ];
    others = λ y no. settled.others y (λ h is done. no h is (grows y done));
    low = settled.low;
  }
    where
      -- true isn't false
      apart : true ≡ false → ⊥
      apart equal = cc

  -- x comes after all items that are done, so it isn't one of them
  not_done : Done x → ⊥
  not_done done = omega (arith, later x l done)

  -- if the item's frozen time is set to its unfrozen time, the frozen times are settled with it
  pub settled_more : is_frozen g x ≡ true → (more : List (Option ℕ)) →
      IsUnfrozenTime g order frozen x (get_or more x None) →
      ((y : ℕ) → y ≢ x → get_or more y None ≡ get_or frozen y None) →
      length more ≡ length frozen → AreSettledOf g order More more
  -- for x, the frozen time is the one set; for any other item that is done, what it waits for has the times of
  -- before, so its frozen time stays right; `low`: the time set is low enough, as x's unfrozen time in a run is
  settled_more is_one more is same count = record {
    -- there is an entry for each item
    count = count ∙ settled.count;
    -- x has the time that is set, and what was done keeps its own
    each = λ y below frozen_y done. elim (cases_eq y x) [
      | inl is_same ↦ subst (IsFrozenTime g order more) (sym is_same)
          (frozen_time_set g order topological frozen more x l
          (λ z w sooner. sym (same z (λ is_later. omega (arith, ap (moment g order) is_later)))) is)
      | inr apart ↦ elim (only y done) [
        | inr is_x ↦ absurd (apart is_x)
        | inl was_done ↦ frozen_time_kept g order topological frozen more y below
            (λ z w sooner. sym (same z
            (λ is_later. omega (arith, ap (moment g order) is_later, later y below was_done)))) (sym (same y apart))
            (settled.each y below frozen_y was_done)
      ]
    ];
    -- no other item gets a time
    others = λ y no. same y
        (λ is_x. no (subst (λ z. z < item_count g) (sym is_x) l) (ap (is_frozen g) is_x ∙ is_one)
        (subst More (sym is_x) one))
        ∙ settled.others y (λ h f done. no h f (grows y done));
    -- each time is low: x's as an unfrozen time of a run, all others as before
    low = record {
      low = λ y time w has_time. elim (cases_eq y x) [
        | inl at ↦
            let reached = is.reached time (ap (λ z. get_or more z None) (sym at) ∙ has_time) in
            subst (λ z. time ≤ bound 0 (moment g order z) + 32000000000) (sym at)
            (omega (
              arith,
              reached.has,
              unfrozen_low 0 g order frozen reached.scenario reached.times within topological reached.lawful settled.low
                  reached.run x l,
            ))
        | inr apart ↦ settled.low.low y time w (sym (same y apart) ∙ has_time)
      ];
    };
  }
