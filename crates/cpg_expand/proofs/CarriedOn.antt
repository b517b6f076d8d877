-- What a start's trees say is carried beside it: literals of ends on its node, of conditions that the node hears, and
-- of inputs.
use Rattle.std.proofs.Common.{ℕ, ◌<◌, ◌≡◌, ◌==◌, Bool, true, false, if◌then◌else◌, List, [], ◌∷◌, ◌++◌, filter}
use Rattle.std.proofs.Common.{flat_map, Contains, ◌⊎◌, arith, eq-eqb, eqb-true, refl, sym, ◌∙◌, subst, inl, inr}
use Rattle.std.proofs.lemmas.Bool.{cases_eq, ne_eqb}
use Rattle.std.proofs.lemmas.List.Elements.{Contains-append_cases, Contains-append_left, Contains-append_right}
use Rattle.cpg_base.specs.Numbers.{numbers_below}
use Rattle.cpg_base.specs.Graph.{Graph, process_at, process_count, condition_count, node_of, source, inputs, is_message}
use Rattle.cpg_base.specs.Graph.{message_item, broadcast_item, process_of}
use Rattle.cpg_base.specs.Activity.{active}
use Rattle.cpg_base.proofs.Items.{process_of_below}
use Rattle.cpg_base.proofs.Lists.{Contains-cases, Contains-nil, Contains-filter, Contains-filter_parts}
use Rattle.cpg_base.proofs.Lists.{Contains-flat_map, Contains-flat_map_parts, Contains-map, numbers-Contains}
use Rattle.cpg_order.specs.Urgency.{IsTopological, IsUrgencyOrder}
use Rattle.cpg_base.specs.Order.{place, before, before_on_node}
use Rattle.cpg_order.specs.Deciding.{decides, deciding}
use Rattle.cpg_base.specs.Scenario.{Scenario}
use Rattle.cpg_order.proofs.Acyclic.{input_goes_up}
use Rattle.cpg_order.proofs.DecidingLaws.{decides_earlier, deciding_is_active}
use Rattle.cpg_base.proofs.Places.{Contains-before, Contains-order, on_node_before}
use Rattle.cpg_cube.specs.Cube.{matches}
use Rattle.cpg_cube.specs.declared.literal.Literal.{Literal}
use Rattle.cpg_cube.specs.declared.column.Column.{Column}
use Rattle.cpg_run.proofs.KnownRanges.{range_known}
use Rattle.cpg_run.specs.Carried.{row_at, carried_by_row, number_known, decided, heard, received, executed, passed}
use Rattle.cpg_run.specs.Carried.{carried_at_start, carried_at_end}
use Rattle.cpg_tree.specs.Tree.{Path, TreeState, IsOnPath}
use Rattle.cpg_expand.specs.Agreeing.{Agrees}
use Rattle.cpg_expand.specs.Guarded.{value_known, support_of}

-- ---- the literals of a column that matches

-- each literal of a column that matches the scenario is carried by the row
pub valued_there : (rows : List (List Column)) (s : Scenario) (x : ℕ) (c : Column) → Contains (row_at rows x) c →
    matches c.cube s ≡ true → (literal : Literal) →
    Contains c.cube literal →
    Contains (carried_by_row rows s x) literal
valued_there rows s x c in_row matching literal in_cube =
    Contains-flat_map (λ (d : Column). d.cube) (filter (λ (d : Column). matches d.cube s) (row_at rows x)) c literal
    (Contains-filter (λ (d : Column). matches d.cube s) (row_at rows x) c matching in_row) in_cube

-- if the path of t that s is on has a value with the fact, and its cube is that of a column of x's row, t agrees with
-- what that row carries in s
pub valued_by_tree : {T : Type 0} (k : ℕ) (rows : List (List Column)) (s : Scenario) (x : ℕ) (fact : T → Type 0)
    (t : TreeState T) → t.faults ≡ k →
    ((p : Path T) → IsOnPath t.paths s p → fact p.1 × ((c : Column) × Contains (row_at rows x) c × (c.cube ≡ p.0))) →
    Agrees s (carried_by_row rows s x) fact t
-- the path's cube is that of a column that matches, so the row carries its literals
valued_by_tree k rows s x fact t same there = record {
  value = λ p on. (there p on).0;
  says = λ p on.
      let column = (there p on).1 in
      let kept = range_known t.faults (carried_by_row rows s x) p.0
      (λ literal listed. valued_there rows s x column.0 column.1
      (subst (λ (ls : List Literal). matches ls s ≡ true) (sym column.2) on.matched) literal
      (subst (λ (ls : List Literal). Contains ls literal) (sym column.2) listed)) in
      record { low = λ v. (kept v).0; high = λ v. (kept v).1 };
}

-- given: a topological order, rows, and a scenario
module _ (g : Graph) (order : List ℕ) (topological : IsTopological g order) (rows : List (List Column))
    (s : Scenario) where
  -- ---- of ends on the node

  -- if q stands before p on p's node, and r before q on q's node, then r stands before p on p's node
  before_grows : (p q r : ℕ) → Contains (before_on_node g order p) q → Contains (before_on_node g order q) r →
      Contains (before_on_node g order p) r
  -- both stand on the node of p, and the order between places goes on
  before_grows p q r q_before r_before =
      let of_q = on_node_before g order p q q_before in
      let of_r = on_node_before g order q r r_before in
      let node_q = eqb-true (node_of g q) (node_of g p)
      (Contains-filter_parts (λ (u : ℕ). node_of g u == node_of g p) (before order p) q q_before).1 in
      let node_r = eqb-true (node_of g r) (node_of g q)
      (Contains-filter_parts (λ (u : ℕ). node_of g u == node_of g q) (before order q) r r_before).1 in
      Contains-filter (λ (u : ℕ). node_of g u == node_of g p) (before order p) r
      (eq-eqb (node_of g r) (node_of g p) (node_r ∙ node_q))
      (Contains-before order r p of_r.0 (omega (arith, of_q.1, of_r.1)))

  -- what process q passes on beside what decides it and what it hears: what its execution adds, if it is active
  abbrev executed_if : ℕ → List Literal
  executed_if q = if active g s.values q then executed g rows s q else []

  -- a process passes on what decides it
  passed_decided : (q : ℕ) (l : Literal) → Contains (decided g s q) l → Contains (passed g rows s q) l
  passed_decided q l decides = Contains-append_left (decided g s q ++ heard g rows s q) (executed_if q) l
      (Contains-append_left (decided g s q) (heard g rows s q) l decides)

  -- a process passes on what it hears
  passed_heard : (q : ℕ) (l : Literal) → Contains (heard g rows s q) l → Contains (passed g rows s q) l
  passed_heard q l hears = Contains-append_left (decided g s q ++ heard g rows s q) (executed_if q) l
      (Contains-append_right (decided g s q) (heard g rows s q) l hears)

  -- a process passes on what its execution says, if it is active
  passed_executed : (q : ℕ) (l : Literal) → active g s.values q ≡ true → Contains (executed g rows s q) l →
      Contains (passed g rows s q) l
  passed_executed q l on says = Contains-append_right (decided g s q ++ heard g rows s q) (executed_if q) l
      (subst (λ (b : Bool). Contains (if b then executed g rows s q else []) l) (sym on) says)

  -- if q stands before p on p's node and is active, the node carries on to p what is carried beside the end of q
  pub end_carried : (p q : ℕ) → Contains (before_on_node g order p) q → active g s.values q ≡ true → (l : Literal) →
      Contains (carried_at_end g order rows s q) l →
      Contains (flat_map (passed g rows s) (before_on_node g order p)) l
  end_carried p q q_before on l at_end = by (process_at g q).frozen refl
    where
      -- a literal that q passes on is among those that are passed before p
      here : Contains (passed g rows s q) l → Contains (flat_map (passed g rows s) (before_on_node g order p)) l
      here passes = Contains-flat_map (passed g rows s) (before_on_node g order p) q l q_before passes

      -- q's own fault count is part of what its execution says
      count : (f : Bool) → (process_at g q).frozen ≡ f → Contains (number_known s q ∷ []) l →
          Contains (executed g rows s q) l
      count f frozen_is is_count = Contains-append_right (if (process_at g q).frozen then [] else received g rows s q)
          (number_known s q ∷ []) l is_count

      -- what q carries at its start, if that is `ls` for an unfrozen q
      start : List Literal → List Literal
      start ls = if (process_at g q).frozen then decided g s q else ls

      -- all that q carries there if it isn't frozen
      all : List Literal
      all = flat_map (passed g rows s) (before_on_node g order q) ++ decided g s q ++ heard g rows s q
          ++ received g rows s q

      -- what q carries at its end is what it carries at its start, or its own fault count
      split : Contains (start all) l ⊎ Contains (number_known s q ∷ []) l
      split = Contains-append_cases (start all) (number_known s q ∷ []) l at_end

      -- if q is frozen, what it carries at its start decides it, and is passed on
      frozen_case : (process_at g q).frozen ≡ true → Contains (start all) l →
          Contains (flat_map (passed g rows s) (before_on_node g order p)) l
      frozen_case frozen at_start =
          here (passed_decided q l (subst (λ (f : Bool). Contains (if f then decided g s q else all) l) frozen
          at_start))

      -- a literal carried at the start of an unfrozen process is passed by it or by a process before it on the node
      unfrozen_case : Contains all l → (process_at g q).frozen ≡ false →
          Contains (flat_map (passed g rows s) (before_on_node g order p)) l
      unfrozen_case carries unfrozen =
          elim (Contains-append_cases (flat_map (passed g rows s) (before_on_node g order q)
          ++ decided g s q ++ heard g rows s q) (received g rows s q) l carries) [
            -- messages to q told it, or it was passed before q, decides q or was heard by it
            | inr told ↦ here (passed_executed q l on (Contains-append_left (if (process_at g q).frozen then []
                else received g rows s q) (number_known s q ∷ []) l
                (subst (λ (f : Bool). Contains (if f then [] else received g rows s q) l) (sym unfrozen) told)))
            | inl of_wait ↦
                elim (Contains-append_cases (flat_map (passed g rows s) (before_on_node g order q) ++ decided g s q)
                (heard g rows s q) l of_wait) [
                  | inr by_hearing ↦ here (passed_heard q l by_hearing)
                  | inl unheard ↦
                      elim (Contains-append_cases (flat_map (passed g rows s) (before_on_node g order q))
                      (decided g s q) l unheard) [
                        | inr deciding_it ↦ here (passed_decided q l deciding_it)
                        | inl earlier ↦
                            let source =
                            Contains-flat_map_parts (passed g rows s) (before_on_node g order q) l earlier in
                            Contains-flat_map (passed g rows s) (before_on_node g order p) source.0 l
                            (before_grows p q source.0 q_before source.1) source.2
                      ]
                ]
          ]

      -- the literal is passed on before p: either as q's own count or as one of its start
      by : (f : Bool) → (process_at g q).frozen ≡ f → Contains (flat_map (passed g rows s) (before_on_node g order p)) l
      by f frozen_is = elim split [
        | inr is_count ↦ here (passed_executed q l on (count f frozen_is is_count))
        | inl at_start ↦ of_start f frozen_is at_start
      ]
        where
          -- a literal of the start, by whether q is frozen
          of_start : (f : Bool) → (process_at g q).frozen ≡ f → Contains (start all) l →
              Contains (flat_map (passed g rows s) (before_on_node g order p)) l
          of_start true frozen_is at_start = frozen_case frozen_is at_start
          of_start false frozen_is at_start =
              unfrozen_case (subst (λ (f : Bool). Contains (if f then decided g s q else all) l) frozen_is at_start)
              frozen_is

  -- ---- of conditions that a node hears

  -- the literals that say when a node hears a condition
  abbrev pub heard_support : ℕ → ℕ → List Literal
  heard_support node c = if node_of g (process_of g c) == node then carried_at_end g order rows s (process_of g c)
      else carried_by_row rows s (broadcast_item g c)

  -- a process that stands before p and is on p's node is among those before p on it
  own_before : (p q : ℕ) → q < process_count g → place order q < place order p → node_of g q ≡ node_of g p →
      Contains (before_on_node g order p) q
  own_before p q below less same = Contains-filter (λ (u : ℕ). node_of g u == node_of g p) (before order p) q
      (eq-eqb (node_of g q) (node_of g p) same)
      (Contains-before order q p (Contains-order (process_count g) order topological.all q below) less)

  -- given: an urgency order, by which conditions decide, and a process
  module _ (urgency : List ℕ) (is_urgency : IsUrgencyOrder g urgency) (urgent : IsTopological g urgency) (p : ℕ) where
    -- if condition c decides p, the literals by which p's node hears c are passed on before p or heard for p
    pub heard_carried : (c : ℕ) → Contains (deciding g s.values p) c → (l : Literal) →
        Contains (heard_support (node_of g p) c) l →
        Contains (flat_map (passed g rows s) (before_on_node g order p) ++ heard g rows s p) l
    heard_carried c decides_p l says =
        -- the condition c, which decides p
        let parts = Contains-filter_parts (decides g s.values p) (numbers_below (condition_count g)) c decides_p in
        let low = numbers-Contains (condition_count g) c parts.0 in
        elim (cases_eq (node_of g (process_of g c)) (node_of g p)) [
          -- its process is on the node: its end is carried
          | inl same_node ↦ Contains-append_left (flat_map (passed g rows s) (before_on_node g order p))
              (heard g rows s p) l
              (end_carried p (process_of g c) (own_before p (process_of g c) (process_of_below g c low)
              (decides_earlier g order topological s.values p c low parts.1) same_node)
              (deciding_is_active g urgency is_urgency urgent s.values p c low parts.1) l
              (subst (λ (b : Bool). Contains (if b then carried_at_end g order rows s (process_of g c)
              else carried_by_row rows s (broadcast_item g c)) l)
              (eq-eqb (node_of g (process_of g c)) (node_of g p) same_node) says))
          -- it is heard there by a broadcast
          | inr elsewhere ↦ Contains-append_right (flat_map (passed g rows s) (before_on_node g order p))
              (heard g rows s p) l
              (Contains-flat_map (λ d. if node_of g (process_of g d) == node_of g p then []
              else carried_by_row rows s (broadcast_item g d)) (deciding g s.values p) c l decides_p
              (subst (λ (b : Bool). Contains (if b then [] else carried_by_row rows s (broadcast_item g c)) l)
              (sym (ne_eqb (node_of g (process_of g c)) (node_of g p) elsewhere))
              (subst (λ (b : Bool). Contains (if b then carried_at_end g order rows s (process_of g c)
              else carried_by_row rows s (broadcast_item g c)) l)
              (ne_eqb (node_of g (process_of g c)) (node_of g p) elsewhere) says)))
        ]

    -- if each of the conditions `ws` decides p, the literals by which p's node hears them, and those of their values,
    -- are passed on before p, decide p or are heard for p
    pub tests_carried : (ws : List ℕ) → ((c : ℕ) → Contains ws c → Contains (deciding g s.values p) c) → (l : Literal) →
        Contains (support_of s (heard_support (node_of g p)) ws) l →
        Contains (flat_map (passed g rows s) (before_on_node g order p) ++ decided g s p ++ heard g rows s p) l
    -- a literal is known of how a test is heard, or it is that test's value, which is among what decides p
    tests_carried ws decides_each l says =
        let source = Contains-flat_map_parts (λ c. heard_support (node_of g p) c ++ value_known s c ∷ []) ws l says in
        elim (Contains-append_cases (heard_support (node_of g p) source.0) (value_known s source.0 ∷ []) l source.2) [
          | inl of_hearing ↦ elim (Contains-append_cases (flat_map (passed g rows s) (before_on_node g order p))
              (heard g rows s p) l (heard_carried source.0 (decides_each source.0 source.1) l of_hearing)) [
                | inl passes ↦ Contains-append_left
                    (flat_map (passed g rows s) (before_on_node g order p) ++ decided g s p)
                    (heard g rows s p) l
                    (Contains-append_left (flat_map (passed g rows s) (before_on_node g order p))
                    (decided g s p) l passes)
                | inr hears ↦ Contains-append_right
                    (flat_map (passed g rows s) (before_on_node g order p) ++ decided g s p)
                    (heard g rows s p) l hears
              ]
          | inr of_value ↦ elim (Contains-cases (value_known s source.0) [] l of_value) [
            | inl is_value ↦ Contains-append_left
                (flat_map (passed g rows s) (before_on_node g order p) ++ decided g s p)
                (heard g rows s p) l
                (Contains-append_right (flat_map (passed g rows s) (before_on_node g order p)) (decided g s p) l
                (subst (Contains (decided g s p)) is_value
                (Contains-map (value_known s) (deciding g s.values p) source.0 (decides_each source.0 source.1))))
            | inr none ↦ absurd (Contains-nil l none)
          ]
        ]

  -- ---- of inputs

  -- the literals by which an input is there
  abbrev pub input_support : ℕ → List Literal
  input_support e = if is_message g e then carried_by_row rows s (message_item g e)
      else carried_at_end g order rows s (source g e)

  -- if the source of an input e of p is active, the literals by which e is there are passed on before p or received by
  -- p
  pub input_carried : (p e : ℕ) → Contains (inputs g p) e →
      node_of g (source g e) ≡ node_of g p ⊎ (is_message g e ≡ true) → source g e < process_count g →
      active g s.values (source g e) ≡ true →
      (l : Literal) → Contains (input_support e) l →
      Contains (flat_map (passed g rows s) (before_on_node g order p) ++ received g rows s p) l
  input_carried p e is_input way low on l says = by (is_message g e) refl way
    where
      -- a literal of a message is received, and one of an input of the node itself is passed on
      by : (m : Bool) → is_message g e ≡ m → node_of g (source g e) ≡ node_of g p ⊎ (is_message g e ≡ true) →
          Contains (flat_map (passed g rows s) (before_on_node g order p) ++ received g rows s p) l
      by true is w =
          Contains-append_right (flat_map (passed g rows s) (before_on_node g order p)) (received g rows s p) l
          (Contains-flat_map (λ d. if is_message g d then carried_by_row rows s (message_item g d) else [])
          (inputs g p) e l is_input
          (subst (λ (b : Bool). Contains (if b then carried_by_row rows s (message_item g e) else []) l) (sym is)
          (subst (λ (b : Bool). Contains (if b then carried_by_row rows s (message_item g e)
          else carried_at_end g order rows s (source g e)) l) is says)))
      by false is (inl same) =
          Contains-append_left (flat_map (passed g rows s) (before_on_node g order p)) (received g rows s p) l
          (end_carried p (source g e)
          (own_before p (source g e) low (input_goes_up g order topological p e is_input) same) on l
          (subst (λ (b : Bool). Contains (if b then carried_by_row rows s (message_item g e)
          else carried_at_end g order rows s (source g e)) l) is says))
      by false is (inr other) = absurd (apart (sym is ∙ other))
        where
          -- what is excluded: an input of the node that is a message
          apart : false ≡ true → ⊥
          apart equal = cc

  -- ---- the start

  -- if p isn't frozen, what its start rests on is carried beside it: the literals of its wait, and those of its inputs
  pub start_carried : (p : ℕ) → (process_at g p).frozen ≡ false → (l : Literal) →
      Contains (flat_map (passed g rows s) (before_on_node g order p) ++ decided g s p ++ heard g rows s p) l ⊎
      Contains (flat_map (passed g rows s) (before_on_node g order p) ++ received g rows s p) l →
      Contains (carried_at_start g order rows s p) l
  start_carried p unfrozen l says =
      subst (λ (f : Bool). Contains (if f then decided g s p else all) l) (sym unfrozen) (by says)
    where
      -- what the processes before p on its node pass on
      on : List Literal
      on = flat_map (passed g rows s) (before_on_node g order p)

      -- all that p carries at its start
      all : List Literal
      all = on ++ decided g s p ++ heard g rows s p ++ received g rows s p

      -- literals of the wait, and those of the inputs, are among all
      by : Contains (on ++ decided g s p ++ heard g rows s p) l ⊎ Contains (on ++ received g rows s p) l →
          Contains all l
      by (inl of_wait) = Contains-append_left (on ++ decided g s p ++ heard g rows s p) (received g rows s p) l of_wait
      by (inr of_inputs) = elim (Contains-append_cases on (received g rows s p) l of_inputs) [
        | inr is_received ↦ Contains-append_right (on ++ decided g s p ++ heard g rows s p)
            (received g rows s p) l is_received
        | inl passes ↦ Contains-append_left (on ++ decided g s p ++ heard g rows s p) (received g rows s p) l
            (Contains-append_left (on ++ decided g s p) (heard g rows s p) l
            (Contains-append_left on (decided g s p) l passes))
      ]

  -- what decides p, and what was passed on before p on its node or is heard for p, the node carries on after p
  pub ready_carried : (p : ℕ) (l : Literal) →
      Contains (decided g s p) l ⊎
      Contains (flat_map (passed g rows s) (before_on_node g order p) ++ decided g s p ++ heard g rows s p) l →
      Contains (flat_map (passed g rows s) (before_on_node g order p) ++ passed g rows s p) l
  -- literal by literal: those passed before stay, and those that decide p or are heard are passed on by p
  ready_carried p l (inl decides) = Contains-append_right (flat_map (passed g rows s) (before_on_node g order p))
      (passed g rows s p) l (passed_decided p l decides)
  ready_carried p l (inr of_wait) =
      elim (Contains-append_cases (flat_map (passed g rows s) (before_on_node g order p) ++ decided g s p)
      (heard g rows s p) l of_wait) [
        | inr by_hearing ↦ Contains-append_right (flat_map (passed g rows s) (before_on_node g order p))
            (passed g rows s p) l (passed_heard p l by_hearing)
        | inl unheard ↦ elim (Contains-append_cases (flat_map (passed g rows s) (before_on_node g order p))
            (decided g s p) l unheard) [
              | inl earlier ↦ Contains-append_left (flat_map (passed g rows s) (before_on_node g order p))
                  (passed g rows s p) l earlier
              | inr deciding_it ↦
                  Contains-append_right (flat_map (passed g rows s) (before_on_node g order p)) (passed g rows s p) l
                  (passed_decided p l deciding_it)
            ]
      ]

  -- ---- the end

  -- what is carried beside the end of an active process q is passed on by a process before q on its node, or by q
  pub end_parts : (q : ℕ) → active g s.values q ≡ true → (l : Literal) → Contains (carried_at_end g order rows s q) l →
      Contains (flat_map (passed g rows s) (before_on_node g order q)) l ⊎
      Contains (passed g rows s q) l
  end_parts q on l at_end = elim (Contains-append_cases (if (process_at g q).frozen then decided g s q else all)
      (number_known s q ∷ []) l at_end) [
        | inr is_count ↦ inr (passed_executed q l on (Contains-append_right (if (process_at g q).frozen then []
            else received g rows s q) (number_known s q ∷ []) l is_count))
        | inl at_start ↦ of_start (process_at g q).frozen refl at_start
      ]
    where
      -- all that an unfrozen process carries at its start
      all : List Literal
      all = flat_map (passed g rows s) (before_on_node g order q) ++ decided g s q ++ heard g rows s q
          ++ received g rows s q

      -- a frozen start carries what decides it alone; any other one what was passed before, what decides it, what is
      -- heard and what is received
      of_start : (f : Bool) → (process_at g q).frozen ≡ f → Contains (if f then decided g s q else all) l →
          Contains (flat_map (passed g rows s) (before_on_node g order q)) l ⊎
          Contains (passed g rows s q) l
      of_start true frozen_is decides = inr (passed_decided q l decides)
      of_start false unfrozen carries =
          elim (Contains-append_cases (flat_map (passed g rows s) (before_on_node g order q)
          ++ decided g s q ++ heard g rows s q) (received g rows s q) l carries) [
            | inr told ↦ inr (passed_executed q l on (Contains-append_left (if (process_at g q).frozen then []
                else received g rows s q) (number_known s q ∷ []) l
                (subst (λ (f : Bool). Contains (if f then [] else received g rows s q) l) (sym unfrozen) told)))
            | inl of_wait ↦
                elim (Contains-append_cases (flat_map (passed g rows s) (before_on_node g order q) ++ decided g s q)
                (heard g rows s q) l of_wait) [
                  | inr by_hearing ↦ inr (passed_heard q l by_hearing)
                  | inl unheard ↦
                      elim (Contains-append_cases (flat_map (passed g rows s) (before_on_node g order q))
                      (decided g s q) l unheard) [
                        | inr deciding_it ↦ inr (passed_decided q l deciding_it)
                        | inl earlier ↦ inl earlier
                      ]
                ]
          ]
