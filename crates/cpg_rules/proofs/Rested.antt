-- A walk along the steps that it rests on finds what a walk along all steps finds. In the lemmas s and u are standings,
-- q is a process, and `is` are inputs.
use Rattle.std.proofs.Common.{ℕ, zero, suc, ◌+◌, ◌<◌, ◌≤◌, ◌≡◌, Bool, true, false, ◌&&◌, ◌||◌, ◌==◌, if◌then◌else◌}
use Rattle.std.proofs.Common.{List, [], ◌∷◌, All, length, get_or, set, map, filter, drop, replicate, Option, Some}
use Rattle.std.proofs.Common.{None, is_some, arith, refl, sym, ap, ap₂, ◌∙◌, subst, inl, inr, eq-eqb, get_or-set_other}
use Rattle.std.proofs.Common.{get_or-set_same, length-set}
use Rattle.std.specs.Bool.{nat_lt}
use Rattle.std.specs.Prelude.{count_by}
use Rattle.std.specs.List.{list_any, list_all}
use Rattle.std.proofs.lemmas.Bool.{cases_eq, cases_lt, or_left, or_right, or_parts}
use Rattle.std.proofs.lemmas.List.{get_or_past, get_or-replicate, length-replicate}
use Rattle.std.proofs.lemmas.List.Sums.{length-filter}
use Rattle.cpg_base.specs.declared.activation.Activation.{Activation}
use Rattle.cpg_base.specs.declared.activation.Activation.TheVariants.{Inactive, Plain, By}
use Rattle.cpg_base.specs.Numbers.{numbers_below}
use Rattle.cpg_base.specs.Graph.{Graph, process_count, condition_count, process_of}
use Rattle.cpg_base.specs.Scenario.{Scenario, IsLeast}
use Rattle.cpg_base.specs.Order.{place}
use Rattle.cpg_order.specs.Urgency.{IsTopological}
use Rattle.cpg_rules.specs.declared.steps.Input.{Input}
use Rattle.cpg_rules.specs.declared.steps.Aim.{Aim}
use Rattle.cpg_rules.specs.declared.steps.Aim.TheVariants.{Process, Conditions}
use Rattle.cpg_rules.specs.Steps.{ActivationStep, step_of}
use Rattle.cpg_rules.specs.Rested.{reads, are_reading, is_rested, rested}
use Rattle.cpg_rules.specs.Growing.{is_taken, is_live_in, first_live, activation_from, activation_in, standing, settled}
use Rattle.cpg_rules.specs.Growing.{choice, if_both, tracks_from}
use Rattle.cpg_rules.specs.Alternatives.{are_two_live, first_some, if_other, found_from, is_set, scenario_of}
use Rattle.cpg_rules.specs.Alternatives.{has_two_live}
use Rattle.cpg_rules.proofs.Parts.{all_parts}
use Rattle.cpg_rules.proofs.Along.{rest_first, rest_more}
use Rattle.cpg_rules.proofs.Searched.{search_none, search_some}

-- no truth value is both true and false
true_false : (a : Bool) → a ≡ true → a ≡ false → ⊥
true_false true is_true is_false = cc
true_false false is_true is_false = cc

-- ---- inputs whose sources stand alike

-- given: two lists of standings, s and u
module _ (s u : List (Option Bool)) where
  -- each of these inputs is live by the standings s exactly if it is by u
  abbrev pub AreLiveAlike : List Input → Type 0
  AreLiveAlike [] = Unit {0}
  AreLiveAlike (i ∷ is) = (is_live_in s i ≡ is_live_in u i) × AreLiveAlike is

  -- inputs are live alike by standings that agree on their sources
  live_alike : (is : List Input) →
      ((q : ℕ) → list_any (λ (i : Input). i.source == q) is ≡ true → get_or s q None ≡ get_or u q None) →
      AreLiveAlike is
  live_alike [] h = tt
  live_alike (i ∷ is) h = (
    ap (is_taken i.when) (h i.source (or_left (i.source == i.source) (list_any (λ (j : Input). j.source == i.source) is)
        (eq-eqb i.source i.source refl))),
    live_alike is (λ q r. h q (or_right (i.source == q) (list_any (λ (j : Input). j.source == q) is) r)),
  )

  -- the same input is the first live one
  first_alike : (is : List Input) → AreLiveAlike is → first_live s is ≡ first_live u is
  first_alike [] h = refl
  first_alike (i ∷ is) h = ap₂ (λ b a. if b then By i.edge else a) h.0 (first_alike is h.1)

  -- the same inputs are all live
  all_alike : (is : List Input) → AreLiveAlike is → list_all (is_live_in s) is ≡ list_all (is_live_in u) is
  all_alike [] h = refl
  all_alike (i ∷ is) h = ap₂ (λ a b. a && b) h.0 (all_alike is h.1)

  -- the same ones are live
  filter_alike : (is : List Input) → AreLiveAlike is → filter (is_live_in s) is ≡ filter (is_live_in u) is
  filter_alike [] h = refl
  filter_alike (i ∷ is) h = ap₂ (λ b r. if b then i ∷ r else r) h.0 (filter_alike is h.1)

  -- as many inputs are live by both standings
  count_alike : (is : List Input) → AreLiveAlike is → count_by (is_live_in s) is ≡ count_by (is_live_in u) is
  count_alike is h =
      sym (length-filter (is_live_in s) is) ∙ ap length (filter_alike is h) ∙ length-filter (is_live_in u) is

  -- inputs that are live alike give the same activation
  activation_alike : (join : Bool) (is : List Input) → AreLiveAlike is →
      activation_from join s is ≡ activation_from join u is
  activation_alike join [] h = refl
  activation_alike true (i ∷ is) h = first_alike (i ∷ is) h
  activation_alike false (i ∷ is) h = ap (λ b. if b then Plain else Inactive) (all_alike (i ∷ is) h)

-- ---- standings that are alike where steps read them

-- standings of the processes that agree on each process whose activation the steps read
record IsAlike (steps : List ActivationStep) (s u : List (Option Bool)) : Type 0 where
  -- there are as many standings in both
  long : length s ≡ length u
  -- they agree on what the steps read
  same : (q : ℕ) → are_reading steps q ≡ true → get_or s q None ≡ get_or u q None

-- Setting the same standing keeps standings alike.
-- q is the process that was set, within the lists or past their ends, or another one.
set_alike : (s u : List (Option Bool)) (p q : ℕ) (x : Option Bool) → length s ≡ length u →
    get_or s q None ≡ get_or u q None →
    get_or (set s p x) q None ≡ get_or (set u p x) q None
set_alike s u p q x long same = elim (cases_eq q p) [
  | inl equal ↦ elim (cases_lt p (length s)) [
    | inl less ↦ subst (λ r. get_or (set s p x) r None ≡ get_or (set u p x) r None) (sym equal)
        (get_or-set_same s p x None less ∙ sym (get_or-set_same u p x None (omega (arith, long))))
    | inr at_least ↦ subst (λ r. get_or (set s p x) r None ≡ get_or (set u p x) r None) (sym equal)
        (get_or_past (set s p x) p None (omega (arith, length-set s p x))
        ∙ sym (get_or_past (set u p x) p None (omega (arith, long, length-set u p x))))
  ]
  | inr differ ↦ get_or-set_other s p q x None differ ∙ same ∙ sym (get_or-set_other u p q x None differ)
]

-- given: a step, the steps kept after it, and two lists of standings, s and u
module _ (step : ActivationStep) (kept : List ActivationStep) (s u : List (Option Bool)) where
  -- the inputs of a step are live by both standings or by neither
  inputs_alike : IsAlike (step ∷ kept) s u → AreLiveAlike s u step.inputs
  inputs_alike alike = live_alike s u step.inputs (λ q r. alike.same q (or_left (reads q step) (are_reading kept q) r))

  -- a step has one activation in both
  here_alike : IsAlike (step ∷ kept) s u → activation_in s step ≡ activation_in u step
  here_alike alike = activation_alike s u step.join step.inputs (inputs_alike alike)

  -- Standings stay alike after a step that is kept.
  -- The step's inputs have the same standings in both, so its process gets the same one.
  next_alike : IsAlike (step ∷ kept) s u → (v : Bool) → IsAlike kept (settled s step v) (settled u step v)
  next_alike alike v = record {
    long = length-set s step.process (standing (activation_in s step) v) ∙ alike.long
        ∙ sym (length-set u step.process (standing (activation_in u step) v));
    same = λ q r. ap (λ a. get_or (set s step.process (standing a v)) q None) (here_alike alike)
        ∙ set_alike s u step.process q (standing (activation_in u step) v) alike.long
        (alike.same q (or_right (reads q step) (are_reading kept q) r));
  }

  -- standings stay alike after a step that isn't kept
  passed_alike : IsAlike kept s u → are_reading kept step.process ≡ false → (v : Bool) →
      IsAlike kept (settled s step v) u
  passed_alike alike unread v = record {
    long = length-set s step.process (standing (activation_in s step) v) ∙ alike.long;
    same = λ q r. get_or-set_other s step.process q (standing (activation_in s step) v) None
        (λ e. true_false (are_reading kept step.process) (subst (λ x. are_reading kept x ≡ true) e r) unread)
        ∙ alike.same q r;
  }

-- ---- as many tracks

-- a step without a condition makes no second way
not_chosen : (a : Activation) (x : Option ℕ) (n : ℕ) → is_some x ≡ false → if_both (choice a x) n ≡ 0
not_chosen Inactive x n is_false = refl
not_chosen Plain None n is_false = refl
not_chosen Plain (Some c) n is_false = cc
not_chosen (By e) None n is_false = refl
not_chosen (By e) (Some c) n is_false = cc

-- From standings that are alike, both walks count the same tracks.
-- By induction on the steps: a step that is kept splits both walks alike. One that isn't has no condition and so no choice,
-- and later steps that are kept don't read it.
tracks_alike : (steps : List ActivationStep) (s u : List (Option Bool)) → IsAlike (rested Conditions steps) s u →
    tracks_from steps s ≡ tracks_from (rested Conditions steps) u
tracks_alike [] s u alike = refl
tracks_alike (step ∷ steps) s u alike =
    go (is_rested Conditions step (rested Conditions steps)) refl alike (λ t w a. tracks_alike steps t w a)
  where
    -- by whether the walk rests on the step
    go : (b : Bool) → is_rested Conditions step (rested Conditions steps) ≡ b →
        IsAlike (if b then step ∷ rested Conditions steps else rested Conditions steps) s u
        → ((t w : List (Option Bool)) → IsAlike (rested Conditions steps) t w →
        tracks_from steps t ≡ tracks_from (rested Conditions steps) w)
        → tracks_from (step ∷ steps) s
        ≡ tracks_from (if b then step ∷ rested Conditions steps else rested Conditions steps) u
    go true is alike later = ap₂ (λ m n. m + n)
        (later (settled s step false) (settled u step false)
        (next_alike step (rested Conditions steps) s u alike false))
        (ap₂ (λ a n. if_both (choice a step.condition) n) (here_alike step (rested Conditions steps) s u alike)
        (later (settled s step true) (settled u step true) (next_alike step (rested Conditions steps) s u alike true)))
    go false is alike later =
        let none = or_parts (is_some step.condition) (are_reading (rested Conditions steps) step.process) is in
        let same =
        later (settled s step false) u (passed_alike step (rested Conditions steps) s u alike none.1 false) in
        let zero = not_chosen (activation_in s step) step.condition (tracks_from steps (settled s step true)) none.0 in
        omega (arith, same, zero)

-- a walk along the steps that conditions rest on counts the same tracks as one along all steps
pub tracks_rested : (steps : List ActivationStep) (s : List (Option Bool)) →
    tracks_from (rested Conditions steps) s ≡ tracks_from steps s
tracks_rested steps s = sym (tracks_alike steps s s (record { long = refl; same = λ q r. refl }))

-- ---- the steps that are kept are among the steps

-- what holds of one step and of others holds of all of them
all_cons : (P : ActivationStep → Type 0) (step : ActivationStep) (steps : List ActivationStep) → P step → All P steps →
    All P (step ∷ steps)
all_cons P step steps h t zero d l = h
all_cons P step steps h t (suc k) d l = t k d (omega arith)

-- What holds of all steps holds of those that a walk rests on.
-- By induction on the steps: each is kept or left out.
pub all_rested : (P : ActivationStep → Type 0) (aim : Aim) (steps : List ActivationStep) → All P steps →
    All P (rested aim steps)
all_rested P aim [] h = h
all_rested P aim (step ∷ steps) h =
    let parts = all_parts P step (step ∷ steps) steps refl h in
    go (is_rested aim step (rested aim steps)) parts.0 (all_rested P aim steps parts.1)
  where
    -- by whether the walk rests on the step, so that it is kept
    go : (b : Bool) → P step → All P (rested aim steps) →
        All P (if b then step ∷ rested aim steps else rested aim steps)
    go true first more = all_cons P step (rested aim steps) first more
    go false first more = more

-- ---- two live inputs are found alike

-- a search that finds something on both ways exactly if another does finds something exactly if that one does
some_passed : (c : Option ℕ) (x y z : Option (List (Option Bool))) → is_some x ≡ is_some z → is_some y ≡ is_some z →
    is_some (first_some x (if_other c y)) ≡ is_some z
some_passed c (Some f) y z x_is y_is = x_is
some_passed None None y z x_is y_is = x_is
some_passed (Some c) None y z x_is y_is = y_is

-- choosing between two ways finds something exactly if choosing between two ways like them does
some_kept : (c : Option ℕ) (x y z w : Option (List (Option Bool))) → is_some x ≡ is_some z → is_some y ≡ is_some w →
    is_some (first_some x (if_other c y)) ≡ is_some (first_some z (if_other c w))
some_kept c (Some f) y (Some g) w x_is y_is = refl
some_kept c (Some f) y None w x_is y_is = cc
some_kept c None y (Some g) w x_is y_is = cc
some_kept None None y None w x_is y_is = refl
some_kept (Some c) None y None w x_is y_is = y_is

-- both are there or none, with the same conditions set
abbrev pub AreFoundAlike : Option (List (Option Bool)) → Option (List (Option Bool)) → Type 0
AreFoundAlike None None = Unit {0}
AreFoundAlike (Some f) (Some g) = (q : ℕ) → is_set (get_or f q None) ≡ is_set (get_or g q None)
AreFoundAlike None (Some g) = ⊥
AreFoundAlike (Some f) None = ⊥

-- if the first search finds as much as the whole one, or the other way does, so does the one after it
found_passed : (c : Option ℕ) (x y z : Option (List (Option Bool))) → AreFoundAlike x z → is_some y ≡ is_some z →
    AreFoundAlike (first_some x (if_other c y)) z
found_passed c (Some f) y z h is = h
found_passed None None y z h is = h
found_passed (Some c) None None None h is = tt
found_passed (Some c) None (Some f) None h is = cc
found_passed (Some c) None y (Some g) h is = absurd h

-- searches that find alike on both ways find alike
found_kept : (c : Option ℕ) (x y z w : Option (List (Option Bool))) → AreFoundAlike x z → AreFoundAlike y w →
    AreFoundAlike (first_some x (if_other c y)) (first_some z (if_other c w))
found_kept c (Some f) y (Some g) w h k = h
found_kept c (Some f) y None w h k = absurd h
found_kept c None y (Some g) w h k = absurd h
found_kept None None y None w h k = tt
found_kept (Some c) None y None w h k = k

-- given: a process p
module _ (p : ℕ) where
  -- two inputs of a step are live by both standings or by neither, if these are alike
  two_alike : (step : ActivationStep) (kept : List ActivationStep) (s u : List (Option Bool)) →
      IsAlike (step ∷ kept) s u →
      are_two_live s step.inputs ≡ are_two_live u step.inputs
  two_alike step kept s u alike = ap (nat_lt 1) (count_alike s u step.inputs (inputs_alike step kept s u alike))

  -- Both searches find something, or neither does.
  -- By induction on the steps: at p both look at the same inputs; a step that is kept splits both searches alike; one that
  -- isn't kept isn't read by later ones, so either of its ways finds the same.
  some_alike : (steps : List ActivationStep) (s u : List (Option Bool)) → IsAlike (rested (Process p) steps) s u →
      is_some (found_from p steps s) ≡ is_some (found_from p (rested (Process p) steps) u)
  some_alike [] s u alike = refl
  some_alike (step ∷ steps) s u alike = go (step.process == p)
      (are_reading (rested (Process p) steps) step.process) refl refl alike (λ t w a. some_alike steps t w a)
    where
      -- by whether the step is that of p, and otherwise by whether a later step that is kept reads it
      go : (a b : Bool) → (step.process == p) ≡ a → are_reading (rested (Process p) steps) step.process ≡ b
          → IsAlike (if a || b then step ∷ rested (Process p) steps else rested (Process p) steps) s u
          → ((t w : List (Option Bool)) → IsAlike (rested (Process p) steps) t w →
          is_some (found_from p steps t) ≡ is_some (found_from p (rested (Process p) steps) w))
          → is_some (if a then (if are_two_live s step.inputs then Some s else None)
          else first_some (found_from p steps (settled s step false))
          (if_other (choice (activation_in s step) step.condition) (found_from p steps (settled s step true))))
          ≡ is_some (found_from p (if a || b then step ∷ rested (Process p) steps else rested (Process p) steps) u)
      -- the step is that of p: both searches end here, and look at inputs that are live alike
      go true b e f alike later =
          ap₂ (λ two at. is_some (if two then Some s else None)) (two_alike step (rested (Process p) steps) s u alike) e
          ∙ is_u (are_two_live u step.inputs)
          ∙ ap (λ at. is_some (if at then (if are_two_live u step.inputs then Some u else None)
          else first_some (found_from p (rested (Process p) steps) (settled u step false))
          (if_other (choice (activation_in u step) step.condition)
          (found_from p (rested (Process p) steps) (settled u step true))))) (sym e)
        where
          -- whether something is found is the same with either standings
          is_u : (two : Bool) → is_some (if two then Some s else None) ≡ is_some (if two then Some u else None)
          is_u true = refl
          is_u false = refl
      -- the step is kept: both searches split at it alike
      go false true e f alike later =
          ap (λ a. is_some (first_some (found_from p steps (settled s step false))
          (if_other (choice a step.condition) (found_from p steps (settled s step true)))))
          (here_alike step (rested (Process p) steps) s u alike)
          ∙ some_kept (choice (activation_in u step) step.condition) (found_from p steps (settled s step false))
          (found_from p steps (settled s step true))
          (found_from p (rested (Process p) steps) (settled u step false))
          (found_from p (rested (Process p) steps) (settled u step true))
          (later (settled s step false) (settled u step false)
          (next_alike step (rested (Process p) steps) s u alike false))
          (later (settled s step true) (settled u step true)
          (next_alike step (rested (Process p) steps) s u alike true))
          ∙ ap (λ at. is_some (if at then (if are_two_live u step.inputs then Some u else None)
          else first_some (found_from p (rested (Process p) steps) (settled u step false))
          (if_other (choice (activation_in u step) step.condition)
          (found_from p (rested (Process p) steps) (settled u step true))))) (sym e)
      -- the step isn't kept, so no later step reads it: either of its ways finds the same
      go false false e f alike later = some_passed (choice (activation_in s step) step.condition)
          (found_from p steps (settled s step false)) (found_from p steps (settled s step true))
          (found_from p (rested (Process p) steps) u)
          (later (settled s step false) u (passed_alike step (rested (Process p) steps) s u alike f false))
          (later (settled s step true) u (passed_alike step (rested (Process p) steps) s u alike f true))

-- given: a topological order of a graph of at most 128 processes, and the process that is searched for
module _ (g : Graph) (order : List ℕ) (topological : IsTopological g order) (few : process_count g ≤ 128) (p : ℕ) where
  -- the steps from a place on are not yet settled, and the same conditions are set in both standings
  record AreSetAlike (k : ℕ) (s u : List (Option Bool)) : Type 0 where
    -- there is a standing for each number that a process may have
    long : length s ≡ 128
    -- the same conditions are true by both
    sets : (q : ℕ) → is_set (get_or s q None) ≡ is_set (get_or u q None)
    -- from the place on no process has a standing in the second
    fresh : (q : ℕ) → q < process_count g → k ≤ place order q → get_or u q None ≡ None

  -- an inactive process has no value set
  unset : (a : Activation) → is_set (standing a false) ≡ false
  unset Inactive = refl
  unset Plain = refl
  unset (By e) = refl

  -- given: standings that are set alike, and the process at the next place
  module _ (k q : ℕ) (h : q < process_count g) (at : place order q ≡ k) (s u : List (Option Bool))
      (sets : AreSetAlike k s u) where
    -- once the process at the place is settled as false, the same conditions are still set
    sets_passed : AreSetAlike (k + 1) (settled s (step_of g q) false) u
    sets_passed = record {
      long = length-set s q (standing (activation_in s (step_of g q)) false) ∙ sets.long;
      sets = λ r. elim (cases_eq r q) [
        | inl equal ↦ ap (λ x. is_set (get_or (settled s (step_of g q) false) x None)) equal
            ∙ ap is_set
            (get_or-set_same s q (standing (activation_in s (step_of g q)) false) None (omega (arith, sets.long)))
            ∙ unset (activation_in s (step_of g q))
            ∙ sym (ap (λ x. is_set (get_or u x None)) equal ∙ ap is_set (sets.fresh q h (omega (arith, at))))
        | inr differ ↦
            ap is_set (get_or-set_other s q r (standing (activation_in s (step_of g q)) false) None differ)
            ∙ sets.sets r
      ];
      fresh = λ r l m. sets.fresh r l (omega arith);
    }

    -- Standings stay set alike when the process at the next place is settled.
    -- r is the process that is settled, which gets the same standing in both, or another one, of which nothing changes.
    sets_kept : length u ≡ 128 → (v : Bool) → activation_in s (step_of g q) ≡ activation_in u (step_of g q) →
        AreSetAlike (k + 1) (settled s (step_of g q) v) (settled u (step_of g q) v)
    sets_kept long v same = record {
      long = length-set s q (standing (activation_in s (step_of g q)) v) ∙ sets.long;
      sets = λ r. elim (cases_eq r q) [
        | inl is_q ↦ ap (λ x. is_set (get_or (settled s (step_of g q) v) x None)) is_q
            ∙ ap is_set (get_or-set_same s q (standing (activation_in s (step_of g q)) v) None
            (omega (arith, sets.long)) ∙ ap (λ a. standing a v) same ∙
            sym (get_or-set_same u q (standing (activation_in u (step_of g q)) v) None (omega (arith, long))))
            ∙ sym (ap (λ x. is_set (get_or (settled u (step_of g q) v) x None)) is_q)
        | inr is_other ↦ ap is_set (get_or-set_other s q r (standing (activation_in s (step_of g q)) v) None is_other)
            ∙ sets.sets r ∙
            sym (ap is_set (get_or-set_other u q r (standing (activation_in u (step_of g q)) v) None is_other))
      ];
      fresh = λ r r_below from_next. get_or-set_other u q r (standing (activation_in u (step_of g q)) v) None
          (λ is_q. let one_place = ap (place order) is_q in omega (arith, at)) ∙ sets.fresh r r_below (omega arith);
    }

  -- Both searches find the same conditions set.
  -- By induction on the rest of the order, with the cases of `some_alike`.
  found_alike : (qs : List ℕ) (k : ℕ) (s u : List (Option Bool)) → drop k order ≡ qs →
      IsAlike (rested (Process p) (map (step_of g) qs)) s u →
      AreSetAlike k s u
      → AreFoundAlike (found_from p (map (step_of g) qs) s) (found_from p (rested (Process p) (map (step_of g) qs)) u)
  found_alike [] k s u rest_is alike sets = tt
  found_alike (q ∷ qs) k s u rest_is alike sets =
      let first_there = rest_first g order topological k q qs rest_is in
      let more = rest_more g order topological k q qs rest_is in
      go first_there.0 first_there.1 ((step_of g q).process == p)
      (are_reading (rested (Process p) (map (step_of g) qs)) q) refl refl alike
      (λ t w a b. found_alike qs (k + 1) t w more a b)
    where
      -- by whether the process is p, and otherwise by whether a later step that is kept reads it
      go : q < process_count g → place order q ≡ k → (a b : Bool) → (q == p) ≡ a →
          are_reading (rested (Process p) (map (step_of g) qs)) q ≡ b
          → IsAlike (if a || b then (step_of g q) ∷ (rested (Process p) (map (step_of g) qs))
          else (rested (Process p) (map (step_of g) qs))) s u
          → ((t w : List (Option Bool)) → IsAlike (rested (Process p) (map (step_of g) qs)) t w →
          AreSetAlike (k + 1) t w →
          AreFoundAlike (found_from p (map (step_of g) qs) t)
          (found_from p (rested (Process p) (map (step_of g) qs)) w))
          → AreFoundAlike (if a then (if are_two_live s (step_of g q).inputs then Some s else None)
          else first_some (found_from p (map (step_of g) qs) (settled s (step_of g q) false))
          (if_other (choice (activation_in s (step_of g q)) (step_of g q).condition)
          (found_from p (map (step_of g) qs) (settled s (step_of g q) true))))
          (found_from p (if a || b then (step_of g q) ∷ (rested (Process p) (map (step_of g) qs))
          else (rested (Process p) (map (step_of g) qs))) u)
      -- q is p: both searches end here, and look at inputs that are live alike
      go h at true b e f alike later =
          subst (λ a. AreFoundAlike (if are_two_live s (step_of g q).inputs then Some s else None)
          (if a then (if are_two_live u (step_of g q).inputs then Some u else None)
          else first_some (found_from p (rested (Process p) (map (step_of g) qs)) (settled u (step_of g q) false))
          (if_other (choice (activation_in u (step_of g q)) (step_of g q).condition)
          (found_from p (rested (Process p) (map (step_of g) qs)) (settled u (step_of g q) true))))) (sym e)
          (subst (λ two. AreFoundAlike (if two then Some s else None)
          (if are_two_live u (step_of g q).inputs then Some u else None))
          (sym (two_alike p (step_of g q) (rested (Process p) (map (step_of g) qs)) s u alike))
          (at_join (are_two_live u (step_of g q).inputs)))
        where
          -- at p both searches find their standings, or both find nothing
          at_join : (two : Bool) → AreFoundAlike (if two then Some s else None) (if two then Some u else None)
          at_join true = sets.sets
          at_join false = tt
      -- q is another process that is kept: both searches split at it alike
      go h at false true e f alike later =
          let here = here_alike (step_of g q) (rested (Process p) (map (step_of g) qs)) s u alike in
          let long : length u ≡ 128 = sym alike.long ∙ sets.long in
          subst (λ a. AreFoundAlike (first_some (found_from p (map (step_of g) qs) (settled s (step_of g q) false))
          (if_other (choice (activation_in s (step_of g q)) (step_of g q).condition)
          (found_from p (map (step_of g) qs) (settled s (step_of g q) true))))
          (if a then (if are_two_live u (step_of g q).inputs then Some u else None)
          else first_some (found_from p (rested (Process p) (map (step_of g) qs)) (settled u (step_of g q) false))
          (if_other (choice (activation_in u (step_of g q)) (step_of g q).condition)
          (found_from p (rested (Process p) (map (step_of g) qs)) (settled u (step_of g q) true))))) (sym e)
          (subst (λ a. AreFoundAlike (first_some (found_from p (map (step_of g) qs) (settled s (step_of g q) false))
          (if_other (choice a (step_of g q).condition)
          (found_from p (map (step_of g) qs) (settled s (step_of g q) true))))
          (first_some (found_from p (rested (Process p) (map (step_of g) qs)) (settled u (step_of g q) false))
          (if_other (choice (activation_in u (step_of g q)) (step_of g q).condition)
          (found_from p (rested (Process p) (map (step_of g) qs)) (settled u (step_of g q) true))))) (sym here)
          (found_kept (choice (activation_in u (step_of g q)) (step_of g q).condition)
          (found_from p (map (step_of g) qs) (settled s (step_of g q) false))
          (found_from p (map (step_of g) qs) (settled s (step_of g q) true))
          (found_from p (rested (Process p) (map (step_of g) qs)) (settled u (step_of g q) false))
          (found_from p (rested (Process p) (map (step_of g) qs)) (settled u (step_of g q) true))
          (later (settled s (step_of g q) false) (settled u (step_of g q) false)
          (next_alike (step_of g q) (rested (Process p) (map (step_of g) qs)) s u alike false)
          (sets_kept k q h at s u sets long false here))
          (later (settled s (step_of g q) true) (settled u (step_of g q) true)
          (next_alike (step_of g q) (rested (Process p) (map (step_of g) qs)) s u alike true)
          (sets_kept k q h at s u sets long true here))))
      -- q isn't kept, so no later step reads it: it is passed over, whichever way it goes
      go h at false false e f alike later =
          found_passed (choice (activation_in s (step_of g q)) (step_of g q).condition)
          (found_from p (map (step_of g) qs) (settled s (step_of g q) false))
          (found_from p (map (step_of g) qs) (settled s (step_of g q) true))
          (found_from p (rested (Process p) (map (step_of g) qs)) u)
          (later (settled s (step_of g q) false) u (passed_alike (step_of g q)
          (rested (Process p) (map (step_of g) qs)) s u alike f false) (sets_passed k q h at s u sets))
          (some_alike p (map (step_of g) qs) (settled s (step_of g q) true) u
          (passed_alike (step_of g q) (rested (Process p) (map (step_of g) qs)) s u alike f true))

  -- ---- from the start

  -- at the start no standing is chosen
  abbrev start : List (Option Bool)
  start = replicate 128 None

  -- at the start no process has a standing
  start_none : (q : ℕ) → get_or start q None ≡ None
  start_none q = elim (cases_lt q 128) [
    | inl less ↦ get_or-replicate {A = Option Bool} 128 q None None less
    | inr at_least ↦ get_or_past start q None (omega (arith, length-replicate {A = Option Bool} 128 None))
  ]

  -- a search along the steps that a process rests on finds the same conditions as one along all steps, or also none
  pub rested_alike : AreFoundAlike (found_from p (map (step_of g) order) start)
      (found_from p (rested (Process p) (map (step_of g) order)) start)
  rested_alike = found_alike order 0 start start refl (record { long = refl; same = λ q r. refl })
      (record { long = length-replicate {A = Option Bool} 128 None; sets = λ q. refl; fresh = λ q l m. start_none q })

  -- the walk along the steps that it rests on
  abbrev searched : Option (List (Option Bool))
  searched = found_from p (rested (Process p) (map (step_of g) order)) start

  -- If that search finds nothing, no outcome makes two inputs of the process live.
  -- Then the search along all steps finds nothing either.
  pub rested_none : p < process_count g → searched ≡ None → (o : List Bool) → has_two_live g o p ≡ false
  rested_none within e o = go (found_from p (map (step_of g) order) start) refl
      (subst (AreFoundAlike (found_from p (map (step_of g) order) start)) e rested_alike)
    where
      -- by what the search along all steps finds
      go : (x : Option (List (Option Bool))) → found_from p (map (step_of g) order) start ≡ x → AreFoundAlike x None →
          has_two_live g o p ≡ false
      go None is a = search_none g order topological few p within is o
      go (Some found) is a = absurd a

  -- If it finds standings, they give the least scenario in which two inputs of the process are live.
  -- The search along all steps finds standings with the same conditions set, and so the same scenario.
  pub rested_some : p < process_count g → (found : List (Option Bool)) → searched ≡ Some found →
      IsLeast g order (λ t. has_two_live g t.values p ≡ true) (scenario_of g found)
  rested_some within found is = go (found_from p (map (step_of g) order) start) refl
      (subst (AreFoundAlike (found_from p (map (step_of g) order) start)) is rested_alike)
    where
      -- standings that set the same conditions have the same scenario
      same : (other : List (Option Bool)) → AreFoundAlike (Some other) (Some found) →
          scenario_of g other ≡ scenario_of g found
      same other a = ap (λ f. let s : Scenario = record {
        values = map f (numbers_below (condition_count g));
        faults = replicate (process_count g) 0;
      } in s) (λ i c. a (process_of g c) i)

      -- by what the search along all steps finds
      go : (x : Option (List (Option Bool))) → found_from p (map (step_of g) order) start ≡ x →
          AreFoundAlike x (Some found) →
          IsLeast g order (λ t. has_two_live g t.values p ≡ true) (scenario_of g found)
      go None is a = absurd a
      go (Some other) is a = subst (IsLeast g order (λ t. has_two_live g t.values p ≡ true)) (same other a)
          (search_some g order topological few p within other is)
