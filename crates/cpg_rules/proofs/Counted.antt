-- The ways along an order are as many as the graph has tracks.
use Rattle.std.proofs.Common.{ℕ, ◌+◌, ◌<◌, ◌≤◌, ◌≡◌, Bool, true, false, ◌&&◌, if◌then◌else◌, List, [], ◌∷◌, ◌++◌}
use Rattle.std.proofs.Common.{length, get_or, set, map, drop, replicate, sum_by, Option, Some, None, arith, refl}
use Rattle.std.proofs.Common.{sym, ap, ap₂, ◌∙◌, subst, get_or-set_other, get_or-set_same, length-set}
use Rattle.std.specs.Option.{option_to_list}
use Rattle.std.proofs.lemmas.List.{get_or-replicate, length-replicate}
use Rattle.cpg_base.specs.declared.activation.Activation.{Activation}
use Rattle.cpg_base.specs.declared.activation.Activation.TheVariants.{Inactive, Plain, By}
use Rattle.cpg_base.specs.Numbers.{numbers_below}
use Rattle.cpg_base.specs.Graph.{Graph, process_count, condition_count, process_of, condition_of, value_variable}
use Rattle.cpg_base.specs.Activity.{is_active, active}
use Rattle.cpg_base.proofs.Lists.{Contains-map, Contains-numbers}
use Rattle.cpg_base.proofs.Items.{same_condition}
use Rattle.cpg_order.specs.Urgency.{IsTopological}
use Rattle.cpg_base.specs.Order.{place}
use Rattle.cpg_order.specs.Track.{track_count}
use Rattle.cpg_order.specs.Counting.{is_value_free, conditions_along, all_values, all_false, chosen}
use Rattle.cpg_base.proofs.ConditionProcesses.{process_of_condition_of, condition_of_below}
use Rattle.cpg_order.proofs.Along.{is_in_from}
use Rattle.cpg_order.proofs.QuietOutcomes.{sum_chosen, tracks_chosen}
use Rattle.cpg_rules.specs.Steps.{step_of}
use Rattle.cpg_rules.specs.Growing.{activation_in, settled, choice, if_both, tracks_from}
use Rattle.cpg_rules.specs.Way.{Follows, AreSettled}
use Rattle.cpg_rules.proofs.Along.{rest_first, rest_more}
use Rattle.cpg_rules.proofs.Standings.{activation_here, follows_on, settled_next}
use Rattle.cpg_rules.proofs.Start.{none_settled, all_follow}

-- given: a topological order of a graph of at most 128 processes
module _ (g : Graph) (order : List ℕ) (topological : IsTopological g order) (few : process_count g ≤ 128) where
  -- an outcome on the way: the conditions that are left are false
  record IsOnWay (k : ℕ) (s : List (Option Bool)) (o : List Bool) : Type 0 where
    -- it has a value for each condition
    count : length o ≡ condition_count g
    -- it has the values of the standings so far
    follows : Follows g order k s o
    -- the conditions that are left are false
    rest : (c : ℕ) → c < condition_count g → k ≤ place order (process_of g c) → get_or o c false ≡ false

  -- how many outcomes are chosen from o over these conditions, if every value is in reach
  abbrev many : List ℕ → List Bool → ℕ
  many cs o = sum_by (λ q. 1) (chosen g (all_values g) cs o)

  -- given: the standings of the processes before a place, the process at the place, and an outcome on the way
  module _ (k p : ℕ) (s : List (Option Bool)) (are : AreSettled g order k s) (p_below : p < process_count g)
      (at : place order p ≡ k) (o : List Bool) (on : IsOnWay k s o) where
    -- the activation of the process
    abbrev here : Activation
    here = activation_in s (step_of g p)

    -- if the condition of the process stays false, the outcome is still on the way
    stays : IsOnWay (k + 1) (settled s (step_of g p) false) o
    stays = record {
      count = on.count;
      follows = follows_on g order topological k s are p p_below few at false o on.follows
          (λ c c_below is_its acts. on.rest c c_below (let one_place = ap (place order) is_its in omega arith));
      rest = λ c c_below from_next. on.rest c c_below (omega arith);
    }

    -- If the condition of the process becomes true, the changed outcome is on the way.
    -- Only this condition changes, and later ones are still false.
    turns : (c : ℕ) → condition_of g p ≡ Some c → IsOnWay (k + 1) (settled s (step_of g p) true) (set o c true)
    turns c its = record {
      count = length-set o c true ∙ on.count;
      follows = follows_on g order topological k s are p p_below few at true (set o c true) moved
          (λ d d_below is_its acts.
          subst (λ x. get_or (set o c true) x false ≡ true)
          (sym (same_condition g d c d_below within (is_its ∙ sym of_it)))
          (get_or-set_same o c true false (omega (arith, within, on.count))));
      rest = λ d d_below from_next. get_or-set_other o c d true false
          (λ is_its. let one_place = ap (λ x. place order (process_of g x)) is_its in
          let its_place = ap (place order) of_it in omega arith) ∙ on.rest d d_below (omega arith);
    }
      where
        -- the condition is one of the graph
        within : c < condition_count g
        within = condition_of_below g p c its

        -- the condition's process is this one
        of_it : process_of g c ≡ p
        of_it = process_of_condition_of g p c its

        -- with the value true the ways follow as well
        moved : Follows g order k s (set o c true)
        moved = record {
          takes =
              λ d d_below from_next v is_its. get_or-set_other o c d true false
              (λ x. let one_place = ap (λ y. place order (process_of g y)) x in
              let its_place = ap (place order) of_it in omega arith) ∙ on.follows.takes d d_below from_next v is_its;
        }

    -- the value of the process's condition is free exactly if the process is active
    free_here : (c : ℕ) → condition_of g p ≡ Some c → is_value_free g (all_values g) o c ≡ is_active here
    free_here c its =
        ap (λ b. b && active g o (process_of g c))
        (is_in_from (all_values g) (value_variable c) (Contains-map value_variable (numbers_below (condition_count g)) c
        (Contains-numbers (condition_count g) c (condition_of_below g p c its))))
        ∙ ap (active g o) (process_of_condition_of g p c its)
        ∙ ap is_active (sym (activation_here g order topological k s are o on.follows p p_below at))

    -- The ways from here are those with the condition false, and those with it true.
    -- A process without a condition, or an inactive one, has one way; the outcomes that are chosen split in the same way.
    ways_here : (cs : List ℕ) (x : Option ℕ) → condition_of g p ≡ x → (m n : ℕ) → m ≡ many cs o →
        ((c : ℕ) → x ≡ Some c → n ≡ many cs (set o c true))
        → m + if_both (choice here x) n ≡ many (option_to_list x ++ cs) o
    ways_here cs None its m n is f = ap (λ y. m + y) (none here) ∙ omega arith
      where
        -- without a condition there is no second way, however the process is active
        none : (a : Activation) → if_both (choice a None) n ≡ 0
        none Inactive = refl
        none Plain = refl
        none (By i) = refl
    ways_here cs (Some c) its m n is f =
        ap₂ (λ y z. y + z) is (go here ∙ ap (λ b. if b then many cs (set o c true) else 0) (sym (free_here c its)))
        ∙ sym (sum_chosen g (all_values g) (λ q. 1) c cs o)
      where
        -- by how the process is active: only an active one has a second way
        go : (a : Activation) → if_both (choice a (Some c)) n ≡ (if is_active a then many cs (set o c true) else 0)
        go Inactive = refl
        go Plain = f c refl
        go (By i) = f c refl

  -- The ways along the rest of the order are as many as the outcomes chosen over its conditions.
  -- By induction on the rest of the order, step by step with `ways_here`.
  counted : (ps : List ℕ) (k : ℕ) (s : List (Option Bool)) (o : List Bool) → drop k order ≡ ps →
      AreSettled g order k s → IsOnWay k s o
      → tracks_from (map (step_of g) ps) s ≡ many (conditions_along g ps) o
  counted [] k s o rest_is are on = refl
  counted (p ∷ ps) k s o rest_is are on =
      let first_there = rest_first g order topological k p ps rest_is in
      let rest_after = rest_more g order topological k p ps rest_is in
      ways_here k p s are first_there.0 first_there.1 o on (conditions_along g ps) (condition_of g p) refl
      (tracks_from (map (step_of g) ps) (settled s (step_of g p) false))
      (tracks_from (map (step_of g) ps) (settled s (step_of g p) true))
      (counted ps (k + 1) (settled s (step_of g p) false) o rest_after
      (settled_next g order topological k s are p first_there.0 few first_there.1 false)
      (stays k p s are first_there.0 first_there.1 o on))
      (λ c its. counted ps (k + 1) (settled s (step_of g p) true) (set o c true) rest_after
      (settled_next g order topological k s are p first_there.0 few first_there.1 true)
      (turns k p s are first_there.0 first_there.1 o on c its))

  -- The ways along the steps of an order are as many as the graph has tracks.
  -- At the start no process is settled and all conditions are false; the outcomes chosen from there are the tracks.
  pub tracks_counted : tracks_from (map (step_of g) order) (replicate 128 None) ≡ track_count g
  tracks_counted = counted order 0 (replicate 128 None) (all_false g) refl (none_settled g order topological few)
      (record {
        count = length-replicate (condition_count g) false;
        follows = all_follow g order topological few (replicate 128 None) (all_false g);
        rest =
            λ c l m. get_or-replicate (condition_count g) c false false l;
      })
      ∙ sym (tracks_chosen g order topological)
