-- A run finishes at the last end of a process: no end is later, and if the graph has a process, one ends then.
use Rattle.std.proofs.Common.{◌≡◌, ◌∙◌, ℕ, zero, suc, ◌<◌, ◌≤◌, Bool, true, List, [], ◌∷◌, flat_map, map, length}
use Rattle.std.proofs.Common.{get_or, Contains, Option, Some, None, option_to_list, arith, refl, sym, ap, subst}
use Rattle.std.proofs.Common.{inl, inr}
use Rattle.std.proofs.lemmas.List.{get_or_default}
use Rattle.std.proofs.lemmas.Option.{none-some}
use Rattle.std.proofs.lemmas.List.FromFn.{length-map-range_with_len}
use Rattle.cpg_base.specs.Numbers.{greatest, numbers_below}
use Rattle.cpg_base.specs.Graph.{Graph, process_count, inputs, source, process_at}
use Rattle.cpg_base.specs.Activity.{active, activation_by, is_active, live}
use Rattle.cpg_base.proofs.Inputs.{inputs_parts}
use Rattle.cpg_base.proofs.Lists.{Contains-first, Contains-rest, Contains-nil, Contains-cases, Contains-flat_map}
use Rattle.cpg_base.proofs.Lists.{Contains-flat_map_parts, greatest_above, greatest_in}
use Rattle.cpg_order.specs.Urgency.{IsTopological}
use Rattle.cpg_base.specs.Order.{place}
use Rattle.cpg_base.specs.Scenario.{Scenario}
use Rattle.cpg_order.proofs.Acyclic.{activation_is, input_goes_up, source_in_order}
use Rattle.cpg_run.specs.Run.{Times, IsRun, end_by}
use Rattle.cpg_run.proofs.Runs.{has_end}

-- a number that the list of options has at some place is in the list of their numbers
in_list : (os : List (Option ℕ)) (p n : ℕ) → get_or os p None ≡ Some n → Contains (flat_map option_to_list os) n
in_list os p n e = Contains-flat_map option_to_list os (Some n) n (there os p e) (Contains-first n [])
  where
    -- the list of options contains the option at that place
    there : (os : List (Option ℕ)) (p : ℕ) → get_or os p None ≡ Some n → Contains os (Some n)
    there [] p is = absurd (none-some n is)
    there (o ∷ os) zero is = subst (λ z. Contains (o ∷ os) z) is (Contains-first o os)
    there (o ∷ os) (suc p) is = Contains-rest o os (Some n) (there os p is)

-- the greatest of a list that has something is in it
greatest_there : (xs : List ℕ) (x : ℕ) → Contains xs x → Contains xs (greatest xs)
greatest_there [] x among = absurd (Contains-nil x among)
greatest_there (y ∷ ys) x among = greatest_in y ys

-- if a number is in the list of an option, the option has that number
option_of : (o : Option ℕ) (n : ℕ) → Contains (option_to_list o) n → o ≡ Some n
option_of None n among = absurd (Contains-nil n among)
option_of (Some m) n among = elim (Contains-cases m [] n among) [
  | inl is_head ↦ ap (λ k. Some k) is_head
  | inr in_rest ↦ absurd (Contains-nil n in_rest)
]

-- no process p ends after the finish of a run
pub end_below : (g : Graph) (order : List ℕ) (frozen : List (Option ℕ)) (s : Scenario) (t : Times) →
    IsRun g order frozen s t → (p n : ℕ) → get_or t.ends p None ≡ Some n → n ≤ t.finish
end_below g order frozen s t run p n is =
    omega (arith, run.finish, greatest_above (flat_map option_to_list t.ends) n (in_list t.ends p n is))

module _ (g : Graph) (order : List ℕ) (top : IsTopological g order) where
  -- if p is a process of the graph, some process is active: by induction on n, which is above the place of p
  some_active : (o : List Bool) (n p : ℕ) → place order p < n → p < process_count g →
      (q : ℕ) × (q < process_count g) × (active g o q ≡ true)
  some_active o zero p place_below p_below = absurd (omega arith)
  some_active o (suc n) p place_below p_below = go (some_active o n) (inputs g p) refl
    where
      -- by the inputs of p: if there are none, p itself is the process; else the source of the first is earlier
      go : ((q : ℕ) → place order q < n → q < process_count g →
          (r : ℕ) × (r < process_count g) × (active g o r ≡ true)) →
          (es : List ℕ) → inputs g p ≡ es → (q : ℕ) × (q < process_count g) × (active g o q ≡ true)
      go ih [] inputs_are = (
        p,
        p_below,
        ap is_active (activation_is g order top o p (omega arith)
            ∙ ap (λ es. activation_by (process_at g p).join es (live g o)) inputs_are),
      )
      go ih (f ∷ fs) inputs_are =
          let first_input : Contains (inputs g p) f =
          subst (λ es. Contains es f) (sym inputs_are) (Contains-first f fs) in
          ih (source g f) (omega (arith, input_goes_up g order top p f first_input))
          (source_in_order g order top f (inputs_parts g p f first_input).0)

  -- given: the run t of a scenario s
  module _ (frozen : List (Option ℕ)) (s : Scenario) (t : Times) (run : IsRun g order frozen s t) where
    -- If a graph has processes, one of them ends at the finish. Some process is active and so has an end; the greatest end is
    -- then one of the list of ends, and so the end of the process at its place.
    pub finish_is_end : 0 < process_count g → (p : ℕ) × (p < process_count g) × (get_or t.ends p None ≡ Some t.finish)
    finish_is_end pos =
        let active_one = some_active s.values (suc (place order 0)) 0 (omega arith) pos in
        let ends = has_end g order frozen s t run active_one.0 active_one.1 active_one.2 in
        let there = greatest_there (flat_map option_to_list t.ends) _ (in_list t.ends active_one.0 _ ends) in
        let found_end = Contains-flat_map_parts option_to_list t.ends t.finish
        (subst (Contains (flat_map option_to_list t.ends)) (sym run.finish) there) in
        let count : length t.ends ≡ process_count g =
        omega (arith, ap length run.ends, length-map-range_with_len (end_by g s t) 0 (process_count g)) in
        let is : found_end.0 ≡ Some t.finish = option_of found_end.0 t.finish found_end.2 in (
          found_end.1.0,
          omega (arith, count, found_end.1.1),
          there_is t.ends found_end.1.0 found_end.0 t.finish found_end.1.1 found_end.1.2 is,
        )
      where
        -- the element at a place of a list doesn't depend on the default
        there_is : (os : List (Option ℕ)) (i : ℕ) (o : Option ℕ) (n : ℕ) → i < length os → get_or os i o ≡ o →
            o ≡ Some n →
            get_or os i None ≡ Some n
        there_is os i o n below at ends = get_or_default os i None o below ∙ at ∙ ends

    -- without processes a run finishes at 0
    pub finish_of_none : process_count g ≡ 0 → t.finish ≡ 0
    finish_of_none zero_count = run.finish ∙ ap (λ es. greatest (flat_map option_to_list es))
        (run.ends ∙ ap (λ n. map (end_by g s t) (numbers_below n)) zero_count)
