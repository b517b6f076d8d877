-- What sets of variables have once others are added, also by a loop over the numbers that pass a test.
use Rattle.std.proofs.Common.{ℕ, ◌+◌, ◌<◌, ◌≡◌, ◌==◌, Bool, true, false, cond, ◌||◌, List, [], ◌∷◌, ◌++◌, length}
use Rattle.std.proofs.Common.{get_or, map, filter, flat_map, is_some, Some, option_to_list, refl, sym, ap, ◌∙◌}
use Rattle.std.proofs.Common.{subst, arith}
use Rattle.std.proofs.lemmas.List.Folds.{list_any-append}
use Rattle.std.proofs.lemmas.Grind.{flat_map-append}
use Rattle.std.proofs.lemmas.List.{append-nil, get_or_default}
use Rattle.std.specs.List.{list_any}
use Rattle.cpg_base.specs.Numbers.{numbers_below}
use Rattle.cpg_base.specs.Graph.{Graph, process_count, condition_count, edge_at, source, condition_of, value_variable}
use Rattle.cpg_base.proofs.Lists.{filter_below_push, same_filter, same_truth, numbers-Contains, Contains-numbers}
use Rattle.cpg_base.proofs.Lists.{Contains-map, Contains-map_parts, Contains-filter, Contains-filter_parts}
use Rattle.cpg_order.specs.Deciding.{outcomes, decides, conditions_of}
use Rattle.cpg_order.specs.Reach.{is_in, source_value}
use Rattle.cpg_order.proofs.Along.{is_in_from, from_is_in}
use Rattle.cpg_order.specs.Elements.{SameElements}
use Rattle.cpg_reach.specs.Variables.{Adds}
use Rattle.cpg_reach.specs.Tested.{AreDecidingValues}

-- a disjunction of three may be grouped either way
or_assoc : (a b c : Bool) → ((a || b) || c) ≡ (a || (b || c))
or_assoc true b c = refl
or_assoc false b c = refl

-- a disjunction with false is its other part
or_none : (a : Bool) → a ≡ (a || false)
or_none true = refl
or_none false = refl

-- the parts of a disjunction may be exchanged
or_commutes : (a b : Bool) → (a || b) ≡ (b || a)
or_commutes true true = refl
or_commutes true false = refl
or_commutes false true = refl
or_commutes false false = refl

-- a number is in two lists together if it is in either
pub in_append : (xs ys : List ℕ) (v : ℕ) → is_in (xs ++ ys) v ≡ (is_in xs v || is_in ys v)
in_append xs ys v = list_any-append (λ u. u == v) xs ys

-- adding no variables leaves the set as it is
pub adds_nothing : (a : List ℕ) → Adds a [] a
adds_nothing a v = or_none (is_in a v)

-- adding one list and then another adds both
pub adds_two : (a xs b ys c : List ℕ) → Adds a xs b → Adds b ys c → Adds a (xs ++ ys) c
adds_two a xs b ys c adds k v = k v ∙ ap (λ t. t || is_in ys v) (adds v)
    ∙ or_assoc (is_in a v) (is_in xs v) (is_in ys v)
    ∙ ap (λ t. is_in a v || t) (sym (in_append xs ys v))

-- adding the same numbers in another order adds the same
pub adds_same : (a xs ys b : List ℕ) → SameElements xs ys → Adds a xs b → Adds a ys b
adds_same a xs ys b same adds v = adds v ∙ ap (λ t. is_in a v || t) (same v)

-- if a has what b has, then adding xs to a gives what b and xs have
pub same_after : (a b xs c : List ℕ) → SameElements a b → Adds a xs c → SameElements c (b ++ xs)
same_after a b xs c same adds v = adds v ∙ ap (λ t. t || is_in xs v) (same v) ∙ sym (in_append b xs v)

-- the same, with xs first
pub same_before : (a b xs c : List ℕ) → SameElements a b → Adds a xs c → SameElements c (xs ++ b)
same_before a b xs c same adds v =
    adds v ∙ ap (λ t. t || is_in xs v) (same v) ∙ or_commutes (is_in b v) (is_in xs v) ∙ sym (in_append xs b v)

-- ---- a loop over the numbers that pass a test

-- given: b is a with F added for each number below n that passes the test T
module _ (F : ℕ → List ℕ) (T : ℕ → Bool) (n : ℕ) (a b : List ℕ)
    (so_far : Adds a (flat_map F (filter T (numbers_below n))) b) where
  -- what is added for the numbers up to n is what was added so far, and F n if n passes
  next_is : (t : Bool) → T n ≡ t →
      flat_map F (filter T (numbers_below (n + 1))) ≡ flat_map F (filter T (numbers_below n))
      ++ flat_map F (cond t (n ∷ []) [])
  next_is t is = ap (flat_map F) (filter_below_push T n ∙ ap (λ s. filter T (numbers_below n) ++ cond s (n ∷ []) []) is)
      ∙ flat_map-append F (filter T (numbers_below n)) (cond t (n ∷ []) [])

  -- if n passes and F n is added, b has what is added for the numbers up to n
  pub loop_takes : (c : List ℕ) → T n ≡ true → Adds b (F n) c → Adds a (flat_map F (filter T (numbers_below (n + 1)))) c
  loop_takes c holds adds = subst (λ xs. Adds a xs c)
      (ap (λ ys. flat_map F (filter T (numbers_below n)) ++ ys) (sym (append-nil (F n))) ∙ sym (next_is true holds))
      (adds_two a (flat_map F (filter T (numbers_below n))) b (F n) c so_far adds)

  -- if n doesn't pass, b has it already
  pub loop_skips : T n ≡ false → Adds a (flat_map F (filter T (numbers_below (n + 1)))) b
  loop_skips fails = subst (λ xs. Adds a xs b)
      (sym (append-nil (flat_map F (filter T (numbers_below n)))) ∙ sym (next_is false fails)) so_far

-- ---- the values that decide a process

-- given: for each process the values that decide it, and a process
module _ (g : Graph) (deciding : List (List ℕ)) (are : AreDecidingValues g deciding) (p : ℕ)
    (inside : p < process_count g) where
  -- a condition's value is in the process's set just if the condition decides the process in some outcome
  value_decides : (c : ℕ) → c < condition_count g →
      is_in (get_or deciding p []) (value_variable c) ≡ list_any (λ o. decides g o p c) (outcomes (condition_count g))
  -- the values in the set are those of the conditions listed for p, and a condition is listed just if it decides p
  value_decides c within =
      are.each p inside (value_variable c)
      ∙ same_truth (is_in (map value_variable (conditions_of g p)) (value_variable c))
      (list_any (λ o. decides g o p c) (outcomes (condition_count g)))
      (λ holds. let from = Contains-map_parts value_variable (conditions_of g p) (value_variable c)
      (from_is_in (map value_variable (conditions_of g p)) (value_variable c) holds) in
      let same : from.0 ≡ c = omega (arith, from.2) in
      subst (λ d. list_any (λ o. decides g o p d) (outcomes (condition_count g)) ≡ true) same
      (Contains-filter_parts (λ d. list_any (λ o. decides g o p d) (outcomes (condition_count g)))
      (numbers_below (condition_count g)) from.0 from.1).1)
      (λ holds. is_in_from (map value_variable (conditions_of g p)) (value_variable c)
      (Contains-map value_variable (conditions_of g p) c
      (Contains-filter (λ d. list_any (λ o. decides g o p d) (outcomes (condition_count g)))
      (numbers_below (condition_count g)) c holds (Contains-numbers (condition_count g) c within))))

  -- the conditions whose values are in the set are those that decide the process in some outcome
  pub deciding_filter : filter (λ c. is_in (get_or deciding p []) (value_variable c))
      (numbers_below (condition_count g)) ≡ conditions_of g p
  deciding_filter = same_filter (λ c. is_in (get_or deciding p []) (value_variable c))
      (λ c. list_any (λ o. decides g o p c) (outcomes (condition_count g))) (numbers_below (condition_count g))
      (λ c there. value_decides c (numbers-Contains (condition_count g) c there))

-- ---- the value of an edge's source

-- the source value of a conditional edge is the value of its source's condition
pub source_value_there : (g : Graph) (e c : ℕ) → is_some (edge_at g e).when ≡ true →
    condition_of g (source g e) ≡ Some c →
    source_value g e ≡ value_variable c ∷ []
source_value_there g e c holds is =
    ap (λ b. cond b (map value_variable (option_to_list (condition_of g (source g e)))) []) holds
    ∙ ap (λ o. map value_variable (option_to_list o)) is

-- ---- an element of a list of sets, whatever stands past the end

-- an element within a list doesn't depend on what is read past its end
pub set_at : (xs : List (List ℕ)) (i : ℕ) (x : List ℕ) → i < length xs → x ≡ get_or xs i x → x ≡ get_or xs i []
set_at xs i x within is = is ∙ get_or_default xs i x [] within
