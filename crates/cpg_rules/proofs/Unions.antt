-- If the trees of the inputs show that no two of them are live at once, no two ever are.
use Rattle.std.proofs.Common.{ℕ, zero, suc, ◌<◌, ◌≡◌, Bool, true, false, not, ◌&&◌, ◌||◌, ◌==◌, if◌then◌else◌, List, []}
use Rattle.std.proofs.Common.{◌∷◌, length, get_or, map, filter, Option, Some, None, Contains, All, arith}
use Rattle.std.proofs.Common.{refl, sym, ap, ap₂, ◌∙◌, subst, eqb-true}
use Rattle.std.specs.Bool.{nat_lt}
use Rattle.std.proofs.lemmas.Bool.{both_ways, and_from, lt-ltb}
use Rattle.std.proofs.lemmas.List.Elements.{Contains-get_or}
use Rattle.cpg_base.specs.declared.activation.Activation.{Activation}
use Rattle.cpg_base.specs.declared.activation.Activation.TheVariants.{Inactive, By}
use Rattle.cpg_base.specs.Graph.{Graph, process_count, condition_count, edge_count, edge_at, source, inputs}
use Rattle.cpg_base.specs.Graph.{condition_of}
use Rattle.cpg_base.specs.Activity.{is_active, live}
use Rattle.cpg_base.proofs.Inputs.{inputs_parts}
use Rattle.cpg_base.proofs.Lists.{Contains-first, Contains-rest, Contains-map_parts}
use Rattle.cpg_order.specs.Urgency.{IsTopological}
use Rattle.cpg_order.specs.Guard.{Guard, Leaf, Test, outcome_at}
use Rattle.cpg_order.proofs.Acyclic.{source_in_order}
use Rattle.cpg_rules.specs.declared.steps.Input.{Input}
use Rattle.cpg_rules.specs.Guards.{Guards, test_of, AreGuardsOf}
use Rattle.cpg_rules.specs.Steps.{input_of}
use Rattle.cpg_rules.specs.Composing.{rank, input_tree, met}
use Rattle.cpg_rules.specs.Apart.{is_live_somewhere, beside, are_both_live, union_with, union, is_apart, are_apart}
use Rattle.cpg_rules.specs.Alternatives.{has_two_live}
use Rattle.cpg_rules.proofs.Meeting.{first_settling, live_tree_at, met_at}
use Rattle.cpg_rules.proofs.EdgeGuards.{passed}

-- ---- two trees that are active in an outcome

-- whichever value there is, its side holds, so one of both does
either : (v a b : Bool) → (v ≡ false → a ≡ true) → (v ≡ true → b ≡ true) → (a || b) ≡ true
either v true b if_false if_true = refl
either true false b if_false if_true = if_true refl
either false false b if_false if_true = absurd (both_ways false refl (if_false refl))

-- given: an outcome o, a value for each condition
module _ (o : List Bool) where
  -- whether a tree is active in the outcome
  abbrev on_in : Guard → Bool
  on_in t = is_active (outcome_at t o)

  -- a live way through a test goes on below it if the value is false
  way_off : (c : ℕ) (off on : Guard) → on_in (Test c off on) ≡ true → get_or o c false ≡ false → on_in off ≡ true
  way_off c off on is_true is_false = subst
      (λ v. is_active (if v then outcome_at on o else outcome_at off o) ≡ true) is_false is_true

  -- a live way through a test goes on above it if the value is true
  way_on : (c : ℕ) (off on : Guard) → on_in (Test c off on) ≡ true → get_or o c false ≡ true → on_in on ≡ true
  way_on c off on c_is_true o_is_true = subst (λ v. is_active (if v then outcome_at on o else outcome_at off o)
      ≡ true) o_is_true c_is_true

  -- a tree that is live for an outcome is live somewhere
  somewhere_at : (t : Guard) → on_in t ≡ true → is_live_somewhere t ≡ true
  somewhere_at (Leaf a) is_true = is_true
  somewhere_at (Test c off on) is_true = either (get_or o c false) (is_live_somewhere off) (is_live_somewhere on)
      (λ e. somewhere_at off (way_off c off on is_true e)) (λ e. somewhere_at on (way_on c off on is_true e))

  -- given: the ranks of the conditions
  module _ (ranks : List ℕ) where
    -- given: a test at the top of a tree, and questions on its branches that are right in the outcome
    module _ (c : ℕ) (off on : Guard → Bool)
        (at_off : get_or o c false ≡ false → (t : Guard) → on_in t ≡ true → off t ≡ true)
        (at_on : get_or o c false ≡ true → (t : Guard) → on_in t ≡ true → on t ≡ true) where
      -- a tree that is live is so on one of the sides
      own : (t : Guard) → on_in t ≡ true → (off t || on t) ≡ true
      own t is_true = either (get_or o c false) (off t) (on t) (λ e. at_off e t is_true) (λ e. at_on e t is_true)

      -- Trees that are live for one outcome are found to be live at once.
      -- By induction on the second tree, in the three cases of `beside`: the same condition, an earlier one, a later one.
      beside_at : (t : Guard) → on_in t ≡ true → beside ranks c off on t ≡ true
      beside_at (Leaf b) is_true = and_from (is_active b) (off (Leaf b) || on (Leaf b)) is_true (own (Leaf b) is_true)
      beside_at (Test d low high) is_true = go (c == d) (nat_lt (rank ranks d) (rank ranks c)) refl
          (λ e. beside_at low (way_off d low high is_true e)) (λ e. beside_at high (way_on d low high is_true e))
        where
          -- by whether both test the same condition, and otherwise by which test is of the earlier one
          go : (a b : Bool) → (c == d) ≡ a → (get_or o d false ≡ false → beside ranks c off on low ≡ true) →
              (get_or o d false ≡ true → beside ranks c off on high ≡ true)
              → (if a then off low || on high else (if b then beside ranks c off on low || beside ranks c off on high
              else off (Test d low high) || on (Test d low high))) ≡ true
          go true b is o_each k =
              let same : get_or o c false ≡ get_or o d false = ap (λ x. get_or o x false) (eqb-true c d is) in
              either (get_or o c false) (off low) (on high)
              (λ v. at_off v low (way_off d low high is_true (sym same ∙ v)))
              (λ v. at_on v high (way_on d low high is_true (sym same ∙ v)))
          go false true is o_each k = either (get_or o d false) (beside ranks c off on low)
              (beside ranks c off on high) o_each k
          go false false is o_each k = own (Test d low high) is_true

    -- trees that are both active in the outcome are live at once
    both_at : (s t : Guard) → on_in s ≡ true → on_in t ≡ true → are_both_live ranks s t ≡ true
    both_at (Leaf a) t s_is_true t_is_true = and_from (is_active a)
        (is_live_somewhere t) s_is_true (somewhere_at t t_is_true)
    both_at (Test c off on) t s_is_true t_is_true = beside_at c (are_both_live ranks off) (are_both_live ranks on)
        (λ e u l. both_at off u (way_off c off on s_is_true e) l)
        (λ e u l. both_at on u (way_on c off on s_is_true e) l) t t_is_true

-- ---- the inputs of a join

-- this many live inputs are one at most, and an activation is active exactly if there is one
record IsOne (a : Activation) (n : ℕ) : Type 0 where
  -- the activation is active exactly if there is one
  active : is_active a ≡ nat_lt 0 n
  -- there is one at most
  few : nat_lt 1 n ≡ false

-- without a live input there is at most one
none_live : IsOne Inactive 0
none_live = record { active = refl; few = refl }

-- the activation of one input shows whether it is live
first_alone : (e : ℕ) (f : ℕ → Bool) (b : Bool) → f e ≡ b →
    IsOne (if b then By e else Inactive) (length (filter f (e ∷ [])))
first_alone e f true is =
    subst (λ v. IsOne (By e) (length (if v then e ∷ [] else []))) (sym is) (record { active = refl; few = refl })
first_alone e f false is = subst (λ v. IsOne Inactive (length (if v then e ∷ [] else []))) (sym is) none_live

-- An input that is never live with the later ones makes at most one live input of all.
-- The input is live, and then no later one is, or it isn't.
first_with : (e : ℕ) (es : List ℕ) (f : ℕ → Bool) (b : Bool) → f e ≡ b → (a : Activation) →
    IsOne a (length (filter f es)) →
    (b ≡ true → is_active a ≡ true → ⊥)
    → IsOne (first_settling true (if b then By e else Inactive) a) (length (filter f (e ∷ es)))
first_with e es f true is a one apart = subst (λ v. IsOne (By e) (length (if v then e ∷ filter f es else filter f es)))
    (sym is) (go (length (filter f es)) one)
  where
    -- by whether a later input is live, which the first forbids
    go : (n : ℕ) → IsOne a n → IsOne (By e) (suc n)
    go zero one = record { active = refl; few = refl }
    go (suc n) one = absurd (apart refl (one.active ∙ lt-ltb 0 (suc n) (omega arith)))
first_with e es f false is a one apart =
    subst (λ v. IsOne a (length (if v then e ∷ filter f es else filter f es))) (sym is) one

-- given: the guards of a graph, a process, and an outcome
-- `are`: the guards are those of the graph. `long`: the outcome has a value for each condition.
module _ (g : Graph) (order : List ℕ) (topological : IsTopological g order) (guards : Guards)
    (are : AreGuardsOf g order guards) (ranks : List ℕ) (p : ℕ)
    (o : List Bool) (long : length o ≡ condition_count g) where
  -- the tree of the input with this edge
  abbrev tree_in : ℕ → Guard
  tree_in e = input_tree g true guards.trees (input_of g e)

  -- The tree of an input gives the input exactly if it is live.
  -- It is active in the outcomes in which the source is active and the test passes.
  input_at : (e : ℕ) → Contains (inputs g p) e → outcome_at (tree_in e) o ≡ (if live g o e then By e else Inactive)
  input_at e among =
      let within : e < edge_count g = (inputs_parts g p e among).0 in
      live_tree_at o (By e) (test_of (condition_of g (source g e)) (edge_at g e).when)
      (get_or guards.trees (source g e) (Leaf Inactive))
      ∙ ap₂ (λ a b. if a && b then By e else Inactive)
      (ap is_active ((are.trees (source g e) (source_in_order g order topological e within)).is o long))
      (passed g order topological o e within (condition_of g (source g e)) refl (edge_at g e).when refl)

  -- the tree of a live input is active
  input_is_active : (e : ℕ) → Contains (inputs g p) e → live g o e ≡ true → is_active (outcome_at (tree_in e) o) ≡ true
  input_is_active e among is_live = ap is_active (input_at e among ∙ ap (λ b. if b then By e else Inactive) is_live)

  -- what the tree of inputs shows, if there is one
  abbrev IsUnion : List ℕ → Option Guard → Type 0
  IsUnion es None = Unit {0}
  IsUnion es (Some t) = IsOne (outcome_at t o) (length (filter (live g o) es))

  -- trees that are not live at once are not both active in an outcome
  never_both : (s t : Guard) → are_both_live ranks s t ≡ false → is_active (outcome_at s o) ≡ true →
      is_active (outcome_at t o) ≡ true → ⊥
  never_both s t is_false s_is_true t_is_true = both_ways (are_both_live ranks s t) is_false
      (both_at o ranks s t s_is_true t_is_true)

  -- an input whose tree is not live at once with that of the later ones makes at most one live input of all
  with_first : (e : ℕ) (es : List ℕ) → Contains (inputs g p) e → (t : Guard) →
      IsOne (outcome_at t o) (length (filter (live g o) es)) →
      are_both_live ranks (tree_in e) t ≡ false
      → IsOne (first_settling true (if live g o e then By e else Inactive) (outcome_at t o))
      (length (filter (live g o) (e ∷ es)))
  with_first e es among t one apart = first_with e es (live g o) (live g o e) refl (outcome_at t o) one
      (λ l k. never_both (tree_in e) t apart (input_is_active e among l) k)

  -- The tree of some inputs, if there is one, is active exactly if one of them is live, and no two of them are.
  -- By induction on the inputs: none, one alone, or one that is apart from the later ones.
  union_is : (es : List ℕ) → ((e : ℕ) → Contains es e → Contains (inputs g p) e) →
      IsUnion es (union g ranks guards.trees (map (input_of g) es))
  union_is [] f = none_live
  union_is (e ∷ []) f = subst (λ a. IsOne a (length (filter (live g o) (e ∷ []))))
      (sym (input_at e (f e (Contains-first e [])))) (first_alone e (live g o) (live g o e) refl)
  union_is (e ∷ d ∷ es) f =
      go (union g ranks guards.trees (map (input_of g) (d ∷ es)))
      (union_is (d ∷ es) (λ x k. f x (Contains-rest e (d ∷ es) x k)))
    where
      -- the first edge is an input of p
      its : Contains (inputs g p) e
      its = f e (Contains-first e (d ∷ es))

      -- one input more: if it is live with none of the others, the union goes on
      more : (t : Guard) → IsOne (outcome_at t o) (length (filter (live g o) (d ∷ es))) → (b : Bool) →
          are_both_live ranks (tree_in e) t ≡ b
          → IsUnion (e ∷ d ∷ es) (if b then None else Some (met true ranks (tree_in e) t))
      more t one true is = tt
      more t one false is = subst (λ a. IsOne a (length (filter (live g o) (e ∷ d ∷ es))))
          (sym (met_at o true ranks (tree_in e) t ∙ ap (λ a. first_settling true a (outcome_at t o)) (input_at e its)))
          (with_first e (d ∷ es) its t one is)

      -- by whether two of the later inputs are live at once
      go : (x : Option Guard) → IsUnion (d ∷ es) x →
          IsUnion (e ∷ d ∷ es) (union_with ranks (map (input_of g) (d ∷ es)) (tree_in e) x)
      go None h = tt
      go (Some t) one = more t one (are_both_live ranks (tree_in e) t) refl

  -- what isn't so is false
  not_both : (a : Bool) → not a ≡ true → a ≡ false
  not_both true is_true = cc
  not_both false is_true = refl

  -- if the first input is apart from the later ones, at most one of all is live
  apart_from : (e : ℕ) (es : List ℕ) → Contains (inputs g p) e → (x : Option Guard) → IsUnion es x →
      is_apart ranks (tree_in e) x ≡ true →
      nat_lt 1 (length (filter (live g o) (e ∷ es))) ≡ false
  apart_from e es among None h is_true = cc
  apart_from e es among (Some t) one is_true = (with_first e es among t one
      (not_both (are_both_live ranks (tree_in e) t) is_true)).few

  -- of inputs that are apart by their trees at most one is live
  apart_few : (es : List ℕ) → ((e : ℕ) → Contains es e → Contains (inputs g p) e) →
      are_apart g ranks guards.trees (map (input_of g) es) ≡ true
      → nat_lt 1 (length (filter (live g o) es)) ≡ false
  apart_few [] f is_true = refl
  apart_few (e ∷ es) f is_true = apart_from e es (f e (Contains-first e es))
      (union g ranks guards.trees (map (input_of g) es)) (union_is es (λ x k. f x (Contains-rest e es x k))) is_true

  -- a process whose inputs are apart by their trees never has two live inputs
  pub apart_single : are_apart g ranks guards.trees (map (input_of g) (inputs g p)) ≡ true → has_two_live g o p ≡ false
  apart_single is_true = apart_few (inputs g p) (λ e c. c) is_true

-- the sources of a process's inputs are processes of the graph
pub inputs_within : (g : Graph) (order : List ℕ) → IsTopological g order → (p : ℕ) →
    All (λ (i : Input). i.source < process_count g) (map (input_of g) (inputs g p))
inputs_within g order topological p place d inside =
    let of_edge = Contains-map_parts (input_of g) (inputs g p) (get_or (map (input_of g) (inputs g p)) place d)
    (Contains-get_or (map (input_of g) (inputs g p)) place d inside) in
    subst (λ (x : Input). x.source < process_count g) of_edge.2
    (source_in_order g order topological of_edge.0 (inputs_parts g p of_edge.0 of_edge.1).0)
