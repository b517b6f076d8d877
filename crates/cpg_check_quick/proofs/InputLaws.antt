-- V5 is sure at a start whose columns are late enough for its release and inputs, and at a send whose producer is
-- always over before.
use Rattle.std.proofs.Common.{ℕ, ◌+◌, ◌<◌, ◌≤◌, ◌≡◌, ◌⊎◌, Bool, true, false, cond, not, ◌||◌, List, [], ◌∷◌, ◌++◌, All}
use Rattle.std.proofs.Common.{filter, get_or, length, take, Contains, refl, ap, ap₂, ◌∙◌, subst, arith, inl}
use Rattle.std.proofs.Common.{inr, le-ltb}
use Rattle.std.proofs.lemmas.Bool.{and_parts}
use Rattle.std.proofs.lemmas.List.{take_more}
use Rattle.std.proofs.lemmas.List.Elements.{All-contains, All-contains_itself, All-weaker, Contains-append_left}
use Rattle.std.proofs.lemmas.List.Elements.{Contains-get_or, Contains-push, Contains-push_cases}
use Rattle.cpg_base.specs.Activity.{active, live}
use Rattle.cpg_base.specs.Bus.{slot_length}
use Rattle.cpg_base.specs.Graph.{Graph, edge_count, home, inputs, is_message, item_count, message_item, process_at}
use Rattle.cpg_base.specs.Graph.{process_count, producer, source}
use Rattle.cpg_base.specs.WellFormed.{WellFormed}
use Rattle.cpg_base.proofs.Inputs.{inputs_parts}
use Rattle.cpg_base.proofs.Items.{item_at-start, producer_within}
use Rattle.cpg_base.proofs.Lists.{Contains-filter_parts, list_any_false}
use Rattle.cpg_base.specs.Scenario.{Scenario, IsScenario}
use Rattle.cpg_cube.specs.Cube.{matches}
use Rattle.cpg_table.specs.Table.{NodeTable, columns_of}
use Rattle.cpg_cube.specs.declared.column.Column.{Column}
use Rattle.cpg_table.specs.Valid.{arrivals_of, breaks_inputs_of, ends_of, input_is_there, is_by}
use Rattle.cpg_table.specs.declared.rule.Rule.{Rule}
use Rattle.cpg_violation.specs.Sure.{IsSure}
use Rattle.cpg_violation.specs.Violation.{AllHold, row_rules}
use Rattle.cpg_violation.proofs.Matching.{active_where}
use Rattle.cpg_violation.proofs.Moments.{made, waits}
use Rattle.cpg_check_quick.specs.Inputs.{IsFromBefore, IsInputOver, IsInputThere, IsLateEnough}
use Rattle.cpg_check_quick.specs.Order.{IsBefore, IsOverBy, execution}
use Rattle.cpg_violation.proofs.SureLaws.{sure_of}
use Rattle.cpg_check_quick.proofs.Ends.{over_arrived, over_ended}

-- the tables of all nodes
module _ (g : Graph) (tables : List NodeTable) where
  -- V5 is sure at the start of process `p` if none of its columns is before the release, and each input `e` is there by
  -- each column `c`
  pub start_sure : (p : ℕ) → p < process_count g →
      ((c : Column) → Contains (columns_of tables p) c → (process_at g p).release ≤ c.time)
      → ((c : Column) (e : ℕ) → Contains (columns_of tables p) c → Contains (inputs g p) e →
      IsInputThere g tables c e) → IsSure g tables Rule.Inputs p
  start_sure p within released there = sure_of g tables Rule.Inputs p refl (λ s c earlier law k m.
      ap (breaks_inputs_of g tables s c.time) (item_at-start g p within)
      ∙ ap₂ (λ a b. a || b) (le-ltb c.time (process_at g p).release (released c k))
      (list_any_false (λ e. not (input_is_there g tables s c.time e)) (filter (live g s.values) (inputs g p))
      (λ e among. let in_it = Contains-filter_parts (live g s.values) (inputs g p) e among in
      ap not (there c e k in_it.0 s law m in_it.1))))

  -- the tables keep V1 to V3
  module _ (rules : AllHold g tables row_rules) where
    -- V5 is sure at a send whose producer is always over before: the producer is active where the send is, so it has
    -- ended
    pub send_sure : WellFormed g → (x : ℕ) → x < item_count g → process_count g ≤ x →
        IsBefore g tables (producer g x) x →
        IsSure g tables Rule.Inputs x
    send_sure formed x within send before = sure_of g tables Rule.Inputs x refl (λ s c earlier law k m.
        waits g s x within send tables c.time
        ∙ ap not (over_ended g tables rules s law c.time (producer g x) (producer_within g formed x within)
        (made g s x within send (active_where g tables s law x within rules c k m)) (before s c law k m)))

    -- a column of a start, and an input
    module _ (c : Column) (e : ℕ) where
      -- the input is there if its message has come, or its source has ended, by the column's time; `b` says which it is
      there_if : (s : Scenario) (b : Bool) → is_message g e ≡ b →
          is_by c.time (cond b (arrivals_of g tables s (message_item g e)) (ends_of g tables s (source g e))) ≡ true →
          input_is_there g tables s c.time e ≡ true
      there_if s b is holds =
          ap (λ b. is_by c.time (cond b (arrivals_of g tables s (message_item g e)) (ends_of g tables s (source g e))))
          is ∙ holds

      -- an input that is a message is there if the message is over by the column's time wherever that matches
      pub message_there : e < edge_count g → is_message g e ≡ true
          → ((s : Scenario) → IsScenario g s → matches c.cube s ≡ true → live g s.values e ≡ true →
          IsOverBy tables (slot_length g (home g (message_item g e))) (message_item g e) c.time s) →
          IsInputThere g tables c e
      message_there within sent over s law m a =
          there_if s true sent (over_arrived g tables rules s law c.time e within sent a (over s law m a))

      -- an input that isn't a message is there if the execution of its source is over by the column's time wherever the
      -- column matches
      pub source_there : is_message g e ≡ false → source g e < process_count g
          → ((s : Scenario) → IsScenario g s → matches c.cube s ≡ true → live g s.values e ≡ true →
          IsOverBy tables (execution g (source g e) s) (source g e) c.time s) → IsInputThere g tables c e
      source_there near less over s law m a = there_if s false near
          (over_ended g tables rules s law c.time (source g e) less
          (and_parts (active g s.values (source g e)) _ a).0 (over s law m a))

      -- an input of either kind is there if what it comes by is over by the column's time wherever the column matches
      input_there : e < edge_count g → source g e < process_count g →
          ((s : Scenario) → IsScenario g s → matches c.cube s ≡ true → live g s.values e ≡ true →
          IsInputOver g tables e c.time s) →
          IsInputThere g tables c e
      input_there within from over = go (is_message g e) refl
        where
          -- by whether the input is a message
          go : (b : Bool) → is_message g e ≡ b → IsInputThere g tables c e
          go true is = message_there within is (λ s law h a. (over s law h a).message is)
          go false is = source_there is from (λ s law h a. (over s law h a).source is)

      -- an input is there if its source, on the same node, is always over before process `p`, which the column starts
      pub before_there : (p : ℕ) → source g e < process_count g → Contains (columns_of tables p) c →
          IsFromBefore g tables e p →
          IsInputThere g tables c e
      before_there p from there near = source_there near.near from (λ s law m a. near.before s c law there m)

    -- each of several inputs is there by column `c` if what it comes by is over by the column's time wherever that
    -- matches
    pub inputs_there : WellFormed g → (c : Column) (edges : List ℕ) → All (λ e. e < edge_count g) edges
        → ((s : Scenario) → IsScenario g s → matches c.cube s ≡ true →
        All (λ e. live g s.values e ≡ true → IsInputOver g tables e c.time s) edges) →
        All (IsInputThere g tables c) edges
    inputs_there formed c edges known over i d h = input_there c (get_or edges i d) (known i d h)
        (formed.sources (get_or edges i d) (known i d h)) (λ s law m a. over s law m i d h a)

    -- V5 is sure at a start whose columns are late enough for the release and for `others`, if the sources of its other
    -- inputs are on the same node and always over before the start
    pub start_late : WellFormed g → (p : ℕ) → p < process_count g → (release : ℕ) → release ≡ (process_at g p).release →
        (others : List ℕ)
        → ((e : ℕ) → Contains (inputs g p) e → Contains others e ⊎ IsFromBefore g tables e p) →
        All (IsLateEnough g tables others release) (columns_of tables p) → IsSure g tables Rule.Inputs p
    start_late formed p within release is others known late = start_sure p within
        (λ c k. let at = All-contains (IsLateEnough g tables others release) (columns_of tables p) c late k in
        omega (arith, is, at.released))
        (λ c e there h. elim (known e h) [
          | inl other ↦
              (All-contains (IsLateEnough g tables others release) (columns_of tables p) c late there).there e other
          | inr near ↦ before_there c e p (formed.sources e (inputs_parts g p e h).0) there near
        ])

-- the step of a loop over `edges` that keeps those for which a fact isn't known to hold: element `k` is the next one
-- (`any` is only the default of `get_or`)
module _ {T : Type 0} (fact : T → Type 0) (edges kept : List T) (k : ℕ) (any : T) (within : k < length edges) where
  -- one of the first k + 1 elements is one of the first k, or the next one
  one_of : (d : T) → Contains (take (k + 1) edges) d → Contains (take k edges) d ⊎ (get_or edges k any ≡ d)
  one_of d there = Contains-push_cases (take k edges) (get_or edges k any) d
      (subst (λ xs. Contains xs d) (take_more edges k any within) there)

  -- if the element at place `k` is kept, each `d` of the first `k + 1` is kept or has the fact
  pub others_push : ((d : T) → Contains (take k edges) d → Contains kept d ⊎ fact d) → (d : T) →
      Contains (take (k + 1) edges) d →
      Contains (kept ++ get_or edges k any ∷ []) d ⊎ fact d
  others_push before d there = elim (one_of d there) [
    | inl b ↦
        elim (before d b) [
          | inl among ↦
              inl (Contains-append_left kept (get_or edges k any ∷ []) d among)
          | inr f ↦ inr f
        ]
    | inr q ↦
        inl (subst (λ z. Contains (kept ++ get_or edges k any ∷ []) z) q (Contains-push kept (get_or edges k any)))
  ]

  -- if each kept element `d` is one of the list, so it is when the element at place `k` is kept
  pub others_among : ((d : T) → Contains kept d → Contains edges d) → (d : T) →
      Contains (kept ++ get_or edges k any ∷ []) d →
      Contains edges d
  others_among before d there = elim (Contains-push_cases kept (get_or edges k any) d there) [
    | inl b ↦ before d b
    | inr q ↦ subst (Contains edges) q (Contains-get_or edges k any within)
  ]

  -- if the element at place `k` has the fact, each `d` of the first `k + 1` is kept or has it
  pub others_skip : fact (get_or edges k any) → ((d : T) → Contains (take k edges) d → Contains kept d ⊎ fact d) →
      (d : T) → Contains (take (k + 1) edges) d →
      Contains kept d ⊎ fact d
  others_skip f before d there = elim (one_of d there) [ inl b ↦ before d b | inr q ↦ inr (subst fact q f) ]

-- the inputs of process `p` are edges of the graph
pub inputs_below : (g : Graph) (p : ℕ) → All (λ e. e < edge_count g) (inputs g p)
inputs_below g p = All-weaker (Contains (inputs g p)) (λ e. e < edge_count g) (λ e there. (inputs_parts g p e there).0)
    (inputs g p) (All-contains_itself (inputs g p))
