-- Trees of where an edge is live, and where an item is sent.
use Rattle.std.proofs.Common.{ℕ, ◌<◌, ◌≡◌, ◌&&◌, Bool, true, false, true≢false, if◌then◌else◌, List, [], ◌∷◌, ◌++◌, map}
use Rattle.std.proofs.Common.{get_or, Option, Some, None, unwrap_or, option_to_list, is_some, ◌⊎◌, inl, inr}
use Rattle.std.proofs.Common.{refl, sym, ap, ap₂, ◌∙◌, subst}
use Rattle.std.proofs.lemmas.List.Elements.{Contains-append_left}
use Rattle.std.proofs.lemmas.Option.{none-some}
use Rattle.cpg_base.specs.Numbers.{same_bool}
use Rattle.cpg_base.specs.Graph.{Graph, process_count, edge_count, edge_at, source, condition_of, process_of}
use Rattle.cpg_base.specs.Graph.{value_variable, item_at, producer, is_sent_item, producer_of_item}
use Rattle.cpg_base.specs.Activity.{active, live, takes, item_active}
use Rattle.cpg_base.specs.declared.item.Item.{Item}
use Rattle.cpg_base.specs.declared.item.Item.TheVariants.{Start, Message, Broadcast}
use Rattle.cpg_order.specs.Reach.{source_value, sent_value}
use Rattle.cpg_base.specs.Scenario.{Scenario}
use Rattle.cpg_base.proofs.ConditionProcesses.{condition_of_edge, condition_of_process_of}
use Rattle.cpg_cube.specs.declared.literal.Literal.{Literal}
use Rattle.cpg_run.specs.Carried.{number_known, sent_by_value}
use Rattle.cpg_tree.specs.Space.{HasAtMostFaults}
use Rattle.cpg_tree.specs.Tree.{TreeState, IsMap}
use Rattle.cpg_expand.specs.Agreeing.{HasValueFrom}
use Rattle.cpg_tree.specs.GraphTrees.{IsTree}
use Rattle.cpg_expand.specs.Guarded.{value_known}
use Rattle.cpg_expand.specs.Sending.{IsTestedTree, IsLiveTree, IsGoesTree, asked, asked_by}
use Rattle.cpg_expand.proofs.AgreeingTrees.{agrees_map, agrees_weaker}
use Rattle.cpg_expand.proofs.GuardTrees.{each_of}
use Rattle.cpg_tree.proofs.GraphTrees.{few_of}

-- a value is the same as true just if it is true
same_true : (b : Bool) → same_bool true b ≡ b
same_true true = refl
same_true false = refl

-- a conjunction with true is its other part
and_true : (b : Bool) → (b && true) ≡ b
and_true true = refl
and_true false = refl

-- a tree that is true just where another one is has its value, by the same literals or more
pub same_valued : (g : Graph) (chooser t : TreeState Bool) → IsTree g chooser →
    IsMap (λ x z. z ≡ same_bool true x) chooser t → (s : Scenario) →
    HasAtMostFaults g.faults s →
    (b : Bool) (by_chooser more : List Literal) → HasValueFrom s by_chooser b chooser →
    HasValueFrom s (by_chooser ++ more) b t
same_valued g chooser t of_chooser made s few b by_chooser more valued =
    agrees_weaker s t by_chooser (by_chooser ++ more) (λ z. z ≡ b) (λ z. z ≡ b)
    (λ literal listed. Contains-append_left by_chooser more literal listed) (λ z equal. equal)
    (agrees_map s (λ x z. z ≡ same_bool true x) chooser t by_chooser (λ x. x ≡ b) (λ z. z ≡ b)
    (few_of g.faults chooser.faults s of_chooser.faults few)
    (each_of g chooser.faults chooser of_chooser.faults of_chooser) made
    (λ x z is_b is_made. is_made ∙ ap (same_bool true) is_b ∙ same_true b) valued)

-- ---- what an edge asks for

-- an edge asks nothing if it has no `when`, or if there is no condition
no_question : (o : Option Bool) (c : Option ℕ) → asked_by o c ≡ None →
    (o ≡ None) ⊎ (((w : Bool) × (o ≡ Some w)) × (c ≡ None))
no_question None c is_asked = inl refl
no_question (Some w) None is_asked = inr ((w, refl), refl)
no_question (Some w) (Some d) is_asked = absurd (none-some (d, w) (sym is_asked))

-- an edge that asks for a value has it as its `when`, and asks for its source's condition
a_question : (o : Option Bool) (c : Option ℕ) (d : ℕ) (w : Bool) → asked_by o c ≡ Some (d, w) →
    (o ≡ Some w) × (c ≡ Some d)
a_question None c d w is_asked = absurd (none-some (d, w) is_asked)
a_question (Some v) None d w is_asked = absurd (none-some (d, w) is_asked)
a_question (Some v) (Some f) d w is_asked =
    (ap (λ (q : Option (ℕ × Bool)). some_value q) is_asked, ap (λ (q : Option (ℕ × Bool)). some_condition q) is_asked)
  where
    -- the value that is asked for
    some_value : Option (ℕ × Bool) → Option Bool
    some_value None = None
    some_value (Some q) = Some q.1

    -- the condition that is asked for
    some_condition : Option (ℕ × Bool) → Option ℕ
    some_condition None = None
    some_condition (Some q) = Some q.0

-- given: an edge
module _ (g : Graph) (e : ℕ) where
  -- an edge that asks for nothing has no `when`: the source of one with a `when` has a condition
  asks_nothing : e < edge_count g → source g e < process_count g → asked g e ≡ None → (edge_at g e).when ≡ None
  asks_nothing below source_below none = elim (no_question (edge_at g e).when (condition_of g (source g e)) none) [
    | inl simple ↦ simple
    | inr with_when ↦
        let its_condition = condition_of_edge g e with_when.0.0 below source_below with_when.0.1 in
        absurd (none-some its_condition.0 (sym with_when.1 ∙ sym (ap (condition_of g) its_condition.2)
        ∙ condition_of_process_of g its_condition.0 its_condition.1))
  ]

  -- if an edge asks for the value of a condition, it is that of its source
  pub asks_condition : (c : ℕ) (w : Bool) → asked g e ≡ Some (c, w) → condition_of g (source g e) ≡ Some c
  asks_condition c w is = (a_question (edge_at g e).when (condition_of g (source g e)) c w is).1

  -- given: the tree of where the edge's source is active, and the one that is made of it
  module _ (chooser t : TreeState Bool) where
    -- an edge that asks for nothing is live where its source is active
    pub live_simple : e < edge_count g → source g e < process_count g → asked g e ≡ None → IsTree g chooser →
        IsMap (λ x z. z ≡ same_bool true x) chooser t →
        IsLiveTree g e chooser t
    -- the tree is the chooser's copy, and an edge that asks for nothing is live just if its source is active
    live_simple below source_below none of_chooser made s few by_chooser valued =
        let simple = asks_nothing below source_below none in
        let source_acts : Bool = active g s.values (source g e) in
        let c_value : Bool = get_or s.values (unwrap_or (condition_of g (source g e)) 0) false in
        subst (λ (z : Bool). HasValueFrom s
        (by_chooser ++ (if source_acts then map (number_known s) (source_value g e) else [])) z t)
        (sym (ap (λ o. source_acts && takes o c_value) simple ∙ and_true source_acts))
        (same_valued g chooser t of_chooser made s few source_acts by_chooser
        (if source_acts then map (number_known s) (source_value g e) else []) valued)

    -- an edge that asks for a value is live where its source is active and the condition has that value
    pub live_tested : (c : ℕ) (w : Bool) → asked g e ≡ Some (c, w) → IsTestedTree g.faults c w chooser t →
        IsLiveTree g e chooser t
    -- the edge's literals and its value, for an edge with that question, are those of the test
    live_tested c w is tested s few by_chooser valued =
        let both = a_question (edge_at g e).when (condition_of g (source g e)) c w is in
        let source_acts : Bool = active g s.values (source g e) in
        let lits = ap₂ (λ (o : Option Bool) (d : Option ℕ). by_chooser ++ (if source_acts then map (number_known s)
        (if is_some o then map value_variable (option_to_list d) else []) else [])) (sym both.0)
        (sym both.1) in
        let value = ap₂ (λ (o : Option Bool) (d : Option ℕ). source_acts && takes o
        (get_or s.values (unwrap_or d 0) false))
        (sym both.0) (sym both.1) in
        subst (λ (ls : List Literal). HasValueFrom s ls (live g s.values e) t) lits
        (subst (λ (z : Bool). HasValueFrom s (by_chooser ++ (if source_acts then value_known s c ∷ [] else [])) z t)
        value
        (tested s few source_acts by_chooser valued))

-- given: an item, the tree of where its producer is active, and the one that is made of it
module _ (g : Graph) (x : ℕ) (chooser t : TreeState Bool) where
  -- a message goes just where its edge is live
  pub goes_message : (e : ℕ) → item_at g x ≡ Message e → is_sent_item g (item_at g x) ≡ true →
      IsLiveTree g e chooser t →
      IsGoesTree g x chooser t
  -- a message is sent just if its edge is live, and the literals of its send are those of the edge's value
  goes_message e is sent lives s few by_chooser valued =
      let message = sym (ap (is_sent_item g) is) ∙ sent in
      subst (λ (i : Item). HasValueFrom s by_chooser (active g s.values (producer_of_item g i)) chooser →
      HasValueFrom s (by_chooser ++ (if active g s.values (producer_of_item g i) then map (number_known s) (sent_value g i)
      else [])) (item_active g s.values i) t) (sym is)
      (λ by_source. subst (λ (z : Bool). HasValueFrom s
      (by_chooser ++ (if active g s.values (source g e) then map (number_known s) (source_value g e) else [])) z t)
      (sym (ap (λ (b : Bool). b && live g s.values e) message)) (lives s few by_chooser by_source))
      valued

  -- a broadcast goes just where its process is active
  pub goes_broadcast : (c : ℕ) → item_at g x ≡ Broadcast c → is_sent_item g (item_at g x) ≡ true → IsTree g chooser →
      IsMap (λ x z. z ≡ same_bool true x) chooser t →
      IsGoesTree g x chooser t
  -- the tree is the chooser's copy, and a broadcast that is sent at all is active just if its process is
  goes_broadcast c is sent of_chooser made s few by_chooser valued =
      let many = sym (ap (is_sent_item g) is) ∙ sent in
      let value : item_active g s.values (item_at g x) ≡ active g s.values (producer g x) =
      ap (item_active g s.values) is ∙ ap (λ (b : Bool). b && active g s.values (process_of g c)) many
      ∙ ap (λ (i : Item). active g s.values (producer_of_item g i)) (sym is) in
      subst (λ (z : Bool). HasValueFrom s
      (by_chooser ++ (if active g s.values (producer g x) then sent_by_value g s x else [])) z t) (sym value)
      (same_valued g chooser t of_chooser made s few (active g s.values (producer g x)) by_chooser
      (if active g s.values (producer g x) then sent_by_value g s x else []) valued)

  -- a start is no item that is sent
  no_start : (p : ℕ) → item_at g x ≡ Start p → is_sent_item g (item_at g x) ≡ true → ⊥
  no_start p is sent = true≢false (sym sent ∙ ap (is_sent_item g) is)

  -- an item that is sent and isn't a message is a broadcast, so it goes just where its process is active
  pub goes_other : (i : Item) → item_at g x ≡ i → ((e : ℕ) → i ≡ Message e → ⊥) → is_sent_item g (item_at g x) ≡ true →
      IsTree g chooser →
      IsMap (λ x z. z ≡ same_bool true x) chooser t →
      IsGoesTree g x chooser t
  goes_other (Start p) is other sent of_chooser made = absurd (no_start p is sent)
  goes_other (Message e) is other sent of_chooser made = absurd (other e refl)
  goes_other (Broadcast c) is other sent of_chooser made = goes_broadcast c is sent of_chooser made
