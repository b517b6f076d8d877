-- The events of one node more, and that all events of a trace are of items and processes of the graph.
use Rattle.std.proofs.Common.{◌≡◌, ℕ, ◌+◌, ◌<◌, List, [], ◌++◌, length, get_or, map, flat_map, fold, max, All, refl}
use Rattle.std.proofs.Common.{sym, ap, ◌∙◌, subst, inl, inr}
use Rattle.std.proofs.lemmas.List.{append_assoc}
use Rattle.std.proofs.lemmas.List.Elements.{All-append, All-contains, All-map, Contains-get_or}
use Rattle.std.proofs.lemmas.List.Sums.{fold-append}
use Rattle.cpg_base.specs.Numbers.{greatest, numbers_below}
use Rattle.cpg_base.specs.Graph.{Graph, item_at, item_count}
use Rattle.cpg_base.specs.declared.item.Item.{Item}
use Rattle.cpg_base.proofs.Items.{item_cases}
use Rattle.cpg_base.proofs.Lists.{Contains-flat_map_parts, numbers-Contains}
use Rattle.cpg_node.specs.Dispatcher.{Act, Ended}
use Rattle.cpg_show.specs.TraceEvents.{TraceEvent, IsActWithin, IsKindWithin, IsEndWithin, all_events, kind_of}
use Rattle.cpg_show.specs.TraceEvents.{event_of_act, event_of_end, node_events}
use Rattle.cpg_show.specs.TraceText.{end_times}
use Rattle.cpg_label.proofs.Steps.{next_piece}

-- given a graph, and the acts and the ends of each node
module _ (g : Graph) (acts : List (List Act)) (ends : List (List (ℕ × Ended))) where
  -- if `before` are the events of the nodes below i, then with the acts of node i and its ends they are those below i + 1
  pub one_node : (i : ℕ) (before middle after : List TraceEvent) →
      before ≡ flat_map (node_events g acts ends) (numbers_below i) →
      middle ≡ before ++ map (event_of_act g i) (get_or acts i [])
      → after ≡ middle ++ map (event_of_end i) (get_or ends i []) →
      after ≡ flat_map (node_events g acts ends) (numbers_below (i + 1))
  one_node i before middle after is m a = sym (next_piece (node_events g acts ends) i [] before after (sym is)
      (a ∙ ap (λ xs. xs ++ map (event_of_end i) (get_or ends i [])) m
      ∙ append_assoc before (map (event_of_act g i) (get_or acts i [])) (map (event_of_end i) (get_or ends i []))))

  -- the kind of an act on an item of the graph is of a process or an item of the graph
  kind_within : (x : ℕ) → x < item_count g → IsKindWithin g (kind_of (item_at g x) x)
  kind_within x l = elim (item_cases g x l) [
    | inl c ↦ subst (λ (i : Item). IsKindWithin g (kind_of i x)) (sym c.1) c.0
    | inr (inl c) ↦ subst (λ (i : Item). IsKindWithin g (kind_of i x)) (sym c.3) l
    | inr (inr c) ↦ subst (λ (i : Item). IsKindWithin g (kind_of i x)) (sym c.3) l
  ]

  -- if the acts and ends of a node are of items and processes of the graph, so are its events
  node_within : (i : ℕ) → All (IsActWithin g) (get_or acts i []) → All (IsEndWithin g) (get_or ends i []) →
      All (λ e. IsKindWithin g e.kind) (node_events g acts ends i)
  node_within i acts_within ends_within =
      All-append (λ (e : TraceEvent). IsKindWithin g e.kind) (map (event_of_act g i) (get_or acts i []))
      (map (event_of_end i) (get_or ends i []))
      (All-map (λ (e : TraceEvent). IsKindWithin g e.kind) (event_of_act g i) (get_or acts i [])
      (λ k d inside. kind_within (get_or (get_or acts i []) k d).item (acts_within k d inside)))
      (All-map (λ (e : TraceEvent). IsKindWithin g e.kind) (event_of_end i) (get_or ends i [])
      (λ k d inside. ((ends_within k d inside).process, (ends_within k d inside).faults)))

  -- if the acts and ends of each node are of items and processes of the graph, so are all events: each is that of some node
  pub all_within : ((i : ℕ) → i < length g.nodes → All (IsActWithin g) (get_or acts i [])) →
      ((i : ℕ) → i < length g.nodes → All (IsEndWithin g) (get_or ends i [])) →
      All (λ e. IsKindWithin g e.kind) (all_events g acts ends)
  all_within acts_within ends_within k d inside =
      let of_node = Contains-flat_map_parts (node_events g acts ends) (numbers_below (length g.nodes))
      (get_or (all_events g acts ends) k d) (Contains-get_or (all_events g acts ends) k d inside) in
      let node_inside = numbers-Contains (length g.nodes) of_node.0 of_node.1 in
      All-contains (λ (e : TraceEvent). IsKindWithin g e.kind) (node_events g acts ends of_node.0)
      (get_or (all_events g acts ends) k d)
      (node_within of_node.0 (acts_within of_node.0 node_inside) (ends_within of_node.0 node_inside)) of_node.2

-- if `before` is the greatest end of the nodes below i, the greatest of it and the ends of node i is that below i + 1
pub one_finish : (ends : List (List (ℕ × Ended))) (i before after : ℕ) →
    before ≡ greatest (flat_map (end_times ends) (numbers_below i)) →
    after ≡ fold max before (end_times ends i) →
    after ≡ greatest (flat_map (end_times ends) (numbers_below (i + 1)))
one_finish ends i before after is after_is = after_is ∙ ap (λ n. fold max n (end_times ends i)) is
    ∙ sym (fold-append max 0 (flat_map (end_times ends) (numbers_below i)) (end_times ends i))
    ∙ sym (ap greatest (next_piece (end_times ends) i [] (flat_map (end_times ends) (numbers_below i))
    (flat_map (end_times ends) (numbers_below i) ++ end_times ends i) refl refl))
