-- What the rules read of a graph is as it was with other parts and another fault number.
use Rattle.std.proofs.Common.{ℕ, zero, suc, ◌+◌, ◌-◌, ◌<◌, ◌≤◌, ◌≡◌, ◌==◌, if◌then◌else◌, Bool, true, false, not, ◌&&◌}
use Rattle.std.proofs.Common.{◌||◌, List, [], ◌∷◌, length, get_or, filter, refl, sym, ap, ap₂, ◌∙◌, subst}
use Rattle.std.proofs.Common.{arith}
use Rattle.std.specs.Prelude.{nat_lt, position, unwrap_or, IfSome, IsPermutation, Option, None, Some}
use Rattle.std.proofs.lemmas.Bool.{both_ways}
use Rattle.std.specs.List.{list_any, list_all}
use Rattle.cpg_base.specs.declared.process.Process.{Process}
use Rattle.cpg_base.specs.declared.process.Slot.{Slot}
use Rattle.cpg_base.specs.declared.item.Item.{Item}
use Rattle.cpg_base.specs.declared.item.Item.TheVariants.{Start, Message, Broadcast}
use Rattle.cpg_base.specs.Numbers.{numbers_below}
use Rattle.cpg_base.specs.Graph.{Graph, process_count, edge_count, condition_count, item_count, process_at, edge_at}
use Rattle.cpg_base.specs.Graph.{node_of, source, inputs, is_message, process_of, item_at, is_sent_item}
use Rattle.cpg_base.specs.Graph.{producer_of_item, producer, home}
use Rattle.cpg_base.specs.Activity.{is_active, takes, value_of, activation_by, activation_within, activation, active}
use Rattle.cpg_base.specs.Activity.{live}
use Rattle.cpg_base.specs.WellFormed.{HasSingleJoins, HasSenderSlots}
use Rattle.cpg_base.proofs.Inputs.{same_activation_by}
use Rattle.cpg_base.proofs.Lists.{same_filter, same_all}
use Rattle.cpg_order.specs.Cycle.{HasCycle}
use Rattle.cpg_order.specs.Deciding.{outcomes}
use Rattle.cpg_order.specs.Track.{is_track, track_count}
use Rattle.cpg_order.specs.Urgency.{IsTopological}
use Rattle.cpg_order.proofs.Cycles.{no_cycle}
use Rattle.cpg_rules.specs.Guards.{Guards}
use Rattle.cpg_rules.specs.declared.admission.RuleFault.TheVariants.{Cycle, TooManyTracks, TwoAlternatives, NoSlot}
use Rattle.cpg_rules.specs.declared.admission.RuleFault.TheVariants.{TooBig, BadOrder, OutOfMemory}
use Rattle.cpg_rules.specs.Rules.{slot_bytes, AllFit}
use Rattle.cpg_rules.specs.Given.{GivesTopological}
use Rattle.cpg_rules.specs.Admission.{IsAdmitted}
use Rattle.cpg_rules.proofs.Exact.{no_lack, two_live}
use Rattle.cpg_rules.proofs.GivenOrders.{none_bad}
use Rattle.cpg_tune.specs.Best.{best_parts}
use Rattle.cpg_tune.specs.Retuned.{in_parts_each, retuned}
use Rattle.cpg_tune.specs.Asked.{row_graph}
use Rattle.cpg_tune.proofs.AsBefore.{best_parts_of, count_same, disjunctions_same}
use Rattle.cpg_tune.specs.RetunedLaws.{KeepsRules, ShowsNoFault}

-- a process keeps its node and whether it is a join
record IsAlike (p q : Process) : Type 0 where
  -- both are on the same node
  pub node : p.node ≡ q.node
  -- both are joins, or neither is
  pub join : p.join ≡ q.join

-- a retuned process keeps its node and whether it is a join
alike : (ps : List Process) (parts : List ℕ) (i : ℕ) (d : Process) → length parts ≡ length ps →
    IsAlike (get_or (in_parts_each ps parts) i d) (get_or ps i d)
alike [] parts i d one_each = record { node = refl; join = refl }
alike (p ∷ ps) [] i d one_each = absurd (omega (arith, one_each))
alike (p ∷ ps) (n ∷ parts) zero d one_each = record { node = refl; join = refl }
alike (p ∷ ps) (n ∷ parts) (suc i) d one_each = alike ps parts i d (omega (arith, one_each))

-- given: a number of parts for each process of a graph, and a fault number
module _ (g : Graph) (parts : List ℕ) (faults : ℕ) (one_each : length parts ≡ process_count g) where
  -- the retuned graph
  abbrev h : Graph
  h = retuned g parts faults

  -- each process stays on its node
  node_same : (p : ℕ) → node_of h p ≡ node_of g p
  node_same p = (alike g.processes parts p _ one_each).node

  -- each process is a join, or none, as before
  join_same : (p : ℕ) → (process_at h p).join ≡ (process_at g p).join
  join_same p = (alike g.processes parts p _ one_each).join

  -- there are as many processes
  processes_same : process_count h ≡ process_count g
  processes_same = count_same g parts faults one_each

  -- there are as many conditions
  conditions_same : condition_count h ≡ condition_count g
  conditions_same = ap length (disjunctions_same g parts faults one_each)

  -- each condition is of the same process
  process_of_same : (c : ℕ) → process_of h c ≡ process_of g c
  process_of_same c = ap (λ ps. get_or ps c 0) (disjunctions_same g parts faults one_each)

  -- ---- activity

  -- the value of a process is the same
  value_same : (values : List Bool) (p : ℕ) → value_of h values p ≡ value_of g values p
  value_same values p = ap (λ ps. get_or values (unwrap_or (position (λ q. q == p) ps) 0) false)
      (disjunctions_same g parts faults one_each)

  -- A retuned graph has the same activations.
  -- By induction on the depth: joins, inputs and conditions are the same.
  within_same : (depth : ℕ) (values : List Bool) (p : ℕ) →
      activation_within depth h values p ≡ activation_within depth g values p
  within_same zero values p = refl
  within_same (suc depth) values p =
      ap (λ join. activation_by join (inputs g p) (λ e. is_active (activation_within depth h values (source g e))
      && takes (edge_at g e).when (value_of h values (source g e)))) (join_same p)
      ∙ same_activation_by (process_at g p).join (inputs g p) _ _
      (λ e among. ap₂ (λ a value. is_active a && takes (edge_at g e).when value) (within_same depth values (source g e))
      (value_same values (source g e)))

  -- the activation of a process is the same
  activation_same : (values : List Bool) (p : ℕ) → activation h values p ≡ activation g values p
  activation_same values p =
      ap (λ n. activation_within n h values p) processes_same ∙ within_same (process_count g) values p

  -- the same edges are live
  live_same : (values : List Bool) (e : ℕ) → live h values e ≡ live g values e
  live_same values e = ap₂ (λ a value. is_active a && takes (edge_at g e).when value)
      (activation_same values (source g e)) (value_same values (source g e))

  -- ---- tracks and joins

  -- the same processes of conditions are active
  active_same : (o : List Bool) (c : ℕ) → active h o (process_of h c) ≡ active g o (process_of g c)
  active_same o c = ap is_active (activation_same o (process_of h c)) ∙ ap (λ p. active g o p) (process_of_same c)

  -- the same outcomes are tracks
  track_same : (o : List Bool) → is_track h o ≡ is_track g o
  track_same o =
      ap (λ n. list_all (λ c. not (get_or o c false) || active h o (process_of h c)) (numbers_below n)) conditions_same
      ∙ same_all _ _ (numbers_below (condition_count g))
      (λ c among. ap (λ b. not (get_or o c false) || b) (active_same o c))

  -- there are as many tracks
  tracks_same : track_count h ≡ track_count g
  tracks_same =
      ap (λ n. length (filter (is_track h) (outcomes n))) conditions_same
      ∙ ap length (same_filter (is_track h) (is_track g) (outcomes (condition_count g)) (λ o among. track_same o))

  -- no join of the retuned graph has two live inputs either
  joins_same : HasSingleJoins g → HasSingleJoins h
  joins_same single p values inside join long =
      subst (λ n. n ≤ 1)
      (sym (ap length (same_filter (live h values) (live g values) (inputs g p) (λ e among. live_same values e))))
      (single p values (subst (λ n. p < n) processes_same inside) (sym (join_same p) ∙ join) (long ∙ conditions_same))

  -- ---- slots and sizes

  -- the same edges are messages
  message_same : (e : ℕ) → is_message h e ≡ is_message g e
  message_same e = ap₂ (λ a b. not (a == b)) (node_same (source g e)) (node_same (edge_at g e).to)

  -- the items have the same numbers
  item_same : (x : ℕ) → item_at h x ≡ item_at g x
  item_same x = ap (λ n. if nat_lt x n then Start x else if nat_lt x (n + edge_count g) then Message (x - n)
      else Broadcast (x - n - edge_count g)) processes_same

  -- the same items are sent
  sent_same : (i : Item) → is_sent_item h i ≡ is_sent_item g i
  sent_same (Start p) = refl
  sent_same (Message e) = message_same e
  sent_same (Broadcast c) = refl

  -- each item has the same producer
  producer_same : (i : Item) → producer_of_item h i ≡ producer_of_item g i
  producer_same (Start p) = refl
  producer_same (Message e) = refl
  producer_same (Broadcast c) = process_of_same c

  -- each item has the same home
  home_same : (x : ℕ) → home h x ≡ home g x
  home_same x =
      node_same (producer h x) ∙ ap (node_of g) (ap (producer_of_item h) (item_same x) ∙ producer_same (item_at g x))

  -- a retuned graph has as many items
  pub items_same : item_count h ≡ item_count g
  items_same = ap₂ (λ n c. n + edge_count g + c) processes_same conditions_same

  -- all senders have slots still
  slots_same : HasSenderSlots g → HasSenderSlots h
  slots_same senders x inside sent =
      subst (λ n. list_any (λ (s : Slot). s.node == n) g.slots ≡ true) (sym (home_same x))
      (senders x (subst (λ n. x < n) items_same inside)
      (sym (ap (is_sent_item h) (item_same x) ∙ sent_same (item_at g x)) ∙ sent))

  -- all frames fit still
  sizes_same : AllFit g → AllFit h
  sizes_same fit e inside =
      ap₂ (λ m node. m && nat_lt (slot_bytes g node) (edge_at g e).size) (message_same e) (node_same (source g e))
      ∙ fit e inside

  -- a cycle of the retuned graph is one of the graph
  cycle_same : HasCycle h → HasCycle g
  cycle_same (walk, c) =
      (walk, record { some = c.some; apart = c.apart; least = c.least; next = c.next; back = c.back })

  -- a topological order of the graph is one of the retuned graph
  topological_same : (order : List ℕ) → IsTopological g order → IsTopological h order
  topological_same order top = record {
    all = subst (λ n. IsPermutation (numbers_below n) order) (sym processes_same) top.all;
    forward = top.forward;
  }

  -- an order that the graph gives stays topological
  given_same : GivesTopological g → GivesTopological h
  given_same = go g.order
    where
      -- by whether the graph gives an order
      go : (o : Option (List ℕ)) → IfSome o (IsTopological g) → IfSome o (IsTopological h)
      go None none = none
      go (Some order) top = topological_same order top

  -- a retuned graph keeps the rules that the graph keeps
  pub keeps_rules : KeepsRules g h
  keeps_rules = record {
    cycle = cycle_same;
    tracks = tracks_same;
    joins = joins_same;
    slots = slots_same;
    sizes = sizes_same;
    given = given_same;
  }

-- A graph that keeps the rules of an admitted one shows no fault but that memory runs out.
-- Fault by fault: each would break a rule that the graph keeps.
pub no_fault : (g h : Graph) (order : List ℕ) (guards : Guards) → IsAdmitted g order guards → KeepsRules g h →
    ShowsNoFault h
no_fault g h order guards is keeps (Cycle walk) shows =
    absurd (no_cycle g order is.topological (keeps.cycle (walk, shows)))
no_fault g h order guards is keeps TooManyTracks shows =
    absurd (let few = is.tracks in let same = keeps.tracks in let many = shows.2 in omega (arith, few, same, many))
no_fault g h order guards is keeps (TwoAlternatives p s) shows =
    let found = shows.2 in
    absurd (two_live (length (filter (live h s.values) (inputs h p)))
    (keeps.joins is.joins p s.values found.within found.join found.least.lawful.values) found.least.holds)
no_fault g h order guards is keeps (NoSlot node) shows = absurd (no_lack h (keeps.slots is.slots) node shows.2.lacks)
no_fault g h order guards is keeps (TooBig e) shows =
    absurd (both_ways _ (keeps.sizes is.sizes e shows.2.within) shows.2.above)
no_fault g h order guards is keeps (BadOrder p) shows =
    let bad = shows.2 in
    absurd (none_bad h bad.order (subst (λ o. IfSome o (IsTopological h)) bad.given (keeps.given is.given)) p bad.bad)
no_fault g h order guards is keeps OutOfMemory shows = refl

-- no fault is shown with the best parts but that memory runs out
pub tuned_no_fault : (g : Graph) (order : List ℕ) (guards : Guards) → IsAdmitted g order guards → (faults : ℕ) →
    ShowsNoFault (row_graph g faults)
tuned_no_fault g order guards is faults =
    no_fault g (row_graph g faults) order guards is (keeps_rules g (best_parts g) faults (best_parts_of g).one_each)
