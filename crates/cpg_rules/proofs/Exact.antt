-- A graph that keeps all rules shows no fault but that memory runs out.
use Rattle.std.proofs.Common.{ℕ, ◌<◌, ◌≤◌, ◌≡◌, Bool, true, false, not, ◌&&◌, ◌==◌, List, length, filter, refl, ap, ◌∙◌}
use Rattle.std.proofs.Common.{subst, arith, inl, inr, eqb-true, ltb-true}
use Rattle.std.specs.Prelude.{nat_lt, IfSome}
use Rattle.std.proofs.lemmas.Bool.{and_parts, or_cases, both_ways}
use Rattle.cpg_base.specs.Numbers.{numbers_below}
use Rattle.cpg_base.specs.Graph.{Graph, edge_count, condition_count, inputs, source, node_of, process_of}
use Rattle.cpg_base.specs.Graph.{producer_of_item, is_message, is_sent_item, message_item, broadcast_item}
use Rattle.cpg_base.specs.Activity.{live}
use Rattle.cpg_base.specs.WellFormed.{HasSenderSlots}
use Rattle.cpg_base.proofs.Items.{item_at-message, item_at-broadcast}
use Rattle.cpg_base.proofs.Lists.{list_any_parts, numbers-Contains}
use Rattle.cpg_order.specs.Urgency.{IsTopological}
use Rattle.cpg_order.proofs.Cycles.{no_cycle}
use Rattle.cpg_rules.specs.Guards.{Guards}
use Rattle.cpg_rules.specs.declared.admission.RuleFault.{RuleFault}
use Rattle.cpg_rules.specs.declared.admission.RuleFault.TheVariants.{Cycle, TooManyTracks, TwoAlternatives, NoSlot}
use Rattle.cpg_rules.specs.declared.admission.RuleFault.TheVariants.{TooBig, BadOrder, OutOfMemory}
use Rattle.cpg_rules.specs.Rules.{is_message_of, sends_message, decides, is_sender, has_slot, lacks_slot}
use Rattle.cpg_rules.specs.Admission.{IsAdmitted}
use Rattle.cpg_rules.specs.Faults.{ShowsFault}
use Rattle.cpg_rules.proofs.GivenOrders.{none_bad}

-- given: a graph in which each node that sends has a slot, and a node
module _ (g : Graph) (senders : HasSenderSlots g) (node : ℕ) where
  -- the source node of a message has a slot
  slot_of_message : (e : ℕ) → e < edge_count g → is_message g e ≡ true → node_of g (source g e) ≡ node →
      has_slot g node ≡ true
  slot_of_message e below is at =
      let item = item_at-message g e below in
      let slot = senders (message_item g e) (omega arith) (ap (is_sent_item g) item ∙ is) in
      subst (λ n. has_slot g n ≡ true) (ap (λ i. node_of g (producer_of_item g i)) item ∙ at) slot

  -- the node of a condition has a slot, if there are two nodes or more
  slot_of_broadcast : (c : ℕ) → c < condition_count g → nat_lt 1 (length g.nodes) ≡ true →
      node_of g (process_of g c) ≡ node →
      has_slot g node ≡ true
  slot_of_broadcast c below some at =
      let item = item_at-broadcast g c in
      let slot = senders (broadcast_item g c) (omega arith) (ap (is_sent_item g) item ∙ some) in
      subst (λ n. has_slot g n ≡ true) (ap (λ i. node_of g (producer_of_item g i)) item ∙ at) slot

  -- A node that sends has a slot.
  -- What it sends, a message or a broadcast, is a sent item of the graph, whose sender has a slot.
  slot_of_sender : is_sender g node ≡ true → has_slot g node ≡ true
  slot_of_sender sends = elim (or_cases (sends_message g node) (nat_lt 1 (length g.nodes) && decides g node) sends) [
    | inl sends_message_there ↦ (
        let sent = list_any_parts (λ e. is_message_of g e node) (numbers_below (edge_count g)) sends_message_there in
        let message_parts = and_parts (is_message g sent.0) (node_of g (source g sent.0) == node) sent.2 in
        slot_of_message sent.0 (numbers-Contains (edge_count g) sent.0 sent.1) message_parts.0
        (eqb-true (node_of g (source g sent.0)) node message_parts.1))
    | inr sends_broadcast ↦ (
        let broadcast_parts = and_parts (nat_lt 1 (length g.nodes)) (decides g node) sends_broadcast in
        let sent = list_any_parts (λ c. node_of g (process_of g c) == node)
        (numbers_below (condition_count g)) broadcast_parts.1 in
        slot_of_broadcast sent.0 (numbers-Contains (condition_count g) sent.0 sent.1) broadcast_parts.0
        (eqb-true (node_of g (process_of g sent.0)) node sent.2))
  ]

  -- if each node that sends has a slot, no node lacks one
  pub no_lack : lacks_slot g node ≡ true → ⊥
  no_lack lacks = let tests = and_parts (is_sender g node) (not (has_slot g node)) lacks in
      go (has_slot g node) (slot_of_sender tests.0) tests.1
    where
      -- the slot can't both be there and be missing
      go : (b : Bool) → b ≡ true → not b ≡ true → ⊥
      go true there missing = both_ways false refl missing
      go false there missing = both_ways false refl there

-- at most one live input is not two
pub two_live : (n : ℕ) → n ≤ 1 → nat_lt 1 n ≡ true → ⊥
two_live n at_most_one is_two = let more = ltb-true 1 n is_two in omega arith

-- An admitted graph shows no fault but that memory runs out.
-- Fault by fault: each would break the rule that the graph keeps.
pub no_fault : (g : Graph) (order : List ℕ) (trees : Guards) → IsAdmitted g order trees → (fault : RuleFault) →
    ShowsFault g fault →
    fault ≡ OutOfMemory
no_fault g order trees is (Cycle walk) shows = absurd (no_cycle g order is.topological (walk, shows))
no_fault g order trees is TooManyTracks shows = absurd
    (let at_most = is.tracks in let more = shows.2 in omega (arith, at_most, more))
no_fault g order trees is (TwoAlternatives p s) shows =
    let join_there = shows.2 in
    absurd (two_live (length (filter (live g s.values) (inputs g p)))
    (is.joins p s.values join_there.within join_there.join join_there.least.lawful.values) join_there.least.holds)
no_fault g order trees is (NoSlot node) shows = absurd (no_lack g is.slots node shows.2.lacks)
no_fault g order trees is (TooBig e) shows = absurd (both_ways _ (is.sizes e shows.2.within) shows.2.above)
no_fault g order trees is (BadOrder p) shows =
    let bad = shows.2 in
    absurd (none_bad g bad.order (subst (λ o. IfSome o (IsTopological g)) bad.given is.given) p bad.bad)
no_fault g order trees is OutOfMemory shows = refl
