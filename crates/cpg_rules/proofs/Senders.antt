-- If no node that sends lacks a slot, each sender has one.
use Rattle.std.proofs.Common.{ℕ, ◌<◌, ◌≡◌, Bool, true, false, not, ◌&&◌, ◌==◌, length, refl, sym, ap, ◌∙◌, subst}
use Rattle.std.proofs.Common.{eq-eqb, inl, inr}
use Rattle.std.specs.Bool.{nat_lt}
use Rattle.std.specs.List.{list_any}
use Rattle.std.proofs.lemmas.Bool.{and_from, or_left, or_right, both_ways}
use Rattle.cpg_base.specs.Numbers.{numbers_below}
use Rattle.cpg_base.specs.Graph.{Graph, process_count, edge_count, condition_count, source, node_of, process_of}
use Rattle.cpg_base.specs.Graph.{is_message, is_sent_item, producer_of_item}
use Rattle.cpg_base.specs.Limits.{IsWithinLimits}
use Rattle.cpg_base.specs.WellFormed.{HasSenderSlots}
use Rattle.cpg_base.proofs.Items.{item_cases, process_of_below}
use Rattle.cpg_base.proofs.Lists.{list_any_true, list_any_false, Contains-numbers, numbers-Contains}
use Rattle.cpg_rules.specs.Rules.{is_message_of, sends_message, decides, is_sender, has_slot, lacks_slot}

-- a test that passes for a number below a bound passes for one of them
pub any_there : (p : ℕ → Bool) (n i : ℕ) → i < n → p i ≡ true → list_any p (numbers_below n) ≡ true
any_there p n i less is_true = list_any_true p (numbers_below n) i (Contains-numbers n i less) is_true

-- a test that fails for each number below a bound passes for none of them
pub any_nowhere : (p : ℕ → Bool) (n : ℕ) → ((i : ℕ) → i < n → p i ≡ false) → list_any p (numbers_below n) ≡ false
any_nowhere p n h = list_any_false p (numbers_below n) (λ i c. h i (numbers-Contains n i c))

-- given: a graph within its limits, in which no node lacks a slot
module _ (g : Graph) (w : IsWithinLimits g) (none_lacks : (n : ℕ) → n < length g.nodes → lacks_slot g n ≡ false) where
  -- each node that sends has a slot
  slot_there : (n : ℕ) → n < length g.nodes → is_sender g n ≡ true → has_slot g n ≡ true
  slot_there n below sends = go (has_slot g n) (none_lacks n below)
    where
      -- by whether the node has a slot
      go : (b : Bool) → (is_sender g n && not b) ≡ false → b ≡ true
      go true is_false = refl
      go false is_false = absurd (both_ways (is_sender g n && true) is_false (and_from (is_sender g n) true sends refl))

  -- the node of a process is one of the graph
  node_within : (p : ℕ) → p < process_count g → node_of g p < length g.nodes
  node_within p below = (w.processes p _ below).node

  -- the source node of a message has a slot
  of_message : (e : ℕ) → e < edge_count g → is_message g e ≡ true → has_slot g (node_of g (source g e)) ≡ true
  of_message e below is =
      let node = node_of g (source g e) in
      slot_there node (node_within (source g e) (w.edges e _ below).from)
      (or_left (sends_message g node) (nat_lt 1 (length g.nodes) && decides g node)
      (any_there (λ f. is_message_of g f node) (edge_count g) e below
      (and_from (is_message g e) (node_of g (source g e) == node) is (eq-eqb node node refl))))

  -- the node of a condition has a slot, if there are two nodes or more
  of_broadcast : (c : ℕ) → c < condition_count g → nat_lt 1 (length g.nodes) ≡ true →
      has_slot g (node_of g (process_of g c)) ≡ true
  of_broadcast c below some =
      let node = node_of g (process_of g c) in
      slot_there node (node_within (process_of g c) (process_of_below g c below))
      (or_right (sends_message g node) (nat_lt 1 (length g.nodes) && decides g node)
      (and_from (nat_lt 1 (length g.nodes)) (decides g node) some
      (any_there (λ d. node_of g (process_of g d) == node) (condition_count g) c below (eq-eqb node node refl))))

  -- If no node that sends lacks a slot, each node that sends has one.
  -- By the kind of the item: a start isn't sent, and a message or a broadcast makes its node a sender.
  pub senders_have_slots : HasSenderSlots g
  senders_have_slots x l sent = elim (item_cases g x l) [
    | inl of_start ↦ (let never : false ≡ true = sym (ap (is_sent_item g) of_start.1) ∙ sent in cc)
    | inr r ↦ elim r [
      | inl m ↦ subst (λ n. has_slot g n ≡ true) (sym (ap (λ i. node_of g (producer_of_item g i)) m.3))
          (of_message m.0 m.1 (sym (ap (is_sent_item g) m.3) ∙ sent))
      | inr b ↦ subst (λ n. has_slot g n ≡ true) (sym (ap (λ i. node_of g (producer_of_item g i)) b.3))
          (of_broadcast b.0 b.1 (sym (ap (is_sent_item g) b.3) ∙ sent))
    ]
  ]
