-- The nodes that send have slots; and which of what an active process sends is active.
use Rattle.std.proofs.Common.{◌≡◌, ◌≢◌, ◌∙◌, ℕ, ◌+◌, ◌-◌, ◌<◌, ◌≤◌, max, Bool, true, false, ◌&&◌, List, [], ◌∷◌, length}
use Rattle.std.proofs.Common.{map, filter, Contains, if◌then◌else◌, arith, refl, sym, ap, ap₂, inl, inr}
use Rattle.std.proofs.Common.{subst, lt-ltb}
use Rattle.std.proofs.lemmas.Bool.{cases_order}
use Rattle.cpg_base.specs.Numbers.{greatest}
use Rattle.cpg_base.specs.Graph.{Graph, process_count, edge_count, condition_count, item_at, source, node_of}
use Rattle.cpg_base.specs.Graph.{process_of, is_message, message_item, broadcast_item, is_sent_item, producer_of_item}
use Rattle.cpg_base.specs.Activity.{active, live, item_active}
use Rattle.cpg_base.specs.WellFormed.{HasSenderSlots}
use Rattle.cpg_base.proofs.Items.{item_cases, item_at-message, item_at-broadcast}
use Rattle.cpg_base.proofs.Lists.{greatest-cons}
use Rattle.cpg_bus.specs.Share.{HasSlot}
use Rattle.cpg_bus.specs.Plan.{queue_of}
use Rattle.cpg_bus.proofs.Queued.{in_queue}

-- if two of n numbers differ, n is greater than 1
pub many_nodes : (a b n : ℕ) → a < n → b < n → a ≢ b → 1 < n
many_nodes a b n a_below b_below other = elim (cases_order a b) [
  | inl equal ↦ absurd (other equal)
  | inr (inl less) ↦ omega arith
  | inr (inr less) ↦ omega arith
]

module _ (g : Graph) where
  -- given: each node that sends has a slot
  module _ (slots : HasSenderSlots g) where
    -- the node that sends a message has a slot
    pub message_slot : (e : ℕ) → e < edge_count g → is_message g e ≡ true → HasSlot g (node_of g (source g e))
    message_slot e below on_bus = subst (λ i. HasSlot g (node_of g (producer_of_item g i))) (item_at-message g e below)
        (slots (message_item g e) (omega arith) (ap (is_sent_item g) (item_at-message g e below) ∙ on_bus))

    -- on more than one node, the node of each condition has a slot
    pub broadcast_slot : (c : ℕ) → c < condition_count g → 1 < length g.nodes → HasSlot g (node_of g (process_of g c))
    broadcast_slot c below many = subst (λ i. HasSlot g (node_of g (producer_of_item g i))) (item_at-broadcast g c)
        (slots (broadcast_item g c) (omega arith)
        (ap (is_sent_item g) (item_at-broadcast g c) ∙ lt-ltb 1 (length g.nodes) many))

    -- a node that has something to send has a slot
    pub queued_slot : (p x : ℕ) → Contains (queue_of g p) x → HasSlot g (node_of g p)
    queued_slot p x queued =
        let queued_x = in_queue g p x queued in
        subst (λ r. HasSlot g (node_of g r)) queued_x.by (slots x queued_x.within queued_x.sent)

  -- given: an outcome (`values`), and an item x that p sends
  module _ (values : List Bool) (p x : ℕ) (queued : Contains (queue_of g p) x) where
    -- a broadcast in the queue of an active process is active: the items from this number on are broadcasts
    pub broadcast_active : active g values p ≡ true → process_count g + edge_count g ≤ x →
        item_active g values (item_at g x) ≡ true
    broadcast_active acts late = let queued_x = in_queue g p x queued in elim (item_cases g x queued_x.within) [
      | inl kind ↦ absurd (omega (arith, kind.0))
      | inr (inl kind) ↦ absurd (omega (arith, kind.1, kind.2))
      | inr (inr kind) ↦ ap (item_active g values) kind.3
          ∙ ap₂ ◌&&◌ (sym (ap (is_sent_item g) kind.3) ∙ queued_x.sent)
          (ap (active g values) (sym (ap (producer_of_item g) kind.3) ∙ queued_x.by) ∙ acts)
    ]

    -- a message in the queue is active if and only if its edge is live: the items below this number are starts and messages
    pub message_active : x < process_count g + edge_count g →
        item_active g values (item_at g x) ≡ live g values (x - process_count g)
    message_active early = let queued_x = in_queue g p x queued in elim (item_cases g x queued_x.within) [
      | inl kind ↦ absurd (omega (arith, kind.0, queued_x.above))
      | inr (inl kind) ↦ ap (item_active g values) kind.3
          ∙ ap (λ b. b && live g values kind.0) (sym (ap (is_sent_item g) kind.3) ∙ queued_x.sent)
          ∙ ap (live g values) (let same_edge : kind.0 ≡ x - process_count g = omega (arith, kind.2) in same_edge)
      | inr (inr kind) ↦ absurd (omega (arith, kind.2))
    ]

    -- the numbers of what a process sends come after those of all starts
    pub queued_above : process_count g ≤ x
    queued_above = (in_queue g p x queued).above

-- the greatest f of the elements that pass a test is the greatest over all elements, if those that don't pass count as 0
pub greatest_passing : (f : ℕ → ℕ) (test : ℕ → Bool) (xs : List ℕ) →
    greatest (map (λ x. if test x then f x else 0) xs) ≡ greatest (map f (filter test xs))
greatest_passing f test [] = refl
greatest_passing f test (x ∷ xs) = greatest-cons (if test x then f x else 0) (map (λ y. if test y then f y else 0) xs)
    ∙ go (test x) (greatest_passing f test xs)
  where
    -- an item that passes the test counts with its number, and any other counts 0
    go : (b : Bool) → greatest (map (λ y. if test y then f y else 0) xs) ≡ greatest (map f (filter test xs))
        → max (if b then f x else 0) (greatest (map (λ y. if test y then f y else 0) xs))
        ≡ greatest (map f (if b then x ∷ filter test xs else filter test xs))
    go true for_rest = ap (max (f x)) for_rest ∙ sym (greatest-cons (f x) (map f (filter test xs)))
    go false for_rest = let max_is : max 0 (greatest (map (λ y. if test y then f y else 0) xs))
        ≡ greatest (map (λ y. if test y then f y else 0) xs) = omega arith in
        max_is ∙ for_rest
