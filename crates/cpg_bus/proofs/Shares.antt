-- Where a node's slot lies in the round.
use Rattle.std.proofs.Common.{ℕ, ◌+◌, ◌==◌, ◌≡◌, ◌∙◌, ap, ap₂, Option, position, unwrap_or, List, get_or, take, sum_by}
use Rattle.std.proofs.Common.{arith}
use Rattle.std.proofs.lemmas.List.Sums.{sum_by-take-le, sum_by_more}
use Rattle.cpg_base.specs.declared.process.Slot.{Slot}
use Rattle.cpg_base.specs.Graph.{Graph}
use Rattle.cpg_base.specs.Bus.{offset, slot_length, slot_place}
use Rattle.cpg_base.specs.Limits.{IsWithinLimits}
use Rattle.cpg_base.proofs.Bounds.{round-le}
use Rattle.cpg_base.proofs.Slots.{slot_place-lt}
use Rattle.cpg_bus.specs.Share.{HasSlot, ShareState, IsShare, share_of}

-- the slot that stands for one that isn't there: it belongs to node 0, takes no time and carries no bytes
abbrev no_slot : Slot
no_slot = record { node = 0; length = 0; bytes = 0 }

-- In a graph within the limits, the slot of a node that has one takes time and lies in the round.
-- The slots before it and itself are some of the slots of the round.
pub is_share : (g : Graph) (node : ℕ) → IsWithinLimits g → HasSlot g node → IsShare (share_of g node)
is_share g node within has =
    let place_inside = slot_place-lt g node has in
    record {
      lasts = (within.slots (slot_place g node) _ place_inside).lasts;
      inside = omega (
        arith,
        sum_by_more (λ (s : Slot). s.length) g.slots (slot_place g node) no_slot place_inside,
        sum_by-take-le (λ (s : Slot). s.length) g.slots (slot_place g node + 1),
      );
      short = round-le g within;
    }

-- where a node's slot lies in the round, as code finds it
-- `found`, `is`: the place of the node's slot among the slots, if it has one; `slots`, `same`: the slots, as code
-- reads them
-- `place`, `at`: that place, or 0
module _ (g : Graph) (node place : ℕ) (found : Option ℕ) (slots : List Slot) (same : slots ≡ g.slots)
    (is : found ≡ position (λ (s : Slot). s.node == node) slots)
    (at : place ≡ unwrap_or found 0) where
  -- the place that was found is that of the node's slot
  place_is : place ≡ slot_place g node
  place_is = at ∙ ap (λ o. unwrap_or o 0) (is ∙ ap (position (λ (s : Slot). s.node == node)) same)

  -- the slots before that place last as long as the node's offset
  pub offset_is : sum_by (λ (s : Slot). s.length) (take place slots) ≡ offset g node
  offset_is = ap₂ (λ k xs. sum_by (λ (s : Slot). s.length) (take k xs)) place_is same

  -- the slot at that place is as long as the node's
  pub length_is : (get_or slots place no_slot).length ≡ slot_length g node
  length_is = ap₂ (λ k xs. (get_or xs k no_slot).length) place_is same

-- s is a share if t is one, and the two have equal numbers
pub is_share_of : (s t : ShareState) → s.offset ≡ t.offset → s.length ≡ t.length → s.round ≡ t.round → IsShare t →
    IsShare s
is_share_of s t a b c is =
    record { lasts = omega (arith, is.lasts); inside = omega (arith, is.inside); short = omega (arith, is.short) }
