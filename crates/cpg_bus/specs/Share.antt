-- A node's share of the bus: where its slot lies in the round.
use Rattle.std.specs.Prelude.{ℕ, ◌+◌, ◌-◌, ◌*◌, ◌≤◌, ◌==◌, IsTrue}
use Rattle.std.specs.Int.{div_ceil}
use Rattle.std.specs.List.{list_any}
use Rattle.cpg_base.specs.Graph.{Graph}
use Rattle.cpg_base.specs.Bus.{round, offset, slot_length}

-- whether a node has a slot
abbrev pub HasSlot : Graph → ℕ → Type 0
HasSlot g node = IsTrue (list_any (λ s. s.node == node) g.slots)

-- how `Share` of the code is seen, in time units
pub record ShareState : Type 0 where
  -- how long after the begin of a round the slot starts
  pub offset : ℕ
  -- how long the slot lasts
  pub length : ℕ
  -- how long the round lasts
  pub round : ℕ

-- the share is one that a node of a graph within its limits can have
pub record IsShare (s : ShareState) : Type 0 where
  -- the slot takes time
  pub lasts : 1 ≤ s.length
  -- it lies within the round
  pub inside : s.offset + s.length ≤ s.round
  -- the round has at most 16 slots, each of at most 10^9 time units
  pub short : s.round ≤ 16000000000

-- a node's share of the bus
abbrev pub share_of : Graph → ℕ → ShareState
share_of g node = record { offset = offset g node; length = slot_length g node; round = round g }

-- the start of the slot's j-th occurrence, j from 0
abbrev pub start_of : ShareState → ℕ → ℕ
start_of s j = j * s.round + s.offset

-- the end of the slot's j-th occurrence
abbrev pub end_of : ShareState → ℕ → ℕ
end_of s j = start_of s j + s.length

-- The number of the slot's first occurrence that starts at this time or later. The difference is 0 if the time is before
-- the first one.
abbrev pub first_of : ShareState → ℕ → ℕ
first_of s time = div_ceil (time - s.offset) s.round

-- the first start of the slot at this time or later
abbrev pub next_of : ShareState → ℕ → ℕ
next_of s time = start_of s (first_of s time)
