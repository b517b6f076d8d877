-- Loops of `forwards`: returns the cycle that `back` lists against its edges, now in their direction and from its least
-- process on.
use Rattle.std.proofs.Common.{◌≡◌, ◌<◌, get_or, length, map}
use Rattle.cpg_base.specs.Numbers.{numbers_below}
use Rattle.cpg_order.proofs.Cycles.{place_down}
use Rattle.cpg_order.proofs.cycle.forwards.Given as goal

-- After each turn the walk has one process more: they are taken from the least on down the list, and from its first place
-- around to its last. `place` is where the next one stands.
abbrev pub invariant-loop : goal.invariant-loop
invariant-loop l = record {
  -- the walk so far: the processes at the places from the least one down, and from the first place on to the last
  walk : l.walk.items
      ≡ map (λ k. get_or l.back (place_down l.initial.place (length l.back) k) 0) (numbers_below l.counter);
  -- the place at which the next one stands
  place : l.place ≡ place_down l.initial.place (length l.back) l.counter;
  -- it is a place of the list
  within : l.place < length l.back;
}
