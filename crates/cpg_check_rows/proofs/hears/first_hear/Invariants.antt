-- Loops of `first_hear`: the first place at which the hear row of an item doesn't have the sender's column, later by
-- the delay, at the least node whose row has such a place.
use Rattle.std.proofs.Common.{ℕ, ◌<◌, map}
use Rattle.cpg_table.specs.Valid.{later_by}
use Rattle.cpg_check_rows.specs.Hears.{HearsAt}
use Rattle.cpg_check_rows.proofs.hears.first_hear.Given as goal

-- each node so far that hears the item hears it by the columns that are sent, each later by the delay
abbrev pub invariant-loop-node : goal.invariant-loop-node
invariant-loop-node l = (m : ℕ) → m < l.node → HearsAt l.tables.nodes l.item (map (later_by l.delay) l.sent) m
