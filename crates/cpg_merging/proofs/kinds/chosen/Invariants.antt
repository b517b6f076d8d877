-- Loops of `chosen`, which returns the columns whose place has a difference.
use Rattle.std.proofs.Common.{◌≡◌, filter, map, take}
use Rattle.cpg_merging.specs.Kinds.{is_candidate}
use Rattle.cpg_merging.proofs.kinds.chosen.Given as goal

-- after each column, the list has those columns so far that are candidates
abbrev pub invariant-loop-place : goal.invariant-loop-place
invariant-loop-place l = map (λ b. b.now) l.chosen.items ≡ filter (is_candidate l.differing) (take l.place l.columns)
