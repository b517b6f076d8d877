-- Loops of `hints_of`, which returns the places whose cubes some scenario of the space may match, which is that of all
-- scenarios of at most `k` faults.
use Rattle.std.proofs.Common.{map}
use Rattle.cpg_base.specs.Numbers.{numbers_below}
use Rattle.cpg_tree.specs.Space.{IsInSpace}
use Rattle.cpg_row_trees.specs.PlaceHints.{KeepsWhere, places_of}
use Rattle.cpg_row_trees.proofs.places.hints_of.Given as goal

-- after each place, `hints` keeps the places so far whose cubes hold somewhere in the space
abbrev pub invariant-loop-place : goal.invariant-loop-place
invariant-loop-place l =
    KeepsWhere (map (λ b. b.now) l.cubes) (IsInSpace l.space) (numbers_below l.place) (places_of l.hints.items)
