-- Loops of `push_along`, which adds the demands of the leaves from right to left and returns true if the forks stand
-- along the order; `places` has how many places are left at each variable.
use Rattle.std.proofs.Common.{◌≡◌, [], length, reverse}
use Rattle.cpg_tree_columns.specs.Demanded.{first_side}
use Rattle.cpg_tree_columns.proofs.SidesAlong.{walked}
use Rattle.cpg_tree_columns.proofs.demanding.push_along.Given as goal

-- from the items that are left, the sides put off and the demands found so far, the walk comes to the same end
abbrev pub invariant-loop-last : goal.invariant-loop-last
invariant-loop-last l = walked l.places (reverse l.unread) l.side (reverse l.later.items) l.demands.items
    ≡ walked l.places (reverse l.items) first_side [] l.fn.demands.items

-- each turn takes the last item away
abbrev pub decreases-loop-last : goal.decreases-loop-last
decreases-loop-last l = length l.unread
