-- Recursion of `both`, `walked`, `met`: the first part if it settles the matter, or else the second.
use Rattle.std.proofs.Common.{◌+◌, ◌*◌, max}
use Rattle.cpg_rules.specs.Trees.{size_of}
use Rattle.cpg_rules.specs.Sharing.{tree_at}
use Rattle.cpg_rules.proofs.shared.SharedParts.+meeting.Given as goal

-- The three functions call each other in a circle: `both` asks `met` of each side of a fork, `met` asks `walked` of
-- the same trees, and `walked` asks `both` of their sides. Four times the size, and 2, 1 or 0 more, gets smaller at
-- each of these calls.
abbrev pub decreases-both : goal.decreases-both
decreases-both l = 4 * max (size_of (tree_at l.self.now.parts l.no.0) + size_of (tree_at l.self.now.parts l.no.1))
    (size_of (tree_at l.self.now.parts l.yes.0) + size_of (tree_at l.self.now.parts l.yes.1)) + 2

-- it asks `walked` of the same two trees
abbrev pub decreases-met : goal.decreases-met
decreases-met l = 4 * (size_of (tree_at l.self.now.parts l.first) + size_of (tree_at l.self.now.parts l.second)) + 1

-- it walks down a side of at least one of them
abbrev pub decreases-walked : goal.decreases-walked
decreases-walked l = 4 * (size_of (tree_at l.self.now.parts l.first) + size_of (tree_at l.self.now.parts l.second))
