-- Recursion of `is_either_live`, `are_found_live`, `are_both_live`: whether two parts are active at once.
use Rattle.std.proofs.Common.{◌+◌, ◌*◌, max}
use Rattle.cpg_rules.specs.Trees.{size_of}
use Rattle.cpg_rules.specs.Sharing.{tree_at}
use Rattle.cpg_rules.proofs.shared.SharedParts.+living.Given as goal

-- The three functions call each other in a circle: `is_either_live` asks `are_both_live` of each side of a fork,
-- `are_both_live` asks `are_found_live` of the same trees, and `are_found_live` asks `is_either_live` of their
-- sides. Four times the size, and 2, 1 or 0 more, gets smaller at each of these calls.
abbrev pub decreases-is_either_live : goal.decreases-is_either_live
decreases-is_either_live l =
    4 * max (size_of (tree_at l.self.now.parts l.no.0) + size_of (tree_at l.self.now.parts l.no.1))
    (size_of (tree_at l.self.now.parts l.yes.0) + size_of (tree_at l.self.now.parts l.yes.1)) + 2

-- it asks `are_found_live` of the same two trees
abbrev pub decreases-are_both_live : goal.decreases-are_both_live
decreases-are_both_live l =
    4 * (size_of (tree_at l.self.now.parts l.first) + size_of (tree_at l.self.now.parts l.second)) + 1

-- it asks `is_either_live` of their sides
abbrev pub decreases-are_found_live : goal.decreases-are_found_live
decreases-are_found_live l =
    4 * (size_of (tree_at l.self.now.parts l.first) + size_of (tree_at l.self.now.parts l.second))
