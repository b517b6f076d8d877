-- Proof of `sides`, which returns the two sides of a fork with their spans, given their lists and the spans of the
-- whole.
use Rattle.cpg_tree.specs.TreeNode.{Fork}
use Rattle.cpg_tree_times.specs.Bounds.{bounds_in, span_in}
use Rattle.cpg_tree_times.proofs.BoundLaws.{forks_are}
use Rattle.cpg_tree_times.proofs.bounds.sides.Goals as goal

-- the spans of a fork are those of both sides and its own, and half the items of the side below are forks
pub returns-clause-bounds : goal.returns-clause-bounds
returns-clause-bounds g c number v cut x y is are =
    c.bounds_of_sides.ensures (bounds_in number x) (bounds_in number y) (span_in number (Fork v cut x y)) are
    (forks_are number x c.args.below.now is)
