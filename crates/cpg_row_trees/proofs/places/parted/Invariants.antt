-- Loops of `parted`, which returns for each side of a fork the places whose cubes some scenario there may match.
use Rattle.std.proofs.Common.{map, take, ◌≤◌, ◌<◌, ◌≡◌}
use Rattle.cpg_base.specs.Scenario.{number_of}
use Rattle.cpg_tree.specs.Space.{IsInSpace}
use Rattle.cpg_row_trees.specs.PlaceHints.{KeepsWhere, places_of}
use Rattle.cpg_row_trees.proofs.places.parted.Given as goal

-- After each hint: `low` keeps the places so far that matter where the variable is at most the cut, `high` keeps
-- those that matter in the space above the cut, and the space has been restored.
abbrev pub invariant-loop-hint : goal.invariant-loop-hint
invariant-loop-hint l = record {
  low : KeepsWhere (map (λ b. b.now) l.cubes) (λ s. number_of s l.span.cut.variable ≤ l.span.cut.most)
      (places_of (take l.hint-index l.hints)) (places_of l.low.items);
  high : KeepsWhere (map (λ b. b.now) l.cubes)
      (λ s. IsInSpace l.fn.space s × (l.span.cut.most < number_of s l.span.cut.variable))
      (places_of (take l.hint-index l.hints)) (places_of l.high.items);
  same : l.space ≡ l.fn.space;
}
