-- Loops of `bar_of`, which returns the greatest of the tops, or 0 if there is none.
use Rattle.std.proofs.Common.{ℕ, ◌≡◌, Option, drop, fold, map, max, unwrap_or}
use Rattle.cpg_tree_columns.specs.Tops.{bar_of}
use Rattle.cpg_tree_columns.proofs.tops.bar_of.Given as goal

-- the greatest of all tops is the greatest of `bar` and the tops that are left; a top that is absent counts as 0
abbrev pub invariant-loop-top : goal.invariant-loop-top
invariant-loop-top l = bar_of l.tops ≡ fold max l.bar (map (λ (o : Option ℕ). unwrap_or o 0) (drop l.top-index l.tops))
