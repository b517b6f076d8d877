-- Loops of `parted`, which returns copies of the cubes whose variables are all marked (`wanted` true) or all unmarked
-- (`wanted` false).
use Rattle.std.proofs.Common.{◌≡◌, ℕ, take, true}
use Rattle.cpg_cover.specs.Fewest.{AreMarked, is_any_at}
use Rattle.cpg_cover.proofs.parting.parted.Given as goal

-- `marked`: each cube of the part has the marks that are wanted. `kept`: each cube of the part is one of the cubes so
-- far, so what matches one of the part matches one of these.
abbrev pub invariant-loop-cube : goal.invariant-loop-cube
invariant-loop-cube l = record {
  marked : AreMarked l.marks l.wanted l.part.items;
  kept : (n : ℕ → ℕ) → is_any_at n l.part.items ≡ true → is_any_at n (take l.cube-index l.cubes) ≡ true;
}
