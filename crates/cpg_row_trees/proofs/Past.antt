-- A scenario matches no cube at a place behind the last one.
use Rattle.std.proofs.Common.{ℕ, ◌≡◌, Bor, List, arith, false, length, ltb, ltb-false, map, sym}
use Rattle.std.proofs.lemmas.List.{length-map}
use Rattle.cpg_base.specs.Scenario.{Scenario}
use Rattle.cpg_cube.specs.declared.literal.Literal.{Literal}
use Rattle.cpg_row_trees.specs.Places.{IsMatched}

-- no cube is at a place that isn't below the length of the list
pub past_none : (lent : List (Bor (List Literal))) (i : ℕ) (s : Scenario) → false ≡ ltb i (length lent) →
    IsMatched (map (λ (b : Bor (List Literal)). b.now) lent) s i → ⊥
past_none lent i s past matched =
    let behind = ltb-false i (length lent) (sym past) in
    omega (arith, behind, matched.there, length-map lent (λ (b : Bor (List Literal)). b.now))
