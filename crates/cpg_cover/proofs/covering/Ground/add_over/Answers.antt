-- Proof of `Ground::add_over`, which adds a cube for the numbers outside the range of each literal of the cube to be
-- covered: scenarios there needn't be covered, so they count as matched.
use Rattle.std.proofs.Common.{◌∷◌, [], arith}
use Rattle.std.proofs.lemmas.Bool.{both_ways, and_parts}
use Rattle.cpg_cover.specs.Fewest.{beyond, holds_at, is_any_at, matches_at}
use Rattle.cpg_cover.proofs.FewestLaws.{carried}
use Rattle.cpg_cover.proofs.covering.Ground.add_over.Goals as goal
use Rattle.cpg_cover.proofs.covering.Ground.add_over.Goals.{in-Some+in_ok-single+in_ok-add, in_default}

-- a cube added beyond a literal's range matches no numbers of a narrow scenario, so one from before does
pub loop-literal-preserved : goal.loop-literal-preserved
loop-literal-preserved c s narrow any_matched =
    let numbers = beyond c.args.self.now.bounds.low s in
    elim c.match-over.branch [
      | in-Some+in_ok-single+in_ok-add w ↦
          let over = w.in-Some.over in
          carried (is_any_at numbers c.loop-literal.cubes.items) (matches_at numbers (over ∷ [])) _
          (rw w.in_ok-single.ensures at (w.in_ok-add.ensures numbers (rw w.cubes-is at any_matched)))
          (λ before. c.loop-literal.invariant s narrow before)
          (λ added. absurd (both_ways (holds_at numbers over)
          (w.in-Some.ensures numbers (narrow c.loop-literal.literal-index _ (omega arith))) (and_parts _ _ added).0))
      | in_default w ↦ c.loop-literal.invariant s narrow (rw w.cubes-is at any_matched)
    ]
