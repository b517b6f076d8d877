-- Proof of `take_off`: narrows a space to the scenarios that a cube doesn't match, if that depends on one variable, and
-- adds the cube to `kept`, unless it matches nothing of the space.
use Rattle.std.proofs.Common.{◌∙◌, sym}
use Rattle.std.specs.List.{list_any}
use Rattle.std.proofs.lemmas.Bool.{or_parts}
use Rattle.cpg_cube.specs.Cube.{matches}
use Rattle.cpg_audit.proofs.NarrowingLaws.{passed, pushed}
use Rattle.cpg_audit.proofs.narrowing.take_off.Goals as goal
use Rattle.cpg_audit.proofs.narrowing.take_off.Goals.{in-Where, in-Unknown}

-- the cube matches nowhere in the space, so leaving it out of the kept ones changes nothing
pub returns-in-Nowhere-clause-same : goal.returns-in-Nowhere-clause-same
returns-in-Nowhere-clause-same c s leaves = passed c.args.kept.now.items c.args.cube s
    (λ off. rw c.literals.ensures.literals at c.in-Nowhere.ensures s (leaves off))

-- the cube is kept, so the kept ones match where they or this cube did
pub returns-clause-same : goal.returns-clause-same
returns-clause-same c s leaves = rw c.in_ok-push.ensures.items (pushed c.args.kept.now.items c.args.cube s)

-- a scenario that no kept cube matches, nor the new one, is still in the space
pub returns-clause-space : goal.returns-clause-space
returns-clause-space c s leaves off =
    let parts = or_parts (list_any (λ b. matches b.now s) c.args.kept.now.items) (matches c.args.cube.now s)
    (sym (pushed c.args.kept.now.items c.args.cube s) ∙ rw c.in_ok-push.ensures.items at off) in
    elim c.match-extent_of.branch [
      | in-Where w ↦ rw w.space-is (w.exclude.ensures s (leaves parts.0)
          (sym (rw c.literals.ensures.literals at w.in-Where.ensures s (leaves parts.0)) ∙ parts.1))
      | in-Unknown w ↦ rw w.space-is (leaves parts.0)
    ]
