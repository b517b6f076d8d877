-- Proof of `push_ranges`: adds to a cube the space's ranges of the variables from `first` up to `end`, `end` itself left
-- out, except those ranges that have all numbers of the variable.
use Rattle.std.proofs.Common.{◌+◌, arith}
use Rattle.std.proofs.lemmas.List.Elements.{All-push}
use Rattle.cpg_audit.specs.Narrowing.{IsRange}
use Rattle.cpg_cube.proofs.CubeLows.{holds-from}
use Rattle.cpg_audit.proofs.NarrowingLaws.{ranges_weaker}
use Rattle.cpg_audit.proofs.narrowing.push_ranges.Goals as goal
use Rattle.cpg_audit.proofs.narrowing.push_ranges.Goals.{then-low-gt0+in_ok-push, else-low-gt0+else-high-top}

-- the range of the next variable is added, if it isn't the whole one
pub loop-variable-preserved : goal.loop-variable-preserved
loop-variable-preserved c =
    let g = c.args.problem.now in
    let v = c.loop-variable.variable in
    -- the ranges before hold as they did
    let old = ranges_weaker g c.args.space.now v (v + 1) (omega arith) c.loop-variable.cube c.loop-variable.invariant in
    elim c.if-low-gt0.branch [
      | then-low-gt0+in_ok-push w ↦ rw (w.cube-is, w.in_ok-push.ensures.pushed)
          (All-push (IsRange g c.args.space.now (v + 1)) c.loop-variable.cube _ old (record {
            known = c.requires.known v (omega arith) (omega arith);
            below = omega arith;
            told = λ s lies. holds-from s _ (c.least-low.ensures s lies) (c.most-high.ensures s lies);
          }))
      | else-low-gt0+else-high-top w ↦ rw w.cube-is old
    ]
