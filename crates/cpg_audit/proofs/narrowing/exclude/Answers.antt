-- Proof of `exclude`: narrows a space to the scenarios in which a literal doesn't hold, if these have one range of its
-- variable; otherwise the space stays as it is.
use Rattle.std.proofs.Common.{◌∙◌}
use Rattle.std.proofs.Math.Bool.{and-true}
use Rattle.cpg_cube.specs.Cube.{holds}
use Rattle.cpg_audit.proofs.narrowing.exclude.Goals as goal

-- a scenario in which the literal doesn't hold is in the range outside it, so it lies in the space that is left
pub returns-in-Some-within : goal.returns-in-Some-within
returns-in-Some-within c s lies off =
    c.in-Some-within.ensures.lies s lies (and-true (holds s c.in-Some.range) ∙ c.in-Some.ensures s lies off)
