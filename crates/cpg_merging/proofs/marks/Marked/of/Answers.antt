-- Proof of `Marked::of`, which returns the columns with their marks.
use Rattle.std.proofs.Common.{subst}
use Rattle.cpg_merging.specs.Totals.{AreMarked}
use Rattle.cpg_merging.proofs.marks.Marked.of.Goals as goal

-- the marks are those of the listing's columns
pub returns-clause-marks : goal.returns-clause-marks
returns-clause-marks c =
    subst (AreMarked c.args.problem.now c.in_ok-marks.marks) c.as_slice.ensures.value c.in_ok-marks.ensures
