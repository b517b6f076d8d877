-- Proof of `faults_of`, which returns the most faults in one cycle.
use Rattle.std.proofs.Common.{◌≡◌, arith, rules}
use Rattle.cpg_reader.specs.Shape.{raw_view}
use Rattle.cpg_base.specs.Natural.{natural}
use Rattle.cpg_reader.proofs.Limits.{small_faults}
use Rattle.cpg_reader.proofs.building.faults_of.Goals as goal

-- the most faults in a document within the limits are at most 8, which fits a byte
pub overflow_cast-result : goal.overflow_cast-result
overflow_cast-result c =
    let is : c.natural.result ≡ natural c.args.raw.now.faults = search rules in
    omega (arith, is, small_faults (raw_view c.args.raw.now) c.requires)
