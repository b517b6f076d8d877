-- Proof of `are_few`: literals whose variables rise are at most 256.
use Rattle.std.proofs.Common.{◌+◌, ◌<◌, ◌≤◌, arith, length}
use Rattle.cpg_label.proofs.Lines.{rising_short}
use Rattle.cpg_label.proofs.line.are_few.Goals as goal

-- the variables rise, so there are no more literals than variables up to the last, which is a byte
pub returns-in-Some : goal.returns-in-Some
returns-in-Some c =
    let ls = c.args.literals.now in
    let last = c.in-Some.last.now in
    let some : 0 < length ls = c.in-Some.ensures.item.3.0 in
    let short : length ls ≤ last.variable + 1 = rising_short ls last c.requires some c.in-Some.ensures.item.1 in
    omega (arith, short, c.count_up_to-count.ensures.count, c.count_up_to-count.ensures.few)
