-- Proof of `mark_at`, which marks the variable of a literal if a column with this total may follow another one at the
-- literal.
use Rattle.std.proofs.Common.{rules}
use Rattle.cpg_merging.proofs.MergingTotals.{mark_kept, mark_off, from_off}
use Rattle.cpg_merging.proofs.marks.mark_at.Goals as goal

-- a mark is set alone, none is taken back
pub returns-clause-kept : goal.returns-clause-kept
returns-clause-kept c = mark_kept c.args.marks.now c.args.literal.variable c.has_partner.result c.if-marks-place.false

-- the variable isn't marked, so the test has found no partner
pub returns-clause-marked : goal.returns-clause-marked
returns-clause-marked c off = from_off c.has_partner.result
    (mark_off c.args.marks.now c.args.literal.variable c.has_partner.result (search rules) off) c.has_partner.ensures
