-- Proof of `first_difference`: the first place at which the columns that are heard aren't the sender's, each later by
-- the delay: if one list begins with the other, the length of the shorter one.
use Rattle.std.proofs.Common.{rules, ◌≡◌, ◌∙◌, sym, ap, subst, map, min, take, length, arith}
use Rattle.std.proofs.lemmas.List.{length-map}
use Rattle.cpg_table.specs.Valid.{later_by}
use Rattle.cpg_violation.proofs.Differences.{same_more_mapped, ends_differ}
use Rattle.cpg_check_rows.proofs.hears.first_difference.Goals as goal

-- the column that is heard at the next place is the one that is sent, later by the delay, so both agree at one place
-- more
pub loop-place-preserved : goal.loop-place-preserved
loop-place-preserved c =
    let same : c.index-heard-place.result ≡ later_by c.args.delay c.index-sent-place.result = search rules in
    same_more_mapped (later_by c.args.delay) c.args.heard.now c.args.sent.now c.loop-place.place
    c.index-heard-place.result c.index-sent-place.result
    (omega (arith, c.min-common.ensures))
    (omega (arith, c.min-common.ensures)) c.index-heard-place.is c.index-sent-place.is same c.loop-place.invariant

-- the rows agree at all places that both have, but not in length, so they differ first where the shorter one ends
pub returns-clause-differ : goal.returns-clause-differ
returns-clause-differ c =
    let due = map (later_by c.args.delay) c.args.sent.now in
    let long = length-map c.args.sent.now (later_by c.args.delay) in
    let at : c.loop-place.place ≡ c.min-common.result = omega arith in
    record {
      before = subst (λ n. take n c.args.heard.now ≡ take n due) at c.loop-place.invariant;
      here = ends_differ c.args.heard.now due c.min-common.result (c.min-common.ensures
          ∙ ap (min (length c.args.heard.now)) (sym long)) (λ q. c.if-heard-sent.false (q ∙ long));
    }
