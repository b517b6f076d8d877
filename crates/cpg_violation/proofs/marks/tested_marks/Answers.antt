-- Proof of `tested_marks`: marks of the first items, those that pass a test.
use Rattle.std.proofs.Common.{ℕ, ◌<◌, ◌∷◌, [], arith, true, subst}
use Rattle.std.proofs.lemmas.Bool.{OnTrue_from}
use Rattle.std.proofs.lemmas.List.{length-append}
use Rattle.cpg_violation.proofs.SureLaws.{marked_push}
use Rattle.cpg_violation.proofs.marks.tested_marks.Goals as goal

-- the mark of the next item is what the test answered, so if it is set the item passes
pub loop-item-preserved : goal.loop-item-preserved
loop-item-preserved g c =
    let passes : (x : ℕ) → Type 0 = λ x. (x < c.args.items) × goal.F-post g c.args.test x true in
    rw c.in_ok-push.ensures.items (
      omega (arith, length-append c.loop-item.marks.items (c.test.result ∷ []), c.loop-item.invariant.0),
      marked_push passes c.loop-item.item c.loop-item.marks.items c.loop-item.invariant.0 c.loop-item.invariant.1
          c.test.result
          (OnTrue_from c.test.result (passes c.loop-item.item)
          (λ passed. (
            c.loop-item-test.true,
            subst (λ b. goal.F-post g c.args.test c.loop-item.item b) passed c.test.ensures,
          ))),
    )

-- at the end each mark that is set is right
pub returns : goal.returns
returns g c x marked = c.loop-item.invariant.1 x marked
