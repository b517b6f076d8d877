-- Proof of `own_ended`: a mark for each variable, by number: whether its process is on an item's node and is known to
-- have ended by the item's columns.
use Rattle.std.proofs.Common.{◌∙◌, arith, refl}
use Rattle.std.proofs.lemmas.List.{length-set}
use Rattle.cpg_tree.proofs.Passes.{of_true}
use Rattle.cpg_check_quick.proofs.OwnLaws.{none_marked, own_more}
use Rattle.cpg_check_quick.proofs.listening.own_ended.Goals as goal

-- no variable is marked yet
pub loop-variable-init : goal.loop-variable-init
loop-variable-init c = record {
  long = refl;
  ended = λ tables sequences rules sent v holds.
      absurd (none_marked 256 v holds);
}

-- the next variable is marked only if its process is on the node and has always ended by the item's columns
pub loop-variable-preserved : goal.loop-variable-preserved
loop-variable-preserved c = record {
  long =
      length-set c.loop-variable.known c.loop-variable.variable c.is_own_ended.result ∙ c.loop-variable.invariant.long;
  ended = λ tables sequences rules sent. own_more c.args.admitted.now.graph tables c.args.item c.loop-variable.known
      c.loop-variable.variable c.is_own_ended.result
      (omega (arith, c.loop-variable-test.true, c.loop-variable.invariant.long))
      (c.loop-variable.invariant.ended tables sequences rules sent)
      (of_true c.is_own_ended.result c.is_own_ended.ensures (λ own. own tables sequences rules sent));
}
