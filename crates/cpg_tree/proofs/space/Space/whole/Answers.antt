-- Proof of `Space::whole`, which returns the space of all scenarios of at most `k` faults.
use Rattle.std.proofs.Common.{rules, arith, refl}
use Rattle.std.proofs.lemmas.List.{get_or-replicate}
use Rattle.cpg_tree.proofs.Spaces.{lies_whole}
use Rattle.cpg_tree.proofs.space.Space.whole.Goals as goal

-- before the first variable all highs are 1
pub loop-variable-init : goal.loop-variable-init
loop-variable-init c =
    record { long = search rules; done = λ v l. absurd (omega arith); rest = λ v l h. get_or-replicate 256 v 1 0 h }

-- all lows are 0, the highs of counts are k, those of values are 1, and k faults are left
pub returns-clause-is : goal.returns-clause-is
returns-clause-is c = record {
  long = search rules;
  high_long = c.loop-variable.invariant.long;
  lows = λ v l. get_or-replicate 256 v 0 0 l;
  counts =
      λ v l. c.loop-variable.invariant.done v (search rules);
  values = λ v l h. c.loop-variable.invariant.rest v (search rules) h;
  left = refl;
}

-- the lows are 0, each count is at most k and each value at most 1, so every scenario of at most k faults lies inside
pub returns-clause-lies : goal.returns-clause-lies
returns-clause-lies c s few = lies_whole c.args.k s few _ (λ v l. get_or-replicate 256 v 0 0 l)
    (λ v l. c.loop-variable.invariant.done v (search rules))
    (λ v l h. c.loop-variable.invariant.rest v (search rules) h) refl
