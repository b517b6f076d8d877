-- Proof of `left_open`: those of some bounds that none of `arrivals` is found to tell wherever a column matches, by the
-- column's time.
use Rattle.std.proofs.Common.{All, sym, subst}
use Rattle.std.proofs.lemmas.List.Elements.{All-push}
use Rattle.cpg_base.specs.Graph.{IsVariable}
use Rattle.cpg_check_heard.specs.declared.bound.LiteralBound.{LiteralBound}
use Rattle.cpg_check_heard.specs.Bounds.{variable_of}
use Rattle.cpg_check_heard.proofs.Framed.{kept_more, left_more}
use Rattle.cpg_check_heard.proofs.frames.left_open.Goals as goal

-- the next bound is told wherever the column matches, so it needn't be left
pub loop-bound-preserved-then-tells_one_whole : goal.loop-bound-preserved-then-tells_one_whole
loop-bound-preserved-then-tells_one_whole c = record {
  known = c.loop-bound.invariant.known;
  left = λ s test law m off. left_more test c.args.bounds.now c.loop-bound.bound-index _ c.loop-bound-test.true
      c.loop-bound.left.items (c.loop-bound.invariant.left s test law m off)
      (off _ (c.requires.bounds c.loop-bound.bound-index _ c.loop-bound-test.true)
      (c.if-tells_one_whole.ensures s law m));
}

-- the next bound is kept, so a test passes at one that is left exactly if it does at one of the bounds so far
pub loop-bound-preserved : goal.loop-bound-preserved
loop-bound-preserved c =
    let P = λ (b : LiteralBound). IsVariable c.args.problem.now (variable_of b) in
    record {
      known = subst (All P) (sym c.in_ok-push.ensures.items) (All-push P c.loop-bound.left.items _
          c.loop-bound.invariant.known (c.requires.bounds c.loop-bound.bound-index _ c.loop-bound-test.true));
      left = λ s test law m off.
          kept_more test c.args.bounds.now c.loop-bound.bound-index _ c.loop-bound-test.true c.loop-bound.left.items
          (c.loop-bound.invariant.left s test law m off) c.push.new.self.items c.in_ok-push.ensures.items;
    }
