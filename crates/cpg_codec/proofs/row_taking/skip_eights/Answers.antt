-- Proof of `skip_eights`, which returns how many literals `bytes` and the list begin with in common, counted in
-- blocks of eight and at most `most`, and the bytes after these.
use Rattle.std.proofs.Common.{◌∙◌, ◌-◌, ◌≤◌, ap, drop, arith}
use Rattle.std.proofs.lemmas.List.{drop-drop}
use Rattle.cpg_codec.proofs.Fronts.{block_more}
use Rattle.cpg_codec.proofs.row_taking.skip_eights.Goals as goal

-- `front`: the block of 24 bytes spells the next eight literals, so the bytes begin with these too; `left`: the list and
-- the bytes are both cut after them
pub loop-count-preserved : goal.loop-count-preserved
loop-count-preserved c =
    let was = c.loop-count.invariant in
    let one = c.in-Some.ensures.cases in
    let two = c.in-Some-split_first_chunk.ensures.cases in
    let few : 8 ≤ c.args.most - c.loop-count.count = omega (arith, c.loop-count-test.true) in
    record {
      front = block_more c.args.literals.now c.loop-count.left.now c.in-Some.block.now c.in-Some.behind.now
          c.args.bytes.now c.loop-count.rest.now c.in-Some-split_first_chunk.spelled.now
          c.in-Some-split_first_chunk.after.now c.args.most c.loop-count.count 8 24 was.front was.left few one.0 one.2
          two.0 two.1 c.if-not-are_spelled.ensures;
      left = one.1 ∙ ap (drop 8) was.left ∙ drop-drop 8 c.loop-count.count c.args.literals.now;
    }
