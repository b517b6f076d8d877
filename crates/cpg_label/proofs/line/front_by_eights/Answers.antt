-- Proof of `front_by_eights`: a place up to which two lists are alike, found by blocks of eight.
use Rattle.std.proofs.Common.{◌∙◌, ap, drop}
use Rattle.std.proofs.lemmas.List.{drop-drop}
use Rattle.cpg_label.proofs.Lines.{block_more}
use Rattle.cpg_label.proofs.line.front_by_eights.Goals as goal

-- `alike`: the next eight literals of both lists are the same, so they are alike eight further. `left`, `right`: the rests
-- are cut there
pub loop-block-preserved : goal.loop-block-preserved
loop-block-preserved c =
    let was = c.loop-block.invariant in
    let one = c.in-Some.ensures.cases in
    let two = c.in-Some-split_first_chunk.ensures.cases in
    record {
      alike = block_more c.args.first.now c.args.second.now c.loop-block.left.now c.loop-block.right.now
          c.in-Some.block.now c.in-Some.rest.now c.in-Some-split_first_chunk.other.now
          c.in-Some-split_first_chunk.behind.now c.loop-block.place 8 was.alike was.left was.right one.0 one.2 two.0
          two.2 c.if-not-are_same.ensures;
      left = one.1 ∙ ap (drop 8) was.left ∙ drop-drop 8 c.loop-block.place c.args.first.now;
      right = two.1 ∙ ap (drop 8) was.right ∙ drop-drop 8 c.loop-block.place c.args.second.now;
    }
