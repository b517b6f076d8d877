-- Proof of `front_by_four`: a place up to which two lists are alike, four after a place up to which they are if
-- those are the same too.
use Rattle.cpg_label.proofs.Lines.{block_more, rest_of}
use Rattle.cpg_label.proofs.line.front_by_four.Goals as goal

-- the next four literals of both lists are the same, so they are alike four further
pub returns-then-are_same : goal.returns-then-are_same
returns-then-are_same c =
    let one = c.in-Some.ensures.cases in
    let two = c.in-Some-split_first_chunk.ensures.cases in
    block_more c.args.first.now c.args.second.now _ _ c.in-Some.block.now c.in-Some.field-0-1.now
    c.in-Some-split_first_chunk.other.now c.in-Some-split_first_chunk.field-0-1.now c.args.place 4
    c.requires (rest_of c.args.place c.args.first.now)
    (rest_of c.args.place c.args.second.now) one.0 one.2 two.0 two.2 c.if-are_same.ensures
