-- Proof of `skip_same`, which returns how many literals `bytes` and the list begin with in common, at most `most`,
-- and the bytes after these.
use Rattle.std.proofs.Common.{◌+◌}
use Rattle.cpg_codec.proofs.Fronts.{front_more}
use Rattle.cpg_codec.proofs.row_taking.skip_same.Goals as goal

-- what the bytes begin with in blocks of eight, then in one of four, then one by one, makes one front of the list
pub returns : goal.returns
returns c =
    let ls = c.args.literals.now in
    let bytes = c.args.bytes.now in
    let eights = c.skip_eights-eights.result in
    let four = c.skip_four-four.result in
    let ones = c.skip_each-ones.result in
    front_more ls bytes c.args.most (eights.0 + four.0) four.1.now ones.0 ones.1.now
    (front_more ls bytes c.args.most eights.0 eights.1.now four.0 four.1.now c.skip_eights-eights.ensures
    c.skip_four-four.ensures)
    c.skip_each-ones.ensures
