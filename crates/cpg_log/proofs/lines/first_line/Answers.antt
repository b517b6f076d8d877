-- Proof of `first_line`: the first line of some bytes, and the bytes after its line feed, if it has one; otherwise none.
use Rattle.cpg_log.proofs.LineLaws.{lines_parted, lines_whole}
use Rattle.cpg_log.proofs.lines.first_line.Goals as goal

-- the bytes up to the first line feed are the first line, and the others spell the other lines
pub returns-in-Some-clause-lines : goal.returns-in-Some-clause-lines
returns-in-Some-clause-lines c =
    lines_parted c.args.bytes.now c.in-Some.parts.0.now c.in-Some.parts.1.now c.in-Some.ensures.some

-- without a line feed the bytes are one line
pub returns-in-None-clause-lines : goal.returns-in-None-clause-lines
returns-in-None-clause-lines c = lines_whole c.args.bytes.now c.requires c.in-None.ensures.none
