-- Proof of `Line::keep`: keeps the first `count` literals.
use Rattle.std.proofs.Common.{arith}
use Rattle.cpg_label.proofs.Lines.{line_kept}
use Rattle.cpg_label.proofs.line.Line.keep.Goals as goal

-- the texts and ends of the first literals are as they were, and the room is untouched
pub returns-clause-line : goal.returns-clause-line
returns-clause-line c =
    let old = c.args.self.now in
    record {
      are = line_kept c.args.labels.now old.literals.items old.text.items old.ends.items old.count c.requires.line.are
          (omega (arith, c.requires.line.few, c.requires.line.literals)) c.args.count
          c.requires.within;
      few = omega (arith, c.requires.within, c.requires.line.few);
      literals = c.requires.line.literals;
      text = c.requires.line.text;
      ends = c.requires.line.ends;
    }
