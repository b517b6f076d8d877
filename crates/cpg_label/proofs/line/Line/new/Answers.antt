-- Proof of `Line::new`: the line of no literals.
use Rattle.std.proofs.Common.{rules, ◌≡◌, arith, length}
use Rattle.std.specs.Vec.{vec_len}
use Rattle.cpg_label.proofs.Lines.{line_new}
use Rattle.cpg_label.proofs.line.Line.new.Goals as goal

-- the line has no literal yet, so its only end is 0; its lists are as long as the room
pub returns : goal.returns
returns c labels =
    let literals = c.in_ok-literals.literals in
    let text = c.in_ok-text.text in
    let ends = c.in_ok-ends.ends in
    let literals_long : length literals.items ≡ vec_len literals = search rules in
    let text_long : length text.items ≡ vec_len text = search rules in
    let ends_long : length ends.items ≡ vec_len ends = search rules in
    record {
      are = line_new labels literals.items text.items ends.items
          (c.in_ok-ends.ensures.items_if_clones_equal (search rules));
      few = omega arith;
      literals = omega (arith, literals_long, c.in_ok-literals.ensures.len);
      text = omega (arith, text_long, c.in_ok-text.ensures.len);
      ends = omega (arith, ends_long, c.in_ok-ends.ensures.len);
    }
