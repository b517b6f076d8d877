-- Loops of `front_by_eights`: a place up to which two lists are alike, found by blocks of eight.
use Rattle.std.proofs.Common.{◌≡◌, drop, length}
use Rattle.cpg_label.specs.Lines.{AreAlike}
use Rattle.cpg_label.proofs.line.front_by_eights.Given as goal

-- both lists are the same up to `place`, and `left` and `right` are their rests from there on
abbrev pub invariant-loop-block : goal.invariant-loop-block
invariant-loop-block l = record {
  alike : AreAlike l.fn.first l.fn.second l.place;
  left : l.left ≡ drop l.place l.fn.first;
  right : l.right ≡ drop l.place l.fn.second;
}

-- each turn takes a block off both lists
abbrev pub decreases-loop-block : goal.decreases-loop-block
decreases-loop-block l = length l.left
